use Rattle.std.proofs.Common.{length, sym, refl, ap, ◌∙◌, subst, rules}
use Rattle.std.proofs.lemmas.List.{length_push}
use Rattle.book.specs.declared.book.Filed.{Filed}
use Rattle.terms.specs.Forms.{rule}
use Rattle.terms.specs.Tables.{nodes_of}
use Rattle.locality.specs.Mentions.{in_rule}
use Rattle.extraction.specs.Listing.{Adds}
use Rattle.extraction.proofs.Visiting.{Visited, visit_turn, list_skip, list_next, rule_room, rule_at_number}
use Rattle.extraction.proofs.whole.list_names.Goals as goal
use Rattle.extraction.proofs.whole.list_names.Goals.{In-Some}

turn : (c : In-Some) → Visited c.args.book.now c.args.kept.now (length c.loop-filed.yielded) c.in-Some.filed.now c.in-Some.is_kept.now
turn c = visit_turn _ _ c.loop-filed.yielded c.into_iter-filed-iterator.result c.loop-filed.filed-iterator c.next.new.self c.next.result (search rules) (search rules) c.loop-filed.yielded_by _ c.in-Some.is c.next.ensures.steps

pub loop-filed-preserved-then-is_kept : goal.loop-filed-preserved-then-is_kept
loop-filed-preserved-then-is_kept c =
    let b = c.args.book.now in
    let next = turn (goal.at.loop-filed-preserved-then-is_kept c).In-Some in
    rw (length_push c.loop-filed.yielded _)
    (list_next _ _ _ _ _ _ (rule_room b _) (sym next.flag_is ∙ c.if-is_kept.true)
    (subst (λ r. Adds (in_rule r) c.loop-filed.listed c.list_axiom.new.listed) (ap (λ (f : Filed). rule (nodes_of c.terms.result.now) f.«axiom») (next.is c.in-Some.filed.now) ∙ rule_at_number b b.axioms c.terms.result.now (length c.loop-filed.yielded) c.in-Some.filed.now refl c.terms.ensures next.inside) c.list_axiom.ensures)
    c.loop-filed.invariant)

pub loop-filed-preserved : goal.loop-filed-preserved
loop-filed-preserved c =
    let next = turn (goal.at.loop-filed-preserved c).In-Some in
    rw (length_push c.loop-filed.yielded _) (list_skip _ _ _ _ _ (sym next.flag_is ∙ c.if-is_kept.false) c.loop-filed.invariant)
