use Rattle.std.proofs.Common.{length, sym, ◌∙◌, rules}
use Rattle.std.proofs.lemmas.List.{length_push}
use Rattle.terms.specs.Tables.{nodes_of}
use Rattle.locality.specs.Flags.{set_of}
use Rattle.extraction.proofs.Visiting.{Visited, visit_turn}
use Rattle.part.proofs.Sections.{axiom_on, axiom_off, body_short}
use Rattle.part.proofs.writing.sections.Part.put_axioms.Given as given
use Rattle.part.proofs.writing.sections.Part.put_axioms.Goals as goal
use Rattle.part.proofs.writing.sections.Part.put_axioms.Goals.{In-Some}

turn : (g : given.Over) (c : In-Some g) → Visited c.args.self.now.book.now c.args.self.now.kept.now (length c.loop-filed.yielded) c.in-Some.filed.now c.in-Some.is_kept.now
turn g c = visit_turn _ _ c.loop-filed.yielded c.into_iter-filed-iterator.result c.loop-filed.filed-iterator c.next.new.self c.next.result (search rules) (search rules) c.loop-filed.yielded_by _ c.in-Some.is c.next.ensures.steps

pub put_rule-requires : goal.put_rule-requires
put_rule-requires g c =
    let b = c.args.self.now.book.now in
    let next = turn g (goal.at.put_rule-requires g c).In-Some in
    rw c.terms.ensures (body_short _ _ b.axioms _ _ b.right next.inside (next.is _))

pub loop-filed-preserved-then-is_kept : goal.loop-filed-preserved-then-is_kept
loop-filed-preserved-then-is_kept g c =
    let b = c.args.self.now.book.now in
    let next = turn g (goal.at.loop-filed-preserved-then-is_kept g c).In-Some in
    g.met.S.Sink.more _ _ _ _ _ _ c.loop-filed.invariant (rw c.terms.ensures at c.put_rule.ensures)
    (axiom_on (nodes_of b.terms) (set_of c.args.self.now.kept.now) b.axioms (length c.loop-filed.yielded) _ c.in-Some.filed.now (length_push c.loop-filed.yielded _) next.inside (next.is _) (sym next.flag_is ∙ c.if-is_kept.true))

pub loop-filed-preserved : goal.loop-filed-preserved
loop-filed-preserved g c =
    let b = c.args.self.now.book.now in
    let next = turn g (goal.at.loop-filed-preserved g c).In-Some in
    g.met.S.Sink.more _ _ _ _ _ _ c.loop-filed.invariant (g.met.S.Sink.nothing _)
    (axiom_off (nodes_of b.terms) (set_of c.args.self.now.kept.now) b.axioms (length c.loop-filed.yielded) _ c.in-Some.filed.now (length_push c.loop-filed.yielded _) next.inside (next.is _) (sym next.flag_is ∙ c.if-is_kept.false))
