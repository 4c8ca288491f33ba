use Rattle.std.proofs.Common.{◌≡◌, sym, ap, ◌∙◌, subst, rules}
use Rattle.book.specs.Calls.{contents}
use Rattle.locality.specs.Flags.{set_of}
use Rattle.locality.specs.Mentions.{in_rule}
use Rattle.extraction.specs.Listing.{Adds}
use Rattle.extraction.specs.Extracts.{new_marks}
use Rattle.extraction.proofs.Rounding.{picked_is, round_done}
use Rattle.extraction.proofs.Visiting.{all_visited, rule_room, rule_at_number, mark_at, mark_skip, mark_next}
use Rattle.extraction.proofs.rounds.round.Given as given
use Rattle.extraction.proofs.rounds.round.Goals as goal
use Rattle.extraction.proofs.rounds.round.Goals.{then-is_fresh, else-is_fresh}

-- the test that was made is that of the round
tested : (g : given.Over) (c : goal.Joined-is_fresh g) → c.is_fresh.result ≡ new_marks (contents c.args.book.now) (g.T.LocalityTest.local c.args.test.now) c.args.tables.now c.loop-number.number
tested g c =
    picked_is (contents c.args.book.now) (g.T.LocalityTest.local c.args.test.now) c.args.tables.now c.loop-number.number _ _ _ _ (ap (λ t. set_of t c.loop-number.number) c.loop-number.invariant.0) (mark_at _ _ _ _ _ _ _ _ c.loop-number.invariant.1) (rule_at_number c.args.book.now _ c.terms.result.now c.loop-number.number _ c.axioms-filed-items.ensures c.terms.ensures c.loop-number-test.true) c.is_fresh.ensures

pub loop-number-preserved : goal.loop-number-preserved
loop-number-preserved g c = elim c.if-is_fresh.branch [
  | then-is_fresh w ↦
      rw (w.tables-is, w.marks-is) (
        c.loop-number.invariant.0,
        mark_next _ _ _ _ _ _ _ _ _ (search rules) (rule_room c.args.book.now _) (sym (tested g c) ∙ w.if-is_fresh.true)
            (subst (λ r. Adds (in_rule r) c.loop-number.tables.closed w.list_axiom.new.listed) (rule_at_number c.args.book.now _ w.terms-then-is_fresh.result.now c.loop-number.number _ c.axioms-filed-items.ensures w.terms-then-is_fresh.ensures c.loop-number-test.true) w.list_axiom.ensures)
            c.loop-number.invariant.1,
      )
  | else-is_fresh w ↦
      rw (w.tables-is, w.marks-is)
      (c.loop-number.invariant.0, mark_skip _ _ _ _ _ _ _ _ (sym (tested g c) ∙ w.if-is_fresh.false) c.loop-number.invariant.1)
]

pub returns : goal.returns
returns g c =
    round_done _ _ _ _ _ _ c.requires
    (all_visited c.args.book.now _ _ c.axioms-filed-items.ensures c.loop-number.auto.number-end c.loop-number-test.false)
    c.loop-number.invariant.0 c.loop-number.invariant.1
