-- The rounds of a stage one after the other, and that its end is reached by them.
use Rattle.std.specs.Prelude.{ℕ, zero, suc, ◌+◌, ◌<◌, Bool}
use Rattle.std.proofs.Common.{sym, subst, ⊎_elim, arith}
use Rattle.std.proofs.lemmas.Bool.{cases_Bool}
use Rattle.terms.specs.Forms.{Rule}
use Rattle.book.specs.Contents.{Contents}
use Rattle.locality.specs.Worlds.{Names}
use Rattle.extraction.specs.Rounds.{Run, last, next, Finish, no_axiom, after_round, marks_more, rounds_from, stage_finish}
use Rattle.extraction.specs.Sets.{Marks, axiom_count, size}
use Rattle.extraction.specs.lemmas.Below.{count_most}
use Rattle.extraction.specs.lemmas.Steady.{rounds_more, rounds_last, after_round-grows}

module _ (b : Contents) (local : Rule → Names → Bool) (handed : Marks) where
  -- where the axioms unmarked are fewer than the rounds allowed, the rounds come to their end
  runs : (most : ℕ) (s : Marks) → axiom_count b < size b s + most → Run b local handed s (rounds_from b local handed most s).marked (rounds_from b local handed most s).rounds
  runs zero s l = let all = count_most (axiom_count b) s in absurd (omega arith)
  runs (suc most) s l =
      ⊎_elim
      (λ h.
      let grows = after_round-grows b local handed s h in
      subst (λ (f : Finish). Run b local handed s f.marked f.rounds) (sym (rounds_more b local handed most s h)) (next h (runs most (after_round b local handed s) (omega arith))))
      (λ h. subst (λ (f : Finish). Run b local handed s f.marked f.rounds) (sym (rounds_last b local handed most s h)) (last h))
      (cases_Bool (marks_more b local handed s))

  -- a stage is allowed enough rounds to come to its end
  pub stage_run : Run b local handed no_axiom (stage_finish b local handed).marked (stage_finish b local handed).rounds
  unfolding stage_finish
  stage_run = runs (suc (axiom_count b)) no_axiom (omega arith)
