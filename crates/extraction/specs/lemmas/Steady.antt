-- A stage between two rounds: it starts midway with no round done, a round that marks an axiom leaves it midway, and the
-- one that marks none ends it.
use Rattle.std.specs.Prelude.{◌≡◌, ℕ, zero, suc, ◌+◌, ◌<◌, ◌≤◌, Bool, true, false, not, refl}
use Rattle.std.proofs.Common.{sym, ap, ◌∙◌, arith}
use Rattle.std.proofs.lemmas.Bool.{not-true, and_parts, or_left, or_right}
use Rattle.terms.specs.Forms.{Rule}
use Rattle.book.specs.Contents.{Contents}
use Rattle.locality.specs.Worlds.{Names}
use Rattle.extraction.specs.lemmas.Midway.{Midway}
use Rattle.extraction.specs.Rounds.{no_axiom, round_marks, after_round, marks_more, rounds_from, stage_finish}
use Rattle.extraction.specs.Sets.{Marks, axiom_count, rule_at, closed_signature, size}
use Rattle.extraction.specs.lemmas.Below.{some_at, count_grows, count_most}

module _ (b : Contents) (local : Rule → Names → Bool) (handed : Marks) where
  -- what the rounds come to after one that marks an axiom, and at one that marks none
  pub rounds_more : (most : ℕ) (s : Marks) → marks_more b local handed s ≡ true → rounds_from b local handed (suc most) s ≡ record { marked = (rounds_from b local handed most (after_round b local handed s)).marked; rounds = suc (rounds_from b local handed most (after_round b local handed s)).rounds }
  rounds_more most s h = rw (h, rounds_from) refl

  pub rounds_last : (most : ℕ) (s : Marks) → marks_more b local handed s ≡ false → rounds_from b local handed (suc most) s ≡ record { marked = s; rounds = 1 }
  rounds_last most s h = rw (h, rounds_from) refl

  -- an axiom that a round marks was handed up, was not marked, and is not local
  pub round_marks-parts : (s : Marks) (k : ℕ) → round_marks b local handed s k ≡ true → (handed k ≡ true) × (s k ≡ false) × (local (rule_at b k) (closed_signature b s) ≡ false)
  round_marks-parts s k h =
      let parts = and_parts (handed k) _ h in
      let rest = and_parts (not (s k)) _ parts.1 in
      (parts.0, not-true _ rest.0, not-true _ rest.1)

  -- a round that marks an axiom marks one that was not marked
  pub after_round-grows : (s : Marks) → marks_more b local handed s ≡ true → size b s < size b (after_round b local handed s)
  after_round-grows s h =
      let found = some_at (axiom_count b) (round_marks b local handed s) h in
      count_grows (axiom_count b) s (after_round b local handed s) (λ k e. or_left _ _ e) found.0 found.1 (round_marks-parts s found.0 found.2).1 (or_right _ _ found.2)

  -- before the first round
  pub midway_start : Midway b local handed no_axiom 0
  unfolding stage_finish
  midway_start = record {
    left = suc (axiom_count b);
    enough = omega arith;
    marked = refl;
    rounds = omega arith;
    each = omega arith;
  }

  -- no more rounds are done than there are axioms
  pub midway_bound : (s : Marks) (done : ℕ) → Midway b local handed s done → done ≤ axiom_count b
  midway_bound s done m = let most = count_most (axiom_count b) s in let each = m.each in omega arith

  -- after a round that marks an axiom
  pub midway_more : (s : Marks) (done : ℕ) → Midway b local handed s done → marks_more b local handed s ≡ true → Midway b local handed (after_round b local handed s) (suc done)
  midway_more s done m h = go m.left m.enough m.marked m.rounds
    where
      go : (left : ℕ) → done + left ≡ suc (axiom_count b) → (rounds_from b local handed left s).marked ≡ (stage_finish b local handed).marked → done + (rounds_from b local handed left s).rounds ≡ (stage_finish b local handed).rounds → Midway b local handed (after_round b local handed s) (suc done)
      go zero e _ _ = let most = midway_bound s done m in absurd (omega arith)
      go (suc left) e f g = record {
        left = left;
        enough = omega arith;
        marked = sym (ap (λ r. r.marked) (rounds_more left s h)) ∙ f;
        rounds = let all = ap (λ r. r.rounds) (rounds_more left s h) in omega arith;
        each = let grows = after_round-grows s h in let each = m.each in omega arith;
      }

  -- at a round that marks none, which is the last
  pub midway_last : (s : Marks) (done : ℕ) → Midway b local handed s done → marks_more b local handed s ≡ false → ((stage_finish b local handed).marked ≡ s) × ((stage_finish b local handed).rounds ≡ suc done)
  midway_last s done m h = go m.left m.enough m.marked m.rounds
    where
      go : (left : ℕ) → done + left ≡ suc (axiom_count b) → (rounds_from b local handed left s).marked ≡ (stage_finish b local handed).marked → done + (rounds_from b local handed left s).rounds ≡ (stage_finish b local handed).rounds → ((stage_finish b local handed).marked ≡ s) × ((stage_finish b local handed).rounds ≡ suc done)
      go zero e _ _ = let most = midway_bound s done m in absurd (omega arith)
      go (suc left) e f g =
          let last = rounds_last left s h in
          let all = ap (λ r. r.rounds) last in
          (sym f ∙ ap (λ r. r.marked) last, omega arith)
