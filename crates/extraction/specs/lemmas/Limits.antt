-- How many rounds a stage takes: at most one more than it marks axioms, and at most two more than it draws in names. With
-- that, what holds of a stage.
use Rattle.std.specs.Prelude.{◌≡◌, ℕ, ◌+◌, ◌<◌, ◌≤◌, Bool, true, false, not, ◌&&◌, refl}
use Rattle.std.proofs.Common.{sym, ◌∙◌, ⊎_elim, arith}
use Rattle.std.proofs.Math.Nat.{min-le_left}
use Rattle.std.proofs.lemmas.Bool.{both_ways, not-true, not_from_false, cases_Bool, and_parts, and_from, and_left, or_parts, or_left}
use Rattle.vocabulary.specs.declared.name.NameId.{NameId}
use Rattle.terms.specs.Forms.{Rule}
use Rattle.book.specs.Contents.{Contents}
use Rattle.book.specs.Proper.{Sound}
use Rattle.locality.specs.Laws.{TestLaws}
use Rattle.locality.specs.Meaning.{some_below}
use Rattle.locality.specs.Worlds.{Names, Default}
use Rattle.extraction.specs.Extractors.{StageLaws}
use Rattle.extraction.specs.Rounds.{Run, last, next, after_round, marks_more, round_limit, add_rounds, stage_finish}
use Rattle.extraction.specs.Sets.{Marks, axiom_count, name_count, rule_at, is_in_force, closed_signature, names_drawn_in, size, list_size}
use Rattle.extraction.specs.lemmas.Below.{some_at, none_at, count_more, count_grows}
use Rattle.extraction.specs.lemmas.Least.{closed_grows, left_local, stage_closed, stage_least}
use Rattle.extraction.specs.lemmas.Names.{rule_names}
use Rattle.extraction.specs.lemmas.Runs.{stage_run}
use Rattle.extraction.specs.lemmas.Steady.{round_marks-parts, after_round-grows}

-- how many names a set of axioms draws in
abbrev drawn : Contents → Marks → ℕ
drawn b s = list_size b (names_drawn_in b s)

-- the name with this number is in the closed signature of the second set only
abbrev new : Contents → Marks → Marks → ℕ → Bool
new b s t n = not (closed_signature b s (record { 0 = n })) && closed_signature b t (record { 0 = n })

module _ (b : Contents) (s t : Marks) (part : (k : ℕ) → s k ≡ true → t k ≡ true) where
  -- a set with more axioms draws in no fewer names
  drawn_in_is : (n : NameId) → names_drawn_in b s n ≡ true → names_drawn_in b t n ≡ true
  drawn_in_is n e =
      let parts = and_parts (closed_signature b s n) _ e in
      and_from _ _ (closed_grows b s t part n parts.0) parts.1

  drawn_more : drawn b s ≤ drawn b t
  drawn_more = count_more (name_count b) _ _ (λ n e. drawn_in_is (record { 0 = n }) e)

  -- more where a name is new
  drawn_grows : some_below (name_count b) (new b s t) ≡ true → drawn b s < drawn b t
  drawn_grows h =
      let found = some_at (name_count b) _ h in
      let parts = and_parts (not (closed_signature b s (record { 0 = found.0 }))) _ found.2 in
      let out = not-true _ parts.0 in
      count_grows (name_count b) _ _ (λ n e. drawn_in_is (record { 0 = n }) e) found.0 found.1 (and_left _ _ out) (and_from _ _ parts.1 (not_from_false _ (or_parts _ _ out).0))

  -- where none is new, the two closed signatures have the same names of the book
  drawn_same : some_below (name_count b) (new b s t) ≡ false → (n : NameId) → n.0 < name_count b → closed_signature b s n ≡ closed_signature b t n
  drawn_same h n l =
      ⊎_elim
      (λ e. e ∙ sym (closed_grows b s t part n e))
      (λ e. e ∙ sym (⊎_elim (λ f. absurd (both_ways _ (none_at (name_count b) _ h n.0 l) (and_from _ _ (not_from_false _ e) f))) (λ f. f) (cases_Bool (closed_signature b t n))))
      (cases_Bool (closed_signature b s n))

module _ (b : Contents) (local : Rule → Names → Bool) (handed : Marks) where
  -- every round but the last marks an axiom
  run_marked : {s e : Marks} {r : ℕ} → Run b local handed s e r → r + size b s ≤ size b e + 1
  run_marked (last h) = omega arith
  run_marked {s} (next h run) = let rest = run_marked run in let grows = after_round-grows b local handed s h in omega arith

  -- what is marked stays marked
  kept : (s : Marks) (k : ℕ) → s k ≡ true → after_round b local handed s k ≡ true
  kept s k e = or_left _ _ e

  module _ (default : Default) (laws : TestLaws local default) (right : Sound b) where
    -- a round marks an axiom only if the round before it drew in a name
    busy_drawn : (s : Marks) → marks_more b local handed (after_round b local handed s) ≡ true → drawn b s < drawn b (after_round b local handed s)
    busy_drawn s h =
        let found = some_at (axiom_count b) _ h in
        let k = found.0 in
        let parts = round_marks-parts b local handed (after_round b local handed s) k found.2 in
        let out = or_parts (s k) _ parts.1 in
        let was = left_local b local handed s k parts.0 out.0 out.1 in
        ⊎_elim
        (drawn_grows b s (after_round b local handed s) (kept s))
        (λ e.
        absurd (both_ways _ parts.2 (sym (laws.depends (rule_at b k) (closed_signature b s) (closed_signature b (after_round b local handed s)) (λ n f. drawn_same b s (after_round b local handed s) (kept s) e n (rule_names b right k n f))) ∙ was)))
        (cases_Bool (some_below (name_count b) (new b s (after_round b local handed s))))

    -- so from s on there is at most one round more than names drawn in since the round that led to s, before which there
    -- were m
    run_drawn : {s e : Marks} {r : ℕ} → Run b local handed s e r → (m : ℕ) → m ≤ drawn b s → (marks_more b local handed s ≡ true → m < drawn b s) → r + m ≤ drawn b e + 1
    run_drawn (last h) m l f = omega arith
    run_drawn {s} (next h run) m l f =
        let rest = run_drawn run (drawn b s) (drawn_more b s (after_round b local handed s) (kept s)) (busy_drawn s) in
        let less = f h in
        omega arith

    -- and from the first round on at most two more
    all_drawn : {s e : Marks} {r : ℕ} → Run b local handed s e r → r ≤ drawn b e + 2
    all_drawn (last h) = omega arith
    all_drawn {s} (next h run) =
        let rest = run_drawn run (drawn b s) (drawn_more b s (after_round b local handed s) (kept s)) (busy_drawn s) in omega arith

-- what holds of a stage
pub stage_laws : (b : Contents) (local : Rule → Names → Bool) (default : Default) → TestLaws local default → Sound b → (handed : Marks) → ((k : ℕ) → handed k ≡ true → is_in_force b k ≡ true) → (below : ℕ) → StageLaws b local handed (stage_finish b local handed).marked below (add_rounds below (stage_finish b local handed).rounds)
stage_laws b local default laws right handed part below =
    let run = stage_run b local handed in
    let most = min-le_left (below + (stage_finish b local handed).rounds) round_limit in
    record {
      closed = stage_closed b local handed part;
      least = stage_least b local handed default laws;
      own = (stage_finish b local handed).rounds;
      run = run;
      counted = refl;
      by_marked = let marked = run_marked b local handed run in omega arith;
      by_names = let drawn = all_drawn b local handed default laws right run in omega arith;
    }
