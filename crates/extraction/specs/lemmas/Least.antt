-- What a stage marks is closed, and is part of every closed set.
use Rattle.std.specs.Prelude.{◌≡◌, ℕ, ◌<◌, Bool, true, false, not, refl}
use Rattle.std.proofs.Common.{⊎_elim}
use Rattle.std.proofs.lemmas.Bool.{both_ways, not-false, cases_Bool, and_parts, and_from, and_cases, or_cases, or_left, or_right}
use Rattle.vocabulary.specs.declared.name.NameId.{NameId}
use Rattle.terms.specs.Forms.{Rule}
use Rattle.book.specs.Contents.{Contents}
use Rattle.locality.specs.Laws.{TestLaws}
use Rattle.locality.specs.Worlds.{Names, Default}
use Rattle.extraction.specs.Extractors.{Closed}
use Rattle.extraction.specs.Rounds.{Run, last, next, round_marks, stage_finish}
use Rattle.extraction.specs.Sets.{Marks, axiom_count, rule_at, is_in_force, signature, closed_signature}
use Rattle.extraction.specs.lemmas.Below.{some_at, some_from, none_at}
use Rattle.extraction.specs.lemmas.Names.{in_force_below}
use Rattle.extraction.specs.lemmas.Runs.{stage_run}
use Rattle.extraction.specs.lemmas.Steady.{round_marks-parts}

-- more axioms have more names
pub closed_grows : (b : Contents) (s t : Marks) → ((k : ℕ) → s k ≡ true → t k ≡ true) → (n : NameId) → closed_signature b s n ≡ true → closed_signature b t n ≡ true
closed_grows b s t h n e =
    ⊎_elim
    (λ seeded. or_left _ _ seeded)
    (λ named.
    let found = some_at (axiom_count b) _ named in
    let parts = and_parts (s found.0) _ found.2 in
    or_right _ _ (some_from (axiom_count b) _ found.0 found.1 (and_from _ _ (h found.0 parts.0) parts.1)))
    (or_cases (signature b n) _ e)

module _ (b : Contents) (local : Rule → Names → Bool) (handed : Marks) where
  -- one handed up that a round leaves unmarked is local
  pub left_local : (s : Marks) (k : ℕ) → handed k ≡ true → s k ≡ false → round_marks b local handed s k ≡ false → local (rule_at b k) (closed_signature b s) ≡ true
  left_local s k up out h =
      ⊎_elim
      (λ e. absurd (both_ways _ e up))
      (λ rest. ⊎_elim (λ e. absurd (both_ways _ out (not-false _ e))) (λ e. not-false _ e) (and_cases (not (s k)) _ rest))
      (and_cases (handed k) _ h)

  module _ (known : (k : ℕ) → handed k ≡ true → k < axiom_count b) where
    -- rounds that start from axioms handed up end in a closed set
    run_closed : {s e : Marks} {r : ℕ} → Run b local handed s e r → ((k : ℕ) → s k ≡ true → handed k ≡ true) → Closed b local handed e
    run_closed {s} (last h) part = record {
      part = part;
      others = λ k up out. left_local s k up out (none_at (axiom_count b) _ h k (known k up));
    }
    run_closed {s} (next h run) part =
        run_closed run (λ k e. ⊎_elim (part k) (λ f. (round_marks-parts b local handed s k f).0) (or_cases (s k) _ e))

  module _ (default : Default) (laws : TestLaws local default) (c : Marks) (closed : Closed b local handed c) where
    -- a round from a part of a closed set marks axioms of that set
    round_marks-within : (s : Marks) → ((k : ℕ) → s k ≡ true → c k ≡ true) → (k : ℕ) → round_marks b local handed s k ≡ true → c k ≡ true
    round_marks-within s h k f =
        let parts = round_marks-parts b local handed s k f in
        ⊎_elim
        (λ e. e)
        (λ e. absurd (both_ways _ parts.2 (laws.shrinks (rule_at b k) (closed_signature b c) (closed_signature b s) (closed_grows b s c h) (closed.others k parts.0 e))))
        (cases_Bool (c k))

    -- and so do all rounds from there
    run_least : {s e : Marks} {r : ℕ} → Run b local handed s e r → ((k : ℕ) → s k ≡ true → c k ≡ true) → (k : ℕ) → e k ≡ true → c k ≡ true
    run_least (last h) part = part
    run_least {s} (next h run) part =
        run_least run (λ k e. ⊎_elim (part k) (round_marks-within s part k) (or_cases (s k) _ e))

  -- what a stage marks is closed
  pub stage_closed : ((k : ℕ) → handed k ≡ true → is_in_force b k ≡ true) → Closed b local handed (stage_finish b local handed).marked
  stage_closed part =
      run_closed (λ k up. in_force_below b k (part k up)) (stage_run b local handed) (λ k e. absurd (both_ways false refl e))

  -- and every closed set has it
  pub stage_least : (default : Default) → TestLaws local default → (s : Marks) → Closed b local handed s → (k : ℕ) → (stage_finish b local handed).marked k ≡ true → s k ≡ true
  stage_least default laws s closed =
      run_least default laws s closed (stage_run b local handed) (λ k e. absurd (both_ways false refl e))
