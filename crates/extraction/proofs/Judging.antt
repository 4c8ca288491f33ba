-- Marking is refused exactly where a refusal fits, and by the one that decides.
use Rattle.std.proofs.Common.{◌≡◌, ◌≢◌, ◌<◌, true, false, length, refl, ⊎_elim}
use Rattle.std.proofs.lemmas.Bool.{both_ways, cases_Bool, not-true, not_from_false, or_cases, or_left, or_right, lt-ltb, ltb-true}
use Rattle.refusals.specs.Choice.{comes_before, Decides}
use Rattle.refusals.specs.Refusals.{refusal_at}
use Rattle.refusals.specs.declared.reason.Reason.TheVariants as Reason'
use Rattle.refusals.specs.declared.refusal.Refusal.{Refusal}
use Rattle.vocabulary.specs.declared.name.NameId.{NameId}
use Rattle.book.specs.Contents.{Contents}
use Rattle.extraction.specs.Fitting.{MarkingFits, none_seeded, few_for_axioms, few_for_names}
use Rattle.locality.specs.Flags.{by_number}
use Rattle.extraction.specs.Marking.{Buffers, is_unseeded, is_too_short}
use Rattle.extraction.specs.Sets.{axiom_count, name_count, signature}
use Rattle.extraction.specs.lemmas.Below.{none_at, some_at}
use Rattle.extraction.specs.lemmas.Names.{signature_below}

module _ (b : Contents) where
  -- no name is seeded, said in two ways
  pub unseeded_none : is_unseeded b ≡ true → (n : NameId) → signature b n ≡ false
  unseeded_none h n =
      ⊎_elim
      (λ e. absurd (both_ways _ (none_at (name_count b) (by_number (signature b)) (not-true _ h) n.0 (signature_below b n e)) e))
      (λ e. e)
      (cases_Bool (signature b n))

  pub none_unseeded : ((n : NameId) → signature b n ≡ false) → is_unseeded b ≡ true
  none_unseeded h =
      ⊎_elim
      (λ e. let found = some_at (name_count b) (by_number (signature b)) e in absurd (both_ways _ (h (record { 0 = found.0 })) found.2))
      (λ e. not_from_false _ e)
      (cases_Bool _)

  module _ (buffers : Buffers) where
    -- a buffer that is too short for the axioms or for the names
    short_fits : is_too_short b buffers ≡ true → MarkingFits b buffers (refusal_at Reason'.ShortBuffer 0)
    short_fits h =
        ⊎_elim
        (λ e. few_for_axioms (ltb-true (length buffers.axioms) (axiom_count b) e))
        (λ e. few_for_names (ltb-true (length buffers.names) (name_count b) e))
        (or_cases _ _ h)

    short_axioms : length buffers.axioms < axiom_count b → is_too_short b buffers ≡ true
    short_axioms h = or_left _ _ (lt-ltb (length buffers.axioms) (axiom_count b) h)

    short_names : length buffers.names < name_count b → is_too_short b buffers ≡ true
    short_names h = or_right _ _ (lt-ltb (length buffers.names) (name_count b) h)

    -- an empty signature comes first
    empty_first : (s : Refusal) → MarkingFits b buffers s → s ≢ refusal_at Reason'.EmptySignature 0 → comes_before (refusal_at Reason'.EmptySignature 0) s ≡ true
    empty_first _ (none_seeded h) other = absurd (other refl)
    empty_first _ (few_for_axioms h) other = refl
    empty_first _ (few_for_names h) other = refl

    -- a short buffer alone
    short_first : is_unseeded b ≡ false → (s : Refusal) → MarkingFits b buffers s → s ≢ refusal_at Reason'.ShortBuffer 0 → comes_before (refusal_at Reason'.ShortBuffer 0) s ≡ true
    short_first seeded _ (none_seeded h) other = absurd (both_ways _ seeded (none_unseeded h))
    short_first seeded _ (few_for_axioms h) other = absurd (other refl)
    short_first seeded _ (few_for_names h) other = absurd (other refl)

    -- or nothing
    pub none_fits : is_unseeded b ≡ false → is_too_short b buffers ≡ false → (s : Refusal) → ¬ MarkingFits b buffers s
    none_fits seeded room _ (none_seeded h) = both_ways _ seeded (none_unseeded h)
    none_fits seeded room _ (few_for_axioms h) = both_ways _ room (short_axioms h)
    none_fits seeded room _ (few_for_names h) = both_ways _ room (short_names h)

    -- so each answer is judged right
    pub empty_decides : is_unseeded b ≡ true → Decides (MarkingFits b buffers) (refusal_at Reason'.EmptySignature 0)
    empty_decides e = record { fits = none_seeded (unseeded_none e); first = empty_first }

    pub short_decides : is_unseeded b ≡ false → is_too_short b buffers ≡ true → Decides (MarkingFits b buffers) (refusal_at Reason'.ShortBuffer 0)
    short_decides e f = record { fits = short_fits f; first = short_first e }
