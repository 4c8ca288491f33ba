-- Writing a part is refused exactly where a refusal fits, and by the one that decides.
use Rattle.std.proofs.Common.{◌≡◌, ◌≢◌, true, false, refl, ⊎_elim}
use Rattle.std.proofs.lemmas.Bool.{both_ways, cases_Bool, or_cases, or_parts, lt-ltb, ltb-true}
use Rattle.refusals.specs.Choice.{comes_before, Decides}
use Rattle.refusals.specs.Refusals.{refusal_at}
use Rattle.refusals.specs.declared.reason.Reason.TheVariants as Reason'
use Rattle.refusals.specs.declared.refusal.Refusal.{Refusal}
use Rattle.book.specs.Contents.{Contents}
use Rattle.extraction.specs.Fitting.{MarkingFits}
use Rattle.extraction.specs.Marking.{is_unseeded, is_too_short}
use Rattle.extraction.specs.Sets.{Marks}
use Rattle.extraction.proofs.Judging.{empty_decides, short_decides, none_fits}
use Rattle.part.specs.Fitting.{WritingFits, as_marking, few_for_part}
use Rattle.part.specs.Writing.{PartBuffers, lacks_room}

module _ (b : Contents) (kept : Marks) (buffers : PartBuffers) where
  abbrev Fits : Refusal → Type 0
  Fits = WritingFits b kept buffers

  abbrev short_buffer : Refusal
  short_buffer = refusal_at Reason'.ShortBuffer 0

  -- a refusal that decides a marking decides the writing, if a short buffer is no earlier one
  decides_too : (r : Refusal) → Decides (MarkingFits b buffers.marks) r → (short_buffer ≢ r → comes_before r short_buffer ≡ true) → Decides Fits r
  decides_too r d later = record { fits = as_marking r d.fits; first = first }
    where
      first : (s : Refusal) → Fits s → s ≢ r → comes_before r s ≡ true
      first _ (as_marking s f) other = d.first s f other
      first _ (few_for_part h) other = later other

  -- the third buffer alone is too short
  part_decides : is_unseeded b ≡ false → is_too_short b buffers.marks ≡ false → lacks_room b kept buffers ≡ true → Decides Fits short_buffer
  part_decides seeded room short = record { fits = few_for_part (ltb-true _ _ (⊎_elim (λ e. absurd (both_ways _ room e)) (λ e. e) (or_cases _ _ short))); first = first }
    where
      first : (s : Refusal) → Fits s → s ≢ short_buffer → comes_before short_buffer s ≡ true
      first _ (as_marking s f) other = absurd (none_fits b buffers.marks seeded room s f)
      first _ (few_for_part h) other = absurd (other refl)

  pub empty_judged : is_unseeded b ≡ true → Decides Fits (refusal_at Reason'.EmptySignature 0)
  empty_judged e = decides_too _ (empty_decides b buffers.marks e) (λ other. refl)

  pub short_judged : is_unseeded b ≡ false → lacks_room b kept buffers ≡ true → Decides Fits short_buffer
  short_judged e short =
      ⊎_elim
      (λ f. decides_too short_buffer (short_decides b buffers.marks e f) (λ other. absurd (other refl)))
      (λ f. part_decides e f short)
      (cases_Bool (is_too_short b buffers.marks))

  -- nothing stands against the writing
  pub none_judged : is_unseeded b ≡ false → lacks_room b kept buffers ≡ false → (s : Refusal) → ¬ Fits s
  none_judged e room _ (as_marking s f) = none_fits b buffers.marks e (or_parts _ _ room).0 s f
  none_judged e room _ (few_for_part h) = both_ways _ (or_parts _ _ room).1 (lt-ltb _ _ h)
