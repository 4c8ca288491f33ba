-- What an extractor comes to, with a stage more.
use Rattle.std.proofs.Common.{◌≡◌, ℕ, Bool, sym, ap, ◌∙◌, ap₂, subst}
use Rattle.terms.specs.Forms.{Rule}
use Rattle.book.specs.Contents.{Contents}
use Rattle.locality.specs.Worlds.{Names}
use Rattle.extraction.specs.declared.tables.Tables.{Tables}
use Rattle.extraction.specs.Extractions.{Extraction}
use Rattle.extraction.specs.Extractors.{Meaning}
use Rattle.extraction.specs.Extracts.{kept_in, Inside, HandsUp, Extracts, Holding, StageDone}
use Rattle.extraction.specs.Rounds.{stage_finish, add_rounds}
use Rattle.extraction.specs.Sets.{Marks, signature}
use Rattle.extraction.specs.Signatures.{with_signature, ListsOwn}
use Rattle.extraction.specs.lemmas.Names.{in_force_below, signature_below}
use Rattle.extraction.proofs.Signing.{own_signature}

-- a book's own signature has names of the book only
pub own_listed : (b : Contents) (listed : Names) → listed ≡ signature b → ListsOwn b listed
own_listed b listed e n h = signature_below b n (sym (ap (λ f. f n) e) ∙ h)

-- what an extractor keeps are axioms of the book
pub kept_inside : (b : Contents) (x : Extraction) (t : Tables) (r : ℕ) → Meaning b x → HandsUp x.kept x.rounds t r → Inside b (kept_in t)
kept_inside b x t r means done k h = in_force_below b k (means.part k (sym (ap (λ f. f k) done.holds) ∙ h))

module _ (b : Contents) (listed : Names) (own : listed ≡ signature b) where
  -- a stage over what an extractor keeps and counts
  pub climbed : (local : Rule → Names → Bool) (kept : Marks) (rounds : ℕ) (before after : Tables) (below r : ℕ) → HandsUp kept rounds before below → StageDone (with_signature b listed) local before below after r → Extracts b (stage_finish b local kept).marked (add_rounds rounds (stage_finish b local kept).rounds) after r
  climbed local kept rounds before after below r done made =
      let same : with_signature b listed ≡ b = ap (with_signature b) own ∙ own_signature b in
      let here : StageDone b local before below after r = subst (λ c. StageDone c local before below after r) same made in
      record {
        holds = subst (λ s. Holding b (stage_finish b local s).marked after) done.holds here.holds;
        counts = here.counts ∙ ap₂ (λ n s. add_rounds n (stage_finish b local s).rounds) done.counts done.holds;
      }

  -- and its kept set alone
  pub handed_climbed : (local : Rule → Names → Bool) (kept : Marks) (rounds : ℕ) (before after : Tables) (below r : ℕ) → HandsUp kept rounds before below → StageDone (with_signature b listed) local before below after r → HandsUp (stage_finish b local kept).marked (add_rounds rounds (stage_finish b local kept).rounds) after r
  handed_climbed local kept rounds before after below r done made =
      let all = climbed local kept rounds before after below r done made in record { holds = all.holds.axioms; counts = all.counts }
