-- Marking, refused and accepted.
use Rattle.std.proofs.Common.{◌≡◌, ℕ, false, List, length, Ok, sym, ap, ◌∙◌, ap₂}
use Rattle.std.proofs.lemmas.Bool.{or_left}
use Rattle.refusals.specs.Turns.{Gives}
use Rattle.vocabulary.specs.declared.table.Vocabulary.{Vocabulary}
use Rattle.vocabulary.specs.Naming.{entities}
use Rattle.book.specs.declared.book.Book.{Book}
use Rattle.book.specs.declared.book.Filed.{Filed}
use Rattle.book.specs.Calls.{contents}
use Rattle.book.specs.Contents.{Contents}
use Rattle.locality.specs.Meaning.{count_below}
use Rattle.extraction.specs.declared.marking.Marking.{Marking}
use Rattle.extraction.specs.declared.tables.Tables.{Tables}
use Rattle.extraction.specs.Extractions.{Extraction}
use Rattle.extraction.specs.Extracts.{Holding, Extracts}
use Rattle.locality.specs.Flags.{set_of, by_number}
use Rattle.extraction.specs.Tallying.{ListsSeeded, Tallies}
use Rattle.extraction.specs.Marking.{flags_over, lent, is_unseeded, is_too_short, marking}
use Rattle.extraction.proofs.Filling.{axioms_number}
use Rattle.extraction.specs.Sets.{Marks, axiom_count, name_count, outsiders, list_size}

module _ (b : Contents) (x : Extraction) where
  -- the tables were written out and counted
  pub accepted_marked : (t : Tables) (rounds : ℕ) (axioms names axioms' names' : List ℕ) (r : Marking) → is_unseeded b ≡ false → is_too_short b (lent axioms names) ≡ false → Extracts b x.kept x.rounds t rounds → axioms' ≡ flags_over (axiom_count b) (set_of t.kept) axioms → names' ≡ flags_over (name_count b) (set_of t.closed) names → Tallies b t rounds r → Gives (lent axioms' names') (Ok r) (marking b x (lent axioms names))
  accepted_marked t rounds axioms names axioms' names' r e room done left right tallies =
      rw (e, room) (record {
        state = ap₂ (λ l m. lent l m)
            (left ∙ ap (λ s. flags_over (axiom_count b) s axioms) done.holds.axioms)
            (right ∙ ap (λ s. flags_over (name_count b) (by_number s) names) done.holds.names);
        answer = ap Ok (λ i. record {
          marked = (tallies.marked ∙ ap (count_below (axiom_count b)) done.holds.axioms) i;
          closed = (tallies.closed ∙ ap (λ s. count_below (name_count b) (by_number s)) done.holds.names) i;
          drawn_in = (tallies.drawn_in ∙ ap (λ s. list_size b (outsiders b s)) done.holds.names) i;
          rounds = (tallies.rounds ∙ done.counts) i;
        });
      })

-- every seeded name is in the closed signature
pub lists_seeded : (b : Contents) (kept : Marks) (t : Tables) → Holding b kept t → ListsSeeded b t
lists_seeded b kept t holds k e = ap (λ f. f (record { 0 = k })) holds.names ∙ or_left _ _ e

-- how many axioms and names the book has, as they are counted
pub axiom_total : (b : Book) (items : List Filed) → items ≡ b.axioms → length items ≡ axiom_count (contents b)
axiom_total b items at = ap length at ∙ sym (axioms_number b)

pub name_total : (b : Book) (v : Vocabulary) (n : ℕ) → v ≡ b.names → n ≡ length (entities v) → n ≡ name_count (contents b)
name_total b v n at counted = counted ∙ ap (λ t. length (entities t)) at
