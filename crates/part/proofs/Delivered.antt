-- Writing a part, refused and accepted.
use Rattle.std.proofs.Common.{◌≡◌, ℕ, ◌<◌, ◌≤◌, true, false, List, length, Ok, ap, ◌∙◌, ap₂, arith}
use Rattle.std.proofs.lemmas.Bool.{le-ltb, lt-ltb, or_from, or_left, or_right}
use Rattle.refusals.specs.Turns.{Gives}
use Rattle.book.specs.declared.book.Book.{Book}
use Rattle.book.specs.Calls.{contents}
use Rattle.book.specs.Contents.{Contents}
use Rattle.book.proofs.Proper.{book_proper}
use Rattle.writer.specs.Placing.{overlay}
use Rattle.locality.specs.Flags.{by_number}
use Rattle.extraction.specs.declared.tables.Tables.{Tables}
use Rattle.extraction.specs.Extracts.{Holding, kept_in, closed_in}
use Rattle.extraction.specs.Marking.{lent, is_unseeded, is_too_short, flags_over}
use Rattle.extraction.specs.Sets.{Marks, axiom_count, name_count, is_in_force}
use Rattle.part.specs.Parts.{part_bytes}
use Rattle.part.specs.Writing.{PartBuffers, ReadBack, WrittenAgain, lent_for_part, lacks_room, writing}
use Rattle.part.proofs.InOrder.{writes_again}
use Rattle.part.proofs.Ordered.{written_in_order}
use Rattle.part.proofs.ReadsBack.{loads_back}

-- the part that is at hand is that of the book at rest and of the kept set
pub part_is : {k rest : Book} {flags kept kept' : Marks} → k ≡ rest → flags ≡ kept → kept ≡ kept' → part_bytes (contents k) flags ≡ part_bytes (contents rest) kept'
part_is at holds is = ap₂ (λ (k : Book) s. part_bytes (contents k) s) at (holds ∙ is)

module _ (b : Contents) (kept : Marks) (axioms names part : List ℕ) where
  abbrev given : PartBuffers
  given = lent_for_part axioms names part

  -- there is room for the marks and for the part, or not
  pub room : (len : ℕ) → len ≡ length (part_bytes b kept) → is_too_short b (lent axioms names) ≡ false → len ≤ length part → lacks_room b kept given ≡ false
  room len size marks fits = or_from _ _ marks (le-ltb (length part) (length (part_bytes b kept)) (omega arith))

  pub short_marks : is_too_short b (lent axioms names) ≡ true → lacks_room b kept given ≡ true
  short_marks marks = or_left _ _ marks

  pub short_part : (len : ℕ) → len ≡ length (part_bytes b kept) → length part < len → lacks_room b kept given ≡ true
  short_part len size short = or_right _ _ (lt-ltb (length part) (length (part_bytes b kept)) (omega arith))

  -- the extractor was called on tables, and the flags and the part were written
  pub write_done : (t : Tables) (len : ℕ) → Holding b kept t → len ≡ length (part_bytes b kept) → is_unseeded b ≡ false → is_too_short b (lent axioms names) ≡ false → len ≤ length part → (axioms' names' part' : List ℕ) → axioms' ≡ flags_over (axiom_count b) (kept_in t) axioms → names' ≡ flags_over (name_count b) (by_number (closed_in t)) names → part' ≡ overlay 0 (part_bytes b kept) part → Gives (lent_for_part axioms' names' part') (Ok len) (writing b kept given)
  write_done t len holds size e marks fits axioms' names' part' left right wrote =
      rw (e, room len size marks fits) (record {
        state = λ i. record {
          marks = record {
            axioms = (left ∙ ap (λ s. flags_over (axiom_count b) s axioms) holds.axioms) i;
            names = (right ∙ ap (λ s. flags_over (name_count b) (by_number s) names) holds.names) i;
          };
          part = wrote i;
        };
        answer = ap Ok size;
      })

-- the two round trips, of a part of a book
pub part_back : (k : Book) (kept : Marks) → ReadBack (contents k) kept
part_back k kept = loads_back (contents k) (book_proper k) kept

pub part_again : (b : Contents) (kept : Marks) → WrittenAgain b kept
part_again b kept = record {
  ordered = written_in_order b kept;
  same = λ file n bytes taken order loaded all.
      ap (part_bytes b) all ∙ ap (λ c. part_bytes c (is_in_force c)) loaded ∙ writes_again file n bytes taken order;
}
