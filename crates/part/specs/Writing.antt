-- What writing a part answers, and what it leaves in its three buffers.
use Rattle.std.specs.Prelude.{◌≡◌, ℕ, Bool, true, ◌||◌, List, length, Ok, Result, if◌then◌else◌, nat_lt}
use Rattle.refusals.specs.Turns.{Turn, accepted_turn, refused_turn}
use Rattle.book.specs.Contents.{Contents}
use Rattle.book.specs.Calls.{contents, empty}
use Rattle.records.specs.Loading.{loading}
use Rattle.extraction.specs.declared.marking.MarkFault.{MarkFault}
use Rattle.extraction.specs.declared.marking.MarkFault.TheVariants.{EmptySignature, ShortBuffer}
use Rattle.locality.specs.Flags.{set_of}
use Rattle.extraction.specs.Marking.{Buffers, lent, is_unseeded, is_too_short, marked_buffers}
use Rattle.extraction.specs.Sets.{Marks, is_in_force}
use Rattle.writer.specs.Placing.{overlay}
use Rattle.part.specs.declared.writing.sections.Part.{Part}
use Rattle.records.specs.Files.{entries_of}
use Rattle.part.specs.Order.{in_writer_order}
use Rattle.records.specs.Files.{all_bytes}
use Rattle.part.specs.Parts.{part_axioms, part_bytes, part_contents, record_count}

-- the buffers for the marks, and the one for the part
pub record PartBuffers : Type 0 where
  pub marks : Buffers
  pub part : List ℕ

abbrev pub lent_for_part : List ℕ → List ℕ → List ℕ → PartBuffers
lent_for_part axioms names part = record { marks = lent axioms names; part = part }

module _ (b : Contents) (kept : Marks) where
  -- a buffer for marks is too short, or the one for the part has fewer bytes than the part
  abbrev pub lacks_room : PartBuffers → Bool
  lacks_room buffers =
      is_too_short b buffers.marks || nat_lt (length buffers.part) (length (part_bytes b kept))

  abbrev pub written_buffers : PartBuffers → PartBuffers
  written_buffers buffers = record {
    marks = marked_buffers b kept buffers.marks;
    part = overlay 0 (part_bytes b kept) buffers.part;
  }

  -- writing with an extractor that keeps this set: an empty signature is refused first, then a buffer that is too
  -- short, and a refusal changes no buffer; the answer is how many bytes the part has
  abbrev pub writing : PartBuffers → Turn PartBuffers (Result ℕ MarkFault)
  writing buffers =
      if is_unseeded b then refused_turn buffers EmptySignature
      else if lacks_room buffers then refused_turn buffers ShortBuffer
      else accepted_turn (written_buffers buffers) (length (part_bytes b kept))

  -- the part is loaded back: the same names with the same signature, and the axioms of the set, all in force
  abbrev pub ReadBack : Type 0
  ReadBack = loading empty (part_bytes b kept) ≡ accepted_turn (part_contents b kept) (record_count b kept)

  -- the part is in the writer's order; where the book came by loading a file in that order, and all axioms in force are
  -- kept, the part is that file
  pub record WrittenAgain : Type 0 where
    pub ordered : in_writer_order (entries_of (part_bytes b kept)) ≡ true
    pub same : (file : List ℕ) (n : ℕ) → all_bytes file ≡ true → (loading empty file).answer ≡ Ok n →
        in_writer_order (entries_of file) ≡ true → b ≡ (loading empty file).state → kept ≡ is_in_force b →
        part_bytes b kept ≡ file

-- the bytes of a part that is at hand, and those of its axioms
abbrev pub part_written : Part → List ℕ
part_written p = part_bytes (contents p.book.now) (set_of p.kept.now)

abbrev pub axioms_written : Part → List ℕ
axioms_written p = part_axioms (contents p.book.now) (set_of p.kept.now)
