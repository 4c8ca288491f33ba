-- Marking and writing a book that is a draft or frozen.
use Rattle.std.specs.Prelude.{ℕ, Bool, Some, None, Option, Result}
use Rattle.refusals.specs.Turns.{Turn}
use Rattle.terms.specs.Forms.{Rule}
use Rattle.book.specs.Contents.{Contents}
use Rattle.locality.specs.Worlds.{Names, Default}
use Rattle.extraction.specs.declared.marking.Marking.{Marking}
use Rattle.extraction.specs.declared.marking.MarkFault.{MarkFault}
use Rattle.extraction.specs.Extractions.{Extraction, staged}
use Rattle.extraction.specs.Marking.{Buffers, marking}
use Rattle.part.specs.Writing.{PartBuffers, writing}
use Rattle.runs.specs.Steps.{Status, Standing, draft, frozen}

-- what is done with a book at rest: a frozen book is; of a draft there is no answer, and the buffers stay
abbrev pub if_frozen : {S R : Type 0} → Status → S → Turn S R → Turn S (Option R)
if_frozen draft buffers turn = record { state = buffers; answer = None }
if_frozen frozen buffers turn = record { state = turn.state; answer = Some turn.answer }

module _ (x : Contents → Extraction) (s : Standing) where
  abbrev pub marking_if_frozen : Buffers → Turn Buffers (Option (Result Marking MarkFault))
  marking_if_frozen buffers = if_frozen s.status buffers (marking s.book (x s.book) buffers)

  abbrev pub writing_if_frozen : PartBuffers → Turn PartBuffers (Option (Result ℕ MarkFault))
  writing_if_frozen buffers = if_frozen s.status buffers (writing s.book (x s.book).kept buffers)

-- what a stage comes to on any book, by its test and by what the extractor below comes to
abbrev pub staged_over : (Rule → Names → Bool) → Default → (Contents → Extraction) → Contents → Extraction
staged_over local default below b = staged b local default (below b)
