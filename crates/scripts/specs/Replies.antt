-- What a request does to a book, and the text that answers it.
use Rattle.std.specs.Prelude.{ℕ, List, ◌++◌, codes, decimal, map, replicate, Ok, Err, Option, Result}
use Rattle.refusals.specs.Turns.{Turn}
use Rattle.book.specs.Contents.{Contents}
use Rattle.locality.specs.declared.test.Test.{Test}
use Rattle.locality.specs.Tables.{test_meaning}
use Rattle.extraction.specs.declared.marking.MarkFault.{MarkFault}
use Rattle.extraction.specs.declared.marking.Marking.{Marking}
use Rattle.extraction.specs.Extractions.{Extraction, piled, whole}
use Rattle.extraction.specs.Marking.{Buffers, lent}
use Rattle.part.specs.Writing.{PartBuffers, lent_for_part}
use Rattle.runs.specs.declared.outcome.CallFault.{CallFault}
use Rattle.runs.specs.Answers.{answer_text, fault_text}
use Rattle.runs.specs.Resting.{marking_if_frozen, writing_if_frozen}
use Rattle.runs.specs.Steps.{Standing, call_turn}
use Rattle.scripts.specs.Hex.{bytes_word}
use Rattle.scripts.specs.Lines.{Asked, perform, mark, write}
use Rattle.scripts.specs.Outcomes.{outcome}

-- a pile of these tests, the uppermost first, over the whole extractor
abbrev pub pile_of : List Test → Contents → Extraction
pile_of tests b = piled b (map test_meaning tests) (whole b)

-- the answers to a marking and to a writing: the numbers, then what the buffers hold
abbrev pub marked_text : Result Marking CallFault → Buffers → List ℕ
marked_text (Err f) buffers = fault_text f
marked_text (Ok m) buffers =
    codes "ok " ++ (decimal m.marked ++ (codes " " ++ (decimal m.closed ++ (codes " " ++ (decimal m.drawn_in
    ++ (codes " " ++ (decimal m.rounds
    ++ (codes " " ++ (bytes_word buffers.axioms ++ (codes " " ++ bytes_word buffers.names))))))))))

abbrev pub written_text : Result ℕ CallFault → PartBuffers → List ℕ
written_text (Err f) buffers = fault_text f
written_text (Ok n) buffers =
    codes "ok " ++ (decimal n
    ++ (codes " " ++ (bytes_word buffers.marks.axioms
    ++ (codes " " ++ (bytes_word buffers.marks.names ++ (codes " " ++ bytes_word buffers.part))))))

-- every byte of a buffer is 255 before the call
abbrev pub mark_buffers : ℕ → ℕ → Buffers
mark_buffers axioms names = lent (replicate axioms 255) (replicate names 255)

abbrev pub write_buffers : ℕ → ℕ → ℕ → PartBuffers
write_buffers axioms names part = lent_for_part (replicate axioms 255) (replicate names 255) (replicate part 255)

-- a marking and a writing of a book through a pile of tests
abbrev pub marking_turn : Standing → List Test → Buffers → Turn Buffers (Option (Result Marking MarkFault))
marking_turn s tests before = marking_if_frozen (pile_of tests) s before

abbrev pub writing_turn : Standing → List Test → PartBuffers → Turn PartBuffers (Option (Result ℕ MarkFault))
writing_turn s tests before = writing_if_frozen (pile_of tests) s before

abbrev pub marking_text : Turn Buffers (Option (Result Marking MarkFault)) → List ℕ
marking_text turn = marked_text (outcome turn.answer) turn.state

abbrev pub writing_text : Turn PartBuffers (Option (Result ℕ MarkFault)) → List ℕ
writing_text turn = written_text (outcome turn.answer) turn.state

-- the book after a request, and the text that answers it; a marking and a writing change no book
abbrev pub reply : Standing → Asked → Turn Standing (List ℕ)
reply s (perform call) = record { state = (call_turn s call).state; answer = answer_text (call_turn s call).answer }
reply s (mark tests axioms names) = record {
  state = s;
  answer = marking_text (marking_turn s tests (mark_buffers axioms names));
}
reply s (write tests axioms names part) = record {
  state = s;
  answer = writing_text (writing_turn s tests (write_buffers axioms names part));
}
