-- What is told of a cut.
use Rattle.std.specs.Prelude.{ℕ, List, ◌++◌, codes, decimal}
use Rattle.book.specs.Calls.{contents}
use Rattle.book.specs.Contents.{Contents}
use Rattle.extraction.specs.declared.marking.Marking.{Marking}
use Rattle.notation.specs.declared.report.Report.{Report}
use Rattle.notation.specs.Marks.{signature_section, kept_section, drawn_section}

-- a book that was cut: how many records its file had, the marks of axioms and of names, what was marked, and the bytes of
-- the part
pub record Summary : Type 0 where
  pub book : Contents
  pub records : ℕ
  pub axioms : List ℕ
  pub names : List ℕ
  pub marking : Marking
  pub bytes : ℕ

abbrev pub summary_of : Report → Summary
summary_of r = record { book = contents r.book.now; records = r.records; axioms = r.axioms.now; names = r.names.now; marking = r.marking; bytes = r.bytes }

-- the records, the signature, the axioms kept, the names drawn in, the rounds, and the bytes
abbrev pub summary_text : Summary → List ℕ
summary_text s =
    (codes "records read: " ++ (decimal s.records ++ codes "\n"))
    ++ (signature_section s.book
    ++ (kept_section s.book s.axioms s.marking.marked
    ++ (drawn_section s.book s.names s.marking.drawn_in
    ++ (codes "rounds: " ++ (decimal s.marking.rounds ++ (codes "\nbytes written: " ++ (decimal s.bytes ++ codes "\n")))))))
