use Rattle.std.proofs.Common.{◌≡◌}
use Rattle.book.specs.Calls.{contents}
use Rattle.extraction.specs.Extracts.{kept_in, closed_in, new_marks}
use Rattle.extraction.specs.Visits.{MarkedTo}
use Rattle.extraction.proofs.rounds.round.Given as goal

abbrev pub invariant-loop-number : goal.invariant-loop-number
invariant-loop-number g l =
    (l.tables.handed ≡ l.initial.tables.handed) × MarkedTo (contents l.book) l.number (new_marks (contents l.book) (g.T.LocalityTest.local l.test) l.initial.tables) (kept_in l.initial.tables) (closed_in l.initial.tables) l.tables.kept l.tables.closed l.marks
