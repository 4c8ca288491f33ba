use Rattle.std.proofs.Common.{◌≡◌, ◌-◌}
use Rattle.book.specs.Calls.{contents}
use Rattle.locality.specs.Flags.{listed_in}
use Rattle.extraction.specs.Extracts.{handed_in, kept_in}
use Rattle.extraction.specs.Signatures.{with_signature}
use Rattle.extraction.specs.lemmas.Midway.{Midway}
use Rattle.extraction.proofs.Rounding.{Consistent}
use Rattle.extraction.proofs.rounds.rounds.Given as goal

abbrev pub invariant-loop-marking : goal.invariant-loop-marking
invariant-loop-marking g l =
    let b = with_signature (contents l.book) (listed_in l.signature) in
    (l.tables.handed ≡ l.initial.tables.handed) × Consistent b l.tables × Midway b (g.T.LocalityTest.local l.test) (handed_in l.initial.tables) (kept_in l.tables) l.marking

abbrev pub decreases-loop-marking : goal.decreases-loop-marking
decreases-loop-marking g l = 1025 - l.marking
