use Rattle.std.proofs.Common.{map}
use Rattle.locality.specs.Flags.{set_of}
use Rattle.extraction.specs.Listing.{FilledTo}
use Rattle.extraction.proofs.start.choice.Given as goal

abbrev pub invariant-loop-number : goal.invariant-loop-number
invariant-loop-number g l = FilledTo l.number (set_of (map g.T.Chosen.chosen l.items)) l.flags
