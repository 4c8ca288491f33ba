use Rattle.std.proofs.Common.{◌≡◌}
use Rattle.locality.specs.Flags.{set_of}
use Rattle.extraction.specs.Marking.{flags_over}
use Rattle.extraction.proofs.tables.write_flags.Given as goal

abbrev pub invariant-loop-number : goal.invariant-loop-number
invariant-loop-number l = l.bytes ≡ flags_over l.number (set_of l.flags) l.initial.bytes
