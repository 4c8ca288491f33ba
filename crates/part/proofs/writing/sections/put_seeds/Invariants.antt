use Rattle.std.proofs.Common.{take}
use Rattle.part.proofs.Sections.{seeds_bytes}
use Rattle.part.proofs.writing.sections.put_seeds.Given as goal

abbrev pub invariant-loop-number : goal.invariant-loop-number
invariant-loop-number g l = g.S.Sink.takes l.initial.sink (seeds_bytes (take l.number l.name-items)) l.sink
