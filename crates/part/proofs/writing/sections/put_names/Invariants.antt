use Rattle.std.proofs.Common.{take}
use Rattle.part.proofs.Sections.{names_bytes}
use Rattle.part.proofs.writing.sections.put_names.Given as goal

abbrev pub invariant-loop-name : goal.invariant-loop-name
invariant-loop-name g l = g.S.Sink.takes l.initial.sink (names_bytes (take l.name-index l.name-items)) l.sink
