use Rattle.std.proofs.Common.{take}
use Rattle.writer.proofs.sink.Sink.put_all.Given as goal

abbrev pub invariant-loop-byte : goal.invariant-loop-byte
invariant-loop-byte g l = g.Self.Sink.takes l.initial.self (take l.byte-index l.bytes) l.self
