use Rattle.std.proofs.Common.{take, length}
use Rattle.terms.specs.Tables.{nodes_of}
use Rattle.locality.specs.Flags.{set_of}
use Rattle.part.proofs.Sections.{axioms_bytes}
use Rattle.part.proofs.writing.sections.Part.put_axioms.Given as goal

abbrev pub invariant-loop-filed : goal.invariant-loop-filed
invariant-loop-filed g l = g.S.Sink.takes l.initial.sink (axioms_bytes (nodes_of l.self.book.now.terms) (set_of l.self.kept.now) (take (length l.yielded) l.self.book.now.axioms)) l.sink
