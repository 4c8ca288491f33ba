use Rattle.std.proofs.Common.{◌≡◌, ◌-◌, length}
use Rattle.book.specs.Calls.{contents}
use Rattle.records.specs.Loading.{loads}
use Rattle.records.proofs.Going.{Goes}
use Rattle.records.proofs.loading.load_records.Given as goal

abbrev pub invariant-loop-reader : goal.invariant-loop-reader
invariant-loop-reader l = (l.reader.file.now ≡ l.file) × Goes l.file (contents l.draft) l.reader.at l.taken (loads (length l.file) l.file (contents l.initial.draft) 0 0)

abbrev pub decreases-loop-reader : goal.decreases-loop-reader
decreases-loop-reader l = length l.file - l.reader.at
