use Rattle.std.proofs.Common.{◌≡◌}
use Rattle.std.specs.Slice.Iter.{chunks_rest, chunks_size}
use Rattle.scripts.specs.Hex.{pairs_value}
use Rattle.scripts.proofs.Pairs.{behind}
use Rattle.scripts.proofs.bytes.bytes_of.Given as goal

abbrev pub invariant-loop-pair : goal.invariant-loop-pair
invariant-loop-pair l = (chunks_size l.pair-iterator ≡ 2) × (pairs_value l.fn.word ≡ behind l.bytes.items (pairs_value (chunks_rest l.pair-iterator)))
