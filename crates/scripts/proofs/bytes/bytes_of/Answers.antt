use Rattle.std.proofs.Common.{rules, arith}
use Rattle.std.specs.Slice.Iter.{chunks_rest}
use Rattle.scripts.proofs.Pairs.{odd_end, read_on, word_read}
use Rattle.scripts.proofs.bytes.bytes_of.Goals as goal

pub returns : goal.returns
returns c = word_read c.args.word.now (search rules) (chunks_rest c.loop-pair.pair-iterator) c.loop-pair.bytes.items (search rules) c.loop-pair.invariant.1

pub returns-then-pair-lt2 : goal.returns-then-pair-lt2
returns-then-pair-lt2 c = odd_end c.args.word.now (search rules) (chunks_rest c.loop-pair.pair-iterator) c.in-Some.pair.now c.loop-pair.bytes.items c.loop-pair.invariant.1 (search rules) (search (rules, arith)) (search rules)

pub loop-pair-preserved : goal.loop-pair-preserved
loop-pair-preserved c = (search rules, read_on c.args.word.now (chunks_rest c.loop-pair.pair-iterator) c.in-Some.pair.now (chunks_rest c.next.new.self) c.loop-pair.bytes.items c.push.new.self.items c.in_ok-byte.byte c.loop-pair.invariant.1 (search rules) (search (rules, arith)) (search (rules, arith)) (search rules))
