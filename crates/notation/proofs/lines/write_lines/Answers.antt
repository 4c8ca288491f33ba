use Rattle.std.proofs.Common.{arith, rules}
use Rattle.notation.proofs.Numbering.{written_none, written_more, written_whole}
use Rattle.notation.proofs.lines.write_lines.Goals as goal

pub loop-number-init : goal.loop-number-init
loop-number-init g c plain = written_none g.W.Write.write_str_gives _ _ plain

pub loop-number-preserved : goal.loop-number-preserved
loop-number-preserved g c plain =
    let before = c.loop-number.invariant plain in
    written_more g.W.Write.write_str_gives (g.L.Lines.line c.args.lines.now) _ _ _ c.args.items.now c.loop-number.number _ (omega arith) c.index-items-number.is before (c.write_line.ensures before.plain (search rules))

pub returns : goal.returns
returns g c plain _ =
    written_whole g.W.Write.write_str_gives (g.L.Lines.line c.args.lines.now) _ _ c.args.items.now c.loop-number.number (omega arith) (c.loop-number.invariant plain)
