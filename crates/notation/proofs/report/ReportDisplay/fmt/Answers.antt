use Rattle.std.proofs.Common.{rules}
use Rattle.std.proofs.Output.{has_written_append}
use Rattle.notation.proofs.report.ReportDisplay.fmt.Goals as goal

-- the lines and the sections, one behind the other
pub returns-clause-writes : goal.returns-clause-writes
returns-clause-writes g c plain ok =
    let took = g.W.Write.write_str_gives in
    let records = c.in_ok-writeln.ensures.writes plain (search rules) in
    let signature = c.in_ok-write_signature.ensures records.plain (search rules) in
    let kept = c.in_ok-write_kept.ensures signature.plain (search rules) in
    let drawn = c.in_ok-write_drawn.ensures kept.plain (search rules) in
    let rounds = c.writeln-2.ensures.writes drawn.plain ok in
    has_written_append took _ _ _ _ _ records (has_written_append took _ _ _ _ _ signature (has_written_append took _ _ _ _ _ kept (has_written_append took _ _ _ _ _ drawn rounds)))
