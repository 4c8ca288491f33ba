use Rattle.std.proofs.Common.{set, ap, ◌∙◌}
use Rattle.locality.specs.Flags.{set_of}
use Rattle.extraction.specs.Marking.{bit}
use Rattle.extraction.proofs.Counting.{flags_over-more}
use Rattle.extraction.proofs.tables.write_flags.Goals as goal

pub loop-number-preserved : goal.loop-number-preserved
loop-number-preserved c =
    c.write_flag.ensures ∙ ap (λ l. set l c.loop-number.number (bit (set_of c.args.flags.now c.loop-number.number))) c.loop-number.invariant ∙ flags_over-more c.loop-number.number (set_of c.args.flags.now) c.args.bytes.now
