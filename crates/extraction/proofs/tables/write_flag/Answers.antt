use Rattle.std.proofs.Common.{set, sym, ap, ◌∙◌, arith}
use Rattle.std.proofs.lemmas.List.{set_past}
use Rattle.extraction.specs.Marking.{bit}
use Rattle.extraction.proofs.Counting.{flag_byte}
use Rattle.extraction.proofs.tables.write_flag.Goals as goal

pub returns-then-number-bytes : goal.returns-then-number-bytes
returns-then-number-bytes c = ap (λ v. set c.args.bytes.now c.args.number v) (c.from.ensures ∙ flag_byte c.args.flag)

pub returns-else-number-bytes : goal.returns-else-number-bytes
returns-else-number-bytes c = sym (set_past c.args.bytes.now c.args.number (bit c.args.flag) (omega arith))
