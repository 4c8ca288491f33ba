use Rattle.std.proofs.Common.{◌≡◌, ◌∙◌, rules}
use Rattle.std.specs.List.{count_by}
use Rattle.extraction.proofs.Counting.{count_flagged}
use Rattle.extraction.proofs.marking.count_flags.Goals as goal

pub returns : goal.returns
returns c =
    let counted : c.count.result ≡ count_by (λ f. f) c.args.flags.now = search rules in
    counted ∙ count_flagged c.args.flags.now
