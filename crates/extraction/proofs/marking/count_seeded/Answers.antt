use Rattle.std.proofs.Common.{◌≡◌, ap, ◌∙◌, rules}
use Rattle.std.specs.List.{count_by}
use Rattle.vocabulary.specs.declared.name.Name.{Name}
use Rattle.vocabulary.specs.Naming.{entities}
use Rattle.book.specs.Calls.{contents}
use Rattle.extraction.proofs.Counting.{seeded_count}
use Rattle.extraction.proofs.marking.count_seeded.Goals as goal

pub returns : goal.returns
returns c =
    let counted : c.count.result ≡ count_by (λ (n : Name). n.seeded) c.as_slice-names.result.now = search rules in
    counted ∙ seeded_count (contents c.args.book.now) c.as_slice-names.result.now (c.as_slice-names.ensures.value ∙ ap entities c.names.ensures)
