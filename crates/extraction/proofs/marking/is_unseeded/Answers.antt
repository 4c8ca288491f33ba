use Rattle.std.proofs.Common.{not, ap, ◌∙◌}
use Rattle.vocabulary.specs.Naming.{entities}
use Rattle.book.specs.Calls.{contents}
use Rattle.extraction.proofs.Counting.{seeded_some}
use Rattle.extraction.proofs.marking.is_unseeded.Goals as goal

pub returns : goal.returns
returns c = ap not (c.any_seeded.ensures ∙ seeded_some (contents c.args.book.now) c.as_slice.result.now (c.as_slice.ensures.value ∙ ap entities c.names.ensures))
