use Rattle.std.proofs.Common.{List, get_or, ap, ◌∙◌}
use mathlib.Core.Path.{fun_ext}
use Rattle.vocabulary.specs.Entities.{Entity}
use Rattle.vocabulary.specs.Naming.{entities}
use Rattle.extraction.specs.Sets.{no_entity}
use Rattle.extraction.proofs.Filling.{flags_of_names}
use Rattle.extraction.proofs.start.seeded_names.Goals as goal

pub returns : goal.returns
returns c = fun_ext (λ n. ap (λ f. f n.0) c.choice.ensures ∙ flags_of_names c.as_slice.result.now n.0 ∙ ap (λ (es : List Entity). (get_or es n.0 no_entity).seeded) (c.as_slice.ensures.value ∙ ap entities c.names.ensures))
