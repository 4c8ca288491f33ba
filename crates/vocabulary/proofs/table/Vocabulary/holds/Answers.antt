use Rattle.std.proofs.Common.{ap, ◌∙◌}
use Rattle.std.specs.List.{list_any}
use Rattle.vocabulary.specs.Entities.{entity, is_named}
use Rattle.vocabulary.proofs.Kept.{held_names}
use Rattle.vocabulary.proofs.table.Vocabulary.holds.Goals as goal

pub returns : goal.returns
returns c =
    c.any_named.ensures ∙ ap (list_any (λ n. is_named c.args.kind c.args.label.now (entity n))) c.as_slice.ensures.value ∙ held_names c.args.kind c.args.label.now c.args.self.now.names
