use Rattle.std.proofs.Common.{List, map, ap, ◌∙◌}
use mathlib.Core.Path.{fun_ext}
use Rattle.book.specs.declared.book.Filed.{Filed}
use Rattle.terms.specs.Tables.{nodes_of}
use Rattle.locality.specs.Flags.{set_of}
use Rattle.extraction.proofs.Filling.{flags_of_axioms}
use Rattle.extraction.proofs.start.axioms_in_force.Goals as goal

pub returns : goal.returns
returns c = fun_ext (λ k. ap (λ f. f k) c.choice.ensures ∙ ap (λ (xs : List Filed). set_of (map (λ f. f.in_force) xs) k) c.axioms.ensures ∙ flags_of_axioms (nodes_of c.args.book.now.terms) c.args.book.now.axioms k)
