-- What the contents of every book keep.
use Rattle.std.specs.Prelude.{◌≡◌, ◌≤◌, Bool, true, ◌&&◌, length}
use Rattle.std.specs.List.{list_all}
use Rattle.vocabulary.specs.Limits.{most_names}
use Rattle.vocabulary.specs.Entities.{Entity, all_distinct}
use Rattle.vocabulary.specs.Labels.{has_label_length, is_graphic_text}
use Rattle.book.specs.Contents.{Contents, bodies_length, sound}
use Rattle.book.specs.Limits.{most_axioms, most_bytes}

-- the name has a label of 1 to 32 bytes, each from 33 to 126
abbrev pub well_labelled : Entity → Bool
well_labelled e = has_label_length e.label && is_graphic_text e.label

-- each number in an axiom belongs to a name of the kind wanted there, no term is nested too deep, each count is at least 1,
-- and no body is too long
abbrev pub Sound : Contents → Type 0
Sound b = list_all (sound b.names) b.axioms ≡ true

-- every kind and every limit is kept
pub record Proper (b : Contents) : Type 0 where
  pub labels : list_all well_labelled b.names ≡ true
  pub apart : all_distinct b.names ≡ true
  pub few_names : length b.names ≤ most_names
  pub right : Sound b
  pub few_axioms : length b.axioms ≤ most_axioms
  pub few_bytes : bodies_length b.axioms ≤ most_bytes
