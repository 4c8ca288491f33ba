-- The limits of names.
use Rattle.std.specs.Prelude.{ℕ}

-- how many names a book may have
abbrev pub most_names : ℕ
most_names = 1024

-- how many bytes a label may have
abbrev pub longest_label : ℕ
longest_label = 32
