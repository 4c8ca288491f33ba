-- The limits of terms.
use Rattle.std.specs.Prelude.{ℕ}

-- how many terms may stand inside one another
abbrev pub most_levels : ℕ
most_levels = 24

-- how many nodes a table of terms has room for
abbrev pub most_nodes : ℕ
most_nodes = 33280

-- the greatest count that two bytes can tell
abbrev pub greatest_count : ℕ
greatest_count = 65535
