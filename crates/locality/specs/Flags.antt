-- A list of flags, one for each number from 0 on, as a set of numbers and as a list of names.
use Rattle.std.specs.Prelude.{ℕ, Bool, false, List, slice_index_or}
use Rattle.locality.specs.Worlds.{Names}

-- the numbers whose flag is set; none past the end is
abbrev pub set_of : List Bool → ℕ → Bool
set_of flags k = slice_index_or flags k false

-- the names whose number's flag is set
abbrev pub listed_in : List Bool → Names
listed_in flags n = set_of flags n.0

-- the numbers of the names on a list
abbrev pub by_number : Names → ℕ → Bool
by_number listed k = listed (record { 0 = k })
