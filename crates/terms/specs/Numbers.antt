-- A number of two bytes, the low one first, both ways.
use Rattle.std.specs.Prelude.{ℕ, ◌+◌, ◌*◌, ◌/◌, ◌%◌, List, [], ◌∷◌, slice_index}

-- the two bytes of a number
abbrev pub two_bytes : ℕ → List ℕ
two_bytes n = n % 256 ∷ n / 256 ∷ []

-- the number of two bytes
abbrev pub number_of : ℕ → ℕ → ℕ
number_of low high = low + 256 * high

-- the number whose two bytes begin at a place
abbrev pub number_at : List ℕ → ℕ → ℕ
number_at bytes at = number_of (slice_index bytes at) (slice_index bytes (at + 1))
