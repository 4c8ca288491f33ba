-- Bytes as hexadecimal digits in ASCII.
use Rattle.std.specs.Prelude.{ℕ, ◌+◌, ◌-◌, ◌*◌, if◌then◌else◌, List, [], ◌∷◌, codes, Some, None, Ok, Err, Option, Result, nat_le, bytes_eq, option_map}
use Rattle.std.specs.Option.{option_and_then}
use Rattle.hex.specs.Hex.{encode_lower}
use Rattle.scripts.specs.declared.halt.LineFault.{LineFault}
use Rattle.scripts.specs.declared.halt.LineFault.TheVariants.{OddDigits, NotHexadecimal}

-- a byte from low to high stands for its distance from low, plus what low stands for
abbrev pub from_range : ℕ → ℕ → ℕ → ℕ → Option ℕ → Option ℕ
from_range low high least d others = if nat_le low d then (if nat_le d high then (Some (d - low + least)) else others) else others

-- '0' to '9', 'a' to 'f' and 'A' to 'F'
abbrev pub digit_of : ℕ → Option ℕ
digit_of d = from_range 48 57 0 d (from_range 97 102 10 d (from_range 65 70 10 d None))

-- the byte of two digits
abbrev pub pair_value : ℕ → ℕ → Option ℕ
pair_value high low = option_and_then (λ h. option_map (λ l. 16 * h + l) (digit_of low)) (digit_of high)

-- a byte before the bytes of the pairs behind it, or the first fault
abbrev pub before : Option ℕ → Result (List ℕ) LineFault → Result (List ℕ) LineFault
before None rest = Err NotHexadecimal
before (Some b) (Err f) = Err f
before (Some b) (Ok bs) = Ok (b ∷ bs)

-- the bytes of pairs of digits; a pair that is none is told before a digit that stands alone at the end
abbrev pub pairs_value : List ℕ → Result (List ℕ) LineFault
pairs_value [] = Ok []
pairs_value (d ∷ []) = Err OddDigits
pairs_value (high ∷ low ∷ ds) = before (pair_value high low) (pairs_value ds)

-- the bytes of a word; a dash stands for none
abbrev pub bytes_value : List ℕ → Result (List ℕ) LineFault
bytes_value w = if bytes_eq w (codes "-") then (Ok []) else (pairs_value w)

-- and the other way round: two small digits for each byte, or a dash
abbrev pub bytes_word : List ℕ → List ℕ
bytes_word [] = codes "-"
bytes_word (b ∷ bs) = encode_lower (b ∷ bs)
