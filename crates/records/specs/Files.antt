-- The format of a file: records one behind the other. A record has a head of two numbers of two bytes, how many bytes its
-- body has and its kind; the body follows.
use Rattle.std.specs.Prelude.{ℕ, zero, suc, ◌+◌, Bool, List, [], ◌∷◌, ◌++◌, length, take, drop, Some, None, Option, if◌then◌else◌, nat_le, nat_lt}
use Rattle.std.specs.List.{flat_map, list_all}
use Rattle.terms.specs.Numbers.{number_of, two_bytes}

pub record Entry : Type 0 where
  pub kind : ℕ
  pub body : List ℕ

-- how many bytes a head has, and a whole record
abbrev pub head_length : ℕ
head_length = 4

abbrev pub record_length : Entry → ℕ
record_length e = head_length + length e.body

-- a record as bytes
abbrev pub record_bytes : Entry → List ℕ
record_bytes e = two_bytes (length e.body) ++ (two_bytes e.kind ++ e.body)

-- records one behind the other
abbrev pub file_bytes : List Entry → List ℕ
file_bytes es = flat_map record_bytes es

-- the record with a head of these numbers that begins what follows it, unless the body is cut short
abbrev pub record_behind : ℕ → ℕ → List ℕ → Option Entry
record_behind size kind behind =
    if nat_le size (length behind) then Some (record { kind = kind; body = take size behind }) else None

-- the record that begins these bytes, unless its head or its body is cut short
abbrev pub first_record : List ℕ → Option Entry
first_record (a ∷ b ∷ c ∷ d ∷ behind) = record_behind (number_of a b) (number_of c d) behind
first_record _ = None

-- a record that was read is followed by those of the bytes behind it
abbrev pub after_entry : (List ℕ → List Entry) → List ℕ → Option Entry → List Entry
after_entry later bytes None = []
after_entry later bytes (Some e) = e ∷ later (drop (record_length e) bytes)

-- the records that these bytes begin with, at most so many, up to one that is cut short
abbrev pub entries_from : ℕ → List ℕ → List Entry
entries_from zero bytes = []
entries_from (suc most) bytes = after_entry (entries_from most) bytes (first_record bytes)

-- the records of a file, up to one that is cut short; no file has more records than bytes
abbrev pub entries_of : List ℕ → List Entry
entries_of file = entries_from (length file) file

-- every number is a byte
abbrev pub all_bytes : List ℕ → Bool
all_bytes xs = list_all (λ x. nat_lt x 256) xs
