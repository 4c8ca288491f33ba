-- Which bytes can be the body of a record, or of an axiom that is filed.
use Rattle.std.specs.Prelude.{ℕ, List, length, Some, None, Option, if◌then◌else◌, nat_le}

-- how many bytes a body may have
abbrev pub longest_body : ℕ
longest_body = 512

-- the body of these bytes, if it is not too long
abbrev pub body_of : List ℕ → Option (List ℕ)
body_of bytes = if nat_le (length bytes) longest_body then Some bytes else None
