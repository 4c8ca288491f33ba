-- What bytes do to a cursor, and to a count.
use Rattle.std.specs.Prelude.{◌≡◌, ℕ, ◌+◌, ◌-◌, ◌<◌, ◌^◌, if◌then◌else◌, List, length, min, Some, None, Option, nat_le}
use Rattle.writer.specs.declared.sink.Cursor.{Cursor}
use Rattle.writer.specs.declared.sink.Length.{Length}
use Rattle.writer.specs.Placing.{overlay}

-- the place after so many bytes in a buffer of so many; None where the room is short
abbrev pub place_after : Option ℕ → ℕ → ℕ → Option ℕ
place_after (Some at) count size = if nat_le count (size - at) then Some (at + count) else None
place_after None count size = None

-- a buffer with the bytes from a place on
abbrev pub filled : Option ℕ → List ℕ → List ℕ → List ℕ
filled (Some at) bytes out = overlay at bytes out
filled None bytes out = out

-- the bytes lead from the first cursor to the last, which is over the same buffer
pub record Took (s : Cursor) (bytes : List ℕ) (t : Cursor) : Type 0 where
  pub same_reference : t.out.ghost_name ≡ s.out.ghost_name
  pub buffer : t.out.now ≡ filled s.at bytes s.out.now
  pub place : t.at ≡ place_after s.at (length bytes) (length s.out.now)

-- so many bytes more were counted, up to the greatest number that a usize holds
abbrev pub Counted : Length → List ℕ → Length → Type 0
Counted s bytes t = s.bytes < 2 ^ 64 → t.bytes ≡ min (s.bytes + length bytes) (2 ^ 64 - 1)
