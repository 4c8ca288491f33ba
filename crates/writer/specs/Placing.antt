-- What writing does to a buffer.
use Rattle.std.specs.Prelude.{◌≡◌, ℕ, ◌+◌, true, if◌then◌else◌, List, [], ◌∷◌, length, Some, None, Option, nat_le, slice_set}
use Rattle.vocabulary.specs.Entities.{Entity}
use Rattle.terms.specs.Forms.{Rule}
use Rattle.terms.specs.Reading.{got, read_axiom}
use Rattle.terms.specs.Writing.{body_bytes, rule_kind}
use Rattle.terms.specs.WellFormed.{well_formed}

-- the bytes laid over a buffer from a place on; those that lie past its end are lost, and what lies before the place and
-- behind the bytes stays
abbrev pub overlay : ℕ → List ℕ → List ℕ → List ℕ
overlay at [] out = out
overlay at (b ∷ bs) out = overlay (at + 1) bs (slice_set out at b)

-- the bytes were written from a place on, as far as there is room; the answer is the place after them, if they fitted
pub record Wrote (bytes : List ℕ) (before : List ℕ) (at : ℕ) (r : Option ℕ) (after : List ℕ) : Type 0 where
  pub placed : after ≡ overlay at bytes before
  pub answer :
      r ≡ (if nat_le (at + length bytes) (length before) then Some (at + length bytes) else None)

-- with any names by which an axiom is well formed, its bytes are read back as the same axiom
abbrev pub IsReadBack : Rule → Type 0
IsReadBack r =
    (names : List Entity) → well_formed names r ≡ true → read_axiom (body_bytes r) names (rule_kind r) ≡ got r (length (body_bytes r))

-- an axiom was written, and is read back
pub record Writes (r : Rule) (before : List ℕ) (at : ℕ) (answer : Option ℕ) (after : List ℕ) : Type 0 where
  pub wrote : Wrote (body_bytes r) before at answer after
  pub back : IsReadBack r
