-- What a book holds: names, and axioms that are in force or laid aside.
use Rattle.std.specs.Prelude.{◌≡◌, ℕ, zero, suc, Bool, ◌&&◌, List, [], ◌∷◌, ◌++◌, length, sum_by, nat_le}
use Rattle.vocabulary.specs.Entities.{Entity}
use Rattle.terms.specs.declared.term.Term.{Term}
use Rattle.terms.specs.Forms.{Rule, rule}
use Rattle.terms.specs.Writing.{body_bytes}
use Rattle.terms.specs.WellFormed.{well_formed}
use Rattle.codec.specs.Bodies.{longest_body}
use Rattle.book.specs.declared.book.Filed.{Filed}

-- an axiom of a book, and whether it is in force
pub record Filing : Type 0 where
  pub states : Rule
  pub in_force : Bool

-- the contents of a book, both lists in the order of their numbers
pub record Contents : Type 0 where
  pub names : List Entity
  pub axioms : List Filing

abbrev pub filing : List Term → Filed → Filing
filing ts f = record { states = rule ts f.«axiom»; in_force = f.in_force }

abbrev pub body_length : Filing → ℕ
body_length f = length (body_bytes f.states)

-- how many bytes the bodies have together
abbrev pub bodies_length : List Filing → ℕ
bodies_length fs = sum_by body_length fs

-- each number in the axiom belongs to a name of the kind wanted, and its body has at most `longest_body` bytes
abbrev pub sound : List Entity → Filing → Bool
sound names f = well_formed names f.states && nat_le (body_length f) longest_body

-- the axiom stays what it is, whatever terms are added to the table
abbrev pub Firm : List Term → Filed → Type 0
Firm ts f = (more : List Term) → rule (ts ++ more) f.«axiom» ≡ rule ts f.«axiom»

-- the axiom with this number is in force or not, as `on` says; every other stays as it was
abbrev pub reforce : List Filing → ℕ → Bool → List Filing
reforce [] k on = []
reforce (f ∷ fs) zero on = record { states = f.states; in_force = on } ∷ fs
reforce (f ∷ fs) (suc k) on = f ∷ reforce fs k on
