-- Finite worlds: what the names of a book may stand for.
use Rattle.std.specs.Prelude.{◌≡◌, ℕ, ◌<◌, Bool, false, if◌then◌else◌}
use Rattle.vocabulary.specs.declared.name.NameId.{NameId}

-- the elements are the numbers below `size`, of which there is one or more; a concept is a set of
-- elements, a role a set of ordered pairs, an individual an element
pub record World : Type 0 where
  pub size : ℕ
  pub some : 0 < size
  pub concepts : NameId → ℕ → Bool
  pub roles : NameId → ℕ → ℕ → Bool
  pub individuals : NameId → ℕ
  pub inside : (a : NameId) → individuals a < size

-- a list of names, as the test of who is on it
abbrev pub Names : Type 0
Names = NameId → Bool

-- what names that are not on a list are set to, as the elements alone say: of a world of so many
-- elements, whether an element is in the concept, and whether two are in the role
pub record Default : Type 0 where
  pub concept : ℕ → ℕ → Bool
  pub role : ℕ → ℕ → ℕ → Bool

-- in this world the names outside the list have the default
pub record HasDefault (d : Default) (listed : Names) (w : World) : Type 0 where
  pub concepts :
      (n : NameId) (x : ℕ) → listed n ≡ false → x < w.size → w.concepts n x ≡ d.concept w.size x
  pub roles :
      (n : NameId) (x y : ℕ) → listed n ≡ false → x < w.size → y < w.size →
      w.roles n x y ≡ d.role w.size x y

-- the concept and role names outside the list are set to the default; nothing else changes
abbrev pub reset : Default → Names → World → World
reset d listed w = record {
  size = w.size;
  some = w.some;
  concepts = λ n x. if listed n then w.concepts n x else d.concept w.size x;
  roles = λ n x y. if listed n then w.roles n x y else d.role w.size x y;
  individuals = w.individuals;
  inside = w.inside;
}
