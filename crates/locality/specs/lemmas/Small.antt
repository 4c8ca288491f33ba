-- What a small world needs to be one.
use Rattle.std.specs.Prelude.{ℕ, suc, ◌<◌, min}
use Rattle.std.proofs.Common.{arith}
use Rattle.std.proofs.Math.Nat.{min-le_right}

-- a number that is cut down to the last element is an element
pub min_inside : (n last : ℕ) → min n last < suc last
min_inside n last = let cut = min-le_right n last in omega arith

pub some_element : (last : ℕ) → 0 < suc last
some_element last = omega arith
