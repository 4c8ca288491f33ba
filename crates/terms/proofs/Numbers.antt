-- Numbers and what they stand for.
use Rattle.std.proofs.Common.{◌≡◌, ℕ, ◌+◌, ◌*◌, ◌/◌, ◌%◌, ◌<◌, Bool, true, false, cond, eqb, [], ◌∷◌, Some, None, Option, refl, ap, ◌∙◌, arith}
use Rattle.std.proofs.lemmas.Bool.{eqb-true}
use Rattle.terms.specs.Numbers.{two_bytes}

-- a choice by the number n, or one of the rest: the number is that of what is chosen
module _ {X : Type 0} (number_of : X → ℕ) (b : ℕ) where
  pub chosen : (n : ℕ) (x : X) (rest : Option X) → n ≡ number_of x → ((y : X) → rest ≡ Some y → b ≡ number_of y) → (y : X) → cond (eqb b n) (Some x) rest ≡ Some y → b ≡ number_of y
  chosen n x rest e later y = go (eqb b n) refl
    where
      go : (t : Bool) → eqb b n ≡ t → cond t (Some x) rest ≡ Some y → b ≡ number_of y
      go true p h = let q = eqb-true b n p in let s : x ≡ y = cc in q ∙ e ∙ ap number_of s
      go false p h = later y h

  pub none_chosen : (y : X) → None ≡ Some y → b ≡ number_of y
  none_chosen y h = absurd (let z : ◌≡◌ {A = ℕ} 0 1 = cc in omega arith)

-- a number of two bytes is written as these
pub two_bytes_are : (low high : ℕ) → low < 256 → two_bytes (low + 256 * high) ≡ low ∷ high ∷ []
two_bytes_are low high h =
    let l : (low + 256 * high) % 256 ≡ low = omega arith in
    let g : (low + 256 * high) / 256 ≡ high = omega arith in
    rw (l, g) refl
