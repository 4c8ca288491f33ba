-- One turn of a loop over what an iterator yields, numbered from 0.
use Rattle.std.proofs.Common.{◌≡◌, ℕ, ◌+◌, List, [], ◌∷◌, Some, None, Option, refl, sym, ap}
use Rattle.std.proofs.lemmas.Iterator.{YieldsList}
use Rattle.std.specs.Iterator.Adapters.{enumerate_count, enumerate_source, enumerate_steps}
use Rattle.std.specs.declared.iter.Enumerate.{Enumerate}

module _ {S A B : Type 0} (steps : S → Option A → S → Type 0) (v : A → B) (s t : Enumerate S) where
  -- nothing is left
  pub none_yielded : (ys : List B) → YieldsList steps v (enumerate_source s) ys → enumerate_steps steps s None t → ys ≡ []
  none_yielded [] y p = refl
  none_yielded (z ∷ zs) y p = absurd (y.runs.0 (enumerate_source t) p.0)

  -- an item comes, by its number, and others are left
  pub record Turned (n : ℕ) (x : A) (ys : List B) : Type 0 where
    pub left : List B
    pub first : ys ≡ v x ∷ left
    pub yields : YieldsList steps v (enumerate_source t) left
    pub number : enumerate_count s ≡ n
    pub count : enumerate_count t ≡ enumerate_count s + 1

  pub one_yielded : (n : ℕ) (x : A) (ys : List B) → YieldsList steps v (enumerate_source s) ys → enumerate_steps steps s (Some (n, x)) t → Turned n x ys
  one_yielded n x [] y p = absurd (y.runs x (enumerate_source t) p.0)
  one_yielded n x (z ∷ zs) y p =
      let on = y.runs.1 x (enumerate_source t) p.0 in
      record { left = zs; first = ap (λ w. w ∷ zs) (sym on.0); yields = record { runs = on.1 }; number = sym p.1; count = p.2 }
