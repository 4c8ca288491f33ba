-- What holds of some element of a list, part by part.
use Rattle.std.proofs.Common.{◌⊎◌, inl, inr, zero, suc, List, [], ◌∷◌, ◌++◌, Any, ⊎_elim, sym, refl, subst, arith}

module _ {X : Type 0} (P : X → Type 0) where
  -- nothing holds of an element of no list
  pub any_none : ¬ Any P []
  any_none (k, x, l, e, p) = absurd (omega arith)

  -- it holds of the first element
  pub any_first : (x : X) (xs : List X) → P x → Any P (x ∷ xs)
  any_first x xs p = (0, x, omega arith, refl, p)

  -- or of a later one
  pub any_later : (x : X) (xs : List X) → Any P xs → Any P (x ∷ xs)
  any_later x xs (k, y, l, e, p) = (suc k, y, omega arith, e, p)

  -- and of no other
  pub any_split : (x : X) (xs : List X) → Any P (x ∷ xs) → P x ⊎ Any P xs
  any_split x xs (zero, y, l, e, p) = inl (subst P (sym e) p)
  any_split x xs (suc k, y, l, e, p) = inr (k, y, omega arith, e, p)

  -- the same of lists that follow one another
  pub any_left : (xs ys : List X) → Any P xs → Any P (xs ++ ys)
  any_left [] ys w = absurd (any_none w)
  any_left (x ∷ xs) ys w = ⊎_elim (any_first x (xs ++ ys)) (λ v. any_later x (xs ++ ys) (any_left xs ys v)) (any_split x xs w)

  pub any_right : (xs ys : List X) → Any P ys → Any P (xs ++ ys)
  any_right [] ys w = w
  any_right (x ∷ xs) ys w = any_later x (xs ++ ys) (any_right xs ys w)

  pub any_parts : (xs ys : List X) → Any P (xs ++ ys) → Any P xs ⊎ Any P ys
  any_parts [] ys w = inr w
  any_parts (x ∷ xs) ys w =
      ⊎_elim (λ p. inl (any_first x xs p))
      (λ v. ⊎_elim (λ l. inl (any_later x xs l)) inr (any_parts xs ys v))
      (any_split x (xs ++ ys) w)

-- what follows from it holds of some element too
pub any_each : {X : Type 0} (P Q : X → Type 0) (xs : List X) → ((x : X) → P x → Q x) → Any P xs → Any Q xs
any_each P Q xs more (k, x, l, e, p) = (k, x, l, e, more x p)
