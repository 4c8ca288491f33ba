-- Options among words.
use Rattle.std.proofs.Common.{◌≡◌, ◌<◌, ℕ, Bool, ◌||◌, List, [], ◌∷◌, length, map, refl, ap, arith}
use Rattle.std.specs.List.{list_any}
use Rattle.locality.specs.declared.test.Test.TheVariants.{Bottom}
use Rattle.winavulor.specs.Commands.{cut_task, plain_cut}

pub any_mapped : {X Y : Type 0} (p : Y → Bool) (f : X → Y) (xs : List X) → list_any p (map f xs) ≡ list_any (λ x. p (f x)) xs
any_mapped p f [] = refl
any_mapped p f (x ∷ xs) = ap (λ b. p (f x) || b) (any_mapped p f xs)

-- a pile and its option are two words
pub no_pile : {X : Type 0} (f : X → List ℕ) (book part : List ℕ) (ws : List X) → length ws < 2 → cut_task book part (map f ws) ≡ plain_cut book part (Bottom ∷ []) (map f ws)
no_pile f book part [] few = refl
no_pile f book part (w ∷ []) few = refl
no_pile f book part (v ∷ w ∷ ws) few = absurd (omega (arith, few))
