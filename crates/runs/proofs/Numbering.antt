-- Lists map_by_number from 0: one element more, and the mark of one number changed.
use Rattle.std.proofs.Common.{◌≡◌, ℕ, zero, suc, ◌<◌, Bool, ◌≢◌, List, [], ◌∷◌, ◌++◌, length, refl, ap, ◌∙◌, ap₂, arith}
use Rattle.vocabulary.specs.Entities.{Entity, reseed}
use Rattle.terms.specs.Forms.{Rule}
use Rattle.book.specs.Contents.{Filing, reforce}
use Rattle.runs.specs.History.{Designation, map_by_number}

-- numbering keeps the length
pub map_by_number_length : {X Y : Type 0} (f : ℕ → X → Y) (xs : List X) → length (map_by_number f xs) ≡ length xs
map_by_number_length f [] = refl
map_by_number_length f (x ∷ xs) = ap suc (map_by_number_length (λ n. f (suc n)) xs)

-- one more at the end has the number of how many there were
pub map_by_number_push : {X Y : Type 0} (f : ℕ → X → Y) (xs : List X) (x : X) → map_by_number f (xs ++ x ∷ []) ≡ map_by_number f xs ++ f (length xs) x ∷ []
map_by_number_push f [] x = refl
map_by_number_push f (y ∷ xs) x = ap (λ l. f 0 y ∷ l) (map_by_number_push (λ n. f (suc n)) xs x)

-- what is made of each element is the same
pub map_by_number_same : {X Y : Type 0} (f g : ℕ → X → Y) (xs : List X) → ((n : ℕ) (x : X) → n < length xs → f n x ≡ g n x) → map_by_number f xs ≡ map_by_number g xs
map_by_number_same f g [] h = refl
map_by_number_same f g (x ∷ xs) h =
    ap (λ y. y ∷ map_by_number (λ n. f (suc n)) xs) (h 0 x (omega arith)) ∙
    ap (λ l. g 0 x ∷ l) (map_by_number_same (λ n. f (suc n)) (λ n. g (suc n)) xs (λ n y i. h (suc n) y (omega arith)))

-- names and axioms with marks by their numbers
abbrev pub designated : (ℕ → Bool) → List Designation → List Entity
designated f ds = map_by_number (λ n d. record { kind = d.kind; label = d.label; seeded = f n }) ds

abbrev pub forced : (ℕ → Bool) → List Rule → List Filing
forced f rs = map_by_number (λ k r. record { states = r; in_force = f k }) rs

-- the marks of g are those of f, but that of m, which is `on`
pub record Switched (f g : ℕ → Bool) (m : ℕ) (on : Bool) : Type 0 where
  pub there : g m ≡ on
  pub elsewhere : (n : ℕ) → n ≢ m → g n ≡ f n

-- the same, one number on
down : {f g : ℕ → Bool} (m : ℕ) {on : Bool} → Switched f g (suc m) on → Switched (λ n. f (suc n)) (λ n. g (suc n)) m on
down m s = record { there = s.there; elsewhere = λ n h. s.elsewhere (suc n) (omega arith) }

-- the name with that number is seeded or not, as `on` says
pub designated_switched : (f g : ℕ → Bool) (ds : List Designation) (m : ℕ) (on : Bool) → Switched f g m on → designated g ds ≡ reseed (designated f ds) m on
designated_switched f g [] m on s = refl
designated_switched f g (d ∷ ds) zero on s =
    ap₂ (λ b l. record { kind = d.kind; label = d.label; seeded = b } ∷ l) s.there
    (map_by_number_same _ _ ds (λ n x i. ap (λ b. record { kind = x.kind; label = x.label; seeded = b }) (s.elsewhere (suc n) (omega arith))))
designated_switched f g (d ∷ ds) (suc m) on s =
    ap₂ (λ b l. record { kind = d.kind; label = d.label; seeded = b } ∷ l) (s.elsewhere 0 (omega arith))
    (designated_switched (λ n. f (suc n)) (λ n. g (suc n)) ds m on (down m s))

-- the axiom with that number is in force or not, as `on` says
pub forced_switched : (f g : ℕ → Bool) (rs : List Rule) (k : ℕ) (on : Bool) → Switched f g k on → forced g rs ≡ reforce (forced f rs) k on
forced_switched f g [] k on s = refl
forced_switched f g (r ∷ rs) zero on s =
    ap₂ (λ b l. record { states = r; in_force = b } ∷ l) s.there
    (map_by_number_same _ _ rs (λ n x i. ap (λ b. record { states = x; in_force = b }) (s.elsewhere (suc n) (omega arith))))
forced_switched f g (r ∷ rs) (suc k) on s =
    ap₂ (λ b l. record { states = r; in_force = b } ∷ l) (s.elsewhere 0 (omega arith))
    (forced_switched (λ n. f (suc n)) (λ n. g (suc n)) rs k on (down k s))
