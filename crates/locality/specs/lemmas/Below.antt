-- Whether some number below n passes a test, and how many do.
use Rattle.std.specs.Prelude.{◌≡◌, ℕ, zero, suc, ◌<◌, ◌≤◌, Bool, true, false, ◌&&◌, ◌||◌, refl}
use Rattle.std.proofs.Common.{ap₂, ⊎_elim, arith}
use Rattle.std.proofs.lemmas.Bool.{cases_Bool, and_from, or_cases, or_from, or_left, or_right}
use Rattle.locality.specs.Meaning.{some_below, count_below}

-- a test that no number passes
pub some_none : (n : ℕ) (p : ℕ → Bool) → ((y : ℕ) → y < n → p y ≡ false) → some_below n p ≡ false
some_none zero p h = refl
some_none (suc n) p h = or_from _ _ (h n (omega arith)) (some_none n p (λ y k. h y (omega arith)))

pub count_none : (n : ℕ) (p : ℕ → Bool) → ((y : ℕ) → y < n → p y ≡ false) → count_below n p ≡ 0
count_none zero p h = refl
count_none (suc n) p h = let k : n < suc n = omega arith in rw (h n k, count_none n p (λ y l. h y (omega arith))) refl

-- a test that all pass
pub some_all : (n : ℕ) (p : ℕ → Bool) → 0 < n → ((y : ℕ) → y < n → p y ≡ true) → some_below n p ≡ true
some_all zero p k h = absurd (omega arith)
some_all (suc n) p k h = or_left _ _ (h n (omega arith))

-- two tests that are alike
pub some_alike : (n : ℕ) (p q : ℕ → Bool) → ((y : ℕ) → y < n → p y ≡ q y) → some_below n p ≡ some_below n q
some_alike zero p q h = refl
some_alike (suc n) p q h = ap₂ ◌||◌ (h n (omega arith)) (some_alike n p q (λ y k. h y (omega arith)))

-- one of two tests that all pass
pub some_with : (n : ℕ) (p q : ℕ → Bool) → ((y : ℕ) → y < n → q y ≡ true) → some_below n p ≡ true → some_below n (λ y. p y && q y) ≡ true
some_with zero p q h s = s
some_with (suc n) p q h s =
    ⊎_elim
    (λ k. or_left _ _ (and_from (p n) (q n) k (h n (omega arith))))
    (λ k. or_right _ _ (some_with n p q (λ y l. h y (omega arith)) k))
    (or_cases (p n) _ s)

-- no more pass the stricter of two tests
pub count_fewer : (n : ℕ) (p q : ℕ → Bool) → ((y : ℕ) → y < n → p y ≡ true → q y ≡ true) → count_below n p ≤ count_below n q
count_fewer zero p q h = omega arith
count_fewer (suc n) p q h =
    let below = count_fewer n p q (λ y k. h y (omega arith)) in
    ⊎_elim
    (λ e. let is = h n (omega arith) e in rw (e, is) omega arith)
    (λ e. rw e omega arith)
    (cases_Bool (p n))

-- so if too few pass the other
pub count_short : (n k : ℕ) (p q : ℕ → Bool) → ((y : ℕ) → y < n → p y ≡ true → q y ≡ true) → count_below n q < k → count_below n p < k
count_short n k p q h few = let fewer = count_fewer n p q h in omega arith
