-- Numbers below a bound that pass a test: whether there is one, and how many there are.
use Rattle.std.specs.Prelude.{◌≡◌, ℕ, zero, suc, ◌+◌, ◌<◌, ◌≤◌, Bool, true, false, cond, ◌||◌, refl}
use Rattle.std.proofs.Common.{ap, ap₂, ◌∙◌, ⊎_elim, arith}
use Rattle.std.proofs.lemmas.Bool.{both_ways, cases_Bool, cases_order, cond-true, cond-false, or_cases, or_left, or_right}
use Rattle.locality.specs.Meaning.{some_below, count_below}

-- where some number passes, here is one
pub some_at : (n : ℕ) (p : ℕ → Bool) → some_below n p ≡ true → (k : ℕ) × (k < n) × (p k ≡ true)
some_at zero p h = absurd (both_ways false refl h)
some_at (suc n) p h =
    ⊎_elim (λ e. (n, omega arith, e)) (λ e. let found = some_at n p e in (found.0, omega arith, found.2)) (or_cases (p n) _ h)

-- a number that passes is some number
pub some_from : (n : ℕ) (p : ℕ → Bool) (k : ℕ) → k < n → p k ≡ true → some_below n p ≡ true
some_from zero p k l h = absurd (omega arith)
some_from (suc n) p k l h =
    ⊎_elim (λ e. or_left _ _ (rw e at h)) (⊎_elim (λ e. or_right _ _ (some_from n p k e h)) (λ e. absurd (omega arith))) (cases_order k n)

-- where no number passes, none does
pub none_at : (n : ℕ) (p : ℕ → Bool) → some_below n p ≡ false → (k : ℕ) → k < n → p k ≡ false
none_at n p h k l = ⊎_elim (λ e. absurd (both_ways _ h (some_from n p k l e))) (λ e. e) (cases_Bool (p k))

-- two tests that agree below a bound
some_alike : (n : ℕ) (p q : ℕ → Bool) → ((k : ℕ) → k < n → p k ≡ q k) → some_below n p ≡ some_below n q
some_alike zero p q h = refl
some_alike (suc n) p q h = ap₂ ◌||◌ (h n (omega arith)) (some_alike n p q (λ k l. h k (omega arith)))

count_alike : (n : ℕ) (p q : ℕ → Bool) → ((k : ℕ) → k < n → p k ≡ q k) → count_below n p ≡ count_below n q
count_alike zero p q h = refl
count_alike (suc n) p q h =
    ap₂ (λ t m. cond t 1 0 + m) (h n (omega arith)) (count_alike n p q (λ k l. h k (omega arith)))

-- and so where the bound is written in two ways
pub some_same : (n m : ℕ) (p q : ℕ → Bool) → n ≡ m → ((k : ℕ) → k < m → p k ≡ q k) → some_below n p ≡ some_below m q
some_same n m p q e h = ap (λ i. some_below i p) e ∙ some_alike m p q h

pub count_same : (n m : ℕ) (p q : ℕ → Bool) → n ≡ m → ((k : ℕ) → k < m → p k ≡ q k) → count_below n p ≡ count_below m q
count_same n m p q e h = ap (λ i. count_below i p) e ∙ count_alike m p q h

-- a test counts no more than one that passes wherever it does
one_more : (a b : Bool) → (a ≡ true → b ≡ true) → cond a 1 0 ≤ cond b 1 0
one_more false b h = omega arith
one_more true b h = rw (h refl) (omega arith)

pub count_more : (n : ℕ) (p q : ℕ → Bool) → ((k : ℕ) → p k ≡ true → q k ≡ true) → count_below n p ≤ count_below n q
count_more zero p q h = omega arith
count_more (suc n) p q h = let here = one_more (p n) (q n) (h n) in let rest = count_more n p q h in omega arith

-- and less where the other passes a number that it fails
pub count_grows : (n : ℕ) (p q : ℕ → Bool) → ((k : ℕ) → p k ≡ true → q k ≡ true) → (k : ℕ) → k < n → p k ≡ false → q k ≡ true → count_below n p < count_below n q
count_grows zero p q h k l out into = absurd (omega arith)
count_grows (suc n) p q h k l out into =
    ⊎_elim
    (λ e.
    let before = cond-false {A = ℕ} (p n) 1 0 (rw e at out) in
    let after = cond-true {A = ℕ} (q n) 1 0 (rw e at into) in
    let rest = count_more n p q h in
    omega arith)
    (⊎_elim
    (λ e. let here = one_more (p n) (q n) (h n) in let rest = count_grows n p q h k e out into in omega arith)
    (λ e. absurd (omega arith)))
    (cases_order k n)

-- no more numbers pass than there are
pub count_most : (n : ℕ) (p : ℕ → Bool) → count_below n p ≤ n
count_most zero p = omega arith
count_most (suc n) p = let here = one_more (p n) true (λ _. refl) in let rest = count_most n p in omega arith
