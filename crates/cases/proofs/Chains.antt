-- A stage followed round by round on a book, by what is marked after each round.
use Rattle.std.proofs.Common.{◌≡◌, ℕ, zero, suc, ◌<◌, ◌≤◌, Bool, true, false, not, ◌&&◌, eqb, ltb, ◌≢◌, List, [], ◌∷◌, length, get_or, sym, refl, ap, ◌∙◌, subst, ⊎_elim, arith}
use mathlib.Core.Path.{fun_ext}
use Rattle.std.proofs.lemmas.Bool.{not-true, and_parts, or_from, and_left, ltb-true, eqb-true, eqb-false, ne_eqb, cases_lt}
use Rattle.std.specs.List.{list_all}
use Rattle.terms.specs.Forms.{Rule}
use Rattle.book.specs.Contents.{Contents, Filing}
use Rattle.locality.specs.Worlds.{Names}
use Rattle.extraction.specs.Rounds.{Finish, marks_more, after_round, rounds_from, stage_finish}
use Rattle.extraction.specs.Sets.{Marks, axiom_count, no_filing, is_in_force}
use Rattle.cases.specs.Example.{among}

-- two tests have the same answer
abbrev same : Bool → Bool → Bool
same true b = b
same false b = not b

-- two sets agree on each number below n
abbrev agree : ℕ → Marks → Marks → Bool
agree zero f g = true
agree (suc n) f g = same (f n) (g n) && agree n f g

-- and so they are equal
is_same : (a b : Bool) → same a b ≡ true → a ≡ b
is_same true b e = sym e
is_same false b e = sym (not-true b e)

-- at any of those numbers
agree_at : (n : ℕ) (f g : Marks) → agree n f g ≡ true → (k : ℕ) → k < n → f k ≡ g k
agree_at zero f g e k h = absurd (omega arith)
agree_at (suc n) f g e k h =
    let p = and_parts (same (f n) (g n)) (agree n f g) e in
    go (eqb k n) refl (is_same (f n) (g n) p.0) (agree_at n f g p.1 k)
  where
    go : (t : Bool) → eqb k n ≡ t → f n ≡ g n → (k < n → f k ≡ g k) → f k ≡ g k
    go true q here below = subst (λ m. f m ≡ g m) (sym (eqb-true k n q)) here
    go false q here below = below (let ne : k ≢ n = eqb-false k n q in omega arith)

-- numbers below n, and so none from n on
abbrev within : ℕ → List ℕ → Bool
within n ks = list_all (λ k. ltb k n) ks

pub among_past : (n : ℕ) (ks : List ℕ) → within n ks ≡ true → (k : ℕ) → n ≤ k → among ks k ≡ false
among_past n [] e k h = refl
among_past n (j ∷ ks) e k h =
    let p = and_parts (ltb j n) (within n ks) e in
    or_from (eqb k j) (among ks k) (ne_eqb k j (λ q. omega (arith, q, h, ltb-true j n p.0))) (among_past n ks p.1 k h)

-- no axiom past the last one is in force
pub in_force_past : (b : Contents) (k : ℕ) → axiom_count b ≤ k → is_in_force b k ≡ false
in_force_past b k h = go b.axioms k h
  where
    go : (fs : List Filing) (j : ℕ) → length fs ≤ j → (get_or fs j no_filing).in_force ≡ false
    go [] j i = refl
    go (f ∷ fs) zero i = absurd (omega arith)
    go (f ∷ fs) (suc j) i = go fs j (omega arith)

-- what is marked after the last of some rounds that begin with xs
abbrev pub final : List ℕ → List (List ℕ) → List ℕ
final xs [] = xs
final xs (ys ∷ rounds) = final ys rounds

module _ (b : Contents) (local : Rule → Names → Bool) (handed : Marks) where
  -- after xs the rounds come to these sets, one after the other, and then none marks an axiom
  abbrev pub follows : List ℕ → List (List ℕ) → Bool
  follows xs [] = not (marks_more b local handed (among xs))
  follows xs (ys ∷ rounds) =
      marks_more b local handed (among xs) &&
      (within (axiom_count b) ys && (agree (axiom_count b) (after_round b local handed (among xs)) (among ys) && follows ys rounds))

  module _ (past : (k : ℕ) → axiom_count b ≤ k → handed k ≡ false) where
    -- one round
    round : (xs ys : List ℕ) → within (axiom_count b) xs ≡ true → within (axiom_count b) ys ≡ true → agree (axiom_count b) (after_round b local handed (among xs)) (among ys) ≡ true → after_round b local handed (among xs) ≡ among ys
    round xs ys hx hy e = fun_ext (λ k. ⊎_elim
        (λ h. agree_at (axiom_count b) (after_round b local handed (among xs)) (among ys) e k h)
        (λ h. or_from _ _ (among_past _ xs hx k h) (and_left _ _ (past k h)) ∙ sym (among_past _ ys hy k h))
        (cases_lt k (axiom_count b)))

    -- the rounds from xs on
    rounds_are : (most : ℕ) (xs : List ℕ) (rounds : List (List ℕ)) → length rounds < most → within (axiom_count b) xs ≡ true → follows xs rounds ≡ true → rounds_from b local handed most (among xs) ≡ record { marked = among (final xs rounds); rounds = suc (length rounds) }
    rounds_are zero xs rounds h w e = absurd (omega arith)
    rounds_are (suc most) xs [] h w e = rw (not-true _ e, rounds_from) refl
    rounds_are (suc most) xs (ys ∷ rounds) h w e =
        let p = and_parts (marks_more b local handed (among xs)) _ e in
        let q = and_parts (within (axiom_count b) ys) _ p.1 in
        let r = and_parts (agree (axiom_count b) (after_round b local handed (among xs)) (among ys)) _ q.1 in
        let on = ap (rounds_from b local handed most) (round xs ys w q.0 r.0) ∙ rounds_are most ys rounds (omega arith) q.0 r.1 in
        rw (p.0, rounds_from) (ap (λ (f : Finish). record { marked = f.marked; rounds = suc f.rounds }) on)

    -- the whole stage
    pub stage_is : (rounds : List (List ℕ)) → length rounds ≤ axiom_count b → follows [] rounds ≡ true → stage_finish b local handed ≡ record { marked = among (final [] rounds); rounds = suc (length rounds) }
    unfolding stage_finish
    stage_is rounds h e = rounds_are (suc (axiom_count b)) [] rounds (omega arith) refl e
