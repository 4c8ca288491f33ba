-- Counting and writing flags one after the other.
use Rattle.std.proofs.Common.{◌≡◌, ℕ, zero, suc, ◌+◌, ◌<◌, ◌≤◌, Bool, true, false, cond, not, ◌&&◌, ◌||◌, map, List, [], ◌∷◌, length, get_or, set, take, ◌-◌, length-take-le, ap₂, sym, refl, ap, ◌∙◌, add-one, arith}
use mir.Val.{bool_byte}
use Rattle.std.proofs.lemmas.Bool.{both_ways}
use Rattle.std.specs.List.{list_any, count_by}
use Rattle.locality.specs.Meaning.{some_below, count_below}
use Rattle.extraction.specs.Marking.{bit, flags_over}
use lib.ListN.{length-map}
use Rattle.std.proofs.lemmas.List.Recursion.{is_count_by}
use Rattle.vocabulary.specs.declared.name.Name.{Name}
use Rattle.vocabulary.specs.Entities.{Entity, entity}
use Rattle.book.specs.Contents.{Contents}
use Rattle.std.proofs.lemmas.List.{get_or-take, map-id}
use Rattle.locality.specs.Flags.{set_of, by_number, listed_in}
use Rattle.extraction.specs.declared.tables.Tables.{Tables}
use Rattle.extraction.specs.Tallying.{ListsSeeded}
use Rattle.extraction.specs.lemmas.Below.{some_same, count_same}
use Rattle.extraction.specs.Sets.{no_entity, name_count, list_size, outsiders, signature}
use Rattle.extraction.proofs.Filling.{flags_of_names}

-- the first number apart from the others
first_some : (n : ℕ) (p : ℕ → Bool) → some_below (suc n) p ≡ (p 0 || some_below n (λ k. p (suc k)))
first_some zero p = refl
first_some (suc n) p = ap (λ t. p (suc n) || t) (first_some n p) ∙ swap (p (suc n)) (p 0) _
  where
    swap : (a b c : Bool) → (a || (b || c)) ≡ (b || (a || c))
    swap true true c = refl
    swap true false c = refl
    swap false b c = refl

first_count : (n : ℕ) (p : ℕ → Bool) → count_below (suc n) p ≡ cond (p 0) 1 0 + count_below n (λ k. p (suc k))
first_count zero p = refl
first_count (suc n) p = let rest = first_count n p in omega arith

module _ {X : Type 0} (test : X → Bool) where
  -- some number passes where some item does
  pub some_listed : (xs : List X) → some_below (length xs) (set_of (map test xs)) ≡ list_any test xs
  some_listed [] = refl
  some_listed (x ∷ xs) = first_some (length xs) (set_of (map test (x ∷ xs))) ∙ ap (λ t. test x || t) (some_listed xs)

  -- as many numbers pass as items do
  pub count_listed : (xs : List X) → count_by test xs ≡ count_below (length xs) (set_of (map test xs))
  count_listed xs = sym (is_count_by (λ l. count_below (length l) (set_of (map test l))) test refl (λ x l. first_count (length l) (set_of (map test (x ∷ l))) ∙ one_or_none (test x) _) xs)
    where
      one_or_none : (t : Bool) (n : ℕ) → cond t 1 0 + n ≡ cond t (1 + n) n
      one_or_none true n = refl
      one_or_none false n = omega arith

-- a set of flags is what its flags say
pub count_flagged : (flags : List Bool) → count_by (λ f. f) flags ≡ count_below (length flags) (set_of flags)
count_flagged flags = count_listed (λ f. f) flags ∙ ap (λ l. count_below (length flags) (set_of l)) (map-id flags)

-- what is in a set and not in a part of it
pub count_without : (n : ℕ) (s t : ℕ → Bool) → ((k : ℕ) → t k ≡ true → s k ≡ true) → count_below n (λ k. s k && not (t k)) + count_below n t ≡ count_below n s
count_without zero s t h = refl
count_without (suc n) s t h =
    let rest = count_without n s t h in
    let here = one (s n) (t n) (h n) in
    omega arith
  where
    one : (a b : Bool) → (b ≡ true → a ≡ true) → cond (a && not b) 1 0 + cond b 1 0 ≡ cond a 1 0
    one true true g = refl
    one true false g = refl
    one false true g = absurd (both_ways false refl (g refl))
    one false false g = refl

-- one byte more is written
pub flags_over-more : (n : ℕ) (s : ℕ → Bool) (bytes : List ℕ) → set (flags_over n s bytes) n (bit (s n)) ≡ flags_over (n + 1) s bytes
flags_over-more n s bytes = go n s bytes ∙ sym (rw add-one refl)
  where
    go : (n : ℕ) (s : ℕ → Bool) (bytes : List ℕ) → set (flags_over n s bytes) n (bit (s n)) ≡ flags_over (suc n) s bytes
    go zero s [] = refl
    go (suc n) s [] = refl
    go zero s (x ∷ bytes) = refl
    go (suc n) s (x ∷ bytes) = ap (λ l. bit (s 0) ∷ l) (go n (λ k. s (suc k)) bytes)

flags_over-alike : (n : ℕ) (s t : ℕ → Bool) (bytes : List ℕ) → ((k : ℕ) → k < n → s k ≡ t k) → flags_over n s bytes ≡ flags_over n t bytes
flags_over-alike zero s t bytes h = refl
flags_over-alike (suc n) s t [] h = refl
flags_over-alike (suc n) s t (x ∷ bytes) h = ap₂ (λ f l. bit f ∷ l) (h 0 (omega arith)) (flags_over-alike n _ _ bytes (λ k l. h (suc k) (omega arith)))

-- the byte of a flag
pub flag_byte : (t : Bool) → bool_byte t ≡ bit t
flag_byte true = refl
flag_byte false = refl

module _ (b : Contents) (ns : List Name) (e : map entity ns ≡ b.names) where
  seeded_at : (k : ℕ) → set_of (map (λ n. n.seeded) ns) k ≡ by_number (signature b) k
  seeded_at k = flags_of_names ns k ∙ ap (λ (es : List Entity). (get_or es k no_entity).seeded) e

  all_names : length ns ≡ name_count b
  all_names = sym (length-map ns entity) ∙ ap length e

  -- whether a name is seeded, and how many are
  pub seeded_some : list_any (λ n. n.seeded) ns ≡ some_below (name_count b) (by_number (signature b))
  seeded_some = sym (some_listed (λ n. n.seeded) ns) ∙ some_same _ _ _ _ all_names (λ k l. seeded_at k)

  pub seeded_count : count_by (λ n. n.seeded) ns ≡ list_size b (signature b)
  seeded_count = count_listed (λ n. n.seeded) ns ∙ count_same _ _ _ _ all_names (λ k l. seeded_at k)

-- the first flags of a table, counted and written as far as they go
module _ (flags : List Bool) (n : ℕ) (h : n ≤ length flags) where
  all_taken : length (take n flags) ≡ n
  all_taken = length-take-le n flags h

  taken_at : (k : ℕ) → k < n → set_of (take n flags) k ≡ set_of flags k
  taken_at k l = get_or-take n flags k false l

  pub count_taken : count_below (length (take n flags)) (set_of (take n flags)) ≡ count_below n (set_of flags)
  count_taken = count_same _ _ _ _ all_taken taken_at

  pub flags_over-taken : (bytes : List ℕ) → flags_over (length (take n flags)) (set_of (take n flags)) bytes ≡ flags_over n (set_of flags) bytes
  flags_over-taken bytes = ap (λ m. flags_over m (set_of (take n flags)) bytes) all_taken ∙ flags_over-alike n _ _ bytes taken_at

-- the names that are listed and not seeded
pub drawn_without : (b : Contents) (t : Tables) (closed seeded : ℕ) → ListsSeeded b t → closed ≡ count_below (name_count b) (set_of t.closed) → seeded ≡ list_size b (signature b) → (seeded ≤ closed) × (closed - seeded ≡ list_size b (outsiders b (listed_in t.closed)))
drawn_without b t closed seeded lists c s =
    let all = count_without (name_count b) (set_of t.closed) (by_number (signature b)) lists in
    (omega arith, omega arith)
