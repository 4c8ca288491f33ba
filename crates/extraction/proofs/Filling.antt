-- Filling a table of flags from its first on.
use Rattle.std.proofs.Common.{◌≡◌, ℕ, zero, suc, ◌+◌, ◌<◌, Bool, true, false, ◌&&◌, ltb, List, [], ◌∷◌, map, length, get_or, set, replicate, sym, refl, ap, ◌∙◌, ap₂, ⊎_elim, arith, length-set, get_or-set_other, get_or-set_same}
use mathlib.Core.Path.{fun_ext}
use lib.ListN.{length-map, get_or-eq_default}
use Rattle.std.proofs.lemmas.Bool.{and_right, both_ways, cases_Bool, cases_lt, cases_order, lt-ltb, le-ltb}
use Rattle.vocabulary.specs.Entities.{entity}
use Rattle.vocabulary.specs.declared.name.Name.{Name}
use Rattle.terms.specs.Tables.{nodes_of}
use Rattle.book.specs.declared.book.Book.{Book}
use Rattle.book.specs.declared.book.Filed.{Filed}
use Rattle.book.specs.Calls.{contents}
use Rattle.book.specs.Contents.{filing}
use Rattle.terms.specs.declared.term.Term.{Term}
use Rattle.locality.specs.Flags.{set_of}
use Rattle.extraction.specs.Listing.{FilledTo}
use Rattle.extraction.specs.Sets.{Marks, no_filing, no_entity, axiom_count}

-- a table of false flags holds nothing
pub blank_none : (n k : ℕ) → set_of (replicate n false) k ≡ false
blank_none zero k = refl
blank_none (suc n) zero = refl
blank_none (suc n) (suc k) = blank_none n k

pub fill_start : (s : Marks) → FilledTo 0 s (replicate 1024 false)
fill_start s = record { room = refl; flag = λ k. blank_none 1024 k ∙ sym (ap (λ b. b && s k) (le-ltb k 0 (omega arith))) }

-- a flag in or out
in_or_out : (a b c : Bool) → a ≡ b → (a && c) ≡ (b && c)
in_or_out a b c e = ap (λ t. t && c) e

-- the next flag is set to whether its number is in the set
pub fill_next : (flags : List Bool) (i : ℕ) (v : Bool) (s : Marks) → i < 1024 → v ≡ s i → FilledTo i s flags → FilledTo (i + 1) s (set flags i v)
fill_next flags i v s l1024 e so = let h : i < length flags = rw so.room l1024 in record {
  room = length-set flags i v ∙ so.room;
  flag = λ k. ⊎_elim
      (λ z. ap (λ j. get_or (set flags i v) j false) z ∙ get_or-set_same flags i v false h ∙ e ∙ sym (ap s z) ∙ sym (ap (λ b. b && s k) (lt-ltb k (i + 1) (omega arith))))
      (⊎_elim
      (λ l. get_or-set_other flags i k v false (λ z. absurd (omega arith)) ∙ so.flag k ∙ in_or_out _ _ _ (lt-ltb k i l ∙ sym (lt-ltb k (i + 1) (omega arith))))
      (λ l. get_or-set_other flags i k v false (λ z. absurd (omega arith)) ∙ so.flag k ∙ in_or_out _ _ _ (le-ltb k i (omega arith) ∙ sym (le-ltb k (i + 1) (omega arith)))))
      (cases_order k i);
}

-- nothing of the set is left
pub fill_done : (flags : List Bool) (i : ℕ) (s : Marks) → ((k : ℕ) → s k ≡ true → k < i) → FilledTo i s flags → set_of flags ≡ s
fill_done flags i s all so = fun_ext (λ k. so.flag k ∙ ⊎_elim (λ e. ap₂ ◌&&◌ (lt-ltb k i (all k e)) e ∙ sym e) (λ e. and_right (ltb k i) (s k) e ∙ sym e) (cases_Bool (s k)))

-- the flag that comes next is the one of its item
pub flag_at : {X : Type 0} (p : X → Bool) (xs : List X) (k : ℕ) (d : X) → k < length xs → set_of (map p xs) k ≡ p (get_or xs k d)
flag_at p [] k d h = absurd (omega arith)
flag_at p (x ∷ xs) zero d h = refl
flag_at p (x ∷ xs) (suc k) d h = flag_at p xs k d (omega arith)

-- no item is chosen past the last
pub flags_below : (flags : List Bool) (k : ℕ) → set_of flags k ≡ true → k < length flags
flags_below flags k h = ⊎_elim (λ l. l) (λ l. absurd (both_ways _ refl (sym (get_or-eq_default flags false l) ∙ h))) (cases_lt k (length flags))

-- the flags of a list, read off its view as a set
pub flags_of_names : (ns : List Name) (k : ℕ) → set_of (map (λ n. n.seeded) ns) k ≡ (get_or (map entity ns) k no_entity).seeded
flags_of_names [] k = refl
flags_of_names (n ∷ ns) zero = refl
flags_of_names (n ∷ ns) (suc k) = flags_of_names ns k

pub flags_of_axioms : (ts : List Term) (xs : List Filed) (k : ℕ) → set_of (map (λ f. f.in_force) xs) k ≡ (get_or (map (filing ts) xs) k no_filing).in_force
flags_of_axioms ts [] k = refl
flags_of_axioms ts (x ∷ xs) zero = refl
flags_of_axioms ts (x ∷ xs) (suc k) = flags_of_axioms ts xs k

-- an axiom in the book's list, and what it states and whether it is in force
pub filed_at : (ts : List Term) (xs : List Filed) (k : ℕ) (d : Filed) → k < length xs → get_or (map (filing ts) xs) k no_filing ≡ filing ts (get_or xs k d)
filed_at ts [] k d h = absurd (omega arith)
filed_at ts (x ∷ xs) zero d h = refl
filed_at ts (x ∷ xs) (suc k) d h = filed_at ts xs k d (omega arith)

-- how many axioms the book's list has
pub axioms_number : (b : Book) → axiom_count (contents b) ≡ length b.axioms
axioms_number b = length-map b.axioms (filing (nodes_of b.terms))
