-- Going through the axioms of a book.
use Rattle.std.proofs.Common.{◌≡◌, ℕ, ◌+◌, ◌<◌, ◌≤◌, Bool, true, false, ◌&&◌, ◌||◌, eqb, ltb, List, length, get_or, set, Some, Option, sym, refl, ap, ◌∙◌, ap₂, ⊎_elim, add-one, arith, length-set, get_or-set_other, get_or-set_same}
use mathlib.Core.Path.{fun_ext}
use denote.Ref.{Bor}
use Rattle.std.specs.declared.iter.Zip.{Zip}
use Rattle.std.specs.declared.slice.Iter.{Iter}
use Rattle.std.specs.Iterator.{Yields}
use Rattle.std.specs.Iterator.Adapters.{zip_first, zip_second}
use Rattle.std.specs.Slice.Iter.{iter_rest}
use Rattle.std.proofs.iter.Yields.{fronts}
use Rattle.std.proofs.lemmas.Iterator.{zips}
use Rattle.std.proofs.lemmas.Slice.Zip.{zip_turn}
use lib.ListN.{length-map}
use Rattle.std.proofs.Math.Bool.{or_assoc, or-false}
use Rattle.std.proofs.lemmas.Bool.{cases_eq, cases_order, eq-eqb, ne_eqb, and_right, and_from, or_right, lt-ltb, le-ltb}
use Rattle.vocabulary.specs.declared.name.NameId.{NameId}
use Rattle.vocabulary.specs.Entities.{entity}
use Rattle.terms.specs.declared.table.Terms.{Terms}
use Rattle.terms.specs.Forms.{rule}
use Rattle.terms.specs.Tables.{nodes_of}
use Rattle.book.specs.declared.book.Book.{Book}
use Rattle.book.specs.declared.book.Filed.{Filed}
use Rattle.book.specs.Calls.{contents}
use Rattle.book.specs.Contents.{Contents}
use Rattle.locality.specs.Meaning.{some_below}
use Rattle.locality.specs.Mentions.{in_rule}
use Rattle.locality.specs.Flags.{set_of, listed_in}
use Rattle.locality.specs.Worlds.{Names}
use Rattle.extraction.specs.Listing.{Adds}
use Rattle.extraction.specs.Sets.{Marks, axiom_count, rule_at, signature, closed_signature}
use Rattle.extraction.specs.Visits.{chosen_below, ListedTo, MarkedTo}
use Rattle.extraction.proofs.Filling.{filed_at, axioms_number}
use Rattle.extraction.specs.lemmas.Names.{rule_names}

-- every name in an axiom of a book has a flag in a table
pub rule_room : (b : Book) (k : ℕ) (n : NameId) → in_rule (rule_at (contents b) k) n ≡ true → n.0 < 1024
rule_room b k n h =
    omega (arith, rule_names (contents b) b.right k n h, length-map b.names.names entity, b.names.few)

-- the axiom that stands at a number
pub rule_at_number : (b : Book) (items : List Filed) (ts : Terms) (k : ℕ) (d : Filed) → items ≡ b.axioms → ts ≡ b.terms → k < length items → rule (nodes_of ts) (get_or items k d).«axiom» ≡ rule_at (contents b) k
rule_at_number b items ts k d at table h =
    ap₂ (λ xs t. rule (nodes_of t) (get_or xs k d).«axiom») at table ∙ sym (ap (λ f. f.states) (filed_at (nodes_of b.terms) b.axioms k d (rw (sym at) h)))

-- the axiom with a number, and its flag in a table
pub record Visited (b : Book) (flags : List Bool) (k : ℕ) (filed : Filed) (flag : Bool) : Type 0 where
  pub inside : k < length b.axioms
  pub is : (d : Filed) → filed ≡ get_or b.axioms k d
  pub flag_is : flag ≡ set_of flags k

-- those that come next, where a loop goes through a book's axioms beside a table
pub visit_turn : (b : Book) (flags : List Bool) (xs : List (Bor Filed × Bor Bool)) (s t u : Zip (Iter Filed) (Iter Bool)) (r : Option (Bor Filed × Bor Bool)) → iter_rest (zip_first s) ≡ b.axioms → iter_rest (zip_second s) ≡ flags → Yields (zips fronts fronts) s xs t → (p : Bor Filed × Bor Bool) → r ≡ Some p → zips fronts fronts t r u → Visited b flags (length xs) p.0.now p.1.now
visit_turn b flags xs s t u r first second so_far p some step =
    let turn = zip_turn b.axioms flags xs s t u r first second so_far p some step in
    record { inside = turn.0; is = turn.2; flag_is = turn.3 false }

module _ (b : Contents) (chosen : Marks) (before : Names) where
  -- no axiom yet
  pub list_start : (xs : List Bool) → length xs ≡ 1024 → before ≡ listed_in xs → ListedTo b 0 chosen before xs
  list_start xs l e = record { room = l; names = sym e ∙ fun_ext (λ n. sym (or-false (before n))) }

  -- an axiom that is not chosen
  pub list_skip : (i : ℕ) (xs : List Bool) → chosen i ≡ false → ListedTo b i chosen before xs → ListedTo b (i + 1) chosen before xs
  list_skip i xs out so = record {
    room = so.room;
    names = so.names ∙ fun_ext (λ n. ap (λ t. before n || t) (rw (add-one, out) refl));
  }

  -- a name of the chosen axiom, or of those before it
  regroup : (a s l r : Bool) → (r ≡ true → l ≡ true) → ((a || s) || (l && r)) ≡ (a || (r || s))
  regroup true s l r h = refl
  regroup false true l true h = refl
  regroup false true l false h = refl
  regroup false false l true h = ap (λ t. t && true) (h refl)
  regroup false false true false h = refl
  regroup false false false false h = refl

  -- an axiom that is chosen
  pub list_next : (i : ℕ) (xs ys : List Bool) → ((n : NameId) → in_rule (rule_at b i) n ≡ true → n.0 < 1024) → chosen i ≡ true → Adds (in_rule (rule_at b i)) xs ys → ListedTo b i chosen before xs → ListedTo b (i + 1) chosen before ys
  list_next i xs ys small into adds so = record {
    room = adds.flags ∙ so.room;
    names = fun_ext (λ n.
        adds.listed n ∙ ap₂ (λ t m. t || (ltb n.0 m && in_rule (rule_at b i) n)) (ap (λ f. f n) so.names) so.room
        ∙ regroup (before n) _ (ltb n.0 1024) (in_rule (rule_at b i) n) (λ h. lt-ltb n.0 1024 (small n h))
        ∙ ap (λ t. before n || t) (rw (add-one, into) refl));
  }

-- the loop has come to the end
pub all_visited : (b : Book) (items : List Filed) (i : ℕ) → items ≡ b.axioms → i ≤ length items → length items ≤ i → i ≡ axiom_count (contents b)
all_visited b items i at most least = omega (arith, axioms_number b, ap length at)

pub list_all : (b : Contents) (chosen : Marks) (before : Names) (i j : ℕ) (xs : List Bool) → i ≡ j → ListedTo b i chosen before xs → ListedTo b j chosen before xs
list_all b chosen before i j xs e so = rw (sym e) so

-- the signature with the names of all axioms of a set
pub list_closed : (b : Contents) (s kept : Marks) (before : Names) (xs : List Bool) → before ≡ signature b → kept ≡ s → ListedTo b (axiom_count b) kept before xs → listed_in xs ≡ closed_signature b s
list_closed b s kept before xs names axioms so =
    so.names ∙ ap₂ (λ f g. λ n. f n || some_below (axiom_count b) (λ k. g k && in_rule (rule_at b k) n)) names axioms

-- a set with a number more
set_more : (flags : List Bool) (i : ℕ) → i < length flags → (k : ℕ) → set_of (set flags i true) k ≡ (set_of flags k || eqb k i)
set_more flags i h k = ⊎_elim
    (λ z. ap (λ j. set_of (set flags i true) j) z ∙ get_or-set_same flags i true false h ∙ sym (or_right _ _ (eq-eqb k i z)))
    (λ z. get_or-set_other flags i k true false z ∙ sym (or-false _) ∙ ap (λ t. set_of flags k || t) (sym (ne_eqb k i z)))
    (cases_eq k i)

-- the numbers up to i are those below it, and i
below_more : (i : ℕ) (chosen : Marks) (k : ℕ) → chosen_below (i + 1) chosen k ≡ (chosen_below i chosen k || (eqb k i && chosen k))
below_more i chosen k = ⊎_elim
    (λ z. ap (λ t. t && chosen k) (lt-ltb k (i + 1) (omega arith)) ∙ sym (ap₂ (λ t u. (t && chosen k) || (u && chosen k)) (le-ltb k i (omega arith)) (eq-eqb k i z)))
    (⊎_elim
    (λ l. ap (λ t. t && chosen k) (lt-ltb k (i + 1) (omega arith)) ∙ sym (ap₂ (λ t u. (t && chosen k) || (u && chosen k)) (lt-ltb k i l) (ne_eqb k i (λ z. absurd (omega arith))) ∙ or-false (chosen k)))
    (λ l. ap (λ t. t && chosen k) (le-ltb k (i + 1) (omega arith)) ∙ sym (ap₂ (λ t u. (t && chosen k) || (u && chosen k)) (le-ltb k i (omega arith)) (ne_eqb k i (λ z. absurd (omega arith))))))
    (cases_order k i)

module _ (b : Contents) (chosen marked : Marks) (before : Names) where
  -- the axiom that is next is not marked yet, unless it was from the beginning
  pub mark_at : (i : ℕ) (kept xs : List Bool) (any : Bool) → MarkedTo b i chosen marked before kept xs any → set_of kept i ≡ marked i
  mark_at i kept xs any so = so.axioms i ∙ ap (λ t. marked i || (t && chosen i)) (le-ltb i i (omega arith)) ∙ or-false (marked i)

  -- an axiom that is not chosen
  pub mark_skip : (i : ℕ) (kept xs : List Bool) (any : Bool) → chosen i ≡ false → MarkedTo b i chosen marked before kept xs any → MarkedTo b (i + 1) chosen marked before kept xs any
  mark_skip i kept xs any out so = record {
    room = so.room;
    axioms = λ k. so.axioms k ∙ ap (λ t. marked k || t) (sym (below_more i chosen k ∙ ap (λ t. chosen_below i chosen k || t) (skipped k) ∙ or-false _));
    names = list_skip b chosen before i xs out so.names;
    some = so.some ∙ rw (add-one, out) refl;
  }
    where
      skipped : (k : ℕ) → (eqb k i && chosen k) ≡ false
      skipped k = ⊎_elim (λ z. and_right _ _ (ap chosen z ∙ out)) (λ z. ap (λ t. t && chosen k) (ne_eqb k i z)) (cases_eq k i)

  -- an axiom that is chosen
  pub mark_next : (i : ℕ) (kept xs ys : List Bool) (any : Bool) → i < 1024 → ((n : NameId) → in_rule (rule_at b i) n ≡ true → n.0 < 1024) → chosen i ≡ true → Adds (in_rule (rule_at b i)) xs ys → MarkedTo b i chosen marked before kept xs any → MarkedTo b (i + 1) chosen marked before (set kept i true) ys true
  mark_next i kept xs ys any h small into adds so = record {
    room = length-set kept i true ∙ so.room;
    axioms = λ k.
        set_more kept i (rw so.room h) k ∙ ap (λ t. t || eqb k i) (so.axioms k) ∙ or_assoc (marked k) _ _ ∙ ap (λ t. marked k || (chosen_below i chosen k || t)) (chosen_at k) ∙ ap (λ t. marked k || t) (sym (below_more i chosen k));
    names = list_next b chosen before i xs ys small into adds so.names;
    some = rw (add-one, into) refl;
  }
    where
      chosen_at : (k : ℕ) → eqb k i ≡ (eqb k i && chosen k)
      chosen_at k = ⊎_elim (λ z. eq-eqb k i z ∙ sym (and_from _ _ (eq-eqb k i z) (ap chosen z ∙ into))) (λ z. ne_eqb k i z ∙ sym (ap (λ t. t && chosen k) (ne_eqb k i z))) (cases_eq k i)
