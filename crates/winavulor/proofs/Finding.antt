-- The name of a book that a word stands for.
use Rattle.std.proofs.Common.{◌≡◌, ◌≢◌, ◌<◌, ◌+◌, ℕ, suc, Bool, true, false, cond, not, ◌&&◌, List, [], ◌∷◌, ◌++◌, length, get_or, map, Some, None, refl, sym, ap, ap₂, ◌∙◌, eqb, ltb, arith}
use Rattle.std.proofs.lemmas.Bool.{or_from, or_parts, false_from_ne_true, true≢false, eqb-true, ltb-true}
use Rattle.std.proofs.lemmas.Slice.Eq.{bytes_eq-Decides}
use Rattle.std.specs.List.{list_any, position, prefix_len}
use Rattle.std.specs.Str.{bytes_eq}
use Rattle.vocabulary.specs.declared.kind.Kind.{Kind}
use Rattle.vocabulary.specs.declared.kind.Kind.TheVariants.{Concept, Role, Individual}
use Rattle.vocabulary.specs.declared.name.Name.{Name}
use Rattle.vocabulary.specs.Entities.{Entity, entity, is_named}
use Rattle.vocabulary.specs.Kinds.{kind_text, same_kind}
use Rattle.winavulor.specs.Words.{name_of_word, name_word}

-- two tests that agree along a list find the same place
module _ {X Y : Type 0} (f : X → Y) (p : X → Bool) (q : Y → Bool) (same : (x : X) → p x ≡ q (f x)) where
  failing : (xs : List X) → prefix_len (λ x. not (p x)) xs ≡ prefix_len (λ y. not (q y)) (map f xs)
  failing [] = refl
  failing (x ∷ xs) = ap₂ (λ b n. cond (not b) (1 + n) 0) (same x) (failing xs)

  as_many : (xs : List X) → length xs ≡ length (map f xs)
  as_many [] = refl
  as_many (x ∷ xs) = ap suc (as_many xs)

  place : (xs : List X) → position p xs ≡ position q (map f xs)
  place xs = ap₂ (λ n m. cond (ltb n m) (Some n) None) (failing xs) (as_many xs)

-- a test that nothing passes finds no place
module _ {X : Type 0} (p : X → Bool) (fails : (x : X) → p x ≡ false) where
  all_failing : (xs : List X) → prefix_len (λ x. not (p x)) xs ≡ length xs
  all_failing [] = refl
  all_failing (x ∷ xs) =
      let rest : 1 + prefix_len (λ y. not (p y)) xs ≡ suc (length xs) = let e = all_failing xs in omega arith in
      ap (λ b. cond (not b) (1 + prefix_len (λ y. not (p y)) xs) 0) (fails x) ∙ rest

  not_below : (n : ℕ) → ltb n n ≡ false
  not_below n = false_from_ne_true (ltb n n) (λ h. omega (arith, ltb-true n n h))

  no_place : (xs : List X) → position p xs ≡ None
  no_place xs =
      ap (λ n. cond (ltb n (length xs)) (Some n) None) (all_failing xs)
      ∙ ap (λ b. cond b (Some (length xs)) None) (not_below (length xs))

-- the first byte of a kind's text tells the kinds apart
same_test : (j k : Kind) (m l : List ℕ) → (same_kind j k && bytes_eq m l) ≡ bytes_eq (kind_text j ++ 58 ∷ m) (kind_text k ++ 58 ∷ l)
same_test Concept Concept m l = refl
same_test Concept Role m l = refl
same_test Concept Individual m l = refl
same_test Role Concept m l = refl
same_test Role Role m l = refl
same_test Role Individual m l = refl
same_test Individual Concept m l = refl
same_test Individual Role m l = refl
same_test Individual Individual m l = refl

-- the first of the names with this kind and this label is the one with the word a:l, where a is the kind's
pub of_kind : (ns : List Name) (es : List Entity) (k : Kind) (w a l : List ℕ) → map entity ns ≡ es → a ≡ kind_text k → w ≡ a ++ 58 ∷ l → position (λ n. is_named k l (entity n)) ns ≡ name_of_word es w
of_kind ns es k w a l all at split =
    place entity (λ n. is_named k l (entity n)) (λ e. bytes_eq (name_word e) (kind_text k ++ 58 ∷ l)) (λ n. same_test (entity n).kind k (entity n).label l) ns
    ∙ ap₂ (λ t x. name_of_word t x) all (sym (split ∙ ap (λ t. t ++ 58 ∷ l) at))

abbrev colon : ℕ → Bool
colon b = eqb b 58

-- none of the bytes is a colon
abbrev pub Plain : List ℕ → Type 0
Plain w = (i : ℕ) → i < length w → get_or w i 0 ≢ 58

plain : (w : List ℕ) → Plain w → list_any colon w ≡ false
plain [] h = refl
plain (b ∷ bs) h =
    or_from (colon b) (list_any colon bs)
    (false_from_ne_true (colon b) (λ e. h 0 (omega arith) (eqb-true b 58 e)))
    (plain bs (λ i below. h (suc i) (omega (arith, below))))

plain_kind : (k : Kind) → list_any colon (kind_text k) ≡ false
plain_kind Concept = refl
plain_kind Role = refl
plain_kind Individual = refl

has_colon : (k : Kind) (m : List ℕ) → list_any colon (kind_text k ++ 58 ∷ m) ≡ true
has_colon Concept m = refl
has_colon Role m = refl
has_colon Individual m = refl

-- a text is cut at its first colon in one way
cut_once : (a b l m : List ℕ) → list_any colon a ≡ false → list_any colon b ≡ false → a ++ 58 ∷ l ≡ b ++ 58 ∷ m → a ≡ b
cut_once [] [] l m pa pb e = refl
cut_once [] (y ∷ b) l m pa pb e =
    let same : 58 ≡ y = cc in
    let p = or_parts (colon y) (list_any colon b) pb in
    let on : true ≡ colon y = ap colon same in
    absurd (true≢false (on ∙ p.0))
cut_once (x ∷ a) [] l m pa pb e =
    let same : 58 ≡ x = cc in
    let p = or_parts (colon x) (list_any colon a) pa in
    let on : true ≡ colon x = ap colon same in
    absurd (true≢false (on ∙ p.0))
cut_once (x ∷ a) (y ∷ b) l m pa pb e =
    let head : x ≡ y = cc in
    let tail : a ++ 58 ∷ l ≡ b ++ 58 ∷ m = cc in
    let p = or_parts (colon x) (list_any colon a) pa in
    let q = or_parts (colon y) (list_any colon b) pb in
    ap₂ (λ z t. z ∷ t) head (cut_once a b l m p.1 q.1 tail)

-- no name has a word that differs from it
no_name : (es : List Entity) (w : List ℕ) → ((e : Entity) → name_word e ≢ w) → None ≡ name_of_word es w
no_name es w other = sym (no_place (λ e. bytes_eq (name_word e) w) (λ e. false_from_ne_true (bytes_eq (name_word e) w) (λ h. other e ((bytes_eq-Decides (name_word e) w).0 h))) es)

pub of_no_colon : (es : List Entity) (w : List ℕ) → Plain w → None ≡ name_of_word es w
of_no_colon es w h = no_name es w (λ e same. true≢false (sym (has_colon e.kind e.label) ∙ (ap (list_any colon) same ∙ plain w h)))

pub of_no_kind : (es : List Entity) (w a l : List ℕ) → Plain a → ((k : Kind) → a ≢ kind_text k) → w ≡ a ++ 58 ∷ l → None ≡ name_of_word es w
of_no_kind es w a l h none split = no_name es w (λ e same. none e.kind (sym (cut_once (kind_text e.kind) a e.label l (plain_kind e.kind) (plain a h) (same ∙ split))))
