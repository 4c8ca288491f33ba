-- What is written as records is read as those records, and the other way round.
use Rattle.std.proofs.Common.{◌≡◌, ℕ, zero, suc, ◌+◌, ◌*◌, ◌/◌, ◌%◌, ◌<◌, ◌≤◌, Bool, true, false, cond, leb, ltb, List, [], ◌∷◌, ◌++◌, length, get_or, take, drop, Some, None, sym, refl, ap, ◌∙◌, subst, ap₂, arith, length-append, length-take, take-append-drop, drop-drop, take_at, drop_at, lt-ltb, Fits, w8}
use Rattle.std.proofs.lemmas.Bool.{le-leb, leb-true, ltb-true, and_parts, and_from, cond-true}
use Rattle.terms.specs.Numbers.{number_of, two_bytes}
use Rattle.terms.proofs.Numbers.{two_bytes_are}
use Rattle.records.specs.Files.{all_bytes, Entry, record_length, record_bytes, file_bytes, record_behind, first_record, after_entry, entries_from, entries_of}

-- ---- written, then read

-- the two parts of a number
pub two_parts : (n : ℕ) → n % 256 + 256 * (n / 256) ≡ n
two_parts n = omega arith

-- how many bytes a record has
pub length-record_bytes : (e : Entry) (rest : List ℕ) → length (record_bytes e ++ rest) ≡ record_length e + length rest
length-record_bytes e rest = omega (arith, length-append e.body rest)

-- a record that is written is the one that is read
pub first_record-record_bytes : (e : Entry) (rest : List ℕ) → first_record (record_bytes e ++ rest) ≡ Some e
first_record-record_bytes e rest =
    ap₂ (λ s k. record_behind s k (e.body ++ rest)) (two_parts (length e.body)) (two_parts e.kind) ∙
    cond-true _ _ _ (le-leb (length e.body) (length (e.body ++ rest)) (omega (arith, length-append e.body rest))) ∙
    ap (λ b. Some (record { kind = e.kind; body = b })) (take_at e.body rest (length e.body) refl)

-- and what follows it follows
pub drop-record_bytes : (e : Entry) (rest : List ℕ) → drop (record_length e) (record_bytes e ++ rest) ≡ rest
drop-record_bytes e rest = drop_at (record_bytes e) rest (record_length e) (omega arith)

-- no file has more records than bytes
pub records_few : (es : List Entry) → length es ≤ length (file_bytes es)
records_few [] = omega arith
records_few (e ∷ es) = let rest = records_few es in omega (arith, length-append e.body (file_bytes es))

entries_back : (most : ℕ) (es : List Entry) → length es ≤ most → entries_from most (file_bytes es) ≡ es
entries_back zero [] h = refl
entries_back (suc most) [] h = refl
entries_back zero (e ∷ es) h = absurd (omega arith)
entries_back (suc most) (e ∷ es) h =
    ap (after_entry (entries_from most) (file_bytes (e ∷ es))) (first_record-record_bytes e (file_bytes es)) ∙
    ap (λ l. e ∷ entries_from most l) (drop-record_bytes e (file_bytes es)) ∙
    ap (λ l. e ∷ l) (entries_back most es (omega arith))

-- the records of a file of records
pub entries_of-file_bytes : (es : List Entry) → entries_of (file_bytes es) ≡ es
entries_of-file_bytes es = entries_back (length (file_bytes es)) es (records_few es)

-- ---- read, then written

-- the numbers of a slice are bytes
pub all_fit : (xs : List ℕ) → ((i : ℕ) → Fits w8 (get_or xs i 0)) → all_bytes xs ≡ true
all_fit [] h = refl
all_fit (x ∷ xs) h = let l : x < 256 = omega (arith, h 0) in and_from (ltb x 256) _ (lt-ltb x 256 l) (all_fit xs (λ i. h (suc i)))

-- so is each of the later ones
pub drop_bytes : (n : ℕ) (xs : List ℕ) → all_bytes xs ≡ true → all_bytes (drop n xs) ≡ true
drop_bytes zero xs h = h
drop_bytes (suc n) [] h = refl
drop_bytes (suc n) (x ∷ xs) h = drop_bytes n xs (and_parts (ltb x 256) _ h).1

-- what is read as a record is written so
module _ (a b c d : ℕ) (rest : List ℕ) (low : a < 256) (kind_low : c < 256) where
  abbrev all : List ℕ
  all = a ∷ b ∷ c ∷ d ∷ rest

  abbrev here : Entry
  here = record { kind = number_of c d; body = take (number_of a b) rest }

  here_split : number_of a b ≤ length rest → all ≡ record_bytes here ++ drop (record_length here) all
  here_split fits =
      let size : length here.body ≡ number_of a b = omega (arith, length-take (number_of a b) rest) in
      let tail : drop (record_length here) all ≡ drop (number_of a b) rest = sym (drop-drop (length here.body) 4 all) ∙ ap (λ n. drop n rest) size in
      sym
      (ap (λ n. two_bytes n ++ (two_bytes here.kind ++ (here.body ++ drop (record_length here) all))) size ∙
      ap₂ (λ x y. x ++ (y ++ (here.body ++ drop (record_length here) all))) (two_bytes_are a b low) (two_bytes_are c d kind_low) ∙
      ap (λ l. a ∷ b ∷ c ∷ d ∷ l) (ap (λ l. here.body ++ l) tail ∙ take-append-drop (number_of a b) rest))

  behind_split : (e : Entry) → record_behind (number_of a b) (number_of c d) rest ≡ Some e → all ≡ record_bytes e ++ drop (record_length e) all
  behind_split e = go (leb (number_of a b) (length rest)) refl
    where
      go : (t : Bool) → leb (number_of a b) (length rest) ≡ t → cond t (Some here) None ≡ Some e → all ≡ record_bytes e ++ drop (record_length e) all
      go false is h = absurd (cc)
      go true is h =
          let same : here ≡ e = cc in
          subst (λ x. all ≡ record_bytes x ++ drop (record_length x) all) same (here_split (leb-true (number_of a b) (length rest) is))

pub record_split : (bytes : List ℕ) → all_bytes bytes ≡ true → (e : Entry) → first_record bytes ≡ Some e → bytes ≡ record_bytes e ++ drop (record_length e) bytes
record_split [] all e h = absurd (cc)
record_split (a ∷ []) all e h = absurd (cc)
record_split (a ∷ b ∷ []) all e h = absurd (cc)
record_split (a ∷ b ∷ c ∷ []) all e h = absurd (cc)
record_split (a ∷ b ∷ c ∷ d ∷ rest) all e h =
    let one = and_parts (ltb a 256) _ all in
    let two = and_parts (ltb b 256) _ one.1 in
    let three = and_parts (ltb c 256) _ two.1 in
    behind_split a b c d rest (ltb-true a 256 one.0) (ltb-true c 256 three.0) e h
