-- The sections of a part, with one record more and one fewer.
use Rattle.std.proofs.Common.{◌≡◌, ℕ, zero, suc, ◌+◌, ◌*◌, ◌^◌, ◌<◌, ◌≤◌, Bool, true, false, cond, leb, List, [], ◌∷◌, ◌++◌, map, length, get_or, take, sym, ap, ◌∙◌, subst, append-nil, add-zero, arith, length-append, length-take}
use lib.ListN.{length-map}
use Rattle.std.proofs.lemmas.List.Concat.{flat_map-append}
use Rattle.std.proofs.lemmas.List.Sums.{sum_by-cons}
use Rattle.vocabulary.specs.Labels.{has_label_length}
use Rattle.std.specs.List.{list_all}
use Rattle.std.proofs.lemmas.Bool.{leb-true, cond_both, and_parts}
use Rattle.std.proofs.lemmas.List.{map_push, take_more}
use Rattle.vocabulary.specs.declared.name.Name.{Name}
use Rattle.vocabulary.specs.Entities.{Entity, entity}
use Rattle.terms.specs.declared.term.Term.{Term}
use Rattle.terms.specs.Forms.{rule}
use Rattle.terms.specs.Writing.{body_bytes}
use Rattle.terms.specs.WellFormed.{well_formed}
use Rattle.book.specs.declared.book.Filed.{Filed}
use Rattle.book.specs.Contents.{Contents, Filing, filing, body_length, bodies_length, sound}
use Rattle.extraction.specs.Sets.{Marks}
use Rattle.book.specs.Proper.{Proper, well_labelled}
use Rattle.codec.specs.Bodies.{longest_body}
use Rattle.records.specs.Files.{Entry, record_bytes, file_bytes}
use Rattle.part.specs.Parts.{name_entry, seed_entry, axiom_entry, name_as_record, seed_as_record, axiom_as_record, seeds_from, kept_from, part_bytes, part_names, part_seeds, part_axioms}

-- ---- the bytes of the first names and axioms of a book

abbrev pub names_bytes : List Name → List ℕ
names_bytes ns = file_bytes (map name_entry (map entity ns))

abbrev pub seeds_bytes : List Name → List ℕ
seeds_bytes ns = file_bytes (map seed_entry (seeds_from 0 (map entity ns)))

abbrev pub axioms_bytes : List Term → Marks → List Filed → List ℕ
axioms_bytes ts kept fs = file_bytes (map axiom_entry (kept_from 0 kept (map (filing ts) fs)))

record_more : (es : List Entry) (e : Entry) → file_bytes (es ++ e ∷ []) ≡ file_bytes es ++ record_bytes e
record_more es e = flat_map-append record_bytes es (e ∷ []) ∙ ap (λ l. file_bytes es ++ l) (append-nil (record_bytes e))

-- a first element that is there or not
cond_push : {X : Type 0} (on : Bool) (x : X) (all front last : List X) → all ≡ front ++ last → cond on (x ∷ all) all ≡ cond on (x ∷ front) front ++ last
cond_push true x all front last e = ap (λ l. x ∷ l) e
cond_push false x all front last e = e

seeds_push : (k : ℕ) (es : List Entity) (e : Entity) → seeds_from k (es ++ e ∷ []) ≡ seeds_from k es ++ cond e.seeded ((k + length es) ∷ []) []
seeds_push k [] e = ap (λ n. cond e.seeded (n ∷ []) []) (sym (add-zero k))
seeds_push k (d ∷ es) e =
    let far : suc k + length es ≡ k + suc (length es) = omega arith in
    cond_push d.seeded k _ _ _ (seeds_push (suc k) es e ∙ ap (λ n. seeds_from (suc k) es ++ cond e.seeded (n ∷ []) []) far)

kept_push : (k : ℕ) (kept : Marks) (fs : List Filing) (f : Filing) → kept_from k kept (fs ++ f ∷ []) ≡ kept_from k kept fs ++ cond (kept (k + length fs)) (f.states ∷ []) []
kept_push k kept [] f = ap (λ n. cond (kept n) (f.states ∷ []) []) (sym (add-zero k))
kept_push k kept (d ∷ fs) f =
    let far : suc k + length fs ≡ k + suc (length fs) = omega arith in
    cond_push (kept k) d.states _ _ _ (kept_push (suc k) kept fs f ∙ ap (λ n. kept_from (suc k) kept fs ++ cond (kept n) (f.states ∷ []) []) far)

-- one name more
module _ (ns : List Name) (i : ℕ) (n : Name) (inside : i < length ns) (is : n ≡ get_or ns i n) where
  one_more : take (i + 1) ns ≡ take i ns ++ n ∷ []
  one_more = take_more ns i n inside ∙ ap (λ x. take i ns ++ x ∷ []) (sym is)

  entities_more : map entity (take (i + 1) ns) ≡ map entity (take i ns) ++ entity n ∷ []
  entities_more = ap (map entity) one_more ∙ map_push entity (take i ns) n

  pub name_more : names_bytes (take (i + 1) ns) ≡ names_bytes (take i ns) ++ name_as_record (entity n)
  name_more =
      ap (λ es. file_bytes (map name_entry es)) entities_more ∙ ap file_bytes (map_push name_entry (map entity (take i ns)) (entity n)) ∙
      record_more (map name_entry (map entity (take i ns))) (name_entry (entity n))

  count : 0 + length (map entity (take i ns)) ≡ i
  count = omega (arith, length-map (take i ns) entity, length-take i ns)

  seeds_more : seeds_from 0 (map entity (take (i + 1) ns)) ≡ seeds_from 0 (map entity (take i ns)) ++ cond n.seeded (i ∷ []) []
  seeds_more =
      ap (seeds_from 0) entities_more ∙ seeds_push 0 (map entity (take i ns)) (entity n) ∙
      ap (λ k. seeds_from 0 (map entity (take i ns)) ++ cond n.seeded (k ∷ []) []) count

  pub seed_on : n.seeded ≡ true → seeds_bytes (take (i + 1) ns) ≡ seeds_bytes (take i ns) ++ seed_as_record i
  seed_on on =
      let so_far = seeds_from 0 (map entity (take i ns)) in
      ap (λ l. file_bytes (map seed_entry l)) (seeds_more ∙ ap (λ b. so_far ++ cond b (i ∷ []) []) on) ∙
      ap file_bytes (map_push seed_entry so_far i) ∙ record_more (map seed_entry so_far) (seed_entry i)

  pub seed_off : n.seeded ≡ false → seeds_bytes (take (i + 1) ns) ≡ seeds_bytes (take i ns) ++ []
  seed_off off =
      let so_far = seeds_from 0 (map entity (take i ns)) in
      ap (λ l. file_bytes (map seed_entry l)) (seeds_more ∙ ap (λ b. so_far ++ cond b (i ∷ []) []) off ∙ append-nil so_far) ∙
      sym (append-nil (seeds_bytes (take i ns)))

-- one axiom more
module _ (ts : List Term) (kept : Marks) (fs : List Filed) (i j : ℕ) (f : Filed) (next : j ≡ i + 1) (inside : i < length fs) (is : f ≡ get_or fs i f) where
  so_many : 0 + length (map (filing ts) (take i fs)) ≡ i
  so_many = omega (arith, length-map (take i fs) (filing ts), length-take i fs)

  kept_more : kept_from 0 kept (map (filing ts) (take j fs)) ≡ kept_from 0 kept (map (filing ts) (take i fs)) ++ cond (kept i) (rule ts f.«axiom» ∷ []) []
  kept_more =
      ap (λ l. kept_from 0 kept (map (filing ts) l)) (ap (λ n. take n fs) next ∙ take_more fs i f inside ∙ ap (λ x. take i fs ++ x ∷ []) (sym is)) ∙
      ap (kept_from 0 kept) (map_push (filing ts) (take i fs) f) ∙ kept_push 0 kept (map (filing ts) (take i fs)) (filing ts f) ∙
      ap (λ k. kept_from 0 kept (map (filing ts) (take i fs)) ++ cond (kept k) (rule ts f.«axiom» ∷ []) []) so_many

  pub axiom_on : kept i ≡ true → axioms_bytes ts kept (take j fs) ≡ axioms_bytes ts kept (take i fs) ++ axiom_as_record (rule ts f.«axiom»)
  axiom_on on =
      let so_far = kept_from 0 kept (map (filing ts) (take i fs)) in
      ap (λ l. file_bytes (map axiom_entry l)) (kept_more ∙ ap (λ b. so_far ++ cond b (rule ts f.«axiom» ∷ []) []) on) ∙
      ap file_bytes (map_push axiom_entry so_far (rule ts f.«axiom»)) ∙ record_more (map axiom_entry so_far) (axiom_entry (rule ts f.«axiom»))

  pub axiom_off : kept i ≡ false → axioms_bytes ts kept (take j fs) ≡ axioms_bytes ts kept (take i fs) ++ []
  axiom_off off =
      let so_far = kept_from 0 kept (map (filing ts) (take i fs)) in
      ap (λ l. file_bytes (map axiom_entry l)) (kept_more ∙ ap (λ b. so_far ++ cond b (rule ts f.«axiom» ∷ []) []) off ∙ append-nil so_far) ∙
      sym (append-nil (axioms_bytes ts kept (take i fs)))

-- no axiom of a book has a body that is too long
pub body_short : (names : List Entity) (ts : List Term) (fs : List Filed) (i : ℕ) (f : Filed) → list_all (sound names) (map (filing ts) fs) ≡ true → i < length fs → f ≡ get_or fs i f → length (body_bytes (rule ts f.«axiom»)) ≤ longest_body
body_short names ts [] i f h inside is = absurd (omega arith)
body_short names ts (x ∷ fs) zero f h inside is =
    let short = leb-true (body_length (filing ts x)) longest_body (and_parts (well_formed names (filing ts x).states) _ (and_parts (sound names (filing ts x)) _ h).0).1 in
    subst (λ y. length (body_bytes (rule ts y.«axiom»)) ≤ longest_body) (sym is) short
body_short names ts (x ∷ fs) (suc i) f h inside is = body_short names ts fs i f (and_parts (sound names (filing ts x)) _ h).1 (omega arith) is

-- ---- a usize holds the length of a part

names_few : (es : List Entity) → list_all well_labelled es ≡ true → length (file_bytes (map name_entry es)) ≤ 37 * length es
names_few [] h = omega arith
names_few (e ∷ es) h =
    let p = and_parts (well_labelled e) _ h in
    let short = leb-true (length e.label) 32 (and_parts (leb 1 (length e.label)) _ (and_parts (has_label_length e.label) _ p.0).0).1 in
    omega (arith, names_few es p.1, length-append e.label (file_bytes (map name_entry es)))

seeds_few : (k : ℕ) (es : List Entity) → length (file_bytes (map seed_entry (seeds_from k es))) ≤ 6 * length es
seeds_few k [] = omega arith
seeds_few k (e ∷ es) =
    let more = seeds_from (suc k) es in
    let few = seeds_few (suc k) es in
    cond_both e.seeded (k ∷ more) more (λ l. length (file_bytes (map seed_entry l)) ≤ 6 * length (e ∷ es)) (λ _. omega arith) (λ _. omega arith)

axioms_few : (k : ℕ) (kept : Marks) (fs : List Filing) → length (file_bytes (map axiom_entry (kept_from k kept fs))) ≤ 4 * length fs + bodies_length fs
axioms_few k kept [] = omega arith
axioms_few k kept (f ∷ fs) =
    let more = kept_from (suc k) kept fs in
    let few = axioms_few (suc k) kept fs in
    let total = sum_by-cons body_length f fs in
    cond_both (kept k) (f.states ∷ more) more (λ l. length (file_bytes (map axiom_entry l)) ≤ 4 * length (f ∷ fs) + bodies_length (f ∷ fs))
    (λ _. omega (arith, length-append (body_bytes f.states) (file_bytes (map axiom_entry more)))) (λ _. omega arith)

pub part_few : (b : Contents) (kept : Marks) → Proper b → length (part_bytes b kept) < 2 ^ 64
part_few b kept p =
    let names = names_few b.names p.labels in
    let seeds = seeds_few 0 b.names in
    let axioms = axioms_few 0 kept b.axioms in
    let few_names = p.few_names in
    let few_axioms = p.few_axioms in
    let few_bytes = p.few_bytes in
    omega (arith, length-append (part_names b) (part_seeds b ++ part_axioms b kept), length-append (part_seeds b) (part_axioms b kept))
