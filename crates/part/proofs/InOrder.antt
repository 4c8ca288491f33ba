-- Records in the writer's order that a book takes are those of the part that all its axioms in force then make.
use Rattle.std.proofs.Common.{◌≡◌, ℕ, zero, suc, ◌+◌, ◌-◌, ◌<◌, ◌≤◌, Bool, true, false, cond, not, ◌&&◌, eqb, ltb, leb, List, [], ◌∷◌, ◌++◌, map, length, get_or, drop, Ok, sym, refl, ap, ◌∙◌, subst, ap₂, append-nil, arith, drop-drop}
use lib.Seq.{append_snoc}
use Rattle.std.proofs.lemmas.List.{get_or-map, map_push}
use Rattle.std.proofs.lemmas.List.Folds.{list_all-append}
use Rattle.std.proofs.lemmas.Bool.{leb-true, not-true, and_parts, and_from, cond-true, cond-false}
use Rattle.std.proofs.lemmas.List.Elements.{All-drop}
use Rattle.std.proofs.lemmas.List.Sums.{AllPass-from_list_all, list_all-from_AllPass}
use Rattle.vocabulary.specs.Entities.{Entity, reseed}
use Rattle.std.specs.List.{list_all}
use Rattle.vocabulary.specs.Naming.{new_name}
use Rattle.terms.specs.Forms.{Rule}
use Rattle.terms.specs.Writing.{rule_kind}
use Rattle.book.specs.Contents.{Contents}
use Rattle.book.specs.Calls.{empty, with_axiom}
use Rattle.records.specs.Files.{Entry, file_bytes, entries_of}
use Rattle.records.specs.Kinds.{name_kind, seed_kind}
use Rattle.records.specs.Taking.{AreTaken}
use Rattle.records.proofs.Files.{entries_of-file_bytes}
use Rattle.records.proofs.Law.{Comes, Ends, loads_come}
use Rattle.records.specs.Loading.{loading}
use Rattle.extraction.specs.Sets.{Marks, no_filing, is_in_force}
use Rattle.part.specs.Order.{seed_number, axioms_only, seeds_then_axioms, in_writer_order}
use Rattle.records.specs.Files.{all_bytes}
use Rattle.part.specs.Parts.{part_bytes, name_entry, seed_entry, axiom_entry, seeds_from, kept_from, forced}
use Rattle.part.proofs.Accepted.{Was, a_name, a_seed, an_axiom, was}
use Rattle.part.proofs.Ordered.{kind_apart}
use Rattle.part.proofs.ReadsBack.{part_entries, part_file}

-- ---- lists

module _ {X : Type 0} (p : X → Bool) where
  list_all_drop : (n : ℕ) (xs : List X) → list_all p xs ≡ true → list_all p (drop n xs) ≡ true
  list_all_drop n xs h = list_all-from_AllPass p (drop n xs) (All-drop (λ x. p x ≡ true) n xs (AllPass-from_list_all p xs h))

  -- from a place on, and so from every later one
  list_all_later : (m n : ℕ) (xs : List X) → m ≤ n → list_all p (drop m xs) ≡ true → list_all p (drop n xs) ≡ true
  list_all_later m n xs le h =
      let far : m + (n - m) ≡ n = omega arith in
      ap (λ k. list_all p (drop k xs)) (sym far) ∙ ap (list_all p) (sym (drop-drop (n - m) m xs)) ∙ list_all_drop (n - m) (drop m xs) h

-- the bytes of the first record's body, and of the others
pub file_bytes_again : (e : Entry) (es : List Entry) → all_bytes (file_bytes (e ∷ es)) ≡ true → (all_bytes e.body ≡ true) × (all_bytes (file_bytes es) ≡ true)
file_bytes_again e es h =
    and_parts _ _ (sym (list_all-append (λ x. ltb x 256) e.body (file_bytes es)) ∙ list_all_drop (λ x. ltb x 256) 4 (file_bytes (e ∷ es)) h)

-- what loading a file into an empty book comes to
loading_comes : (file : List ℕ) → all_bytes file ≡ true → Comes empty file 0 0 (loading empty file).state (loading empty file).answer
unfolding loading
loading_comes file bytes = loads_come (length file) file bytes (omega arith) empty 0 0

-- ---- seeds

-- the name is not seeded
abbrev plain : Entity → Bool
plain e = not e.seeded

-- names of which none is seeded have no seeds
seeds_none : (k : ℕ) (es : List Entity) → list_all plain es ≡ true → seeds_from k es ≡ []
seeds_none k [] h = refl
seeds_none k (e ∷ es) h =
    let s = and_parts (plain e) _ h in cond-false _ _ _ (not-true _ s.0) ∙ seeds_none (suc k) es s.1

-- a name that is seeded after all others that are
seeds_more : (k n q : ℕ) (es : List Entity) → q ≡ k + n → n < length es → list_all plain (drop n es) ≡ true → seeds_from k (reseed es n true) ≡ seeds_from k es ++ q ∷ []
seeds_more k n q [] at h l = absurd (omega arith)
seeds_more k zero q (e ∷ es) at h l =
    let s = and_parts (plain e) _ l in
    let same : k ≡ q = omega arith in
    ap₂ ◌∷◌ same (seeds_none (suc k) es s.1) ∙ ap (λ r. r ++ q ∷ []) (sym (seeds_none k (e ∷ es) l))
seeds_more k (suc n) q (e ∷ es) at h l = go e.seeded (seeds_more (suc k) n q es (omega arith) (omega arith) l)
  where
    go : (on : Bool) → seeds_from (suc k) (reseed es n true) ≡ seeds_from (suc k) es ++ q ∷ [] → cond on (k ∷ seeds_from (suc k) (reseed es n true)) (seeds_from (suc k) (reseed es n true)) ≡ cond on (k ∷ seeds_from (suc k) es) (seeds_from (suc k) es) ++ q ∷ []
    go true later = ap (λ r. k ∷ r) later
    go false later = later

plain_after : (n : ℕ) (es : List Entity) → list_all plain (drop n es) ≡ true → list_all plain (drop (suc n) (reseed es n true)) ≡ true
plain_after n [] h = refl
plain_after zero (e ∷ es) h = (and_parts (plain e) _ h).1
plain_after (suc n) (e ∷ es) h = plain_after n es h

-- seeding leaves the records of names as they are
names_same : (n : ℕ) (es : List Entity) → map name_entry (reseed es n true) ≡ map name_entry es
names_same n [] = refl
names_same zero (e ∷ es) = refl
names_same (suc n) (e ∷ es) = ap (λ l. name_entry e ∷ l) (names_same n es)

-- ---- the three phases

-- the record is neither a name's nor a seed's
abbrev is_axiom : Entry → Bool
is_axiom e = not (eqb e.kind name_kind) && not (eqb e.kind seed_kind)

-- axioms, behind those that there are
record AxiomsAre (b c : Contents) (es : List Entry) : Type 0 where
  rules : List Rule
  names : c.names ≡ b.names
  axioms : c.axioms ≡ b.axioms ++ map forced rules
  entries : map axiom_entry rules ≡ es

-- with an axiom before them
axioms_on : (e : Entry) (es : List Entry) (b m c : Contents) (r : Rule) → e ≡ axiom_entry r → m ≡ with_axiom b r → AxiomsAre m c es → AxiomsAre b c (e ∷ es)
axioms_on e es b m c r is made rest = record {
  rules = r ∷ rest.rules;
  names = rest.names ∙ ap (λ d. d.names) made;
  axioms = rest.axioms ∙ ap (λ d. d.axioms ++ map forced rest.rules) made ∙ append_snoc b.axioms (forced r) (map forced rest.rules);
  entries = ap₂ ◌∷◌ (sym is) rest.entries;
}

-- a name's record and a seed's are none of an axiom
no_name : (x : Entity) (e : Entry) (es : List Entry) → e ≡ name_entry x → axioms_only (e ∷ es) ≡ true → ⊥
no_name x e es is only = let h : axioms_only (name_entry x ∷ es) ≡ true = ap (λ d. axioms_only (d ∷ es)) (sym is) ∙ only in cc

no_seed : (n : ℕ) (e : Entry) (es : List Entry) → e ≡ seed_entry n → axioms_only (e ∷ es) ≡ true → ⊥
no_seed n e es is only = let h : axioms_only (seed_entry n ∷ es) ≡ true = ap (λ d. axioms_only (d ∷ es)) (sym is) ∙ only in cc

axiom_first : (e : Entry) (es : List Entry) (b m c : Contents) → axioms_only (e ∷ es) ≡ true → Was b e m → AxiomsAre m c es → AxiomsAre b c (e ∷ es)
axiom_first e es b m c only (a_name k l is made) rest = absurd (no_name (new_name k l) e es is only)
axiom_first e es b m c only (a_seed inside is made) rest = absurd (no_seed (seed_number e) e es is only)
axiom_first e es b m c only (an_axiom r is made) rest = axioms_on e es b m c r is made rest

axioms_again : (es : List Entry) (b c : Contents) → axioms_only es ≡ true → all_bytes (file_bytes es) ≡ true → AreTaken b es c → AxiomsAre b c es
axioms_again [] b c only bytes t = record {
  rules = [];
  names = ap (λ d. d.names) (sym t);
  axioms = ap (λ d. d.axioms) (sym t) ∙ sym (append-nil b.axioms);
  entries = refl;
}
axioms_again (e ∷ es) b c only bytes (m, is, t) =
    let body = file_bytes_again e es bytes in
    let later = (and_parts (is_axiom e) (axioms_only es) only).1 in
    axiom_first e es b m c only (was b m e body.0 is) (axioms_again es m c later body.1 t)

-- seeds and then axioms, where there is no axiom yet, and no name from the number `least` on is seeded
record SeedsAre (b c : Contents) (es : List Entry) : Type 0 where
  rules : List Rule
  names : map name_entry c.names ≡ map name_entry b.names
  axioms : c.axioms ≡ map forced rules
  entries : map seed_entry (seeds_from 0 c.names) ++ map axiom_entry rules ≡ map seed_entry (seeds_from 0 b.names) ++ es

-- no seed is left
seeds_end : (es : List Entry) (b c : Contents) → b.axioms ≡ [] → AxiomsAre b c es → SeedsAre b c es
seeds_end es b c none a = record {
  rules = a.rules;
  names = ap (map name_entry) a.names;
  axioms = a.axioms ∙ ap (λ l. l ++ map forced a.rules) none;
  entries = ap₂ (λ ns l. map seed_entry (seeds_from 0 ns) ++ l) a.names a.entries;
}

-- one more seed
seeds_on : (e : Entry) (es : List Entry) (b m c : Contents) (n : ℕ) → n < length b.names → e ≡ seed_entry n → m ≡ record { names = reseed b.names n true; axioms = b.axioms } → list_all plain (drop n b.names) ≡ true → SeedsAre m c es → SeedsAre b c (e ∷ es)
seeds_on e es b m c n h is made clear s =
    let seeds = ap (map seed_entry) (seeds_more 0 n n b.names (omega arith) h clear) ∙ map_push seed_entry (seeds_from 0 b.names) n in
    record {
      rules = s.rules;
      names = s.names ∙ ap (λ d. map name_entry d.names) made ∙ names_same n b.names;
      axioms = s.axioms;
      entries =
          s.entries ∙ ap (λ d. map seed_entry (seeds_from 0 d.names) ++ es) made ∙ ap (λ l. l ++ es) seeds ∙
          append_snoc (map seed_entry (seeds_from 0 b.names)) (seed_entry n) es ∙ ap (λ d. map seed_entry (seeds_from 0 b.names) ++ d ∷ es) (sym is);
    }

-- the first record is a seed's, or none is
seed_first : (e : Entry) (es : List Entry) (b m c : Contents) (least : ℕ) → b.axioms ≡ [] → list_all plain (drop least b.names) ≡ true → seeds_then_axioms least (e ∷ es) ≡ true → all_bytes (file_bytes (e ∷ es)) ≡ true → AreTaken b (e ∷ es) c → Was b e m → (m.axioms ≡ [] → list_all plain (drop (suc (seed_number e)) m.names) ≡ true → seeds_then_axioms (suc (seed_number e)) es ≡ true → SeedsAre m c es) → SeedsAre b c (e ∷ es)
seed_first e es b m c least none clear order bytes t (a_name k l is made) later =
    absurd (no_name (new_name k l) e es is (sym (cond-false _ _ _ (ap (λ d. eqb d.kind seed_kind) is)) ∙ order))
seed_first e es b m c least none clear order bytes t (an_axiom r is made) later =
    let only : axioms_only (e ∷ es) ≡ true = sym (cond-false _ _ _ (ap (λ d. eqb d.kind seed_kind) is ∙ (kind_apart (rule_kind r)).1)) ∙ order in
    seeds_end (e ∷ es) b c none (axioms_again (e ∷ es) b c only bytes t)
seed_first e es b m c least none clear order bytes t (a_seed inside is made) later =
    let o = and_parts (leb least (seed_number e)) _ (sym (cond-true _ _ _ (ap (λ d. eqb d.kind seed_kind) is)) ∙ order) in
    let from = list_all_later plain least (seed_number e) b.names (leb-true least (seed_number e) o.0) clear in
    let after = ap (λ d. list_all plain (drop (suc (seed_number e)) d.names)) made ∙ plain_after (seed_number e) b.names from in
    seeds_on e es b m c (seed_number e) inside is made from (later (ap (λ d. d.axioms) made ∙ none) after o.1)

seeds_again : (es : List Entry) (b c : Contents) (least : ℕ) → b.axioms ≡ [] → list_all plain (drop least b.names) ≡ true → seeds_then_axioms least es ≡ true → all_bytes (file_bytes es) ≡ true → AreTaken b es c → SeedsAre b c es
seeds_again [] b c least none clear order bytes t = seeds_end [] b c none (axioms_again [] b c refl bytes t)
seeds_again (e ∷ es) b c least none clear order bytes (m, is, t) =
    let body = file_bytes_again e es bytes in
    seed_first e es b m c least none clear order bytes (m, is, t) (was b m e body.0 is) (λ no_more plain_on ordered. seeds_again es m c (suc (seed_number e)) no_more plain_on ordered body.1 t)

-- where all axioms are in force, the part has all
all_kept : (kept : Marks) (k : ℕ) (rs : List Rule) → ((i : ℕ) → k ≤ i → i < k + length rs → kept i ≡ true) → kept_from k kept (map forced rs) ≡ rs
all_kept kept k [] h = refl
all_kept kept k (r ∷ rs) h =
    cond-true _ _ _ (h k (omega arith) (omega arith)) ∙ ap (λ l. r ∷ l) (all_kept kept (suc k) rs (λ i l m. h i (omega arith) (omega arith)))

-- with no seed before them
names_end : (es : List Entry) (b c : Contents) → list_all plain b.names ≡ true → SeedsAre b c es → part_entries c (is_in_force c) ≡ map name_entry b.names ++ es
names_end es b c clear s =
    let on : (i : ℕ) → i < length s.rules → is_in_force c i ≡ true =
    λ i l. ap (λ fs. (get_or fs i no_filing).in_force) s.axioms ∙ ap (λ f. f.in_force) (get_or-map forced s.rules i no_filing.states no_filing l) in
    let all = ap (kept_from 0 (is_in_force c)) s.axioms ∙ all_kept (is_in_force c) 0 s.rules (λ i l m. on i (omega arith)) in
    ap₂ ◌++◌ s.names (ap (λ rs. map seed_entry (seeds_from 0 c.names) ++ map axiom_entry rs) all ∙ s.entries ∙ ap (λ ns. map seed_entry ns ++ es) (seeds_none 0 b.names clear))

-- the first record is a name's, or none is
name_first : (e : Entry) (es : List Entry) (b m c : Contents) → b.axioms ≡ [] → list_all plain b.names ≡ true → in_writer_order (e ∷ es) ≡ true → all_bytes (file_bytes (e ∷ es)) ≡ true → AreTaken b (e ∷ es) c → Was b e m → (m.axioms ≡ [] → list_all plain m.names ≡ true → in_writer_order es ≡ true → part_entries c (is_in_force c) ≡ map name_entry m.names ++ es) → part_entries c (is_in_force c) ≡ map name_entry b.names ++ e ∷ es
name_first e es b m c none clear order bytes t (a_name k l is made) later =
    let after = ap (λ d. list_all plain d.names) made ∙ list_all-append plain b.names (new_name k l ∷ []) ∙ and_from _ _ clear refl in
    let ordered = sym (cond-true _ _ _ (ap (λ d. eqb d.kind name_kind) is)) ∙ order in
    later (ap (λ d. d.axioms) made ∙ none) after ordered ∙
    ap (λ d. map name_entry d.names ++ es) made ∙ ap (λ l. l ++ es) (map_push name_entry b.names (new_name k l)) ∙
    append_snoc (map name_entry b.names) (name_entry (new_name k l)) es ∙ ap (λ d. map name_entry b.names ++ d ∷ es) (sym is)
name_first e es b m c none clear order bytes t (a_seed inside is made) later =
    let ordered = sym (cond-false _ _ _ (ap (λ d. eqb d.kind name_kind) is)) ∙ order in
    names_end (e ∷ es) b c clear (seeds_again (e ∷ es) b c 0 none clear ordered bytes t)
name_first e es b m c none clear order bytes t (an_axiom r is made) later =
    let ordered = sym (cond-false _ _ _ (ap (λ d. eqb d.kind name_kind) is ∙ (kind_apart (rule_kind r)).0)) ∙ order in
    names_end (e ∷ es) b c clear (seeds_again (e ∷ es) b c 0 none clear ordered bytes t)

names_again : (es : List Entry) (b c : Contents) → b.axioms ≡ [] → list_all plain b.names ≡ true → in_writer_order es ≡ true → all_bytes (file_bytes es) ≡ true → AreTaken b es c → part_entries c (is_in_force c) ≡ map name_entry b.names ++ es
names_again [] b c none clear order bytes t = names_end [] b c clear (seeds_again [] b c 0 none clear refl bytes t)
names_again (e ∷ es) b c none clear order bytes (m, is, t) =
    let body = file_bytes_again e es bytes in
    name_first e es b m c none clear order bytes (m, is, t) (was b m e body.0 is) (λ no_more plain_on ordered. names_again es m c no_more plain_on ordered body.1 t)

-- a file in the writer's order that is loaded is written again as it was
pub writes_again : (file : List ℕ) (n : ℕ) → all_bytes file ≡ true → (loading empty file).answer ≡ Ok n → in_writer_order (entries_of file) ≡ true → part_bytes (loading empty file).state (is_in_force (loading empty file).state) ≡ file
writes_again file n bytes ok order =
    let c = (loading empty file).state in
    let k : Ends empty file 0 0 c n = subst (Comes empty file 0 0 c) ok (loading_comes file bytes) in
    let all = subst (λ l. all_bytes l ≡ true) k.whole bytes in
    let ordered : in_writer_order k.entries ≡ true = ap in_writer_order (sym (entries_of-file_bytes k.entries)) ∙ ap (λ l. in_writer_order (entries_of l)) (sym k.whole) ∙ order in
    part_file c (is_in_force c) ∙ ap file_bytes (names_again k.entries empty c refl refl ordered all k.are) ∙ sym k.whole
