-- A part that is written is loaded back.
use Rattle.std.proofs.Common.{◌≡◌, ℕ, suc, ◌≤◌, true, List, [], ◌∷◌, ◌++◌, map, length, sym, refl, ap, ◌∙◌, subst, arith, length-append}
use lib.ListN.{length-map}
use Rattle.std.proofs.lemmas.List.Sums.{sum_by-cons}
use Rattle.std.proofs.lemmas.Bool.{and_parts, and_from, cond_both}
use Rattle.vocabulary.specs.Entities.{Entity}
use Rattle.std.specs.List.{list_all}
use Rattle.refusals.specs.Turns.{accepted_turn}
use Rattle.book.specs.Contents.{Contents, Filing, body_length, bodies_length, sound}
use Rattle.book.specs.Calls.{empty}
use Rattle.book.specs.Proper.{Proper}
use Rattle.records.specs.Files.{Entry, record_bytes, file_bytes}
use Rattle.records.specs.Taking.{AreTaken}
use Rattle.records.proofs.Files.{records_few}
use Rattle.records.specs.Loading.{loading}
use Rattle.extraction.specs.Sets.{Marks}
use Rattle.std.proofs.lemmas.List.Concat.{flat_map-append}
use Rattle.part.specs.Parts.{name_entry, seed_entry, axiom_entry, seeds_from, kept_from, forced, part_bytes, part_contents, record_count}
use Rattle.part.specs.Writing.{ReadBack}
use Rattle.part.proofs.Taken.{are_taken_append, taken_loads}
use Rattle.part.proofs.NamesTaken.{plain, unseeded, names_taken}
use Rattle.part.proofs.SeedsTaken.{no_axioms, seeds_taken}
use Rattle.part.proofs.AxiomsTaken.{axioms_taken}

-- the axioms of a set are sound where all are, and no more and no longer than all
module _ (kept : Marks) where
  kept_sound : (names : List Entity) (k : ℕ) (fs : List Filing) → list_all (sound names) fs ≡ true → list_all (sound names) (map forced (kept_from k kept fs)) ≡ true
  kept_sound names k [] h = refl
  kept_sound names k (f ∷ fs) h =
      let p = and_parts (sound names f) _ h in
      let rest = kept_sound names (suc k) fs p.1 in
      cond_both (kept k) _ _ (λ rs. list_all (sound names) (map forced rs) ≡ true) (λ _. and_from _ _ p.0 rest) (λ _. rest)

  kept_few : (k : ℕ) (fs : List Filing) → length (map forced (kept_from k kept fs)) ≤ length fs
  kept_few k [] = omega arith
  kept_few k (f ∷ fs) =
      let rest = kept_few (suc k) fs in
      cond_both (kept k) _ _ (λ rs. length (map forced rs) ≤ suc (length fs)) (λ _. omega arith) (λ _. omega arith)

  kept_short : (k : ℕ) (fs : List Filing) → bodies_length (map forced (kept_from k kept fs)) ≤ bodies_length fs
  kept_short k [] = omega arith
  kept_short k (f ∷ fs) =
      let rest = kept_short (suc k) fs in
      let all = sum_by-cons body_length f fs in
      let more = sum_by-cons body_length (forced f.states) (map forced (kept_from (suc k) kept fs)) in
      cond_both (kept k) _ _ (λ rs. bodies_length (map forced rs) ≤ bodies_length (f ∷ fs)) (λ _. omega arith) (λ _. omega arith)

module _ (b : Contents) (kept : Marks) where
  -- the records of the part
  abbrev pub part_entries : List Entry
  part_entries =
      map name_entry b.names ++ (map seed_entry (seeds_from 0 b.names) ++ map axiom_entry (kept_from 0 kept b.axioms))

  -- written, they are the part
  pub part_file : part_bytes b kept ≡ file_bytes part_entries
  part_file =
      sym (flat_map-append record_bytes (map name_entry b.names) _ ∙ ap (λ l. file_bytes (map name_entry b.names) ++ l) (flat_map-append record_bytes (map seed_entry (seeds_from 0 b.names)) _))

  part_count : length part_entries ≡ record_count b kept
  part_count = simp (length-append, length-map)

  -- they are taken one after the other by an empty book
  part_taken : Proper b → AreTaken empty part_entries (part_contents b kept)
  part_taken p =
      are_taken_append (map name_entry b.names) _ empty (plain b.names) _ (names_taken [] b.names b.names refl p.labels p.apart p.few_names)
      (are_taken_append (map seed_entry (seeds_from 0 b.names)) _ (plain b.names) (no_axioms b.names) _ (seeds_taken [] b.names (map unseeded b.names) b.names 0 refl refl refl)
      (axioms_taken b.names [] (kept_from 0 kept b.axioms) _ refl (kept_sound kept b.names 0 b.axioms p.right)
      (let few = kept_few kept 0 b.axioms in let most = p.few_axioms in omega arith)
      (let short = kept_short kept 0 b.axioms in let most = p.few_bytes in omega arith)))

-- a part that is written is loaded back
pub loads_back : (b : Contents) → Proper b → (kept : Marks) → ReadBack b kept
unfolding loading
loads_back b p kept =
    let es = part_entries b kept in
    let back : loading empty (file_bytes es) ≡ accepted_turn (part_contents b kept) (record_count b kept) =
    taken_loads (length (file_bytes es)) es empty (part_contents b kept) 0 0 (records_few es) (part_taken b kept p) ∙
    ap (accepted_turn (part_contents b kept)) (omega (arith, part_count b kept)) in
    subst (λ file. loading empty file ≡ accepted_turn (part_contents b kept) (record_count b kept)) (sym (part_file b kept)) back
