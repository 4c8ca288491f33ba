-- The records of a written part are in the writer's order.
use Rattle.std.proofs.Common.{◌≡◌, ℕ, suc, ◌≤◌, Bool, true, false, cond, eqb, List, [], ◌∷◌, ◌++◌, map, refl, ap, ◌∙◌, arith}
use Rattle.std.proofs.lemmas.Bool.{le-leb, not_from_false, and_from, cond-false}
use Rattle.vocabulary.specs.Entities.{Entity}
use Rattle.terms.specs.declared.«axiom».AxiomKind.{AxiomKind}
use Rattle.terms.specs.declared.«axiom».AxiomKind.TheVariants.{Inclusion, Equivalence, RoleInclusion, Transitive, Functional, ConceptAssertion, RoleAssertion}
use Rattle.terms.specs.Forms.{Rule}
use Rattle.terms.specs.Writing.{rule_kind}
use Rattle.book.specs.Contents.{Contents}
use Rattle.extraction.specs.Sets.{Marks}
use Rattle.records.specs.Files.{Entry, entries_of}
use Rattle.records.proofs.Files.{two_parts, entries_of-file_bytes}
use Rattle.part.specs.Order.{seed_number, axioms_only, seeds_then_axioms, in_writer_order}
use Rattle.terms.specs.Codes.{kind_number}
use Rattle.part.specs.Parts.{name_entry, seed_entry, axiom_entry, seeds_from, kept_from, part_bytes}
use Rattle.part.proofs.ReadsBack.{part_entries, part_file}

-- an axiom's record is neither a name's nor a seed's
pub kind_apart : (k : AxiomKind) → (eqb (kind_number k) 1 ≡ false) × (eqb (kind_number k) 32 ≡ false)
kind_apart Inclusion = (refl, refl)
kind_apart Equivalence = (refl, refl)
kind_apart RoleInclusion = (refl, refl)
kind_apart Transitive = (refl, refl)
kind_apart Functional = (refl, refl)
kind_apart ConceptAssertion = (refl, refl)
kind_apart RoleAssertion = (refl, refl)

only_axioms : (rs : List Rule) → axioms_only (map axiom_entry rs) ≡ true
only_axioms [] = refl
only_axioms (r ∷ rs) =
    let apart = kind_apart (rule_kind r) in
    and_from _ _ (and_from _ _ (not_from_false _ apart.0) (not_from_false _ apart.1)) (only_axioms rs)

axioms_last : (least : ℕ) (rs : List Rule) → seeds_then_axioms least (map axiom_entry rs) ≡ true
axioms_last least [] = refl
axioms_last least (r ∷ rs) = cond-false _ _ _ (kind_apart (rule_kind r)).1 ∙ only_axioms (r ∷ rs)

seeds_ascend : (least n : ℕ) (es : List Entity) (rs : List Rule) → least ≤ n → seeds_then_axioms least (map seed_entry (seeds_from n es) ++ map axiom_entry rs) ≡ true
seeds_ascend least n [] rs h = axioms_last least rs
seeds_ascend least n (e ∷ es) rs h = go e.seeded (λ m l. seeds_ascend m (suc n) es rs l)
  where
    go : (on : Bool) → ((m : ℕ) → m ≤ suc n → seeds_then_axioms m (map seed_entry (seeds_from (suc n) es) ++ map axiom_entry rs) ≡ true) → seeds_then_axioms least (map seed_entry (cond on (n ∷ seeds_from (suc n) es) (seeds_from (suc n) es)) ++ map axiom_entry rs) ≡ true
    go true later =
        let is = two_parts n in
        and_from _ _ (le-leb least (seed_number (seed_entry n)) (omega arith)) (later (suc (seed_number (seed_entry n))) (omega arith))
    go false later = later least (omega arith)

-- no name after the names
names_over : (ns : List ℕ) (rs : List Rule) → in_writer_order (map seed_entry ns ++ map axiom_entry rs) ≡ seeds_then_axioms 0 (map seed_entry ns ++ map axiom_entry rs)
names_over [] [] = refl
names_over [] (r ∷ rs) = cond-false _ _ _ (kind_apart (rule_kind r)).0
names_over (n ∷ ns) rs = refl

names_first : (es : List Entity) (rest : List Entry) → in_writer_order (map name_entry es ++ rest) ≡ in_writer_order rest
names_first [] rest = refl
names_first (e ∷ es) rest = names_first es rest

-- a written part is in the writer's order
pub written_in_order : (b : Contents) (kept : Marks) → in_writer_order (entries_of (part_bytes b kept)) ≡ true
written_in_order b kept =
    ap in_writer_order (ap entries_of (part_file b kept) ∙ entries_of-file_bytes (part_entries b kept)) ∙
    names_first b.names _ ∙ names_over (seeds_from 0 b.names) _ ∙ seeds_ascend 0 0 b.names (kept_from 0 kept b.axioms) (omega arith)
