-- The kinds of records, from the number and back.
use Rattle.std.proofs.Common.{◌≡◌, ◌≢◌, ◌⊎◌, ⊎_elim, ℕ, ◌<◌, Bool, true, false, cond, eqb, Some, None, Option, sym, refl, ap, ◌∙◌, arith}
use Rattle.std.specs.Option.{option_map}
use Rattle.std.proofs.lemmas.Bool.{eqb-true}
use Rattle.terms.specs.declared.«axiom».AxiomKind.{AxiomKind}
use Rattle.terms.specs.declared.«axiom».AxiomKind.TheVariants.{Inclusion, Equivalence, RoleInclusion, Transitive, Functional, ConceptAssertion, RoleAssertion}
use Rattle.terms.specs.Codes.{axiom_kind_of}
use Rattle.book.proofs.FilingJudged.{number_bounds, number_of_kind, kind_unknown}
use Rattle.records.specs.declared.kind.RecordKind.{RecordKind}
use Rattle.records.specs.declared.kind.RecordKind.TheVariants.{Name, Axiom, Seed}
use Rattle.records.specs.Kinds.{name_kind, seed_kind, record_kind_of, record_number}

pub kind_back : (k : RecordKind) → record_kind_of (record_number k) ≡ Some k
kind_back Name = refl
kind_back (Axiom Inclusion) = refl
kind_back (Axiom Equivalence) = refl
kind_back (Axiom RoleInclusion) = refl
kind_back (Axiom Transitive) = refl
kind_back (Axiom Functional) = refl
kind_back (Axiom ConceptAssertion) = refl
kind_back (Axiom RoleAssertion) = refl
kind_back Seed = refl

-- no two kinds have the same number
pub same_kind : (j k : RecordKind) → record_number j ≡ record_number k → j ≡ k
same_kind j k e = let z : Some j ≡ Some k = sym (kind_back j) ∙ ap record_kind_of e ∙ kind_back k in cc

pub number_is : (n : ℕ) (k : RecordKind) → record_kind_of n ≡ Some k → record_number k ≡ n
number_is n k = go (eqb n name_kind) (eqb n seed_kind) refl refl
  where
    axioms : (o : Option AxiomKind) → axiom_kind_of n ≡ o → option_map Axiom o ≡ Some k → record_number k ≡ n
    axioms None is h = absurd (cc)
    axioms (Some j) is h = let z : Axiom j ≡ k = cc in ap record_number (sym z) ∙ sym (number_of_kind n j is)

    go : (s t : Bool) → eqb n name_kind ≡ s → eqb n seed_kind ≡ t → cond s (Some Name) (cond t (Some Seed) (option_map Axiom (axiom_kind_of n))) ≡ Some k → record_number k ≡ n
    go true t p q h = let z : Name ≡ k = cc in ap record_number (sym z) ∙ sym (eqb-true n name_kind p)
    go false true p q h = let z : Seed ≡ k = cc in ap record_number (sym z) ∙ sym (eqb-true n seed_kind q)
    go false false p q h = axioms (axiom_kind_of n) refl h

-- the number of no kind: not 1, not 32, and not 16 to 22
abbrev pub NoKind : ℕ → Type 0
NoKind n = (n ≢ name_kind) × (n ≢ seed_kind) × ((n < 16) ⊎ (22 < n))

pub kind_none : (n : ℕ) → record_kind_of n ≡ None → NoKind n
kind_none n h = (other Name, other Seed, between (axiom_kind_of n) refl)
  where
    other : (k : RecordKind) → n ≢ record_number k
    other k e = absurd (let z : Some k ≡ None = sym (kind_back k) ∙ ap record_kind_of (sym e) ∙ h in cc)

    between : (o : Option AxiomKind) → axiom_kind_of n ≡ o → (n < 16) ⊎ (22 < n)
    between None is = kind_unknown n is
    between (Some j) is = absurd (other (Axiom j) (number_of_kind n j is))

pub kind_some : (n : ℕ) (k : RecordKind) → record_number k ≡ n → NoKind n → ⊥
kind_some n Name e w = w.0 (sym e)
kind_some n Seed e w = w.1 (sym e)
kind_some n (Axiom j) e w = let b = number_bounds j in let low = b.0 in let high = b.1 in ⊎_elim (λ l. omega arith) (λ l. omega arith) w.2
