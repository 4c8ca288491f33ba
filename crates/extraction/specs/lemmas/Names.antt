-- Axioms and names of a sound book: each name in an axiom is one of the book's, and each count is at least 1.
use Rattle.std.specs.Prelude.{◌≡◌, ℕ, zero, suc, ◌<◌, Bool, true, false, ◌&&◌, List, [], ◌∷◌, length, nat_le, slice_index_or, refl}
use Rattle.std.proofs.Common.{sym, ap, ◌∙◌, ⊎_elim, arith}
use Rattle.std.proofs.Math.ListN.{get_or-eq_default}
use Rattle.std.proofs.lemmas.Bool.{both_ways, eqb-true, cases_lt, and_parts, and_from, or_cases}
use Rattle.vocabulary.proofs.Kept.{kind_past}
use Rattle.vocabulary.specs.declared.kind.Kind.{Kind}
use Rattle.vocabulary.specs.declared.kind.Kind.TheVariants.{Concept, Role, Individual}
use Rattle.vocabulary.specs.declared.name.NameId.{NameId}
use Rattle.vocabulary.specs.Entities.{Entity}
use Rattle.std.specs.List.{list_all}
use Rattle.terms.specs.declared.term.RoleItem.{RoleItem}
use Rattle.terms.specs.declared.term.RoleItem.TheVariants.{Forward, Inverse}
use Rattle.terms.specs.Forms.{Form, Rule, nothing, everything, concept, just, negation, both, exists, at_least, inclusion, equivalence, role_inclusion, transitive, functional, member, related}
use Rattle.terms.specs.Reading.{is_of_kind}
use Rattle.terms.specs.Limits.{greatest_count}
use Rattle.terms.specs.WellFormed.{name_fits, role_fits, numbers_fit, term_fits, well_formed}
use Rattle.book.specs.Contents.{Contents, sound}
use Rattle.terms.specs.Counts.{counts_in, counts_fit}
use Rattle.terms.specs.Roles.{role_name}
use Rattle.book.specs.Proper.{Sound}
use Rattle.locality.specs.Mentions.{same, in_term, in_rule}
use Rattle.extraction.specs.Sets.{Marks, no_filing, no_entity, axiom_count, name_count, rule_at, is_in_force, signature, closed_signature}
use Rattle.extraction.specs.lemmas.Below.{some_at}

module _ {X : Type 0} (p : X → Bool) (d : X) where
  -- what passes a test that the default fails stands before the end
  at_below : p d ≡ false → (xs : List X) (k : ℕ) → p (slice_index_or xs k d) ≡ true → k < length xs
  at_below fails xs k h =
      ⊎_elim (λ l. l) (λ l. absurd (both_ways _ fails (sym (ap p (get_or-eq_default xs d l)) ∙ h))) (cases_lt k (length xs))

  -- what every element and the default pass, whatever stands at a number passes
  at_every : p d ≡ true → (xs : List X) → list_all p xs ≡ true → (k : ℕ) → p (slice_index_or xs k d) ≡ true
  at_every passes [] h k = passes
  at_every passes (x ∷ xs) h zero = (and_parts (p x) _ h).0
  at_every passes (x ∷ xs) h (suc k) = at_every passes xs (and_parts (p x) _ h).1 k

module _ (names : List Entity) where
  -- a number that belongs to a name is below the count of names
  fits_below : (k : Kind) (n : NameId) → name_fits names k n ≡ true → n.0 < length names
  fits_below k n h =
      ⊎_elim (λ l. l) (λ l. absurd (both_ways _ refl (ap (λ o. is_of_kind o k) (kind_past names n.0 l) ∙ h))) (cases_lt n.0 (length names))

  -- and so is each that stands in a name, a role or a term that fits
  same_below : (k : Kind) (m n : NameId) → name_fits names k m ≡ true → same m n ≡ true → n.0 < length names
  same_below k m n h e = let l = fits_below k m h in let is = eqb-true m.0 n.0 e in omega arith

  role_below : (r : RoleItem) (n : NameId) → role_fits names r ≡ true → same (role_name r) n ≡ true → n.0 < length names
  role_below (Forward r) n = same_below Role r n
  role_below (Inverse r) n = same_below Role r n

  term_below : (f : Form) (n : NameId) → numbers_fit names f ≡ true → in_term f n ≡ true → n.0 < length names
  term_below nothing n h e = absurd (both_ways false refl e)
  term_below everything n h e = absurd (both_ways false refl e)
  term_below (concept m) n h e = same_below Concept m n h e
  term_below (just m) n h e = same_below Individual m n h e
  term_below (negation f) n h e = term_below f n h e
  term_below (both f g) n h e =
      let parts = and_parts _ _ h in ⊎_elim (term_below f n parts.0) (term_below g n parts.1) (or_cases _ _ e)
  term_below (exists r f) n h e =
      let parts = and_parts (role_fits names r) _ h in
      ⊎_elim (role_below r n parts.0) (term_below f n parts.1) (or_cases (same (role_name r) n) _ e)
  term_below (at_least m r f) n h e =
      let parts = and_parts (role_fits names r) _ (and_parts (nat_le 1 m && nat_le m greatest_count) _ h).1 in
      ⊎_elim (role_below r n parts.0) (term_below f n parts.1) (or_cases (same (role_name r) n) _ e)

  -- the numbers of a term that fits, which also has not too many levels
  numbers : (f : Form) → term_fits names f ≡ true → numbers_fit names f ≡ true
  numbers f h = (and_parts _ _ h).1

  -- or in a well-formed axiom
  well_below : (r : Rule) (n : NameId) → well_formed names r ≡ true → in_rule r n ≡ true → n.0 < length names
  well_below (inclusion f g) n h e =
      let parts = and_parts _ _ h in
      ⊎_elim (term_below f n (numbers f parts.0)) (term_below g n (numbers g parts.1)) (or_cases _ _ e)
  well_below (equivalence f g) n h e =
      let parts = and_parts _ _ h in
      ⊎_elim (term_below f n (numbers f parts.0)) (term_below g n (numbers g parts.1)) (or_cases _ _ e)
  well_below (role_inclusion r s) n h e =
      let parts = and_parts _ _ h in ⊎_elim (role_below r n parts.0) (role_below s n parts.1) (or_cases _ _ e)
  well_below (transitive r) n h e = same_below Role r n h e
  well_below (functional r) n h e = role_below r n h e
  well_below (member a f) n h e =
      let parts = and_parts (name_fits names Individual a) _ h in
      ⊎_elim (same_below Individual a n parts.0) (term_below f n (numbers f parts.1)) (or_cases (same a n) _ e)
  well_below (related r a b) n h e =
      let parts = and_parts (name_fits names Role r) _ h in
      let ends = and_parts (name_fits names Individual a) _ parts.1 in
      ⊎_elim (same_below Role r n parts.0) (λ k. ⊎_elim (same_below Individual a n ends.0) (same_below Individual b n ends.1) (or_cases (same a n) _ k)) (or_cases (same r n) _ e)

  -- the counts in a term whose numbers fit, and in a well-formed axiom
  counts_term : (f : Form) → numbers_fit names f ≡ true → counts_in f ≡ true
  counts_term nothing h = refl
  counts_term everything h = refl
  counts_term (concept m) h = refl
  counts_term (just m) h = refl
  counts_term (negation f) h = counts_term f h
  counts_term (both f g) h =
      let parts = and_parts _ _ h in and_from _ _ (counts_term f parts.0) (counts_term g parts.1)
  counts_term (exists r f) h = counts_term f (and_parts (role_fits names r) _ h).1
  counts_term (at_least m r f) h =
      let parts = and_parts (nat_le 1 m && nat_le m greatest_count) _ h in
      and_from _ _ (and_parts (nat_le 1 m) _ parts.0).0 (counts_term f (and_parts (role_fits names r) _ parts.1).1)

  well_counts : (r : Rule) → well_formed names r ≡ true → counts_fit r ≡ true
  well_counts (inclusion f g) h =
      let parts = and_parts _ _ h in
      and_from _ _ (counts_term f (numbers f parts.0)) (counts_term g (numbers g parts.1))
  well_counts (equivalence f g) h =
      let parts = and_parts _ _ h in
      and_from _ _ (counts_term f (numbers f parts.0)) (counts_term g (numbers g parts.1))
  well_counts (role_inclusion r s) h = refl
  well_counts (transitive r) h = refl
  well_counts (functional r) h = refl
  well_counts (member a f) h = counts_term f (numbers f (and_parts (name_fits names Individual a) _ h).1)
  well_counts (related r a b) h = refl

-- every axiom of a sound book is well-formed, and so is what stands past the last
rule_well : (b : Contents) → Sound b → (k : ℕ) → well_formed b.names (rule_at b k) ≡ true
rule_well b right k = (and_parts _ _ (at_every (sound b.names) no_filing refl b.axioms right k)).0

-- each name in an axiom is one of the book's
pub rule_names : (b : Contents) → Sound b → (k : ℕ) (n : NameId) → in_rule (rule_at b k) n ≡ true → n.0 < name_count b
rule_names b right k n = well_below b.names (rule_at b k) n (rule_well b right k)

-- each count in an axiom is at least 1
pub rule_counts_fit : (b : Contents) → Sound b → (k : ℕ) → counts_fit (rule_at b k) ≡ true
rule_counts_fit b right k = well_counts b.names (rule_at b k) (rule_well b right k)

-- an axiom in force is one of the book's
pub in_force_below : (b : Contents) (k : ℕ) → is_in_force b k ≡ true → k < axiom_count b
in_force_below b k = at_below (λ f. f.in_force) no_filing refl b.axioms k

-- a seeded name is one of the book's, and so is each name of a closed signature
pub signature_below : (b : Contents) (n : NameId) → signature b n ≡ true → n.0 < name_count b
signature_below b n = at_below (λ e. e.seeded) no_entity refl b.names n.0

pub closed_below : (b : Contents) → Sound b → (s : Marks) (n : NameId) → closed_signature b s n ≡ true → n.0 < name_count b
closed_below b right s n h =
    ⊎_elim (signature_below b n) (λ e. let found = some_at (axiom_count b) _ e in rule_names b right found.0 n (and_parts (s found.0) _ found.2).1) (or_cases (signature b n) _ h)
