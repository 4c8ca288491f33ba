-- A well-formed axiom stays so when names are added, and when a change to the names changes no kind.
use Rattle.std.proofs.Common.{◌≡◌, ℕ, zero, suc, Bool, true, false, ◌&&◌, List, [], ◌∷◌, ◌++◌, Some, None, Option, sym, refl, ◌∙◌, arith}
use Rattle.std.proofs.lemmas.Bool.{and_parts, and_from, both_ways}
use Rattle.vocabulary.specs.declared.kind.Kind.{Kind}
use Rattle.vocabulary.specs.declared.kind.Kind.TheVariants.{Role, Individual}
use Rattle.vocabulary.specs.declared.name.NameId.{NameId}
use Rattle.vocabulary.specs.Entities.{Entity, kind_at}
use Rattle.terms.specs.declared.term.RoleItem.{RoleItem}
use Rattle.terms.specs.declared.term.RoleItem.TheVariants.{Forward, Inverse}
use Rattle.terms.specs.Forms.{Form, Rule, nothing, everything, concept, just, negation, both, exists, at_least, inclusion, equivalence, role_inclusion, transitive, functional, member, related}
use Rattle.terms.specs.Reading.{is_of_kind}
use Rattle.terms.specs.WellFormed.{name_fits, role_fits, numbers_fit, term_fits, well_formed}

-- a name keeps its kind when more names are added
pub kind_grows : (names more : List Entity) (n : ℕ) (k : Kind) → kind_at names n ≡ Some k → kind_at (names ++ more) n ≡ Some k
kind_grows [] more n k h = absurd (let z : ◌≡◌ {A = ℕ} 0 1 = cc in omega arith)
kind_grows (e ∷ es) more zero k h = h
kind_grows (e ∷ es) more (suc n) k h = kind_grows es more n k h

and_kept : (a b c d : Bool) → (a ≡ true → c ≡ true) → (b ≡ true → d ≡ true) → (a && b) ≡ true → (c && d) ≡ true
and_kept a b c d f g h = let p = and_parts a b h in and_from c d (f p.0) (g p.1)

module _ (names other : List Entity) (kept : (n : ℕ) (k : Kind) → kind_at names n ≡ Some k → kind_at other n ≡ Some k) where
  name_kept : (k : Kind) (n : NameId) → name_fits names k n ≡ true → name_fits other k n ≡ true
  name_kept k n = go (kind_at names n.0) refl
    where
      go : (o : Option Kind) → kind_at names n.0 ≡ o → is_of_kind o k ≡ true → name_fits other k n ≡ true
      go None e h = absurd (both_ways false refl h)
      go (Some j) e h = rw (kept n.0 j e) h

  role_kept : (r : RoleItem) → role_fits names r ≡ true → role_fits other r ≡ true
  role_kept (Forward r) = name_kept Role r
  role_kept (Inverse r) = name_kept Role r

  numbers_kept : (f : Form) → numbers_fit names f ≡ true → numbers_fit other f ≡ true
  numbers_kept nothing h = refl
  numbers_kept everything h = refl
  numbers_kept (concept n) h = name_kept _ n h
  numbers_kept (just n) h = name_kept _ n h
  numbers_kept (negation f) h = numbers_kept f h
  numbers_kept (both f g) h = and_kept _ _ _ _ (numbers_kept f) (numbers_kept g) h
  numbers_kept (exists r f) h = and_kept _ _ _ _ (role_kept r) (numbers_kept f) h
  numbers_kept (at_least n r f) h = and_kept _ _ _ _ (λ e. e) (and_kept _ _ _ _ (role_kept r) (numbers_kept f)) h

  term_kept : (f : Form) → term_fits names f ≡ true → term_fits other f ≡ true
  term_kept f = and_kept _ _ _ _ (λ e. e) (numbers_kept f)

  -- an axiom stays well formed when every name keeps its kind
  pub well_kept : (r : Rule) → well_formed names r ≡ true → well_formed other r ≡ true
  well_kept (inclusion f g) = and_kept _ _ _ _ (term_kept f) (term_kept g)
  well_kept (equivalence f g) = and_kept _ _ _ _ (term_kept f) (term_kept g)
  well_kept (role_inclusion r s) = and_kept _ _ _ _ (role_kept r) (role_kept s)
  well_kept (transitive r) = name_kept Role r
  well_kept (functional r) = role_kept r
  well_kept (member a f) = and_kept _ _ _ _ (name_kept Individual a) (term_kept f)
  well_kept (related r a b) = and_kept _ _ _ _ (name_kept Role r) (and_kept _ _ _ _ (name_kept Individual a) (name_kept Individual b))

-- an axiom stays well formed when names are added
pub well_grows : (names more : List Entity) (r : Rule) → well_formed names r ≡ true → well_formed (names ++ more) r ≡ true
well_grows names more = well_kept names (names ++ more) (kind_grows names more)

same_tests : (a b : Bool) → (a ≡ true → b ≡ true) → (b ≡ true → a ≡ true) → a ≡ b
same_tests true b f g = sym (f refl)
same_tests false true f g = g refl
same_tests false false f g = refl

-- whether an axiom is well formed hangs on the kinds of the names alone
pub well_same : (names other : List Entity) → ((n : ℕ) → kind_at names n ≡ kind_at other n) → (r : Rule) → well_formed names r ≡ well_formed other r
well_same names other same r =
    same_tests _ _ (well_kept names other (λ n k h. sym (same n) ∙ h) r) (well_kept other names (λ n k h. same n ∙ h) r)
