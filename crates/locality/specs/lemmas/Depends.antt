-- What the tests answer depends only on which of the names in a term or an axiom are listed.
use Rattle.std.specs.Prelude.{◌≡◌, Bool, true, not, ◌&&◌, ◌||◌, refl}
use Rattle.std.proofs.Common.{ap, ap₂}
use Rattle.vocabulary.specs.declared.name.NameId.{NameId}
use Rattle.terms.specs.declared.term.RoleItem.{RoleItem}
use Rattle.terms.specs.Forms.{Form, Rule, nothing, everything, concept, just, negation, both, exists, at_least, inclusion, equivalence, role_inclusion, transitive, functional, member, related}
use Rattle.terms.specs.Roles.{role_name}
use Rattle.std.proofs.lemmas.Bool.{eq-eqb, or_left, or_right}
use Rattle.locality.specs.declared.defaults.ConceptDefault.{ConceptDefault}
use Rattle.locality.specs.declared.defaults.RoleDefault.{RoleDefault}
use Rattle.locality.specs.Defaults.{has_no_pair, falls_short, has_partners}
use Rattle.locality.specs.Mentions.{same, in_term, in_rule}
use Rattle.locality.specs.Tables.{outside, empty_term, full_term, local_rule}
use Rattle.locality.specs.Worlds.{Names}

same_self : (n : NameId) → same n n ≡ true
same_self n = eq-eqb n.0 n.0 refl

module _ (c : ConceptDefault) (d : RoleDefault) (listed other : Names) where
  -- the two lists agree on these names
  abbrev Agree : Names → Type 0
  Agree names = (n : NameId) → names n ≡ true → listed n ≡ other n

  -- on those of the one part, and of the other
  in_first : (p q : Names) → Agree (λ n. p n || q n) → Agree p
  in_first p q h n k = h n (or_left _ _ k)

  in_second : (p q : Names) → Agree (λ n. p n || q n) → Agree q
  in_second p q h n k = h n (or_right (p n) _ k)

  -- a name that is listed in both or in neither
  name_depends : (b : Bool) (m : NameId) → Agree (same m) → outside listed b m ≡ outside other b m
  name_depends b m h = ap (λ l. b && not l) (h m (same_self m))

  -- a role and a term
  role_depends : (b : Bool) (r : RoleItem) (f : Form) → Agree (λ n. same (role_name r) n || in_term f n) → outside listed b (role_name r) ≡ outside other b (role_name r)
  role_depends b r f h = name_depends b (role_name r) (in_first (same (role_name r)) (in_term f) h)

  mutual
    empty_depends : (f : Form) → Agree (in_term f) → empty_term c d listed f ≡ empty_term c d other f
    empty_depends nothing h = refl
    empty_depends everything h = refl
    empty_depends (concept m) h = name_depends _ m h
    empty_depends (just a) h = refl
    empty_depends (negation f) h = full_depends f h
    empty_depends (both f g) h = ap₂ ◌||◌ (empty_depends f (in_first (in_term f) (in_term g) h)) (empty_depends g (in_second (in_term f) (in_term g) h))
    empty_depends (exists r f) h = ap₂ ◌||◌ (role_depends (has_no_pair d) r f h) (empty_depends f (in_second (same (role_name r)) (in_term f) h))
    empty_depends (at_least n r f) h = ap₂ ◌||◌ (role_depends (falls_short d n) r f h) (empty_depends f (in_second (same (role_name r)) (in_term f) h))

    full_depends : (f : Form) → Agree (in_term f) → full_term c d listed f ≡ full_term c d other f
    full_depends nothing h = refl
    full_depends everything h = refl
    full_depends (concept m) h = name_depends _ m h
    full_depends (just a) h = refl
    full_depends (negation f) h = empty_depends f h
    full_depends (both f g) h = ap₂ ◌&&◌ (full_depends f (in_first (in_term f) (in_term g) h)) (full_depends g (in_second (in_term f) (in_term g) h))
    full_depends (exists r f) h = ap₂ ◌&&◌ (role_depends (has_partners d) r f h) (full_depends f (in_second (same (role_name r)) (in_term f) h))
    full_depends (at_least n r f) h = refl

  pub local_depends : (r : Rule) → Agree (in_rule r) → local_rule c d listed r ≡ local_rule c d other r
  local_depends (inclusion f g) h = ap₂ ◌||◌ (empty_depends f (in_first (in_term f) (in_term g) h)) (full_depends g (in_second (in_term f) (in_term g) h))
  local_depends (equivalence f g) h =
      let left = in_first (in_term f) (in_term g) h in
      let right = in_second (in_term f) (in_term g) h in
      ap₂ ◌||◌ (ap₂ ◌&&◌ (empty_depends f left) (empty_depends g right)) (ap₂ ◌&&◌ (full_depends f left) (full_depends g right))
  local_depends (role_inclusion r s) h =
      ap₂ ◌||◌
      (name_depends _ (role_name r) (in_first (same (role_name r)) (same (role_name s)) h))
      (name_depends _ (role_name s) (in_second (same (role_name r)) (same (role_name s)) h))
  local_depends (transitive r) h = name_depends _ r h
  local_depends (functional r) h = name_depends _ (role_name r) h
  local_depends (member a f) h = full_depends f (in_second (same a) (in_term f) h)
  local_depends (related r a b) h = name_depends _ r (in_first (same r) (λ n. same a n || same b n) h)
