-- What is empty, full or local against a list is so against every part of it.
use Rattle.std.specs.Prelude.{◌≡◌, Bool, true, not, ◌&&◌, ◌||◌}
use Rattle.std.proofs.Common.{⊎_elim}
use Rattle.vocabulary.specs.declared.name.NameId.{NameId}
use Rattle.terms.specs.Roles.{role_name}
use Rattle.terms.specs.Forms.{Form, Rule, nothing, everything, concept, just, negation, both, exists, at_least, inclusion, equivalence, role_inclusion, transitive, functional, member, related}
use Rattle.std.proofs.lemmas.Bool.{both_ways, not-true, not_from_false, cases_Bool, and_parts, and_from, or_cases, or_left, or_right}
use Rattle.locality.specs.declared.defaults.ConceptDefault.{ConceptDefault}
use Rattle.locality.specs.declared.defaults.RoleDefault.{RoleDefault}
use Rattle.locality.specs.Tables.{outside, empty_term, full_term, local_rule}
use Rattle.locality.specs.Worlds.{Names}

-- a true test whose parts stay true stays true
and_keeps : (a b c e : Bool) → (a ≡ true → c ≡ true) → (b ≡ true → e ≡ true) → (a && b) ≡ true → (c && e) ≡ true
and_keeps a b c e p q h = let parts = and_parts a b h in and_from c e (p parts.0) (q parts.1)

or_keeps : (a b c e : Bool) → (a ≡ true → c ≡ true) → (b ≡ true → e ≡ true) → (a || b) ≡ true → (c || e) ≡ true
or_keeps a b c e p q h = ⊎_elim (λ k. or_left c e (p k)) (λ k. or_right c e (q k)) (or_cases a b h)

module _ (c : ConceptDefault) (d : RoleDefault) (listed part : Names) (fewer : (n : NameId) → part n ≡ true → listed n ≡ true) where
  -- a name outside the list is outside its part
  outside_keeps : (n : NameId) → not (listed n) ≡ true → not (part n) ≡ true
  outside_keeps n h =
      ⊎_elim (λ e. absurd (both_ways (listed n) (not-true _ h) (fewer n e))) (λ e. not_from_false _ e) (cases_Bool (part n))

  named_keeps : (b : Bool) (n : NameId) → outside listed b n ≡ true → outside part b n ≡ true
  named_keeps b n = and_keeps b _ b _ (λ k. k) (outside_keeps n)

  mutual
    empty_shrinks : (f : Form) → empty_term c d listed f ≡ true → empty_term c d part f ≡ true
    empty_shrinks nothing h = h
    empty_shrinks everything h = h
    empty_shrinks (concept n) h = named_keeps _ n h
    empty_shrinks (just a) h = h
    empty_shrinks (negation f) h = full_shrinks f h
    empty_shrinks (both f g) h = or_keeps _ _ _ _ (empty_shrinks f) (empty_shrinks g) h
    empty_shrinks (exists r f) h = or_keeps _ _ _ _ (named_keeps _ (role_name r)) (empty_shrinks f) h
    empty_shrinks (at_least n r f) h = or_keeps _ _ _ _ (named_keeps _ (role_name r)) (empty_shrinks f) h

    full_shrinks : (f : Form) → full_term c d listed f ≡ true → full_term c d part f ≡ true
    full_shrinks nothing h = h
    full_shrinks everything h = h
    full_shrinks (concept n) h = named_keeps _ n h
    full_shrinks (just a) h = h
    full_shrinks (negation f) h = empty_shrinks f h
    full_shrinks (both f g) h = and_keeps _ _ _ _ (full_shrinks f) (full_shrinks g) h
    full_shrinks (exists r f) h = and_keeps _ _ _ _ (named_keeps _ (role_name r)) (full_shrinks f) h
    full_shrinks (at_least n r f) h = h

  pub local_shrinks : (r : Rule) → local_rule c d listed r ≡ true → local_rule c d part r ≡ true
  local_shrinks (inclusion f g) h = or_keeps _ _ _ _ (empty_shrinks f) (full_shrinks g) h
  local_shrinks (equivalence f g) h =
      or_keeps _ _ _ _ (and_keeps _ _ _ _ (empty_shrinks f) (empty_shrinks g)) (and_keeps _ _ _ _ (full_shrinks f) (full_shrinks g)) h
  local_shrinks (role_inclusion r s) h =
      or_keeps _ _ _ _ (named_keeps _ (role_name r)) (named_keeps _ (role_name s)) h
  local_shrinks (transitive r) h = named_keeps _ r h
  local_shrinks (functional r) h = named_keeps _ (role_name r) h
  local_shrinks (member a f) h = full_shrinks f h
  local_shrinks (related r a b) h = named_keeps _ r h
