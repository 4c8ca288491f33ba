-- Which terms and axioms a book may hold: each number belongs to a name of the kind wanted there, each count is at least 1
-- and fits two bytes, and no term has more than 24 levels.
use Rattle.std.specs.Prelude.{Bool, true, ◌&&◌, List, nat_le}
use Rattle.vocabulary.specs.declared.kind.Kind.{Kind}
use Rattle.vocabulary.specs.declared.kind.Kind.TheVariants.{Concept, Role, Individual}
use Rattle.vocabulary.specs.declared.name.NameId.{NameId}
use Rattle.vocabulary.specs.Entities.{Entity, kind_at}
use Rattle.terms.specs.declared.term.RoleItem.{RoleItem}
use Rattle.terms.specs.declared.term.RoleItem.TheVariants.{Forward, Inverse}
use Rattle.terms.specs.Limits.{most_levels, greatest_count}
use Rattle.terms.specs.Forms.{Form, Rule, nesting, nothing, everything, concept, just, negation, both, exists, at_least, inclusion, equivalence, role_inclusion, transitive, functional, member, related}
use Rattle.terms.specs.Reading.{is_of_kind}

module _ (names : List Entity) where
  abbrev pub name_fits : Kind → NameId → Bool
  name_fits k n = is_of_kind (kind_at names n.0) k

  abbrev pub role_fits : RoleItem → Bool
  role_fits (Forward r) = name_fits Role r
  role_fits (Inverse r) = name_fits Role r

  -- every number and every count in the term is a right one
  abbrev pub numbers_fit : Form → Bool
  numbers_fit nothing = true
  numbers_fit everything = true
  numbers_fit (concept n) = name_fits Concept n
  numbers_fit (just n) = name_fits Individual n
  numbers_fit (negation f) = numbers_fit f
  numbers_fit (both f g) = numbers_fit f && numbers_fit g
  numbers_fit (exists r f) = role_fits r && numbers_fit f
  numbers_fit (at_least n r f) = (nat_le 1 n && nat_le n greatest_count) && (role_fits r && numbers_fit f)

  abbrev pub term_fits : Form → Bool
  term_fits f = nat_le (nesting f) most_levels && numbers_fit f

  abbrev pub well_formed : Rule → Bool
  well_formed (inclusion f g) = term_fits f && term_fits g
  well_formed (equivalence f g) = term_fits f && term_fits g
  well_formed (role_inclusion r s) = role_fits r && role_fits s
  well_formed (transitive r) = name_fits Role r
  well_formed (functional r) = role_fits r
  well_formed (member a f) = name_fits Individual a && term_fits f
  well_formed (related r a b) = name_fits Role r && (name_fits Individual a && name_fits Individual b)
