-- The tables of a test: when a term counts as empty or as full by its form, and when an axiom is
-- local. They ask of what outside names are set to only for the properties of specs/Defaults.
use Rattle.std.specs.Prelude.{Bool, true, false, not, ◌&&◌, ◌||◌}
use Rattle.vocabulary.specs.declared.name.NameId.{NameId}
use Rattle.terms.specs.Roles.{role_name}
use Rattle.terms.specs.Forms.{Form, Rule, nothing, everything, concept, just, negation, both, exists, at_least, inclusion, equivalence, role_inclusion, transitive, functional, member, related}
use Rattle.locality.specs.declared.defaults.ConceptDefault.{ConceptDefault}
use Rattle.locality.specs.declared.defaults.RoleDefault.{RoleDefault}
use Rattle.locality.specs.declared.test.Test.{Test}
use Rattle.locality.specs.Defaults.{has_no_element, has_every_element, has_no_pair, falls_short, has_partners, has_every_pair, is_transitive, is_functional, concepts_of, roles_of, default_of}
use Rattle.locality.specs.Laws.{TestMeaning}
use Rattle.locality.specs.Worlds.{Names}

-- the name is outside the list, and what it is then set to has the property
abbrev pub outside : Names → Bool → NameId → Bool
outside listed property n = property && not (listed n)

-- what concepts and roles outside the list are set to, and the list
module _ (c : ConceptDefault) (d : RoleDefault) (listed : Names) where
  -- the term is empty, or full, by its form: in a world whose names outside have the default no
  -- element is in it, or every. Of a role item only the name counts, either way round.
  abbrev mutual
    pub empty_term : Form → Bool
    empty_term nothing = true
    empty_term everything = false
    empty_term (concept n) = outside listed (has_no_element c) n
    empty_term (just a) = false
    empty_term (negation f) = full_term f
    empty_term (both f g) = empty_term f || empty_term g
    empty_term (exists r f) = outside listed (has_no_pair d) (role_name r) || empty_term f
    empty_term (at_least n r f) = outside listed (falls_short d n) (role_name r) || empty_term f

    pub full_term : Form → Bool
    full_term nothing = false
    full_term everything = true
    full_term (concept n) = outside listed (has_every_element c) n
    full_term (just a) = false
    full_term (negation f) = empty_term f
    full_term (both f g) = full_term f && full_term g
    full_term (exists r f) = outside listed (has_partners d) (role_name r) && full_term f
    full_term (at_least n r f) = false

  abbrev pub local_rule : Rule → Bool
  local_rule (inclusion f g) = empty_term f || full_term g
  local_rule (equivalence f g) = (empty_term f && empty_term g) || (full_term f && full_term g)
  local_rule (role_inclusion r s) =
      outside listed (has_no_pair d) (role_name r) ||
      outside listed (has_every_pair d) (role_name s)
  local_rule (transitive r) = outside listed (is_transitive d) r
  local_rule (functional r) = outside listed (is_functional d) (role_name r)
  local_rule (member a f) = full_term f
  local_rule (related r a b) = outside listed (has_every_pair d) r

-- by a test: the term is empty, it is full, the axiom is local
abbrev pub empty_by : Test → Names → Form → Bool
empty_by t listed f = empty_term (concepts_of t) (roles_of t) listed f

abbrev pub full_by : Test → Names → Form → Bool
full_by t listed f = full_term (concepts_of t) (roles_of t) listed f

abbrev pub local_by : Test → Rule → Names → Bool
local_by t r listed = local_rule (concepts_of t) (roles_of t) listed r

abbrev pub test_meaning : Test → TestMeaning
test_meaning t = record { local = local_by t; default = default_of t }
