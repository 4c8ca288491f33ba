-- What the concepts and the roles outside a list are set to, what a rule may need of that, and what
-- each test sets them to.
use Rattle.std.specs.Prelude.{ℕ, Bool, true, false}
use Rattle.locality.specs.declared.defaults.ConceptDefault.{ConceptDefault}
use Rattle.locality.specs.declared.defaults.ConceptDefault.TheVariants as Concepts'
use Rattle.locality.specs.declared.defaults.RoleDefault.{RoleDefault}
use Rattle.locality.specs.declared.defaults.RoleDefault.TheVariants as Roles'
use Rattle.locality.specs.declared.test.Test.{Test}
use Rattle.locality.specs.declared.test.Test.TheVariants.{Bottom, Top}
use Rattle.locality.specs.Worlds.{Default}

-- in a world of so many elements: the element is in the concept
abbrev pub default_elements : ConceptDefault → ℕ → ℕ → Bool
default_elements Concepts'.Empty size x = false
default_elements Concepts'.Full size x = true

-- in a world of so many elements: the pair is in the role
abbrev pub default_pairs : RoleDefault → ℕ → ℕ → ℕ → Bool
default_pairs Roles'.Empty size x y = false
default_pairs Roles'.Full size x y = true

-- no element is in it, in any world
abbrev pub has_no_element : ConceptDefault → Bool
has_no_element Concepts'.Empty = true
has_no_element Concepts'.Full = false

-- every element is in it, in every world
abbrev pub has_every_element : ConceptDefault → Bool
has_every_element Concepts'.Empty = false
has_every_element Concepts'.Full = true

-- the properties of a role's default are the same read either way round
-- no element has a partner, in any world
abbrev pub has_no_pair : RoleDefault → Bool
has_no_pair Roles'.Empty = true
has_no_pair Roles'.Full = false

-- no element has n partners, in any world; n is 1 or more
abbrev pub falls_short : RoleDefault → ℕ → Bool
falls_short Roles'.Empty n = true
falls_short Roles'.Full n = false

-- every element has a partner, in every world
abbrev pub has_partners : RoleDefault → Bool
has_partners Roles'.Empty = false
has_partners Roles'.Full = true

-- every element is every element's partner, in every world
abbrev pub has_every_pair : RoleDefault → Bool
has_every_pair Roles'.Empty = false
has_every_pair Roles'.Full = true

-- a partner of an element's partner is the element's partner, in every world
abbrev pub is_transitive : RoleDefault → Bool
is_transitive Roles'.Empty = true
is_transitive Roles'.Full = true

-- no element has two partners, in any world
abbrev pub is_functional : RoleDefault → Bool
is_functional Roles'.Empty = true
is_functional Roles'.Full = false

-- what a test sets concepts and roles outside the list to
abbrev pub concepts_of : Test → ConceptDefault
concepts_of Bottom = Concepts'.Empty
concepts_of Top = Concepts'.Full

abbrev pub roles_of : Test → RoleDefault
roles_of Bottom = Roles'.Empty
roles_of Top = Roles'.Full

abbrev pub default_of : Test → Default
default_of t = record {
  concept = default_elements (concepts_of t);
  role = default_pairs (roles_of t);
}
