-- The role of a role item.
use Rattle.vocabulary.specs.declared.name.NameId.{NameId}
use Rattle.terms.specs.declared.term.RoleItem.{RoleItem}
use Rattle.terms.specs.declared.term.RoleItem.TheVariants.{Forward, Inverse}

-- the role's name, whichever way round it is taken
abbrev pub role_name : RoleItem → NameId
role_name (Forward r) = r
role_name (Inverse r) = r
