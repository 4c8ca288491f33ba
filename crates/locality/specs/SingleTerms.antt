-- What the two tests say of some single terms.
use Rattle.std.specs.Prelude.{◌≡◌, true, false}
use Rattle.vocabulary.specs.declared.name.NameId.{NameId}
use Rattle.terms.specs.declared.term.RoleItem.{RoleItem}
use Rattle.terms.specs.Roles.{role_name}
use Rattle.terms.specs.Forms.{Form, everything, just, at_least}
use Rattle.locality.specs.declared.test.Test.{Test}
use Rattle.locality.specs.Tables.{empty_by, full_by}
use Rattle.locality.specs.Worlds.{Names}

-- at least two partners, by a role
abbrev pub two : RoleItem → Form
two r = at_least 2 r everything

-- the term is taken neither for empty nor for full
abbrev pub Neither : Test → Names → Form → Type 0
Neither d listed f = (empty_by d listed f ≡ false) × (full_by d listed f ≡ false)

-- for every role, every individual and every list
pub record SingleTerms (bottom top : Test) : Type 0 where
  -- where the role is outside the list, bottom takes "at least two" for empty
  pub two_outside :
      (r : RoleItem) (listed : Names) → listed (role_name r) ≡ false →
      empty_by bottom listed (two r) ≡ true
  -- where it is listed, for neither
  pub two_listed :
      (r : RoleItem) (listed : Names) → listed (role_name r) ≡ true → Neither bottom listed (two r)
  -- top never takes it for full: a world may have but one element
  pub two_top : (r : RoleItem) (listed : Names) → full_by top listed (two r) ≡ false
  -- one individual alone is taken for neither
  pub individual :
      (a : NameId) (listed : Names) → Neither bottom listed (just a) × Neither top listed (just a)
