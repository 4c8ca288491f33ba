-- The format of a body: how its bytes are read from left to right, item by item, and which item is the first faulty one.
use Rattle.std.specs.Prelude.{ℕ, zero, suc, ◌+◌, Bool, false, if◌then◌else◌, List, length, Some, None, Option, nat_lt, slice_index}
use Rattle.vocabulary.specs.declared.kind.Kind.{Kind}
use Rattle.vocabulary.specs.declared.kind.Kind.TheVariants as Kind'
use Rattle.vocabulary.specs.declared.name.NameId.{NameId}
use Rattle.vocabulary.specs.Kinds.{same_kind}
use Rattle.vocabulary.specs.Entities.{Entity, kind_at}
use Rattle.terms.specs.declared.«axiom».AxiomKind.{AxiomKind}
use Rattle.terms.specs.declared.«axiom».AxiomKind.TheVariants.{Inclusion, Equivalence, RoleInclusion, Transitive, Functional, ConceptAssertion, RoleAssertion}
use Rattle.terms.specs.declared.code.Code.{Code}
use Rattle.terms.specs.declared.code.Code.TheVariants.{Nothing, Everything, Concept, Just, Not, And, Exists, AtLeast}
use Rattle.terms.specs.declared.code.Direction.{Direction}
use Rattle.terms.specs.declared.code.Direction.TheVariants as Direction'
use Rattle.terms.specs.declared.fault.ItemFault.{ItemFault}
use Rattle.terms.specs.declared.fault.ItemFault.TheVariants.{TooDeep, CutShort, UnknownCode, UnknownDirection, WrongName, ZeroCount}
use Rattle.terms.specs.declared.term.RoleItem.{RoleItem}
use Rattle.terms.specs.declared.term.RoleItem.TheVariants.{Forward, Inverse}
use Rattle.terms.specs.Codes.{code_of, direction_of, count_of}
use Rattle.terms.specs.Limits.{most_levels}
use Rattle.terms.specs.Numbers.{number_of}
use Rattle.terms.specs.Forms.{Form, Rule, nothing, everything, concept, just, negation, both, exists, at_least, inclusion, equivalence, role_inclusion, transitive, functional, member, related}

-- what reading gives: a value and the place after it, or the first faulty item
pub data Outcome (X : Type 0) : Type 0 where
  got : X → ℕ → Outcome X
  bad : ItemFault → Outcome X

-- one after the other: a fault ends the reading
abbrev pub next : {X Y : Type 0} → Outcome X → (X → ℕ → Outcome Y) → Outcome Y
next (got x at) more = more x at
next (bad fault) more = bad fault

-- a value that its item must stand for
abbrev pub value_or_fault : {X : Type 0} → Option X → ItemFault → ℕ → Outcome X
value_or_fault (Some x) fault at = got x at
value_or_fault None fault at = bad fault

-- there is a name, and it is of the kind wanted
abbrev pub is_of_kind : Option Kind → Kind → Bool
is_of_kind None k = false
is_of_kind (Some j) k = same_kind j k

module _ (body : List ℕ) where
  -- one byte of the item that begins at `start`
  abbrev pub read_byte : ℕ → ℕ → Outcome ℕ
  read_byte start at =
      if nat_lt at (length body) then got (slice_index body at) (at + 1)
      else bad (CutShort start)

  -- a number of two bytes
  abbrev pub read_number : ℕ → Outcome ℕ
  read_number at = next (read_byte at at) (λ low mid. next (read_byte at mid) (λ high end. got (number_of low high) end))

  abbrev pub read_code : ℕ → Outcome Code
  read_code at = next (read_byte at at) (λ b end. value_or_fault (code_of b) (UnknownCode at) end)

  abbrev pub read_direction : ℕ → Outcome Direction
  read_direction at = next (read_byte at at) (λ b end. value_or_fault (direction_of b) (UnknownDirection at) end)

  abbrev pub read_count : ℕ → Outcome ℕ
  read_count at = next (read_number at) (λ n end. value_or_fault (count_of n) (ZeroCount at) end)

  module _ (names : List Entity) where
    abbrev pub read_name : Kind → ℕ → Outcome NameId
    read_name k at =
        next (read_number at) (λ n end.
        if is_of_kind (kind_at names n) k then got (record { 0 = n }) end
        else bad (WrongName at))

    abbrev pub role_item : Direction → NameId → RoleItem
    role_item Direction'.Forward r = Forward r
    role_item Direction'.Inverse r = Inverse r

    abbrev pub read_role : ℕ → Outcome RoleItem
    read_role at = next (read_direction at) (λ d mid. next (read_name Kind'.Role mid) (λ r end. got (role_item d r) end))

    -- what follows a code; `inner` reads the terms inside
    abbrev pub read_rest : (ℕ → Outcome Form) → Code → ℕ → Outcome Form
    read_rest inner Nothing at = got nothing at
    read_rest inner Everything at = got everything at
    read_rest inner Concept at = next (read_name Kind'.Concept at) (λ n end. got (concept n) end)
    read_rest inner Just at = next (read_name Kind'.Individual at) (λ n end. got (just n) end)
    read_rest inner Not at = next (inner at) (λ f end. got (negation f) end)
    read_rest inner And at = next (inner at) (λ f mid. next (inner mid) (λ g end. got (both f g) end))
    read_rest inner Exists at = next (read_role at) (λ r mid. next (inner mid) (λ f end. got (exists r f) end))
    read_rest inner AtLeast at =
        next (read_count at) (λ n mid. next (read_role mid) (λ r far. next (inner far) (λ f end. got (at_least n r f) end)))

    -- a term, where so many levels are still allowed: with none left it is refused, even at the body's end
    abbrev pub read_term : ℕ → ℕ → Outcome Form
    read_term zero at = bad (TooDeep at)
    read_term (suc levels) at = next (read_code at) (λ code mid. read_rest (read_term levels) code mid)

    -- a term of an axiom
    unfoldable pub read_whole : ℕ → Outcome Form
    read_whole at = read_term most_levels at

    -- the items of an axiom of a kind, from the body's beginning
    abbrev pub read_axiom : AxiomKind → Outcome Rule
    read_axiom Inclusion = next (read_whole 0) (λ f mid. next (read_whole mid) (λ g end. got (inclusion f g) end))
    read_axiom Equivalence = next (read_whole 0) (λ f mid. next (read_whole mid) (λ g end. got (equivalence f g) end))
    read_axiom RoleInclusion = next (read_role 0) (λ r mid. next (read_role mid) (λ s end. got (role_inclusion r s) end))
    read_axiom Transitive = next (read_name Kind'.Role 0) (λ r end. got (transitive r) end)
    read_axiom Functional = next (read_role 0) (λ r end. got (functional r) end)
    read_axiom ConceptAssertion = next (read_name Kind'.Individual 0) (λ a mid. next (read_whole mid) (λ f end. got (member a f) end))
    read_axiom RoleAssertion =
        next (read_name Kind'.Role 0) (λ r mid. next (read_name Kind'.Individual mid) (λ a far. next (read_name Kind'.Individual far) (λ b end. got (related r a b) end)))
