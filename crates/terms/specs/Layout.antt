-- Which items are due in a body, and where, from left to right, as the bytes alone tell it.
--
-- Each item has a width of its own, whatever its bytes are worth: so what follows a wrong name number, a direction byte
-- above 1 or a count of 0 is still told. What follows a code is told by the code: behind one that stands for nothing, is
-- cut off by the body's end, or is inside too many terms, nothing more is due, and the layout has no end.
use Rattle.std.specs.Prelude.{ℕ, zero, suc, ◌+◌, List, [], ◌∷◌, ◌++◌, Some, None, Option, slice_get, option_and_then}
use Rattle.vocabulary.specs.declared.kind.Kind.{Kind}
use Rattle.vocabulary.specs.declared.kind.Kind.TheVariants as Kind'
use Rattle.terms.specs.declared.«axiom».AxiomKind.{AxiomKind}
use Rattle.terms.specs.declared.«axiom».AxiomKind.TheVariants.{Inclusion, Equivalence, RoleInclusion, Transitive, Functional, ConceptAssertion, RoleAssertion}
use Rattle.terms.specs.declared.code.Code.{Code}
use Rattle.terms.specs.declared.code.Code.TheVariants.{Nothing, Everything, Concept, Just, Not, And, Exists, AtLeast}
use Rattle.terms.specs.Codes.{code_of}
use Rattle.terms.specs.Limits.{most_levels}

-- what an item is
pub data Item : Type 0 where
  -- the code of a term, with so many terms around it
  code : ℕ → Item
  count : Item
  direction : Item
  -- the number of a name of this kind
  number : Kind → Item

-- how many bytes an item has
abbrev pub width : Item → ℕ
width (code around) = 1
width count = 2
width direction = 1
width (number kind) = 2

-- an item that is due at a place of the body
pub record Due : Type 0 where
  pub item : Item
  pub place : ℕ

-- the items that are due one behind the other, and the place behind the last one if all of them are told
pub record Layout : Type 0 where
  pub items : List Due
  pub end : Option ℕ

-- nothing is due
abbrev pub empty_layout : ℕ → Layout
empty_layout at = record { items = []; end = Some at }

-- an item, and nothing told of what follows
abbrev pub broken_layout : Item → ℕ → Layout
broken_layout x at = record { items = record { item = x; place = at } ∷ []; end = None }

-- one layout behind another, if that one ends
abbrev pub sequence_from : Option ℕ → List Due → (ℕ → Layout) → Layout
sequence_from None items more = record { items = items; end = None }
sequence_from (Some at) items more = record { items = items ++ (more at).items; end = (more at).end }

abbrev pub sequence : Layout → (ℕ → Layout) → Layout
sequence l more = sequence_from l.end l.items more

-- an item
abbrev pub item_layout : Item → ℕ → Layout
item_layout x at = record { items = record { item = x; place = at } ∷ []; end = Some (at + width x) }

-- a role item
abbrev pub role_layout : ℕ → Layout
role_layout at = sequence (item_layout direction at) (item_layout (number Kind'.Role))

-- what is due behind a code; `inner` is due where a term is
abbrev pub parts_layout : (ℕ → Layout) → Code → ℕ → Layout
parts_layout inner Nothing at = empty_layout at
parts_layout inner Everything at = empty_layout at
parts_layout inner Concept at = item_layout (number Kind'.Concept) at
parts_layout inner Just at = item_layout (number Kind'.Individual) at
parts_layout inner Not at = inner at
parts_layout inner And at = sequence (inner at) inner
parts_layout inner Exists at = sequence (role_layout at) inner
parts_layout inner AtLeast at = sequence (item_layout count at) (λ mid. sequence (role_layout mid) inner)

-- a term: its code, and behind it what the code tells, if it stands for anything
abbrev pub coded_layout : (ℕ → Layout) → ℕ → Option Code → ℕ → Layout
coded_layout inner around None at = broken_layout (code around) at
coded_layout inner around (Some c) at = sequence (item_layout (code around) at) (parts_layout inner c)

module _ (body : List ℕ) where
  -- a term with so many terms around it, where so many levels are still allowed
  abbrev pub term_layout : ℕ → ℕ → ℕ → Layout
  term_layout zero around at = broken_layout (code around) at
  term_layout (suc levels) around at = coded_layout (term_layout levels (suc around)) around (option_and_then code_of (slice_get body at)) at

  -- a term of an axiom
  unfoldable pub whole_layout : ℕ → Layout
  whole_layout at = term_layout most_levels 0 at

  -- the items of an axiom of a kind
  abbrev pub layout : AxiomKind → Layout
  layout Inclusion = sequence (whole_layout 0) whole_layout
  layout Equivalence = sequence (whole_layout 0) whole_layout
  layout RoleInclusion = sequence (role_layout 0) role_layout
  layout Transitive = item_layout (number Kind'.Role) 0
  layout Functional = role_layout 0
  layout ConceptAssertion = sequence (item_layout (number Kind'.Individual) 0) whole_layout
  layout RoleAssertion =
      sequence (item_layout (number Kind'.Role) 0) (λ mid.
      sequence (item_layout (number Kind'.Individual) mid) (item_layout (number Kind'.Individual)))
