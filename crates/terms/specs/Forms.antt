-- Terms and axioms as trees, apart from any table, and the trees that a table's nodes stand for.
--
-- Two words each, for two things: a `Term` of src/ is one node of a table, which names the terms inside it by their places
-- there, and a `Form` is the whole tree that a node stands for; an `Axiom` of src/ names its terms by their places in a
-- table, and a `Rule` is what it states, with its terms as trees.
use Rattle.std.specs.Prelude.{ℕ, zero, suc, ◌+◌, max, List, slice_index_or}
use Rattle.vocabulary.specs.declared.name.NameId.{NameId}
use Rattle.terms.specs.Limits.{most_levels}
use Rattle.terms.specs.declared.term.RoleItem.{RoleItem}
use Rattle.terms.specs.declared.term.TermId.{TermId}
use Rattle.terms.specs.declared.term.Term.{Term}
use Rattle.terms.specs.declared.term.Term.TheVariants.{Nothing, Everything, Concept, Just, Not, And, Exists, AtLeast}
use Rattle.terms.specs.declared.«axiom».Axiom.{Axiom}
use Rattle.terms.specs.declared.«axiom».Axiom.TheVariants.{Inclusion, Equivalence, RoleInclusion, Transitive, Functional, ConceptAssertion, RoleAssertion}

-- a term as a tree
pub data Form : Type 0 where
  nothing : Form
  everything : Form
  concept : NameId → Form
  just : NameId → Form
  negation : Form → Form
  both : Form → Form → Form
  exists : RoleItem → Form → Form
  at_least : ℕ → RoleItem → Form → Form
  deriving IsSet as form_set

-- what an axiom states, with its terms as trees
pub data Rule : Type 0 where
  inclusion : Form → Form → Rule
  equivalence : Form → Form → Rule
  role_inclusion : RoleItem → RoleItem → Rule
  transitive : NameId → Rule
  functional : RoleItem → Rule
  member : NameId → Form → Rule
  related : NameId → NameId → NameId → Rule
  deriving IsSet as rule_set

-- a term with no term inside has nesting 1, every other one more than its deepest inner term
abbrev pub nesting : Form → ℕ
nesting nothing = 1
nesting everything = 1
nesting (concept n) = 1
nesting (just n) = 1
nesting (negation f) = 1 + nesting f
nesting (both f g) = 1 + max (nesting f) (nesting g)
nesting (exists r f) = 1 + nesting f
nesting (at_least n r f) = 1 + nesting f

-- a node, with the trees of its parts
abbrev pub shape : (TermId → Form) → Term → Form
shape inner Nothing = nothing
shape inner Everything = everything
shape inner (Concept n) = concept n
shape inner (Just n) = just n
shape inner (Not t) = negation (inner t)
shape inner (And t u) = both (inner t) (inner u)
shape inner (Exists r t) = exists r (inner t)
shape inner (AtLeast n r t) = at_least n.value r (inner t)

-- the tree at a place of a table, down to a number of levels
abbrev pub form : ℕ → List Term → TermId → Form
form zero ts t = nothing
form (suc n) ts t = shape (form n ts) (slice_index_or ts t.0 Nothing)

-- the whole tree: no term of a book has more than 24 levels
unfoldable pub meaning : List Term → TermId → Form
meaning ts t = form most_levels ts t

-- what an axiom of a table states
abbrev pub rule : List Term → Axiom → Rule
rule ts (Inclusion t u) = inclusion (meaning ts t) (meaning ts u)
rule ts (Equivalence t u) = equivalence (meaning ts t) (meaning ts u)
rule ts (RoleInclusion r s) = role_inclusion r s
rule ts (Transitive r) = transitive r
rule ts (Functional r) = functional r
rule ts (ConceptAssertion a t) = member a (meaning ts t)
rule ts (RoleAssertion r a b) = related r a b
