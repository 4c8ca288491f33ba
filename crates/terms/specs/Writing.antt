-- The format of a body: the bytes that a term and an axiom are written as.
use Rattle.std.specs.Prelude.{ℕ, List, [], ◌∷◌, ◌++◌}
use Rattle.vocabulary.specs.declared.name.NameId.{NameId}
use Rattle.terms.specs.declared.«axiom».AxiomKind.{AxiomKind}
use Rattle.terms.specs.declared.«axiom».AxiomKind.TheVariants.{Inclusion, Equivalence, RoleInclusion, Transitive, Functional, ConceptAssertion, RoleAssertion}
use Rattle.terms.specs.declared.term.RoleItem.{RoleItem}
use Rattle.terms.specs.declared.term.RoleItem.TheVariants.{Forward, Inverse}
use Rattle.terms.specs.Numbers.{two_bytes}
use Rattle.terms.specs.Forms.{Form, Rule, nothing, everything, concept, just, negation, both, exists, at_least, inclusion, equivalence, role_inclusion, transitive, functional, member, related}

abbrev pub name_bytes : NameId → List ℕ
name_bytes n = two_bytes n.0

abbrev pub role_bytes : RoleItem → List ℕ
role_bytes (Forward r) = 0 ∷ name_bytes r
role_bytes (Inverse r) = 1 ∷ name_bytes r

abbrev pub term_bytes : Form → List ℕ
term_bytes nothing = 0 ∷ []
term_bytes everything = 1 ∷ []
term_bytes (concept n) = 2 ∷ name_bytes n
term_bytes (just n) = 3 ∷ name_bytes n
term_bytes (negation f) = 4 ∷ term_bytes f
term_bytes (both f g) = 5 ∷ (term_bytes f ++ term_bytes g)
term_bytes (exists r f) = 6 ∷ (role_bytes r ++ term_bytes f)
term_bytes (at_least n r f) = 7 ∷ (two_bytes n ++ (role_bytes r ++ term_bytes f))

-- the body of an axiom
abbrev pub body_bytes : Rule → List ℕ
body_bytes (inclusion f g) = term_bytes f ++ term_bytes g
body_bytes (equivalence f g) = term_bytes f ++ term_bytes g
body_bytes (role_inclusion r s) = role_bytes r ++ role_bytes s
body_bytes (transitive r) = name_bytes r
body_bytes (functional r) = role_bytes r
body_bytes (member a f) = name_bytes a ++ term_bytes f
body_bytes (related r a b) = name_bytes r ++ (name_bytes a ++ name_bytes b)

-- the kind of an axiom
abbrev pub rule_kind : Rule → AxiomKind
rule_kind (inclusion f g) = Inclusion
rule_kind (equivalence f g) = Equivalence
rule_kind (role_inclusion r s) = RoleInclusion
rule_kind (transitive r) = Transitive
rule_kind (functional r) = Functional
rule_kind (member a f) = ConceptAssertion
rule_kind (related r a b) = RoleAssertion
