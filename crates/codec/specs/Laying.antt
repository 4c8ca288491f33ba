-- Which nodes terms are laid down as in a table, from a place on: those of the terms inside one, in their order, and
-- behind them its own, which names the places of the inner ones. So the node of a whole term is the last of its nodes.
use Rattle.std.specs.Prelude.{ℕ, ◌+◌, ◌-◌, max, List, [], ◌∷◌, ◌++◌, length}
use Rattle.std.proofs.Math.Nat.{le-max_left}
use Rattle.terms.specs.declared.count.Count.{Count}
use Rattle.terms.specs.declared.term.TermId.{TermId}
use Rattle.terms.specs.declared.term.Term.{Term}
use Rattle.terms.specs.declared.term.Term.TheVariants.{Nothing, Everything, Concept, Just, Not, And, Exists, AtLeast}
use Rattle.terms.specs.declared.«axiom».Axiom.{Axiom}
use Rattle.terms.specs.declared.«axiom».Axiom.TheVariants.{Inclusion, Equivalence, RoleInclusion, Transitive, Functional, ConceptAssertion, RoleAssertion}
use Rattle.terms.specs.Forms.{Form, Rule, nothing, everything, concept, just, negation, both, exists, at_least, inclusion, equivalence, role_inclusion, transitive, functional, member, related}

-- a count as a node has it, which is at least 1
abbrev pub node_count : ℕ → Count
node_count n = record { value = max 1 n; some = le-max_left 1 n }

-- the place of the last of some nodes
abbrev pub last_place : ℕ → List Term → TermId
last_place from nodes = record { 0 = from + length nodes - 1 }

-- the nodes of a term
abbrev pub term_nodes : ℕ → Form → List Term
term_nodes from nothing = Nothing ∷ []
term_nodes from everything = Everything ∷ []
term_nodes from (concept n) = Concept n ∷ []
term_nodes from (just n) = Just n ∷ []
term_nodes from (negation f) = let inner = term_nodes from f in inner ++ Not (last_place from inner) ∷ []
term_nodes from (both f g) =
    let first = term_nodes from f in
    let mid = from + length first in
    let second = term_nodes mid g in
    first ++ second ++ And (last_place from first) (last_place mid second) ∷ []
term_nodes from (exists r f) = let inner = term_nodes from f in inner ++ Exists r (last_place from inner) ∷ []
term_nodes from (at_least n r f) =
    let inner = term_nodes from f in inner ++ AtLeast (node_count n) r (last_place from inner) ∷ []

-- where a term lies, and the place behind it
abbrev pub term_place : ℕ → Form → TermId
term_place from f = last_place from (term_nodes from f)

abbrev pub place_behind : ℕ → Form → ℕ
place_behind from f = from + length (term_nodes from f)

-- the nodes of an axiom: those of its terms, one behind the other
abbrev pub axiom_nodes : ℕ → Rule → List Term
axiom_nodes from (inclusion f g) = term_nodes from f ++ term_nodes (place_behind from f) g
axiom_nodes from (equivalence f g) = term_nodes from f ++ term_nodes (place_behind from f) g
axiom_nodes from (role_inclusion r s) = []
axiom_nodes from (transitive r) = []
axiom_nodes from (functional r) = []
axiom_nodes from (member a f) = term_nodes from f
axiom_nodes from (related r a b) = []

-- the axiom over these nodes
abbrev pub laid_axiom : ℕ → Rule → Axiom
laid_axiom from (inclusion f g) = Inclusion (term_place from f) (term_place (place_behind from f) g)
laid_axiom from (equivalence f g) = Equivalence (term_place from f) (term_place (place_behind from f) g)
laid_axiom from (role_inclusion r s) = RoleInclusion r s
laid_axiom from (transitive r) = Transitive r
laid_axiom from (functional r) = Functional r
laid_axiom from (member a f) = ConceptAssertion a (term_place from f)
laid_axiom from (related r a b) = RoleAssertion r a b
