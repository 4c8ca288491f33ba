-- What a table of terms holds.
use Rattle.std.specs.Prelude.{◌≡◌, if◌then◌else◌, List, [], ◌∷◌, ◌++◌, length, Some, None, Option, nat_lt}
use Rattle.terms.specs.Limits.{most_nodes}
use Rattle.terms.specs.declared.term.Term.{Term}
use Rattle.terms.specs.declared.term.TermId.{TermId}
use Rattle.terms.specs.declared.table.Terms.{Terms}

-- the nodes of a table
abbrev pub nodes_of : Terms → List Term
nodes_of t = t.nodes

-- a node was added at the end, and its place answered, unless the table was full
pub record Pushed (old : List Term) (node : Term) (r : Option TermId) (new : List Term) : Type 0 where
  pub nodes : new ≡ (if nat_lt (length old) most_nodes then old ++ node ∷ [] else old)
  pub answer : r ≡ (if nat_lt (length old) most_nodes then Some (record { 0 = length old }) else None)
