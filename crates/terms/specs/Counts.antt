-- Whether every count in a term and in an axiom is at least 1, as it is in every axiom of a book.
use Rattle.std.specs.Prelude.{Bool, true, ◌&&◌, nat_le}
use Rattle.terms.specs.Forms.{Form, Rule, nothing, everything, concept, just, negation, both, exists, at_least, inclusion, equivalence, role_inclusion, transitive, functional, member, related}

abbrev pub counts_in : Form → Bool
counts_in nothing = true
counts_in everything = true
counts_in (concept n) = true
counts_in (just a) = true
counts_in (negation f) = counts_in f
counts_in (both f g) = counts_in f && counts_in g
counts_in (exists r f) = counts_in f
counts_in (at_least n r f) = nat_le 1 n && counts_in f

abbrev pub counts_fit : Rule → Bool
counts_fit (inclusion f g) = counts_in f && counts_in g
counts_fit (equivalence f g) = counts_in f && counts_in g
counts_fit (role_inclusion r s) = true
counts_fit (transitive r) = true
counts_fit (functional r) = true
counts_fit (member a f) = counts_in f
counts_fit (related r a b) = true
