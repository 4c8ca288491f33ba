-- Which names stand in a term and in an axiom: individuals count too.
use Rattle.std.specs.Prelude.{Bool, false, ◌||◌, ◌==◌}
use Rattle.vocabulary.specs.declared.name.NameId.{NameId}
use Rattle.terms.specs.Roles.{role_name}
use Rattle.terms.specs.Forms.{Form, Rule, nothing, everything, concept, just, negation, both, exists, at_least, inclusion, equivalence, role_inclusion, transitive, functional, member, related}
use Rattle.locality.specs.Worlds.{Names}

-- the two names are the same
abbrev pub same : NameId → NameId → Bool
same n m = n.0 == m.0

-- the name stands in the term
abbrev pub in_term : Form → Names
in_term nothing n = false
in_term everything n = false
in_term (concept m) n = same m n
in_term (just m) n = same m n
in_term (negation f) n = in_term f n
in_term (both f g) n = in_term f n || in_term g n
in_term (exists r f) n = same (role_name r) n || in_term f n
in_term (at_least k r f) n = same (role_name r) n || in_term f n

-- the name stands in the axiom
abbrev pub in_rule : Rule → Names
in_rule (inclusion f g) n = in_term f n || in_term g n
in_rule (equivalence f g) n = in_term f n || in_term g n
in_rule (role_inclusion r s) n = same (role_name r) n || same (role_name s) n
in_rule (transitive r) n = same r n
in_rule (functional r) n = same (role_name r) n
in_rule (member a f) n = same a n || in_term f n
in_rule (related r a b) n = same r n || (same a n || same b n)
