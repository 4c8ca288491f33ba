-- Sets of a book's axioms, the signature of the book, and the names that belong to a set of its axioms.
use Rattle.std.specs.Prelude.{ℕ, Bool, false, not, ◌&&◌, ◌||◌, [], length, slice_index_or}
use Rattle.vocabulary.specs.declared.kind.Kind.TheVariants as Kind'
use Rattle.vocabulary.specs.Entities.{Entity}
use Rattle.terms.specs.Forms.{Rule, nothing, inclusion}
use Rattle.book.specs.Contents.{Contents, Filing}
use Rattle.locality.specs.Meaning.{some_below, count_below}
use Rattle.locality.specs.Mentions.{in_rule}
use Rattle.locality.specs.Worlds.{Names}

-- a set of axioms, by their numbers
abbrev pub Marks : Type 0
Marks = ℕ → Bool

-- what stands past the last axiom, and past the last name: an axiom that has no name and always holds, and is not in
-- force; a name that is not seeded
abbrev pub no_filing : Filing
no_filing = record { states = inclusion nothing nothing; in_force = false }

abbrev pub no_entity : Entity
no_entity = record { kind = Kind'.Concept; label = []; seeded = false }

module _ (b : Contents) where
  -- how many axioms and how many names there are
  abbrev pub axiom_count : ℕ
  axiom_count = length b.axioms

  abbrev pub name_count : ℕ
  name_count = length b.names

  -- what the axiom with a number states
  abbrev pub rule_at : ℕ → Rule
  rule_at k = (slice_index_or b.axioms k no_filing).states

  -- the axioms in force
  abbrev pub is_in_force : Marks
  is_in_force k = (slice_index_or b.axioms k no_filing).in_force

  -- the signature: the names that are seeded
  abbrev pub signature : Names
  signature n = (slice_index_or b.names n.0 no_entity).seeded

  -- the names that stand in an axiom of the set, individuals too
  abbrev pub names_of : Marks → Names
  names_of s n = some_below axiom_count (λ k. s k && in_rule (rule_at k) n)

  -- the signature with the names of all axioms of the set
  abbrev pub closed_signature : Marks → Names
  closed_signature s n = signature n || names_of s n

  -- the names of a list outside the signature
  abbrev pub outsiders : Names → Names
  outsiders listed n = listed n && not (signature n)

  -- the names that a set of axioms draws in: those of its closed signature outside the signature
  abbrev pub names_drawn_in : Marks → Names
  names_drawn_in s = outsiders (closed_signature s)

  -- how many axioms are in a set, and how many names
  abbrev pub size : Marks → ℕ
  size s = count_below axiom_count s

  abbrev pub list_size : Names → ℕ
  list_size listed = count_below name_count (λ n. listed (record { 0 = n }))
