-- What naming does to the names of a book, and what it answers.
use Rattle.std.specs.Prelude.{ℕ, false, if◌then◌else◌, List, [], ◌∷◌, ◌++◌, map, length, Ok, Err, Result, nat_le}
use Rattle.refusals.specs.Turns.{Turn, accepted_turn, refused_turn}
use Rattle.vocabulary.specs.declared.kind.Kind.{Kind}
use Rattle.vocabulary.specs.declared.name.NameId.{NameId}
use Rattle.vocabulary.specs.declared.fault.NameFault.{NameFault}
use Rattle.vocabulary.specs.declared.fault.NameFault.TheVariants.{LabelTaken, TableFull}
use Rattle.vocabulary.specs.declared.table.Vocabulary.{Vocabulary}
use Rattle.vocabulary.specs.Limits.{most_names}
use Rattle.vocabulary.specs.Entities.{Entity, entity, is_taken, kind_or_fault, label_or_fault}

-- the names of a table
abbrev pub entities : Vocabulary → List Entity
entities v = map entity v.names

-- a name that was just made: it is not seeded
abbrev pub new_name : Kind → List ℕ → Entity
new_name k l = record { kind = k; label = l; seeded = false }

-- a name of a kind that there is, with a label that is one: it is refused where a name has both already, then where there
-- are as many names as there may be; else it stands at the end, and is numbered by how many there were
abbrev pub new_name_turn : List Entity → Kind → List ℕ → Turn (List Entity) (Result NameId NameFault)
new_name_turn es k l =
    if is_taken k l es then refused_turn es LabelTaken
    else if nat_le most_names (length es) then refused_turn es TableFull
    else accepted_turn (es ++ new_name k l ∷ []) (record { 0 = length es })

-- the kind is looked at first, then the label, then the names that there are
abbrev pub naming_turn : List Entity → Result Kind NameFault → Result (List ℕ) NameFault → Turn (List Entity) (Result NameId NameFault)
naming_turn es (Err f) l = refused_turn es f
naming_turn es (Ok k) (Err f) = refused_turn es f
naming_turn es (Ok k) (Ok l) = new_name_turn es k l

-- naming with a kind byte and a label
unfoldable pub naming : List Entity → ℕ → List ℕ → Turn (List Entity) (Result NameId NameFault)
naming es b l = naming_turn es (kind_or_fault b) (label_or_fault l)
