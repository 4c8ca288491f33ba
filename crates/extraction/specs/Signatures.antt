-- A book with another signature.
use Rattle.std.specs.Prelude.{◌≡◌, ℕ, suc, ◌<◌, Bool, true, List, [], ◌∷◌}
use Rattle.vocabulary.specs.declared.name.NameId.{NameId}
use Rattle.vocabulary.specs.Entities.{Entity}
use Rattle.book.specs.Contents.{Contents}
use Rattle.locality.specs.Worlds.{Names}
use Rattle.locality.specs.Flags.{by_number}
use Rattle.extraction.specs.Sets.{name_count}

-- the names seeded or not as a list of numbers says, the first name by whether 0 is on it
abbrev pub seeded_by : (ℕ → Bool) → List Entity → List Entity
seeded_by listed [] = []
seeded_by listed (e ∷ es) =
    record { kind = e.kind; label = e.label; seeded = listed 0 } ∷ seeded_by (λ k. listed (suc k)) es

-- the book with the names of a list as its signature
abbrev pub with_signature : Contents → Names → Contents
with_signature b listed = record { names = seeded_by (by_number listed) b.names; axioms = b.axioms }

-- the list has names of the book only
abbrev pub ListsOwn : Contents → Names → Type 0
ListsOwn b listed = (n : NameId) → listed n ≡ true → n.0 < name_count b
