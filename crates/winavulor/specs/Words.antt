-- What words of the command line stand for.
use Rattle.std.specs.Prelude.{ℕ, List, [], ◌∷◌, ◌++◌, Some, None, Ok, Err, Option, Result, bytes_eq, position}
use Rattle.vocabulary.specs.Entities.{Entity}
use Rattle.vocabulary.specs.Kinds.{kind_text}
use Rattle.runs.specs.Steps.{Change, seed}

-- the word for a name: its kind, a colon, and its label
abbrev pub name_word : Entity → List ℕ
name_word e = kind_text e.kind ++ 58 ∷ e.label

-- the name that a word stands for: the first whose word it is
abbrev pub name_of_word : List Entity → List ℕ → Option ℕ
name_of_word es w = position (λ e. bytes_eq (name_word e) w) es

-- the name that a word stands for is seeded ahead of those of the words behind it
abbrev pub seeded_ahead : List ℕ → Option ℕ → Result (List Change) (List ℕ) → Result (List Change) (List ℕ)
seeded_ahead w None rest = Err w
seeded_ahead w (Some n) (Ok edits) = Ok (seed n ∷ edits)
seeded_ahead w (Some n) (Err v) = Err v

-- the edits of a cut: they seed the names that the words stand for, one after the other; or else the first word that
-- stands for no name
abbrev pub seedings : List Entity → List (List ℕ) → Result (List Change) (List ℕ)
seedings es [] = Ok []
seedings es (w ∷ ws) = seeded_ahead w (name_of_word es w) (seedings es ws)
