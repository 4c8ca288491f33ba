-- What is cut out of the bytes of a book file.
use Rattle.std.specs.Prelude.{◌≡◌, ℕ, List, [], ◌∷◌, ◌++◌, map, replicate, Some, Ok}
use Rattle.refusals.specs.Turns.{Gives}
use Rattle.vocabulary.specs.Limits.{most_names}
use Rattle.book.specs.Calls.{empty}
use Rattle.book.specs.Limits.{most_axioms}
use Rattle.records.specs.Loading.{loading}
use Rattle.locality.specs.declared.test.Test.{Test}
use Rattle.extraction.specs.declared.marking.Marking.{Marking}
use Rattle.extraction.specs.Marking.{Buffers, lent}
use Rattle.part.specs.Parts.{part_bytes}
use Rattle.runs.specs.Promise.{Promise}
use Rattle.runs.specs.Resting.{marking_if_frozen}
use Rattle.runs.specs.Steps.{Change, Step, change, load, freeze, state_after}
use Rattle.scripts.specs.Replies.{pile_of}
use Rattle.winavulor.specs.Words.{seedings}

-- the two buffers before a cut is marked
abbrev pub no_marks : Buffers
no_marks = lent (replicate most_axioms 0) (replicate most_names 0)

-- what a cut marked, what marking answered, and the bytes of its part
pub record Product : Type 0 where
  pub marks : Buffers
  pub marking : Marking
  pub part : List ℕ

-- the calls of a cut: loading the file's bytes, edits behind that, and freezing
abbrev pub cut_calls : List ℕ → List Change → List Step
cut_calls bytes edits = change (load bytes) ∷ (map change edits ++ freeze ∷ [])

-- loading the file's bytes into an empty book takes all its records; behind it stand the edits that the words of the cut ask
-- for, on the names loaded; of these calls and of the pile all is promised that a marking promises; the marks and the answer
-- are those of the book that the calls lead to, and the part is that of the axioms kept of it
pub record IsCutFrom (bytes : List ℕ) (records : ℕ) (words : List (List ℕ)) (tests : List Test) (p : Product) : Type 0 where
  pub edits : List Change
  pub taken : (loading empty bytes).answer ≡ Ok records
  pub seeds : seedings (loading empty bytes).state.names words ≡ Ok edits
  pub promise : Promise (cut_calls bytes edits) (pile_of tests)
  pub marked : Gives p.marks (Some (Ok p.marking)) (marking_if_frozen (pile_of tests) (state_after (cut_calls bytes edits)) no_marks)
  pub written : let b = (state_after (cut_calls bytes edits)).book in p.part ≡ part_bytes b (pile_of tests b).kept
