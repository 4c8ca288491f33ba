-- What is promised of a list of calls on an empty draft, whichever they are, and of an extractor on the book then. It
-- mentions no buffer and no answer, so marking, writing and what else is done with a book cite it.
use Rattle.std.specs.Prelude.{◌≡◌, Bool, true, List, ◌++◌}
use Rattle.std.specs.List.{list_all}
use Rattle.book.specs.Contents.{Contents}
use Rattle.book.specs.Proper.{Proper}
use Rattle.extraction.specs.Extractions.{Extraction}
use Rattle.extraction.specs.Extractors.{Meaning}
use Rattle.records.specs.Files.{all_bytes}
use Rattle.part.specs.Writing.{ReadBack, WrittenAgain}
use Rattle.runs.specs.History.{book_after, history, standing_after}
use Rattle.runs.specs.Steps.{Step, Standing, change, file, load, state_after, state_from}

-- a body that is filed and a file that is loaded are bytes
abbrev pub is_of_bytes : Step → Bool
is_of_bytes (change (file kind body)) = all_bytes body
is_of_bytes (change (load bytes)) = all_bytes bytes
is_of_bytes _ = true

abbrev pub AreOfBytes : List Step → Type 0
AreOfBytes cs = list_all is_of_bytes cs ≡ true

-- what is promised of a book, and of what an extractor comes to on it
pub record BookPromise (b : Contents) (x : Extraction) : Type 0 where
  -- every limit is kept, and each number in an axiom belongs to a name of the kind wanted
  pub proper : Proper b
  -- the extractor keeps axioms in force; if these hold in a world, then all axioms in force hold in its repair, which
  -- touches no element, no individual and no name of the closed signature; what each of its stages marks is the least
  -- closed set of the axioms handed up to it, and the rounds are bounded
  pub means : Meaning b x
  -- the part of the kept axioms, loaded into an empty book, gives the same names and signature and these axioms
  pub back : ReadBack b x.kept
  -- a file in the writer's order that was loaded is written again
  pub again : WrittenAgain b x.kept

-- what is promised of a list of calls
pub record Promise (cs : List Step) (x : Contents → Extraction) : Type 0 where
  -- the book stands as follows from its history alone: its status, its names and axioms, which of these are in force, and
  -- its signature
  pub stands : state_after cs ≡ standing_after (history cs)
  -- and the book that follows keeps its promise
  pub keeps : BookPromise (book_after (history cs)) (x (book_after (history cs)))

-- the promise holds of every list of calls that leads to a book that stands so
abbrev pub LedTo : Standing → (Contents → Extraction) → Type 0
LedTo s x = (cs : List Step) → s ≡ state_after cs → Promise cs x

-- and of every such list with more calls behind it, which leads to where these lead from there
abbrev pub LedThrough : Standing → List Step → (Contents → Extraction) → Type 0
LedThrough s more x =
    (cs : List Step) → s ≡ state_after cs → (state_from s more ≡ state_after (cs ++ more)) × Promise (cs ++ more) x
