-- What the words of the command line ask for.
use Rattle.std.specs.Prelude.{ℕ, ◌||◌, if◌then◌else◌, List, [], ◌∷◌, codes, Some, None, Option, bytes_eq, map, string_bytes}
use Rattle.locality.specs.declared.test.Test.{Test}
use Rattle.locality.specs.declared.test.Test.TheVariants.{Bottom}
use Rattle.scripts.specs.Piles.{pile_named, test_named}
use Rattle.winavulor.specs.Options.{any_option}
use Rattle.winavulor.specs.declared.command.Command.{Command}
use Rattle.winavulor.specs.declared.command.Command.TheVariants as Command'

-- a task of the program: with one file, or with a book file, a part file, a pile, and the words for the names in use
pub data Task : Type 0 where
  example : Task
  help : Task
  check : List ℕ → Task
  show : List ℕ → Task
  run : List ℕ → Task
  cut : List ℕ → List ℕ → List Test → List (List ℕ) → Task

abbrev pub task_of : Command → Task
task_of Command'.Example = example
task_of Command'.Help = help
task_of (Command'.Check path) = check path.now
task_of (Command'.Show path) = show path.now
task_of (Command'.Run path) = run path.now
task_of (Command'.Cut order) = cut order.book.now order.part.now order.pile (map string_bytes order.names.now)

-- a word alone asks for the usage text, in three spellings
abbrev pub lone_task : List ℕ → Option Task
lone_task v = if bytes_eq v (codes "help") || (bytes_eq v (codes "--help") || bytes_eq v (codes "-h")) then (Some help) else None

abbrev pub file_task : List ℕ → List ℕ → Option Task
file_task v path = if bytes_eq v (codes "check") then (Some (check path)) else if bytes_eq v (codes "show") then (Some (show path)) else if bytes_eq v (codes "run") then (Some (run path)) else None

-- a cut with these files; no word of it may be an option
abbrev pub plain_cut : List ℕ → List ℕ → List Test → List (List ℕ) → Option Task
plain_cut book part pile names = if any_option book part names then None else Some (cut book part pile names)

abbrev pub through : List ℕ → List ℕ → List (List ℕ) → Option (List Test) → Option Task
through book part names None = None
through book part names (Some pile) = plain_cut book part pile names

-- behind the files a pile may be named; it is bottom where none is
abbrev pub cut_task : List ℕ → List ℕ → List (List ℕ) → Option Task
cut_task book part [] = plain_cut book part (Bottom ∷ []) []
cut_task book part (w ∷ []) = plain_cut book part (Bottom ∷ []) (w ∷ [])
cut_task book part (o ∷ w ∷ names) = if bytes_eq o (codes "--pile") then (through book part names (pile_named test_named w)) else (plain_cut book part (Bottom ∷ []) (o ∷ w ∷ names))

-- the words behind the program's own name
abbrev pub task : List (List ℕ) → Option Task
task [] = Some example
task (v ∷ []) = lone_task v
task (v ∷ path ∷ []) = file_task v path
task (v ∷ book ∷ part ∷ ws) = if bytes_eq v (codes "cut") then (cut_task book part ws) else None
