-- Options of the command line.
use Rattle.std.specs.Prelude.{ℕ, Bool, ◌||◌, nat_eq, List, codes}
use Rattle.std.specs.List.{list_any, starts_with}

-- an option, which no file and no name of a cut is, begins with two dashes
abbrev pub is_option : List ℕ → Bool
is_option w = starts_with nat_eq w (codes "--")

-- a word of a cut is one: a file, or what a name of the book is given by
abbrev pub any_option : List ℕ → List ℕ → List (List ℕ) → Bool
any_option book part names = is_option book || (is_option part || list_any is_option names)
