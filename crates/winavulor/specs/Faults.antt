-- Why words are no command.
use Rattle.std.specs.Prelude.{ℕ, if◌then◌else◌, ◌&&◌, List, [], ◌∷◌, codes, Some, None, Option, bytes_eq, is_some, string_bytes}
use Rattle.std.specs.List.{list_any}
use Rattle.std.specs.Option.{option_map, unwrap_or}
use Rattle.scripts.specs.Piles.{pile_named, test_named}
use Rattle.winavulor.specs.declared.command.UsageFault.{UsageFault}
use Rattle.winavulor.specs.declared.command.UsageFault.TheVariants as Usage

-- a fault, with the word that is wrong, or whose other words are
pub data Fault : Type 0 where
  unknown_command : List ℕ → Fault
  wrong_words : List ℕ → Fault
  unknown_pile : List ℕ → Fault

abbrev pub fault_of : UsageFault → Fault
fault_of (Usage.UnknownCommand w) = unknown_command (string_bytes w)
fault_of (Usage.WrongWords w) = wrong_words (string_bytes w)
fault_of (Usage.UnknownPile w) = unknown_pile (string_bytes w)

-- the words that a command begins with
abbrev pub verbs : List (List ℕ)
verbs = codes "check" ∷ codes "show" ∷ codes "cut" ∷ codes "run" ∷ codes "help" ∷ codes "--help" ∷ codes "-h" ∷ []

-- the word that stands where a cut is given a pile, if it names none
abbrev pub no_pile : List (List ℕ) → Option (List ℕ)
no_pile (v ∷ book ∷ part ∷ o ∷ w ∷ ws) = if bytes_eq v (codes "cut") && bytes_eq o (codes "--pile") then (if is_some (pile_named test_named w) then None else (Some w)) else None
no_pile ws = None

-- what is wrong with the first word, or behind it; where there is no word, the empty one is no command
abbrev pub verb_fault : List (List ℕ) → Fault
verb_fault [] = unknown_command []
verb_fault (v ∷ ws) = if list_any (bytes_eq v) verbs then (wrong_words v) else (unknown_command v)

-- a pile that is none is told first
abbrev pub usage_fault : List (List ℕ) → Fault
usage_fault ws = unwrap_or (option_map unknown_pile (no_pile ws)) (verb_fault ws)
