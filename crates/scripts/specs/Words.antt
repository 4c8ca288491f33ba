-- What a word of a script stands for, or why it stands for nothing.
use Rattle.std.specs.Prelude.{ℕ, ◌^◌, Bool, if◌then◌else◌, not, ◌&&◌, ◌==◌, List, [], ◌∷◌, codes, Ok, Err, Option, Result, bytes_eq, length, nat_lt}
use Rattle.std.specs.Char.{is_ascii_digit}
use Rattle.std.specs.List.{find, list_all}
use Rattle.std.specs.Option.{ok_or}
use Rattle.std.specs.Str.Parse.{digits_value}
use Rattle.locality.specs.declared.test.Test.{Test}
use Rattle.scripts.specs.declared.halt.LineFault.{LineFault}
use Rattle.scripts.specs.declared.halt.LineFault.TheVariants.{NotDecimal, TooLarge, UnknownPile}
use Rattle.scripts.specs.Piles.{pile_named, test_named}
use Rattle.scripts.specs.declared.verb.Verb.{Verb}
use Rattle.scripts.specs.declared.verb.Verb.TheVariants as Verb'

-- the pile with this word
abbrev pub pile_value : List ℕ → Result (List Test) LineFault
pile_value w = ok_or (pile_named test_named w) UnknownPile

-- the word that a call begins with
abbrev pub verb_word : Verb → List ℕ
verb_word Verb'.Name = codes "name"
verb_word Verb'.File = codes "file"
verb_word Verb'.Load = codes "load"
verb_word Verb'.Aside = codes "aside"
verb_word Verb'.Restore = codes "restore"
verb_word Verb'.Seed = codes "seed"
verb_word Verb'.Unseed = codes "unseed"
verb_word Verb'.Freeze = codes "freeze"
verb_word Verb'.Reopen = codes "reopen"
verb_word Verb'.Mark = codes "mark"
verb_word Verb'.Write = codes "write"

abbrev pub verbs : List Verb
verbs = Verb'.Name ∷ Verb'.File ∷ Verb'.Load ∷ Verb'.Aside ∷ Verb'.Restore ∷ Verb'.Seed ∷ Verb'.Unseed ∷ Verb'.Freeze ∷ Verb'.Reopen ∷ Verb'.Mark ∷ Verb'.Write ∷ []

abbrev pub verb_named : List ℕ → Option Verb
verb_named w = find (λ v. bytes_eq w (verb_word v)) verbs

-- one or more decimal digits
abbrev pub is_numeral : List ℕ → Bool
is_numeral w = not (length w == 0) && list_all is_ascii_digit w

-- a number below a bound, in decimal digits
abbrev pub below : ℕ → List ℕ → Result ℕ LineFault
below bound w = if is_numeral w then (if nat_lt (digits_value 10 w) bound then (Ok (digits_value 10 w)) else (Err TooLarge)) else (Err NotDecimal)

abbrev pub number_value : List ℕ → Result ℕ LineFault
number_value w = below (2 ^ 16) w

abbrev pub byte_value : List ℕ → Result ℕ LineFault
byte_value w = below (2 ^ 8) w
