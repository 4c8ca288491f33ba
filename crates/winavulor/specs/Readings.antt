-- What a reader of words answers, where it fails.
use Rattle.std.specs.Prelude.{ℕ, List, Some, None, Option, string_bytes}
use Rattle.std.specs.Bool.{⊤}
use Rattle.winavulor.specs.declared.failure.Failure.{Failure}
use Rattle.winavulor.specs.declared.failure.Failure.TheVariants.{NoSuchName, Memory}

-- the word that a failure is about, if it is one that stands for no name
abbrev pub word_in : Failure → Option (List ℕ)
word_in (NoSuchName w) = Some (string_bytes w)
word_in _ = None

-- it is about a word, or memory has run out
abbrev pub FailsInWords : Failure → Type 0
FailsInWords (NoSuchName w) = ⊤
FailsInWords Memory = ⊤
FailsInWords _ = ⊥
