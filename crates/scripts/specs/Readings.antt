-- What a reader of a line's words answers.
use Rattle.std.specs.Prelude.{◌≡◌, ℕ, List, [], ◌∷◌, Some, None, Ok, Err, Option, Result, IfSome}
use Rattle.std.specs.Bool.{⊤}
use Rattle.std.specs.Borrow.{Bor}
use Rattle.scripts.specs.declared.halt.Halt.{Halt}
use Rattle.scripts.specs.declared.halt.Halt.TheVariants.{NoCall, Memory}
use Rattle.scripts.specs.declared.halt.LineFault.{LineFault}
use Rattle.scripts.specs.declared.words.Words.{Words}
use Rattle.scripts.specs.Lines.{Taken, taken, stopped, words}

-- the words that have not been read
abbrev pub left : Words → List (List ℕ)
left w = words w.rest.now

-- r is the first of these words, and w has those behind it; there is none where there is no word
abbrev pub TakesFirst : Option (Bor (List ℕ)) → Words → List (List ℕ) → Type 0
TakesFirst (Some x) w ws = ws ≡ x.now ∷ left w
TakesFirst None w ws = ws ≡ []

-- r is what this reading gives, and w has the words behind it
abbrev pub Reads : {A B : Type 0} → (A → B) → Result A LineFault → Words → Taken B → Type 0
Reads value (Ok x) w t = t ≡ taken (value x) (left w)
Reads value (Err f) w t = t ≡ stopped f

-- the same, unless memory has run out
abbrev pub ReadsInRoom : {A B : Type 0} → (A → B) → Result A Halt → Words → Taken B → Type 0
ReadsInRoom value (Ok x) w t = t ≡ taken (value x) (left w)
ReadsInRoom value (Err (NoCall f)) w t = t ≡ stopped f
ReadsInRoom value (Err Memory) w t = ⊤

-- the fault that an error is, unless memory has run out
abbrev pub fault_in : Halt → Option LineFault
fault_in (NoCall f) = Some f
fault_in Memory = None

-- r is this answer; `fault` tells which fault an error is, and of one that is none nothing is said
abbrev pub AnswersInRoom : {A B E F : Type 0} → (E → Option F) → (A → B) → Result A E → Result B F → Type 0
AnswersInRoom fault value (Ok x) o = o ≡ Ok (value x)
AnswersInRoom fault value (Err e) o = IfSome (fault e) (λ f. o ≡ Err f)
