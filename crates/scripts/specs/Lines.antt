-- What the lines of a script ask for.
use Rattle.std.specs.Prelude.{ℕ, Bool, if◌then◌else◌, not, ◌==◌, nat_eq, List, [], ◌∷◌, codes, Some, None, Ok, Err, Option, Result, length}
use Rattle.std.specs.List.{filter, slice_split, starts_with}
use Rattle.locality.specs.declared.test.Test.{Test}
use Rattle.runs.specs.Steps.{Change, Step, change, name, file, load, lay_aside, restore, seed, unseed, freeze, reopen, step_of}
use Rattle.scripts.specs.declared.halt.LineFault.{LineFault}
use Rattle.scripts.specs.declared.halt.LineFault.TheVariants.{UnknownCall, TooFewWords, TooManyWords}
use Rattle.scripts.specs.declared.request.Request.{Request}
use Rattle.scripts.specs.declared.request.Request.TheVariants as Request'
use Rattle.scripts.specs.declared.verb.Verb.{Verb}
use Rattle.scripts.specs.declared.verb.Verb.TheVariants as Verb'
use Rattle.scripts.specs.Hex.{bytes_value}
use Rattle.scripts.specs.Words.{byte_value, number_value, pile_value, verb_named}

-- a call on the book, or a marking or a writing through a pile of these tests, with buffers of these lengths
pub data Asked : Type 0 where
  perform : Step → Asked
  mark : List Test → ℕ → ℕ → Asked
  write : List Test → ℕ → ℕ → ℕ → Asked

abbrev pub asked_of : Request → Asked
asked_of (Request'.Perform call) = perform (step_of call)
asked_of (Request'.Mark pile axioms names) = mark pile axioms names
asked_of (Request'.Write pile axioms names part) = write pile axioms names part

-- a line's words have spaces between them
abbrev pub words : List ℕ → List (List ℕ)
words line = filter (λ w. not (length w == 0)) (slice_split (λ b. b == 32) line)

-- reading words from the first on: a value and the words behind it, or why the line is no call
pub data Taken (A : Type 0) : Type 0 where
  taken : A → List (List ℕ) → Taken A
  stopped : LineFault → Taken A

abbrev pub next : {A B : Type 0} → Taken A → (A → List (List ℕ) → Taken B) → Taken B
next (taken x rest) more = more x rest
next (stopped f) more = stopped f

abbrev pub settled : {A : Type 0} → Result A LineFault → List (List ℕ) → Taken A
settled (Ok x) rest = taken x rest
settled (Err f) rest = stopped f

-- a word that has to be there, by what it stands for
abbrev pub word : {A : Type 0} → (List ℕ → Result A LineFault) → List (List ℕ) → Taken A
word value [] = stopped TooFewWords
word value (w ∷ rest) = settled (value w) rest

-- one word for the edit's one argument
abbrev pub of_number : (ℕ → Change) → List (List ℕ) → Taken Asked
of_number edit ws = next (word number_value ws) (λ n rest. taken (perform (change (edit n))) rest)

-- a call by its first word and the words behind it
abbrev pub request_from : Verb → List (List ℕ) → Taken Asked
request_from Verb'.Name ws = next (word byte_value ws) (λ kind rest. next (word bytes_value rest) (λ label rest. taken (perform (change (name kind label))) rest))
request_from Verb'.File ws = next (word number_value ws) (λ kind rest. next (word bytes_value rest) (λ body rest. taken (perform (change (file kind body))) rest))
request_from Verb'.Load ws = next (word bytes_value ws) (λ bytes rest. taken (perform (change (load bytes))) rest)
request_from Verb'.Aside ws = of_number lay_aside ws
request_from Verb'.Restore ws = of_number restore ws
request_from Verb'.Seed ws = of_number seed ws
request_from Verb'.Unseed ws = of_number unseed ws
request_from Verb'.Freeze ws = taken (perform freeze) ws
request_from Verb'.Reopen ws = taken (perform reopen) ws
request_from Verb'.Mark ws = next (word pile_value ws) (λ pile rest. next (word number_value rest) (λ axioms rest. next (word number_value rest) (λ names rest. taken (mark pile axioms names) rest)))
request_from Verb'.Write ws = next (word pile_value ws) (λ pile rest. next (word number_value rest) (λ axioms rest. next (word number_value rest) (λ names rest. next (word number_value rest) (λ part rest. taken (write pile axioms names part) rest))))

-- no word may be left
abbrev pub whole : Taken Asked → Result (Option Asked) LineFault
whole (taken r []) = Ok (Some r)
whole (taken r (w ∷ rest)) = Err TooManyWords
whole (stopped f) = Err f

abbrev pub begun : Option Verb → List (List ℕ) → Result (Option Asked) LineFault
begun None ws = Err UnknownCall
begun (Some v) ws = whole (request_from v ws)

-- a line without words asks for nothing
abbrev pub request_of_words : List (List ℕ) → Result (Option Asked) LineFault
request_of_words [] = Ok None
request_of_words (w ∷ ws) = begun (verb_named w) ws

-- nor does a comment, whose first character is '#'
abbrev pub is_comment : List ℕ → Bool
is_comment line = starts_with nat_eq line (codes "#")

abbrev pub line_request : List ℕ → Result (Option Asked) LineFault
line_request line = if is_comment line then (Ok None) else (request_of_words (words line))
