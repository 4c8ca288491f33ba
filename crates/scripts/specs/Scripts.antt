-- What a script leads to, line by line.
use Rattle.std.specs.Prelude.{◌≡◌, ℕ, ◌+◌, ◌==◌, List, [], ◌∷◌, ◌++◌, length, Some, None, Ok, Err, Option, Result}
use Rattle.std.specs.Bool.{⊤}
use Rattle.std.specs.List.{slice_split}
use Rattle.std.specs.Result.{IfOk}
use Rattle.runs.specs.declared.state.State.{State}
use Rattle.runs.specs.Promise.{Promise}
use Rattle.runs.specs.Steps.{Step, Standing, standing, state_after}
use Rattle.scripts.specs.declared.halt.Halt.{Halt}
use Rattle.scripts.specs.declared.halt.Halt.TheVariants.{NoCall, Memory}
use Rattle.scripts.specs.declared.halt.LineFault.{LineFault}
use Rattle.scripts.specs.declared.halt.ScriptFault.{ScriptFault}
use Rattle.scripts.specs.Lines.{Asked, perform, mark, write, line_request}
use Rattle.scripts.specs.Replies.{pile_of, reply}

-- the book after a line that asks for something or for nothing, and the answer, on a line of its own
abbrev pub after_line : Standing → Option Asked → Standing
after_line s None = s
after_line s (Some a) = (reply s a).state

abbrev pub answer_line : Standing → Option Asked → List ℕ
answer_line s None = []
answer_line s (Some a) = (reply s a).answer ++ 10 ∷ []

-- what a line leads to: the book after it, or why it is no call; and what is answered
pub record LineOutcome : Type 0 where
  pub after : Result Standing LineFault
  pub text : List ℕ

abbrev pub line_outcome : Standing → Result (Option Asked) LineFault → LineOutcome
line_outcome s (Ok r) = record { after = Ok (after_line s r); text = answer_line s r }
line_outcome s (Err f) = record { after = Err f; text = [] }

-- what lines lead to: the first that is no call, if there is one, by its number, and all the answers
pub record ScriptOutcome : Type 0 where
  pub stop : Option (ℕ × LineFault)
  pub text : List ℕ

-- a line that is no call ends the script
abbrev pub followed : ℕ → Result Standing LineFault → List ℕ → (Standing → ScriptOutcome) → ScriptOutcome
followed number (Ok s) text rest = record { stop = (rest s).stop; text = text ++ (rest s).text }
followed number (Err f) text rest = record { stop = Some (number, f); text = text }

abbrev pub followed_by : ℕ → LineOutcome → (Standing → ScriptOutcome) → ScriptOutcome
followed_by number o rest = followed number o.after o.text rest

-- lines on a book that stands so, of which the first has this number
abbrev pub lines_outcome : Standing → ℕ → List (List ℕ) → ScriptOutcome
lines_outcome s number [] = record { stop = None; text = [] }
lines_outcome s number (l ∷ ls) = followed_by number (line_outcome s (line_request l)) (λ t. lines_outcome t (number + 1) ls)

-- lines end at a newline
abbrev pub lines : List ℕ → List (List ℕ)
lines script = slice_split (λ b. b == 10) script

-- the calls that a line performs
abbrev pub calls_of : Option Asked → List Step
calls_of None = []
calls_of (Some (perform call)) = call ∷ []
calls_of (Some (mark pile axioms names)) = []
calls_of (Some (write pile axioms names part)) = []

-- a marking and a writing have the promise of the list of the calls before them, and of their pile
abbrev pub LinePromise : List Step → Option Asked → Type 0
LinePromise cs (Some (mark tests axioms names)) = Promise cs (pile_of tests)
LinePromise cs (Some (write tests axioms names part)) = Promise cs (pile_of tests)
LinePromise cs _ = ⊤

-- so has each of these lines, up to one that is no call
abbrev pub LinesPromise : List Step → List (List ℕ) → Type 0
LinesPromise cs [] = ⊤
LinesPromise cs (l ∷ ls) = IfOk (line_request l) (λ r. LinePromise cs r × LinesPromise (cs ++ calls_of r) ls)

-- r is where a line leads, and the answers grow by its text; where memory has run out they are as before
abbrev pub LineDone : List ℕ → List ℕ → Result State Halt → LineOutcome → Type 0
LineDone old new (Ok s) o = (o.after ≡ Ok (standing s)) × (new ≡ old ++ o.text)
LineDone old new (Err (NoCall f)) o = (o.after ≡ Err f) × (new ≡ old ++ o.text)
LineDone old new (Err Memory) o = new ≡ old

-- lines behind these calls: how they end, and how the answers grow
pub record Reaches (cs : List Step) (number : ℕ) (ls : List (List ℕ)) (old new : List ℕ) (stop : Option (ℕ × LineFault)) : Type 0 where
  pub stops : (lines_outcome (state_after cs) number ls).stop ≡ stop
  pub grows : new ≡ old ++ (lines_outcome (state_after cs) number ls).text
  pub promise : LinesPromise cs ls

-- memory has run out at a line: those before it were performed
pub record HaltsAt (cs : List Step) (number : ℕ) (ls : List (List ℕ)) (old new : List ℕ) (line : ℕ) : Type 0 where
  pub before : List (List ℕ)
  pub rest : List (List ℕ)
  pub parts : ls ≡ before ++ rest
  pub place : line ≡ number + length before
  pub performed : Reaches cs number before old new None

abbrev pub LinesHalt : List Step → ℕ → List (List ℕ) → List ℕ → List ℕ → ℕ → Halt → Type 0
LinesHalt cs number ls old new line (NoCall f) = Reaches cs number ls old new (Some (line, f))
LinesHalt cs number ls old new line Memory = HaltsAt cs number ls old new line

abbrev pub LinesDone : {A : Type 0} → List Step → ℕ → List (List ℕ) → List ℕ → List ℕ → Result A ScriptFault → Type 0
LinesDone cs number ls old new (Ok x) = Reaches cs number ls old new None
LinesDone cs number ls old new (Err f) = LinesHalt cs number ls old new f.line f.halt

-- a script begins with an empty draft, and its lines are counted from 1
abbrev pub ScriptDone : {A : Type 0} → List ℕ → List ℕ → List ℕ → Result A ScriptFault → Type 0
ScriptDone script old new r = LinesDone [] 1 (lines script) old new r
