-- Calls as data, and what a list of them does to a book that is a draft or frozen.
use Rattle.std.specs.Prelude.{ℕ, true, false, List, [], ◌∷◌, ◌++◌, map, Ok, Err, vec_items, Result}
use Rattle.refusals.specs.Turns.{Turn, accepted_turn, refused_turn}
use Rattle.vocabulary.specs.Refusals.{missing_name_refusal, name_refusal}
use Rattle.book.specs.Contents.{Contents}
use Rattle.book.specs.Calls.{contents, empty, naming_call, seeding_call, forcing_call, filing_call}
use Rattle.book.specs.Refusals.{file_refusal, missing_axiom_refusal}
use Rattle.records.specs.Loading.{loading}
use Rattle.records.specs.Stops.{Stop, load_refusal, taken_before}
use Rattle.runs.specs.declared.call.Call.{Call}
use Rattle.runs.specs.declared.call.Call.TheVariants as Call'
use Rattle.runs.specs.declared.call.Edit.{Edit}
use Rattle.runs.specs.declared.call.Edit.TheVariants as Edit'
use Rattle.runs.specs.declared.state.State.{State}
use Rattle.runs.specs.declared.state.State.TheVariants.{Draft, Frozen}
use Rattle.runs.specs.declared.outcome.CallFault.{CallFault}
use Rattle.runs.specs.declared.outcome.CallFault.TheVariants.{Refused, LoadRefused, NotAllowed}
use Rattle.runs.specs.declared.outcome.Done.{Done}
use Rattle.runs.specs.declared.outcome.Done.TheVariants.{Named, Filed, Loaded, Accepted}

-- ---- calls

-- an edit of a draft, its bytes as lists
pub data Change : Type 0 where
  name : ℕ → List ℕ → Change
  file : ℕ → List ℕ → Change
  load : List ℕ → Change
  lay_aside : ℕ → Change
  restore : ℕ → Change
  seed : ℕ → Change
  unseed : ℕ → Change

abbrev pub change_of : Edit → Change
change_of (Edit'.Name kind label) = name kind (vec_items label)
change_of (Edit'.File kind body) = file kind (vec_items body)
change_of (Edit'.Load bytes) = load (vec_items bytes)
change_of (Edit'.LayAside id) = lay_aside id.0
change_of (Edit'.Restore id) = restore id.0
change_of (Edit'.Seed id) = seed id.0
change_of (Edit'.Unseed id) = unseed id.0

-- a call
pub data Step : Type 0 where
  change : Change → Step
  freeze : Step
  reopen : Step

abbrev pub step_of : Call → Step
step_of (Call'.Edit e) = change (change_of e)
step_of Call'.Freeze = freeze
step_of Call'.Reopen = reopen

-- edits as calls, and with freezing behind them
abbrev pub edit_steps : List Edit → List Step
edit_steps es = map (λ e. change (change_of e)) es

abbrev pub edits_then_freeze : List Edit → List Step
edits_then_freeze es = edit_steps es ++ freeze ∷ []

-- ---- a book that calls are performed on

pub data Status : Type 0 where
  draft : Status
  frozen : Status

-- a book and its status
pub record Standing : Type 0 where
  pub status : Status
  pub book : Contents

abbrev pub standing : State → Standing
standing (Draft d) = record { status = draft; book = contents d }
standing (Frozen f) = record { status = frozen; book = contents f }

-- an empty draft
abbrev pub start : Standing
start = record { status = draft; book = empty }

-- ---- what a call does

-- what a call answers: what it did, or why it did not
abbrev pub Outcome : Type 0
Outcome = Result Done CallFault

abbrev pub outcome_of : {A F : Type 0} → (A → Done) → (F → CallFault) → Result A F → Outcome
outcome_of did told (Ok x) = Ok (did x)
outcome_of did told (Err fault) = Err (told fault)

abbrev pub turn_of : {A F : Type 0} → (A → Done) → (F → CallFault) → Turn Contents (Result A F) → Turn Contents Outcome
turn_of did told turn = record { state = turn.state; answer = outcome_of did told turn.answer }

-- a fault of loading: its refusal, and how many records were taken before
abbrev pub refused_loading : Stop → CallFault
refused_loading stop = LoadRefused (load_refusal stop) (taken_before stop)

-- what an edit does to the contents of a draft
abbrev pub edit_turn : Contents → Change → Turn Contents Outcome
edit_turn b (name kind label) = turn_of Named (λ fault. Refused (name_refusal fault)) (naming_call b kind label)
edit_turn b (file kind body) = turn_of Filed (λ fault. Refused (file_refusal fault)) (filing_call b kind body)
edit_turn b (load bytes) = turn_of Loaded refused_loading (loading b bytes)
edit_turn b (lay_aside k) = turn_of (λ x. Accepted) (λ missing. Refused (missing_axiom_refusal missing)) (forcing_call b k false)
edit_turn b (restore k) = turn_of (λ x. Accepted) (λ missing. Refused (missing_axiom_refusal missing)) (forcing_call b k true)
edit_turn b (seed n) = turn_of (λ x. Accepted) (λ missing. Refused (missing_name_refusal missing)) (seeding_call b n true)
edit_turn b (unseed n) = turn_of (λ x. Accepted) (λ missing. Refused (missing_name_refusal missing)) (seeding_call b n false)

-- a draft has every call but reopening, a frozen book reopening alone; a call that a book does not have changes nothing
abbrev pub turn_from : Status → Contents → Step → Turn Standing Outcome
turn_from draft b (change c) = record {
  state = record { status = draft; book = (edit_turn b c).state };
  answer = (edit_turn b c).answer;
}
turn_from draft b freeze = accepted_turn (record { status = frozen; book = b }) Accepted
turn_from frozen b reopen = accepted_turn (record { status = draft; book = b }) Accepted
turn_from status b _ = refused_turn (record { status = status; book = b }) NotAllowed

abbrev pub call_turn : Standing → Step → Turn Standing Outcome
call_turn s c = turn_from s.status s.book c

-- what the calls of a list make of a book, one after the other
abbrev pub state_from : Standing → List Step → Standing
state_from s [] = s
state_from s (c ∷ cs) = state_from (call_turn s c).state cs

-- what they make of an empty draft
abbrev pub state_after : List Step → Standing
state_after cs = state_from start cs
