-- What calls lead to is what follows from their history.
use Rattle.std.proofs.Common.{◌≡◌, List, [], ◌∷◌, ap, subst}
use Rattle.book.specs.Contents.{Contents}
use Rattle.runs.specs.Steps.{Change, Step, Status, name, file, load, lay_aside, restore, seed, unseed, change, freeze, reopen, draft, frozen, Standing, start, edit_turn, turn_from, call_turn, state_from, state_after}
use Rattle.runs.specs.History.{Event, standing_after, after_edit, events_from, events_after, history_from, history}
use Rattle.runs.proofs.Telling.{Tells, nothing_told, naming_told, filing_told, seeding_told, unseeding_told, restoring_told, laying_told}
use Rattle.runs.proofs.Taken.{loading_told}

module _ {past : List Event} {b : Contents} where
  -- each edit of a draft
  edit_told : Tells past (record { status = draft; book = b }) → (c : Change) → Tells (after_edit past c) (record { status = draft; book = (edit_turn b c).state })
  edit_told t (name kind label) = naming_told t kind label
  edit_told t (file kind body) = filing_told t kind body
  edit_told t (load whole) = loading_told t whole
  edit_told t (lay_aside k) = laying_told t k
  edit_told t (restore k) = restoring_told t k
  edit_told t (seed n) = seeding_told t n
  edit_told t (unseed n) = unseeding_told t n

  -- each call on a draft, and on a frozen book
  call_told : (status : Status) → Tells past (record { status = status; book = b }) → (c : Step) → Tells (events_from status past c) (turn_from status b c).state
  call_told draft t (change c) = edit_told t c
  call_told draft t freeze = record { agrees = ap (λ (x : Standing). record { status = frozen; book = x.book }) t.agrees; late = t.late }
  call_told draft t reopen = t
  call_told frozen t (change c) = t
  call_told frozen t freeze = t
  call_told frozen t reopen = record { agrees = ap (λ (x : Standing). record { status = draft; book = x.book }) t.agrees; late = t.late }

-- the events say what the status is
step_told : {past : List Event} {s : Standing} → Tells past s → (c : Step) → Tells (events_after past c) (call_turn s c).state
step_told {past} {s} t c =
    subst (λ (x : Standing). Tells (events_from x.status past c) (call_turn s c).state) t.agrees (call_told s.status t c)

-- a list of calls, from any standing that its past tells
pub calls_told : (cs : List Step) (s : Standing) (past : List Event) → Tells past s → Tells (history_from past cs) (state_from s cs)
calls_told [] s past t = t
calls_told (c ∷ cs) s past t = calls_told cs (call_turn s c).state _ (step_told t c)

-- from an empty draft
pub book_told : (cs : List Step) → state_after cs ≡ standing_after (history cs)
book_told cs = (calls_told cs start [] nothing_told).agrees
