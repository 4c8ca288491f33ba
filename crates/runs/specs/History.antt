-- What follows from a list of calls alone: the status of the book; the names made and the axioms filed, in their order;
-- which axioms are in force, and which names are in the signature.
use Rattle.std.specs.Prelude.{ℕ, suc, Bool, true, false, not, ◌&&◌, ◌||◌, List, [], ◌∷◌, ◌++◌, take, drop, Some, None, Ok, Err, Option, Result, ◌==◌, if◌then◌else◌, slice_index}
use Rattle.vocabulary.specs.declared.kind.Kind.{Kind}
use Rattle.vocabulary.specs.Kinds.{kind_of}
use Rattle.terms.specs.Codes.{axiom_kind_of}
use Rattle.terms.specs.Forms.{Rule}
use Rattle.terms.specs.Reading.{Outcome, got, bad, read_axiom}
use Rattle.book.specs.Contents.{Contents}
use Rattle.book.specs.Calls.{naming_call, seeding_call, forcing_call, filing_call}
use Rattle.records.specs.Files.{Entry, entries_of}
use Rattle.records.specs.Kinds.{name_kind, seed_kind}
use Rattle.terms.specs.Numbers.{number_at}
use Rattle.records.specs.Loading.{loading}
use Rattle.records.specs.Stops.{Stop, taken_before}
use Rattle.runs.specs.Steps.{Change, Step, Standing, Status, name, file, load, lay_aside, restore, seed, unseed, change, freeze, reopen, draft, frozen}

-- what an accepted call did, with the number of the name or the axiom
pub data Event : Type 0 where
  named : ℕ → Kind → List ℕ → Event
  filed : ℕ → Rule → Event
  laid_aside : ℕ → Event
  restored : ℕ → Event
  seeded : ℕ → Event
  unseeded : ℕ → Event
  froze : Event
  reopened : Event

-- in events with the latest first: one that begins, and none since that ends
abbrev pub since : (Event → Bool) → (Event → Bool) → List Event → Bool
since begins ends [] = false
since begins ends (e ∷ past) = begins e || (not (ends e) && since begins ends past)

-- an axiom's force begins with its filing and with each restoring, and ends with each laying aside
abbrev pub enforces : ℕ → Event → Bool
enforces k (filed j r) = j == k
enforces k (restored j) = j == k
enforces k _ = false

abbrev pub suspends : ℕ → Event → Bool
suspends k (laid_aside j) = j == k
suspends k _ = false

-- a name is in the signature from each seeding until its unseeding
abbrev pub enters : ℕ → Event → Bool
enters n (seeded m) = m == n
enters n _ = false

abbrev pub leaves : ℕ → Event → Bool
leaves n (unseeded m) = m == n
leaves n _ = false

-- filed and not laid aside since; seeded and not unseeded since
abbrev pub is_still_in_force : List Event → ℕ → Bool
is_still_in_force past k = since (enforces k) (suspends k) past

abbrev pub is_seeded : List Event → ℕ → Bool
is_seeded past n = since (enters n) (leaves n) past

-- a book is a draft at first, and from each reopening; it is frozen from each freezing
abbrev pub status_after : List Event → Status
status_after [] = draft
status_after (froze ∷ past) = frozen
status_after (reopened ∷ past) = draft
status_after (_ ∷ past) = status_after past

-- a name as it was made
pub record Designation : Type 0 where
  pub kind : Kind
  pub label : List ℕ

-- the names made, and what the axioms filed state, in the order made and filed
abbrev pub names_made : List Event → List Designation
names_made [] = []
names_made (named m kind label ∷ past) = names_made past ++ record { kind = kind; label = label } ∷ []
names_made (_ ∷ past) = names_made past

abbrev pub axioms_filed : List Event → List Rule
axioms_filed [] = []
axioms_filed (filed j r ∷ past) = axioms_filed past ++ r ∷ []
axioms_filed (_ ∷ past) = axioms_filed past

-- what is made of each element and its number, counted from 0
abbrev pub map_by_number : {X Y : Type 0} → (ℕ → X → Y) → List X → List Y
map_by_number f [] = []
map_by_number f (x ∷ xs) = f 0 x ∷ map_by_number (λ n. f (suc n)) xs

-- the book that follows from the events
abbrev pub book_after : List Event → Contents
book_after past = record {
  names = map_by_number (λ n d. record { kind = d.kind; label = d.label; seeded = is_seeded past n }) (names_made past);
  axioms = map_by_number (λ k r. record { states = r; in_force = is_still_in_force past k }) (axioms_filed past);
}

-- and its status
abbrev pub standing_after : List Event → Standing
standing_after past = record { status = status_after past; book = book_after past }

-- ---- one edit more

-- a refused call counts for nothing; an accepted one is told with what it answered
abbrev pub if_accepted : {A F : Type 0} → List Event → Result A F → (A → List Event) → List Event
if_accepted past (Ok x) more = more x
if_accepted past (Err f) more = past

-- and with the kind that it names, and the axiom that it states
abbrev pub if_known : {A : Type 0} → List Event → Option A → (A → List Event) → List Event
if_known past (Some x) more = more x
if_known past None more = past

abbrev pub if_read : List Event → Outcome Rule → (Rule → List Event) → List Event
if_read past (got r end) more = more r
if_read past (bad fault) more = past

-- the events after an edit of a draft, put before those so far; whether it is accepted, and what it did, is asked of the
-- book that follows from these
abbrev pub after_naming : List Event → ℕ → List ℕ → List Event
after_naming past code label =
    if_accepted past (naming_call (book_after past) code label).answer (λ id.
    if_known past (kind_of code) (λ kind.
    named id.0 kind label ∷ past))

abbrev pub after_filing : List Event → ℕ → List ℕ → List Event
after_filing past code body =
    if_accepted past (filing_call (book_after past) code body).answer (λ id.
    if_known past (axiom_kind_of code) (λ kind.
    if_read past (read_axiom body (book_after past).names kind) (λ r.
    filed id.0 r ∷ past)))

-- seeding and unseeding, laying aside and restoring: an event for an accepted one
abbrev pub after_seeding : List Event → ℕ → Bool → Event → List Event
after_seeding past n on e = if_accepted past (seeding_call (book_after past) n on).answer (λ x. e ∷ past)

abbrev pub after_forcing : List Event → ℕ → Bool → Event → List Event
after_forcing past k on e = if_accepted past (forcing_call (book_after past) k on).answer (λ x. e ∷ past)

-- ---- loading

-- how many records a loading took
abbrev pub taken_count : Result ℕ Stop → ℕ
taken_count (Ok n) = n
taken_count (Err stop) = taken_before stop

-- a record counts as what it asks for: a naming by a kind byte and a label, a seeding by the number of a name, or a filing
abbrev pub after_record_event : List Event → Entry → List Event
after_record_event past e =
    if e.kind == name_kind then after_naming past (slice_index e.body 0) (drop 1 e.body)
    else if e.kind == seed_kind then after_seeding past (number_at e.body 0) true (seeded (number_at e.body 0))
    else after_filing past e.kind e.body

abbrev pub after_records : List Event → List Entry → List Event
after_records past [] = past
after_records past (e ∷ es) = after_records (after_record_event past e) es

-- a loading counts by the records it took, each as the naming, filing or seeding that it asks for; a fault behind them
-- takes nothing back
abbrev pub after_loading : List Event → List ℕ → List Event
after_loading past bytes = after_records past (take (taken_count (loading (book_after past) bytes).answer) (entries_of bytes))

-- ---- all calls

abbrev pub after_edit : List Event → Change → List Event
after_edit past (name kind label) = after_naming past kind label
after_edit past (file kind body) = after_filing past kind body
after_edit past (load bytes) = after_loading past bytes
after_edit past (lay_aside k) = after_forcing past k false (laid_aside k)
after_edit past (restore k) = after_forcing past k true (restored k)
after_edit past (seed n) = after_seeding past n true (seeded n)
after_edit past (unseed n) = after_seeding past n false (unseeded n)

-- the events after one more call, the latest first: on a draft every call counts but reopening, on a frozen book
-- reopening alone
abbrev pub events_from : Status → List Event → Step → List Event
events_from draft past (change c) = after_edit past c
events_from draft past freeze = froze ∷ past
events_from frozen past reopen = reopened ∷ past
events_from _ past _ = past

abbrev pub events_after : List Event → Step → List Event
events_after past c = events_from (status_after past) past c

-- the events after a list of calls
abbrev pub history_from : List Event → List Step → List Event
history_from past [] = past
history_from past (c ∷ cs) = history_from (events_after past c) cs

-- what happened in a list of calls on an empty draft
abbrev pub history : List Step → List Event
history cs = history_from [] cs
