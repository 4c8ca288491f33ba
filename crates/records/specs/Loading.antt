-- Loading: what the records of a file do to a book, one after the other.
use Rattle.std.specs.Prelude.{ℕ, zero, suc, ◌+◌, true, List, [], ◌∷◌, length, drop, Some, None, Ok, Err, Option, Result, if◌then◌else◌, nat_lt}
use Rattle.vocabulary.specs.declared.fault.NameFault.{NameFault}
use Rattle.vocabulary.specs.declared.fault.NameFault.TheVariants.{BadKind}
use Rattle.vocabulary.specs.declared.fault.NoSuchName.{NoSuchName}
use Rattle.vocabulary.specs.declared.name.NameId.{NameId}
use Rattle.refusals.specs.Turns.{Turn, accepted_turn, refused_turn}
use Rattle.terms.specs.declared.fault.ItemFault.TheVariants.{WrongName}
use Rattle.terms.specs.Reading.{Outcome, got, bad}
use Rattle.codec.specs.Bodies.{body_of}
use Rattle.codec.specs.Numbers.{read_any_name}
use Rattle.book.specs.Contents.{Contents}
use Rattle.book.specs.Calls.{with_fault, blank, naming_call, seeding_call, axiom_call}
use Rattle.records.specs.declared.fault.RecordFault.{RecordFault}
use Rattle.records.specs.declared.fault.RecordFault.TheVariants as Record'
use Rattle.records.specs.declared.fault.SeedFault.{SeedFault}
use Rattle.records.specs.declared.fault.SeedFault.TheVariants.{Item, LeftOver}
use Rattle.records.specs.declared.kind.RecordKind.{RecordKind}
use Rattle.records.specs.declared.kind.RecordKind.TheVariants as Kind'
use Rattle.records.specs.Files.{Entry, record_length, first_record}
use Rattle.records.specs.Kinds.{record_kind_of}
use Rattle.records.specs.Stops.{Stop, not_blank, at_record}

-- a record's turn: its answer says only whether it was taken
abbrev pub Taking : Type 0 → Type 0
Taking F = Turn Contents (Result (Unit {0}) F)

-- an answer without its value
abbrev pub without_value : {A F : Type 0} → Result A F → Result (Unit {0}) F
without_value (Ok x) = Ok tt
without_value (Err fault) = Err fault

-- a call as a record's turn, with its fault told at the layer above
abbrev pub taken_as : {A F G : Type 0} → (F → G) → Turn Contents (Result A F) → Taking G
taken_as up t = record { state = t.state; answer = without_value (with_fault up t.answer) }

-- a name: its kind byte, then its label
abbrev pub name_turn : Contents → List ℕ → Taking NameFault
name_turn b [] = refused_turn b BadKind
name_turn b (kind ∷ label) = taken_as (λ fault. fault) (naming_call b kind label)

-- a number that no name has is a faulty item
abbrev pub missing_name : NoSuchName → SeedFault
missing_name missing = Item (WrongName 0)

-- a seed whose name's number was read from a body of `len` bytes: nothing is left behind it
abbrev pub seed_call : Contents → ℕ → Outcome NameId → Taking SeedFault
seed_call b len (bad fault) = refused_turn b (Item fault)
seed_call b len (got name end) =
    if nat_lt end len then refused_turn b (LeftOver end) else taken_as missing_name (seeding_call b name.0 true)

abbrev pub seed_turn : Contents → List ℕ → Taking SeedFault
seed_turn b body = seed_call b (length body) (read_any_name body b.names 0)

-- what a body asks for
abbrev pub body_turn : Contents → RecordKind → List ℕ → Taking RecordFault
body_turn b Kind'.Name body = taken_as Record'.Name (name_turn b body)
body_turn b (Kind'.Axiom kind) body = taken_as Record'.Axiom (axiom_call b kind body)
body_turn b Kind'.Seed body = taken_as Record'.Seed (seed_turn b body)

-- a record is looked at from the outside in: its kind, then how long its body is, then what the body asks for
abbrev pub short_turn : Contents → RecordKind → Option (List ℕ) → Taking RecordFault
short_turn b kind None = refused_turn b Record'.BodyTooLong
short_turn b kind (Some body) = body_turn b kind body

abbrev pub known_turn : Contents → Option RecordKind → List ℕ → Taking RecordFault
known_turn b None body = refused_turn b Record'.UnknownKind
known_turn b (Some kind) body = short_turn b kind (body_of body)

abbrev pub record_turn : Contents → Entry → Taking RecordFault
record_turn b e = known_turn b (record_kind_of e.kind) e.body

abbrev pub Loaded : Type 0
Loaded = Turn Contents (Result ℕ Stop)

-- a record that was taken is followed by the rest; at a fault loading stops, and what earlier records did stays
abbrev pub after_turn : (Contents → ℕ → Loaded) → ℕ → ℕ → Contents → Result (Unit {0}) RecordFault → Loaded
after_turn later at taken b (Ok x) = later b (taken + 1)
after_turn later at taken b (Err fault) = refused_turn b (at_record at fault taken)

-- bytes that begin at an offset, behind so many records that were taken
module _ (later : List ℕ → Contents → ℕ → ℕ → Loaded) (bytes : List ℕ) (b : Contents) (at taken : ℕ) where
  abbrev pub after_record : Option Entry → Loaded
  after_record None = refused_turn b (at_record at Record'.CutShort taken)
  after_record (Some e) =
      after_turn (λ c. later (drop (record_length e) bytes) c (at + record_length e)) at taken (record_turn b e).state
      (record_turn b e).answer

-- at most so many records
abbrev pub loads : ℕ → List ℕ → Contents → ℕ → ℕ → Loaded
loads zero bytes b at taken = accepted_turn b taken
loads (suc most) [] b at taken = accepted_turn b taken
loads (suc most) (x ∷ more) b at taken = after_record (loads most) (x ∷ more) b at taken (first_record (x ∷ more))

-- a file is loaded into a book that has no name and no axiom; it has no more records than bytes
unfoldable pub loading : Contents → List ℕ → Loaded
loading b file = if blank b then loads (length file) file b 0 0 else refused_turn b not_blank
