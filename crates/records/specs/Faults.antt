-- Why a record is not taken: the refusal of each fault, and where in the file it lies.
use Rattle.std.specs.Prelude.{ℕ, ◌+◌}
use Rattle.refusals.specs.declared.reason.Reason.{Reason}
use Rattle.refusals.specs.declared.reason.Reason.TheVariants as Reason'
use Rattle.refusals.specs.declared.refusal.Refusal.{Refusal}
use Rattle.refusals.specs.Refusals.{refusal_at}
use Rattle.vocabulary.specs.Refusals.{name_refusal}
use Rattle.terms.specs.Refusals.{item_refusal}
use Rattle.book.specs.Refusals.{axiom_refusal}
use Rattle.records.specs.declared.fault.RecordFault.{RecordFault}
use Rattle.records.specs.declared.fault.RecordFault.TheVariants.{CutShort, UnknownKind, BodyTooLong, Name, Axiom, Seed}
use Rattle.records.specs.declared.fault.SeedFault.{SeedFault}
use Rattle.records.specs.declared.fault.SeedFault.TheVariants.{Item, LeftOver}
use Rattle.records.specs.Files.{head_length}

-- a seed's body: a wrong number lies at its place, and what is left over at its first byte
abbrev pub seed_refusal : SeedFault → Refusal
seed_refusal (Item fault) = item_refusal fault
seed_refusal (LeftOver at) = refusal_at Reason'.LeftOver at

abbrev pub record_reason : RecordFault → Reason
record_reason CutShort = Reason'.RecordCutShort
record_reason UnknownKind = Reason'.UnknownKind
record_reason BodyTooLong = Reason'.BodyTooLong
record_reason (Name fault) = (name_refusal fault).reason
record_reason (Axiom fault) = (axiom_refusal fault).reason
record_reason (Seed fault) = (seed_refusal fault).reason

-- a fault of the record that begins at `at`: of the record itself it lies there, of what its body asks for at its place
-- in the body, which begins behind the head
abbrev pub place_in : ℕ → RecordFault → ℕ
place_in at CutShort = at
place_in at UnknownKind = at
place_in at BodyTooLong = at
place_in at (Name fault) = at + head_length + (name_refusal fault).place
place_in at (Axiom fault) = at + head_length + (axiom_refusal fault).place
place_in at (Seed fault) = at + head_length + (seed_refusal fault).place

abbrev pub record_refusal : ℕ → RecordFault → Refusal
record_refusal at fault = refusal_at (record_reason fault) (place_in at fault)
