-- A refused loading: where it stopped, its refusal, and how many records it took.
use Rattle.std.specs.Prelude.{ℕ, Result}
use Rattle.refusals.specs.declared.reason.Reason.TheVariants.{NotEmpty}
use Rattle.refusals.specs.declared.refusal.Refusal.{Refusal}
use Rattle.refusals.specs.Refusals.{refusal_at}
use Rattle.book.specs.Calls.{with_fault}
use Rattle.records.specs.declared.fault.RecordFault.{RecordFault}
use Rattle.records.specs.declared.load_fault.LoadFault.{LoadFault}
use Rattle.records.specs.declared.load_fault.LoadFault.TheVariants as Load'
use Rattle.records.specs.declared.stopped.Stopped.{Stopped}
use Rattle.records.specs.Faults.{record_refusal}

-- the book is not blank; or a record is not taken: its offset, the fault, and how many records were taken before it
pub data Stop : Type 0 where
  not_blank : Stop
  at_record : ℕ → RecordFault → ℕ → Stop

abbrev pub load_refusal : Stop → Refusal
load_refusal not_blank = refusal_at NotEmpty 0
load_refusal (at_record at fault taken) = record_refusal at fault

abbrev pub taken_before : Stop → ℕ
taken_before not_blank = 0
taken_before (at_record at fault taken) = taken

-- where the code's fault says that it stopped
abbrev pub stop_at : Stopped → Stop
stop_at s = at_record s.offset s.fault s.taken

abbrev pub stop_of : LoadFault → Stop
stop_of Load'.NotEmpty = not_blank
stop_of (Load'.Stopped s) = stop_at s

abbrev pub answer_of : {T : Type 0} → Result T LoadFault → Result T Stop
answer_of r = with_fault stop_of r
