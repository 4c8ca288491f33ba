-- The refusals of filing, laying aside and restoring.
use Rattle.refusals.specs.declared.reason.Reason.TheVariants as Reason'
use Rattle.refusals.specs.declared.refusal.Refusal.{Refusal}
use Rattle.refusals.specs.Refusals.{refusal_at}
use Rattle.terms.specs.Refusals.{item_refusal}
use Rattle.book.specs.declared.fault.AxiomFault.{AxiomFault}
use Rattle.book.specs.declared.fault.AxiomFault.TheVariants.{Item, LeftOver, AxiomsFull, BytesFull}
use Rattle.book.specs.declared.fault.FileFault.{FileFault}
use Rattle.book.specs.declared.fault.FileFault.TheVariants.{UnknownKind, BodyTooLong, Axiom}
use Rattle.book.specs.declared.fault.NoSuchAxiom.{NoSuchAxiom}

-- an axiom's body: a wrong item lies at its place, and what is left over at its first byte
abbrev pub axiom_refusal : AxiomFault → Refusal
axiom_refusal (Item fault) = item_refusal fault
axiom_refusal (LeftOver at) = refusal_at Reason'.LeftOver at
axiom_refusal AxiomsFull = refusal_at Reason'.AxiomsFull 0
axiom_refusal BytesFull = refusal_at Reason'.BytesFull 0

-- filing by a record kind
abbrev pub file_refusal : FileFault → Refusal
file_refusal UnknownKind = refusal_at Reason'.UnknownKind 0
file_refusal BodyTooLong = refusal_at Reason'.BodyTooLong 0
file_refusal (Axiom fault) = axiom_refusal fault

-- laying aside and restoring
abbrev pub missing_axiom_refusal : NoSuchAxiom → Refusal
missing_axiom_refusal missing = refusal_at Reason'.NoSuchAxiom 0
