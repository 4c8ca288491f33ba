-- The refusals of naming, seeding and unseeding.
use Rattle.refusals.specs.declared.reason.Reason.TheVariants as Reason'
use Rattle.refusals.specs.declared.refusal.Refusal.{Refusal}
use Rattle.refusals.specs.Refusals.{refusal_at}
use Rattle.vocabulary.specs.declared.fault.NameFault.{NameFault}
use Rattle.vocabulary.specs.declared.fault.NoSuchName.{NoSuchName}
use Rattle.vocabulary.specs.declared.fault.NameFault.TheVariants.{BadKind, LabelLength, LabelByte, LabelTaken, TableFull}

abbrev pub name_refusal : NameFault → Refusal
name_refusal BadKind = refusal_at Reason'.BadKind 0
name_refusal LabelLength = refusal_at Reason'.LabelLength 0
name_refusal LabelByte = refusal_at Reason'.LabelByte 0
name_refusal LabelTaken = refusal_at Reason'.LabelTaken 0
name_refusal TableFull = refusal_at Reason'.NamesFull 0

-- a number that no name has is a wrong item, at the place 0
abbrev pub missing_name_refusal : NoSuchName → Refusal
missing_name_refusal missing = refusal_at Reason'.WrongName 0
