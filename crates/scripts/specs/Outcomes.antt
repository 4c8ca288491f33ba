-- What a marking or a writing answered, as the outcome of a call.
use Rattle.std.specs.Prelude.{Some, None, Ok, Err, Option, Result}
use Rattle.extraction.specs.declared.marking.MarkFault.{MarkFault}
use Rattle.extraction.specs.Marking.{mark_refusal}
use Rattle.runs.specs.declared.outcome.CallFault.{CallFault}
use Rattle.runs.specs.declared.outcome.CallFault.TheVariants.{Refused, NotAllowed}

-- a draft does not have the call
abbrev pub outcome : {A : Type 0} → Option (Result A MarkFault) → Result A CallFault
outcome None = Err NotAllowed
outcome (Some (Err f)) = Err (Refused (mark_refusal f))
outcome (Some (Ok x)) = Ok x
