-- The text of an outcome: the answer to a call in a script.
use Rattle.std.specs.Prelude.{List, ℕ, ◌++◌, codes, decimal, Ok, Err}
use Rattle.refusals.specs.Refusals.{refusal_text}
use Rattle.runs.specs.declared.outcome.CallFault.{CallFault}
use Rattle.runs.specs.declared.outcome.CallFault.TheVariants.{Refused, LoadRefused, NotAllowed}
use Rattle.runs.specs.declared.outcome.Done.{Done}
use Rattle.runs.specs.declared.outcome.Done.TheVariants.{Named, Filed, Loaded, Accepted}
use Rattle.runs.specs.Steps.{Outcome}

-- 'ok', then the number that the call has to tell
abbrev pub done_text : Done → List ℕ
done_text (Named id) = codes "ok " ++ decimal id.0
done_text (Filed id) = codes "ok " ++ decimal id.0
done_text (Loaded count) = codes "ok " ++ decimal count
done_text Accepted = codes "ok"

-- 'refused', then number, layer and place, and after a loading how many records were taken
abbrev pub fault_text : CallFault → List ℕ
fault_text (Refused r) = codes "refused " ++ refusal_text r
fault_text (LoadRefused r n) = codes "refused " ++ (refusal_text r ++ (codes " " ++ decimal n))
fault_text NotAllowed = codes "not-allowed"

abbrev pub answer_text : Outcome → List ℕ
answer_text (Ok done) = done_text done
answer_text (Err fault) = fault_text fault
