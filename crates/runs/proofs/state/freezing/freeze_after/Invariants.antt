use Rattle.std.proofs.Common.{◌≡◌, take}
use Rattle.runs.specs.Steps.{edit_steps, standing, state_from}
use Rattle.runs.specs.declared.state.State.TheVariants.{Draft as OfDraft}
use Rattle.runs.proofs.state.freezing.freeze_after.Given as goal

abbrev pub invariant-loop-edit : goal.invariant-loop-edit
invariant-loop-edit l =
    standing (OfDraft l.draft) ≡ state_from (standing (OfDraft l.initial.draft)) (edit_steps (take l.edit-index l.edits))
