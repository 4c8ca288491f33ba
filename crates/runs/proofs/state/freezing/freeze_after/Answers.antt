use Rattle.std.proofs.Common.{ap, ◌∙◌, arith}
use Rattle.std.proofs.lemmas.List.{take_all}
use Rattle.book.specs.Calls.{contents}
use Rattle.runs.specs.Steps.{frozen}
use Rattle.runs.proofs.Lists.{one_edit_more, frozen_then}
use Rattle.runs.proofs.state.freezing.freeze_after.Goals as goal

pub loop-edit-preserved : goal.loop-edit-preserved
loop-edit-preserved c =
    one_edit_more _ c.args.edits.now _ c.loop-edit.edit-index _ c.loop-edit-test.true c.edit-item.is _ c.make-outcome.ensures.gives.state c.loop-edit.invariant

pub returns : goal.returns
returns c =
    let all = take_all c.loop-edit.edit-index c.args.edits.now (omega arith) in
    ap (λ k. record { status = frozen; book = contents k }) c.freeze.ensures ∙ frozen_then _ _ _ c.loop-edit.edit-index all c.loop-edit.invariant
