use Rattle.std.proofs.Common.{ap, ◌∙◌, Err}
use Rattle.std.proofs.lemmas.Result.{err_from_is_err_and}
use Rattle.records.proofs.Going.{stepped, stepped_cut}
use Rattle.records.proofs.loading.step.Goals as goal

pub returns-in_err-entry : goal.returns-in_err-entry
returns-in_err-entry c =
    let p = err_from_is_err_and c.from_residual.result c.from_residual.ensures.1 in
    stepped_cut c.args.draft.now c.in_err-entry.field-0.0 c.from_residual.result (p.1 ∙ ap Err p.2) c.in_err-entry.ensures

pub returns : goal.returns
returns c = stepped c.in_ok-entry.ensures c.take.result c.take.ensures
