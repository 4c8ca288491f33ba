use Rattle.std.proofs.Common.{ap, ◌∙◌}
use Rattle.records.proofs.Going.{goes_on, goes_stop, goes_done}
use Rattle.records.proofs.loading.load_records.Goals as goal

pub returns-in-Err : goal.returns-in-Err
returns-in-Err c =
    let whole = goes_stop c.loop-reader.invariant.0 c.loop-reader-test.true c.loop-reader.invariant.1 c.in-Err.fault c.in-Err.ensures in
    record { state = ap (λ t. t.state) whole; answer = ap (λ t. t.answer) whole }

pub loop-reader-preserved : goal.loop-reader-preserved
loop-reader-preserved c =
    (c.in_default.ensures.file ∙ c.loop-reader.invariant.0, goes_on c.loop-reader.invariant.0 c.loop-reader-test.true c.loop-reader.invariant.1 _ c.in_default.ensures)

pub returns : goal.returns
returns c =
    let whole = goes_done c.loop-reader-test.false c.loop-reader.invariant.1 in
    record { state = ap (λ t. t.state) whole; answer = ap (λ t. t.answer) whole }
