use Rattle.std.proofs.Common.{ap, ◌∙◌, sym, subst, Err}
use Rattle.std.proofs.lemmas.Result.{err_from_is_err_and}
use Rattle.book.specs.Calls.{contents, blank}
use Rattle.records.specs.Law.{IsLoading}
use Rattle.records.specs.Stops.{answer_of}
use Rattle.records.proofs.Files.{all_fit}
use Rattle.records.proofs.Law.{filled, loads_lawful}
use Rattle.records.proofs.loading.load.Goals as goal

pub returns-in_err-load_records-clause-law : goal.returns-in_err-load_records-clause-law
returns-in_err-load_records-clause-law c =
    let p = err_from_is_err_and c.from_residual.result c.from_residual.ensures.1 in
    let is = ap (λ d. blank (contents d)) (sym c.book.ensures.value) ∙ sym c.if-not-is_blank.ensures in
    subst (λ r. IsLoading (contents c.args.draft.now) c.args.file.now (answer_of r) (contents c.load_records.new.draft)) (sym (p.1 ∙ ap Err p.2))
    (loads_lawful (contents c.args.draft.now) c.args.file.now (all_fit c.args.file.now c.type_inv.file) is c.in_err-load_records.ensures)

pub returns-clause-law : goal.returns-clause-law
returns-clause-law c =
    let is = ap (λ d. blank (contents d)) (sym c.book.ensures.value) ∙ sym c.if-not-is_blank.ensures in
    loads_lawful (contents c.args.draft.now) c.args.file.now (all_fit c.args.file.now c.type_inv.file) is c.in_ok-load_records.ensures

pub returns-then-not-is_blank-clause-law : goal.returns-then-not-is_blank-clause-law
returns-then-not-is_blank-clause-law c =
    filled (contents c.args.draft.now) c.args.file.now (ap (λ d. blank (contents d)) (sym c.book.ensures.value) ∙ sym c.if-not-is_blank.ensures)
