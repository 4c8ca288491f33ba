use Rattle.std.proofs.Common.{◌≡◌, rules}
use Rattle.book.specs.Calls.{filing_call}
use Rattle.book.specs.Fitting.{FilingFits}
use Rattle.book.specs.Refusals.{file_refusal}
use Rattle.book.proofs.Judging.{call_judged}
use Rattle.book.proofs.FilingJudged.{filing_call_judged}
use Rattle.book.proofs.draft.Draft.file.Goals as goal

pub returns-clause-law : goal.returns-clause-law
returns-clause-law c =
    let same : c.self.inside.book ≡ c.args.self.now = search rules in
    call_judged (λ b. FilingFits b c.args.kind c.args.body.now) file_refusal (λ b. filing_call b c.args.kind c.args.body.now) c.file.result c.self.inside.book c.args.self.now same c.file.ensures.answer (λ b. filing_call_judged b c.args.kind c.args.body.now)
