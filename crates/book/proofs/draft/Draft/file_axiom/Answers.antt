use Rattle.std.proofs.Common.{◌≡◌, rules}
use Rattle.book.specs.Calls.{axiom_call}
use Rattle.book.specs.Fitting.{AxiomFits}
use Rattle.book.specs.Refusals.{axiom_refusal}
use Rattle.book.proofs.Judging.{call_judged}
use Rattle.book.proofs.FilingJudged.{axiom_call_judged}
use Rattle.book.proofs.draft.Draft.file_axiom.Goals as goal

pub returns-clause-law : goal.returns-clause-law
returns-clause-law c =
    let same : c.self.inside.book ≡ c.args.self.now = search rules in
    call_judged (λ b. AxiomFits b c.args.kind c.args.body.now) axiom_refusal (λ b. axiom_call b c.args.kind c.args.body.now) c.admit.result c.self.inside.book c.args.self.now same c.admit.ensures.answer (λ b. axiom_call_judged b c.args.kind c.args.body.now)
