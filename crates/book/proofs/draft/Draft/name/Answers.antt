use Rattle.std.proofs.Common.{◌≡◌, rules}
use Rattle.vocabulary.specs.Fitting.{NamingFits}
use Rattle.vocabulary.specs.Refusals.{name_refusal}
use Rattle.book.specs.Calls.{naming_call}
use Rattle.book.proofs.Judging.{call_judged, naming_call_judged}
use Rattle.book.proofs.draft.Draft.name.Goals as goal

pub returns-clause-law : goal.returns-clause-law
returns-clause-law c =
    let same : c.self.inside.book ≡ c.args.self.now = search rules in
    call_judged (λ b. NamingFits b.names c.args.kind c.args.label.now) name_refusal (λ b. naming_call b c.args.kind c.args.label.now) c.name.result c.self.inside.book c.args.self.now same c.name.ensures.answer (λ b. naming_call_judged b c.args.kind c.args.label.now)
