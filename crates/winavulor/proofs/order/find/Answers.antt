use Rattle.std.proofs.Common.{◌≡◌, Some, None, ap, ◌∙◌, rules, arith}
use Rattle.std.proofs.lemmas.Str.Pattern.{split_parts}
use Rattle.std.specs.Option.{option_map}
use Rattle.book.specs.Calls.{vocabulary_of}
use Rattle.vocabulary.specs.Naming.{entities}
use Rattle.winavulor.proofs.Finding.{of_kind, of_no_colon, of_no_kind}
use Rattle.winavulor.proofs.order.find.Goals as goal

pub returns-in_err-first : goal.returns-in_err-first
returns-in_err-first c =
    let plain = split_parts 58 c.args.word.now None c.in_err-first.ensures.cases (omega arith) in
    let none : c.from_residual.result ≡ None = search rules in
    ap (option_map (λ id. id.0)) none ∙ of_no_colon (entities (vocabulary_of c.args.book.now)) c.args.word.now plain

pub returns-in_err-kind : goal.returns-in_err-kind
returns-in_err-kind c =
    let parts = split_parts 58 c.args.word.now (Some (c.in_ok-first.first, c.in_ok-first.label)) c.in_ok-first.ensures.cases (omega arith) in
    let none : c.from_residual-in_err-kind.result ≡ None = search rules in
    ap (option_map (λ id. id.0)) none ∙ of_no_kind (entities (vocabulary_of c.args.book.now)) c.args.word.now c.in_ok-first.first.now c.in_ok-first.label.now parts.1 c.in_err-kind.ensures.none parts.0

pub returns-in_err-number : goal.returns-in_err-number
returns-in_err-number c =
    let parts = split_parts 58 c.args.word.now (Some (c.in_ok-first.first, c.in_ok-first.label)) c.in_ok-first.ensures.cases (omega arith) in
    let none : c.from_residual-in_err-number.result ≡ None = search rules in
    ap (option_map (λ id. id.0)) none ∙ (search rules ∙ of_kind c.as_slice-names.result.now (entities (vocabulary_of c.args.book.now)) c.in_ok-kind.kind c.args.word.now c.in_ok-first.first.now c.in_ok-first.label.now (search rules) (search rules) parts.0)

pub returns : goal.returns
returns c =
    let parts = split_parts 58 c.args.word.now (Some (c.in_ok-first.first, c.in_ok-first.label)) c.in_ok-first.ensures.cases (omega arith) in
    search rules ∙ of_kind c.as_slice-names.result.now (entities (vocabulary_of c.args.book.now)) c.in_ok-kind.kind c.args.word.now c.in_ok-first.first.now c.in_ok-first.label.now (search rules) (search rules) parts.0
