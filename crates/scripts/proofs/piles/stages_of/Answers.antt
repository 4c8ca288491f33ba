use Rattle.std.proofs.Common.{rules, Some, None, ap, ◌∙◌, sym, arith}
use Rattle.std.proofs.lemmas.Str.Pattern.{split_parts}
use Rattle.std.specs.Option.{option_map}
use Rattle.scripts.proofs.Stages.{last_unknown, last_known, unknown, known, too_many, behind, words}
use Rattle.scripts.proofs.piles.stages_of.Goals as goal

pub returns-in_err-from_word : goal.returns-in_err-from_word
returns-in_err-from_word g c =
    let plain = split_parts 47 c.loop-rest.rest.now None c.in_default.ensures.cases (omega arith) in
    ap (option_map (λ v. v.items)) c.from_residual.ensures ∙ last_unknown g.T.Worded.named _ c.loop-rest.tests.items c.loop-rest.rest.now c.loop-rest.invariant.2 plain (search rules)

pub returns-in_default : goal.returns-in_default
returns-in_default g c =
    let plain = split_parts 47 c.loop-rest.rest.now None c.in_default.ensures.cases (omega arith) in
    ap Some c.push.ensures.items ∙ last_known g.T.Worded.named _ c.loop-rest.tests.items c.loop-rest.rest.now c.loop-rest.invariant.2 c.in_ok-from_word.field-0 (search rules) plain (search rules)

pub returns-in_err-from_word-2 : goal.returns-in_err-from_word-2
returns-in_err-from_word-2 g c =
    let parts = split_parts 47 c.loop-rest.rest.now (Some (c.in-Some.first, c.in-Some.behind)) c.in-Some.ensures.cases (omega arith) in
    ap (option_map (λ v. v.items)) c.from_residual-in_err-from_word-2.ensures ∙ unknown g.T.Worded.named _ c.loop-rest.tests.items c.loop-rest.rest.now c.loop-rest.invariant.2 c.in-Some.first.now c.in-Some.behind.now parts.0 parts.1 (search rules)

pub loop-rest-preserved : goal.loop-rest-preserved
loop-rest-preserved g c =
    let parts = split_parts 47 c.loop-rest.rest.now (Some (c.in-Some.first, c.in-Some.behind)) c.in-Some.ensures.cases (omega arith) in
    let goes = known g.T.Worded.named _ c.loop-rest.tests.items c.loop-rest.rest.now c.loop-rest.invariant.2 c.in-Some.first.now c.in-Some.behind.now parts.0 parts.1 c.in_ok-from_word-2.field-0 (search rules) in
    (search rules, search rules, goes ∙ ap (λ ts. behind g.T.Worded.named ts (words c.in-Some.behind.now)) (sym c.push-in-loop-rest.ensures.items))

pub returns : goal.returns
returns g c = too_many g.T.Worded.named _ c.loop-rest.tests.items c.loop-rest.rest.now c.loop-rest.invariant.2 (search rules)
