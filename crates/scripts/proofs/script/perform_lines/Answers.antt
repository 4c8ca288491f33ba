use Rattle.std.proofs.Common.{◌≡◌, ◌+◌, rules, Ok, Err, subst, sym, ap, ◌∙◌, refl, [], string_bytes, lit<}
use Rattle.std.proofs.lemmas.Iterator.Consumers.{YieldsList-at}
use Rattle.std.proofs.lemmas.Iterator.Splits.{YieldsList-from_str_split}
use Rattle.std.specs.Iterator.Adapters.{enumerate_count, enumerate_source}
use Rattle.std.specs.Str.Iter.{split_steps}
use Rattle.std.specs.Str.Pattern.{FindsChar}
use Rattle.runs.specs.Steps.{standing}
use Rattle.scripts.specs.Lines.{line_request}
use Rattle.scripts.specs.Scripts.{LineDone, LinesDone, LinesHalt, line_outcome, lines}
use Rattle.scripts.proofs.Performed.{line_ends, line_goes, none_left}
use Rattle.scripts.proofs.Turns.{none_yielded, one_yielded}
use Rattle.scripts.proofs.script.perform_lines.Goals as goal

pub loop-before-init : goal.loop-before-init
loop-before-init c =
    let script = c.args.script.now in
    let old = string_bytes c.args.answers.now in
    let here = c.into_iter-before-iterator.ensures.into_iter_gives in
    let all = YieldsList-from_str_split 10 script (lit< tt) c.split.ensures.text c.split.ensures.has_more c.split.ensures.pattern in
    let source = ap enumerate_source here ∙ c.enumerate-before-items.ensures.source in
    let count = ap enumerate_count here ∙ c.enumerate-before-items.ensures.count in
    ([], lines script, search rules, refl, YieldsList-at source all, λ r new done. subst (λ n. LinesDone [] (n + 1) (lines script) old new r) count done)

pub loop-before-preserved : goal.loop-before-preserved
loop-before-preserved c =
    let so = c.loop-before.invariant in
    let before = c.loop-before.before-iterator in
    let turn = one_yielded (split_steps FindsChar (λ a b. b ≡ a)) (λ x. x.now) before c.next.new.self c.in-Some.before c.in-Some.line so.1 so.4 c.in-Some.ensures.steps in
    let number = enumerate_count before + 1 in
    let l = c.in-Some.line.now in
    let old = string_bytes c.loop-before.answers in
    let mid = string_bytes c.perform_line.new.answers in
    let s = standing c.loop-before.state in
    let done = subst (λ r. LineDone old mid r (line_outcome s (line_request l))) c.in-Ok-perform_line.is c.perform_line.ensures.done in
    let on = line_goes so.0 number l turn.left (Unit {0}) c.in-Ok-perform_line.after old mid so.3 s so.2 done (search (rules, c.perform_line.ensures.promise, so.2, so.3)) in
    (on.0, turn.left, on.1, on.2, turn.yields, λ r new later. so.5 r new (subst (λ ls. LinesDone so.0 number ls old new r) (sym turn.first) (on.3 r new (subst (λ n. LinesDone on.0 (n + 1) turn.left mid new r) turn.count later))))

pub returns-in-Err-perform_line : goal.returns-in-Err-perform_line
returns-in-Err-perform_line c =
    let so = c.loop-before.invariant in
    let before = c.loop-before.before-iterator in
    let turn = one_yielded (split_steps FindsChar (λ a b. b ≡ a)) (λ x. x.now) before c.next.new.self c.in-Some.before c.in-Some.line so.1 so.4 c.in-Some.ensures.steps in
    let number = enumerate_count before + 1 in
    let l = c.in-Some.line.now in
    let halt = c.in-Err-perform_line.halt in
    let old = string_bytes c.loop-before.answers in
    let new = string_bytes c.perform_line.new.answers in
    let s = standing c.loop-before.state in
    let done = subst (λ r. LineDone old new r (line_outcome s (line_request l))) c.in-Err-perform_line.is c.perform_line.ensures.done in
    let ends = subst (λ ls. LinesHalt so.0 number ls old new number halt) (sym turn.first) (line_ends so.0 number l turn.left halt old new s so.2 done) in
    so.5 (Err (record { line = c.in-Some.before + 1; halt = halt })) new (subst (λ n. LinesHalt so.0 number so.1 old new (n + 1) halt) turn.number ends)

pub returns : goal.returns
returns c =
    let so = c.loop-before.invariant in
    let none = none_yielded (split_steps FindsChar (λ a b. b ≡ a)) (λ x. x.now) c.loop-before.before-iterator c.next.new.self so.1 so.4 c.in-None.ensures.steps in
    so.5 (Ok (tt {0})) _ (none_left so.0 (enumerate_count c.loop-before.before-iterator + 1) so.1 (string_bytes c.loop-before.answers) none)
