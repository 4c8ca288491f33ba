use Rattle.std.proofs.Common.{ℕ, ◌+◌, ◌<◌, ◌≤◌, length, get_or, refl, sym, arith, rules}
use Rattle.vocabulary.specs.Naming.{entities}
use Rattle.terms.specs.Limits.{most_nodes}
use Rattle.terms.specs.Tables.{nodes_of}
use Rattle.terms.proofs.ItemsJudged.{items_right, item_decides}
use Rattle.codec.proofs.Accepting.{accepts, accepted_turn_is}
use Rattle.codec.proofs.parsed.read_axiom.Goals as goal

pub returns-in-Ok-clause-turn : goal.returns-in-Ok-clause-turn
returns-in-Ok-clause-turn c =
    let room : length (nodes_of c.args.terms.now) + length c.as_bytes-body.result.now ≤ most_nodes = omega (arith, c.count-before.ensures) in
    let read = accepted_turn_is c.args.kind room c.in-Ok.ensures.builds in
    let turn = rw c.as_bytes-body.ensures.value at read in
    search rules

pub returns-in-Ok-clause-judged : goal.returns-in-Ok-clause-judged
returns-in-Ok-clause-judged c =
    let right = items_right (entities c.args.names.now) c.as_bytes-body.result.now c.args.kind _ _ (sym c.in-Ok.ensures.builds.reads.read) in
    rw c.as_bytes-body.ensures.value at right.0

pub returns-in-Ok-clause-outcome : goal.returns-in-Ok-clause-outcome
returns-in-Ok-clause-outcome c =
    let typed : (i : ℕ) → get_or c.as_bytes-body.result.now i 0 < 256 = λ i. search rules in
    let room : length (nodes_of c.args.terms.now) + length c.as_bytes-body.result.now ≤ most_nodes = omega (arith, c.count-before.ensures) in
    let a = accepts refl room typed c.in-Ok.ensures.builds in
    search rules

pub returns-in-Err-clause-judged : goal.returns-in-Err-clause-judged
returns-in-Err-clause-judged c =
    let decides = item_decides (entities c.args.names.now) c.as_bytes-body.result.now c.args.kind _ (sym c.in-Err.ensures.builds.reads) in
    rw c.as_bytes-body.ensures.value at decides
