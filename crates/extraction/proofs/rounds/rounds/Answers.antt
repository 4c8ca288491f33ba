use Rattle.std.proofs.Common.{sym, refl, arith}
use Rattle.book.specs.Calls.{contents}
use Rattle.locality.specs.Flags.{listed_in}
use Rattle.extraction.specs.Signatures.{with_signature}
use Rattle.extraction.proofs.Rounding.{stage_begins, list_begins, round_made, round_more, round_last, few_rounds}
use Rattle.extraction.proofs.Signing.{signature_with}
use Rattle.extraction.proofs.rounds.rounds.Goals as goal

pub loop-marking-init : goal.loop-marking-init
loop-marking-init g c = (refl, list_begins (with_signature (contents c.args.book.now) (listed_in c.args.signature.now)) _ (sym (signature_with (contents c.args.book.now) (listed_in c.args.signature.now) c.requires.listed)), stage_begins _ _ _)

pub loop-marking-preserved : goal.loop-marking-preserved
loop-marking-preserved g c =
    round_more _ _ _ _ _ _ _ c.loop-marking.invariant.0 (round_made (contents c.args.book.now) (listed_in c.args.signature.now) _ _ _ _ c.loop-marking.invariant.1 c.round.ensures) c.loop-marking.invariant.2 c.loop-marking-test.true

pub loop-marking-smaller : goal.loop-marking-smaller
loop-marking-smaller g c =
    let next = round_more _ _ _ _ _ _ _ c.loop-marking.invariant.0 (round_made (contents c.args.book.now) (listed_in c.args.signature.now) _ _ _ _ c.loop-marking.invariant.1 c.round.ensures) c.loop-marking.invariant.2 c.loop-marking-test.true in
    omega (arith, few_rounds c.args.book.now (listed_in c.args.signature.now) _ _ _ _ next.2)

pub returns : goal.returns
returns g c =
    let last = round_last _ _ _ _ _ _ _ c.loop-marking.invariant.0 (round_made (contents c.args.book.now) (listed_in c.args.signature.now) _ _ _ _ c.loop-marking.invariant.1 c.round.ensures) c.loop-marking.invariant.2 (rw c.loop-marking.invariant.0 c.requires.handed) c.loop-marking-test.false in
    record { holds = last.0; counts = last.1 }
