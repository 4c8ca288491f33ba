use Rattle.std.proofs.Common.{◌+◌, ◌-◌, length, refl, sym, ap, ◌∙◌, arith}
use borrow.Rule.Slice.PartMut.{put_mid}
use Rattle.writer.specs.Sinks.{place_after, filled}
use Rattle.writer.proofs.Copied.{copied, place_fits}
use Rattle.writer.proofs.sink.CursorSink.put_at_once.Goals as goal

pub returns-clause-taken : goal.returns-clause-taken
returns-clause-taken c =
    let at = c.in-Some.at in
    let bytes = c.args.bytes.now in
    let out = c.args.self.now.out.now in
    let count = (at + length bytes) - at in
    λ _. record {
      same_reference = refl;
      buffer = ap (put_mid at count out) c.copy_from_slice.ensures.after ∙ copied at count bytes out (omega arith) (omega arith) ∙ ap (λ p. filled p bytes out) (sym c.in-Some.is);
      place = place_fits at (length bytes) (length out) (omega arith) (omega arith) ∙ ap (λ p. place_after p (length bytes) (length out)) (sym c.in-Some.is);
    }
