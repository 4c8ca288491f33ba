use Rattle.std.proofs.Common.{refl, add-one}
use Rattle.part.proofs.writing.entries.put_name.Goals as goal

pub returns : goal.returns
returns g c =
    g.met.S.Sink.more _ _ _ _ _ _ (rw (c.put_count.ensures.left c.if-put_count.false) at c.put_header.ensures) (g.met.S.Sink.more _ _ _ _ _ _ c.put.ensures c.put_all.ensures refl)
    (rw (c.as_bytes-label.ensures, c.from.ensures, add-one) refl)
