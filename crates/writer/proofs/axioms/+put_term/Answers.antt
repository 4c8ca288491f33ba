use Rattle.std.proofs.Common.{refl, ap, arith}
use Rattle.terms.specs.Writing.{term_bytes}
use Rattle.writer.proofs.axioms.+put_term.Goals as goal

pub returns-in-And : goal.returns-in-And
returns-in-And g t c =
    g.met.S.Sink.more _ _ _ _ _ _ (rw c.from-in-And.ensures at c.put-in-And.ensures)
    (g.met.S.Sink.more _ _ _ _ _ _ c.put_term-in-And.ensures c.put_term-in-And-2.ensures refl)
    (ap term_bytes (c.in-And.ensures.tree c.args.levels (omega arith)))

pub returns-in-Exists : goal.returns-in-Exists
returns-in-Exists g t c =
    g.met.S.Sink.more _ _ _ _ _ _ (rw c.from-in-Exists.ensures at c.put-in-Exists.ensures)
    (g.met.S.Sink.more _ _ _ _ _ _ c.put_role.ensures c.put_term-in-Exists.ensures refl)
    (ap term_bytes (c.in-Exists.ensures.tree c.args.levels (omega arith)))

pub returns-in-AtLeast : goal.returns-in-AtLeast
returns-in-AtLeast g t c =
    g.met.S.Sink.more _ _ _ _ _ _ (rw c.from-in-AtLeast.ensures at c.put-in-AtLeast.ensures)
    (g.met.S.Sink.more _ _ _ _ _ _ (rw c.get.ensures at c.put_number-in-AtLeast.ensures)
    (g.met.S.Sink.more _ _ _ _ _ _ c.put_role-in-AtLeast.ensures c.put_term-in-AtLeast.ensures refl) refl)
    (ap term_bytes (c.in-AtLeast.ensures.tree c.args.levels (omega arith)))
