use Rattle.part.proofs.Sections.{seed_on, seed_off}
use Rattle.part.proofs.writing.sections.put_seeds.Goals as goal
use Rattle.part.proofs.writing.sections.put_seeds.Goals.{then-name, else-name}

pub loop-number-preserved : goal.loop-number-preserved
loop-number-preserved g c =
    let names = c.as_slice-name-items.result.now in
    elim c.if-name.branch [
      | then-name w ↦
          rw w.sink-is
          (g.met.S.Sink.more _ _ _ _ _ _ c.loop-number.invariant w.put_seed.ensures
          (seed_on names c.loop-number.number c.name-item.result c.loop-number-test.true c.name-item.is w.if-name.true))
      | else-name w ↦
          rw w.sink-is
          (g.met.S.Sink.more _ _ _ _ _ _ c.loop-number.invariant (g.met.S.Sink.nothing _)
          (seed_off names c.loop-number.number c.name-item.result c.loop-number-test.true c.name-item.is w.if-name.false))
    ]
