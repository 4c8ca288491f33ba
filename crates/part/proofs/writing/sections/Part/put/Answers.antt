use Rattle.std.proofs.Common.{refl}
use Rattle.part.proofs.writing.sections.Part.put.Goals as goal

pub returns : goal.returns
returns g c =
    let more = g.met.S.Sink.more in
    more _ _ _ _ _ _ (rw c.names.ensures at c.put_names.ensures) (more _ _ _ _ _ _ (rw c.names-2.ensures at c.put_seeds.ensures) c.put_axioms.ensures refl) refl
