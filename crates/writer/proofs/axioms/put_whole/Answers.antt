use Rattle.terms.specs.Forms.{meaning}
use Rattle.writer.proofs.axioms.put_whole.Goals as goal

pub returns : goal.returns
unfolding meaning
returns g c = c.put_term.ensures
