use Rattle.extraction.proofs.Filling.{fill_start}
use Rattle.extraction.proofs.start.choice.Goals as goal

pub loop-number-init : goal.loop-number-init
loop-number-init g c = fill_start _
