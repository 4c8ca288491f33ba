use Rattle.runs.proofs.Promising.{led_through}
use Rattle.runs.proofs.state.State.mark_after.Goals as goal

pub returns-clause-through : goal.returns-clause-through
returns-clause-through g c = led_through _ c.perform_all-state.ensures c.mark-marking.ensures.led
