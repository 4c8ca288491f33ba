use Rattle.std.proofs.Common.{◌≡◌, map}
use Rattle.runs.specs.Steps.{standing, step_of, state_from}
use Rattle.winavulor.proofs.example.take_all.Given as goal

abbrev pub invariant-loop-step : goal.invariant-loop-step
invariant-loop-step l = state_from (standing l.state) (map (λ step. step_of step.call) l.step-iterator.rest.items) ≡ state_from (standing l.fn.state) (map (λ step. step_of step.call) l.fn.steps.items)
