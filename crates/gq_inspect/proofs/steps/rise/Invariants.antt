use Rattle.std.proofs.Common.{◌≡◌, None, drop}
use Rattle.gq_inspect.specs.Steps.{rise_after}
use Rattle.gq_inspect.proofs.steps.rise.Given as goal

abbrev pub invariant-loop-step : goal.invariant-loop-step
invariant-loop-step l = rise_after l.last (drop l.step-index l.steps) ≡ rise_after None l.steps
