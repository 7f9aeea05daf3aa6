use Rattle.std.proofs.Common.{◌≡◌, ◌++◌, drop}
use Rattle.gq_inspect.specs.Steps.{served_steps}
use Rattle.gq_inspect.proofs.steps.add_cell.Given as goal

abbrev pub invariant-loop-at : goal.invariant-loop-at
invariant-loop-at l = l.all.items ++ served_steps l.place l.server l.at (drop l.at l.entries) ≡ l.initial.all.items ++ served_steps l.place l.server 0 l.entries
