use Rattle.std.proofs.Common.{◌≡◌, ◌++◌, drop}
use Rattle.gq_inspect.specs.Steps.{cells_steps}
use Rattle.gq_inspect.proofs.steps.add_cells.Given as goal

abbrev pub invariant-loop-server : goal.invariant-loop-server
invariant-loop-server l = l.all.items ++ cells_steps l.server (drop l.server l.cells) ≡ l.initial.all.items ++ cells_steps 0 l.cells
