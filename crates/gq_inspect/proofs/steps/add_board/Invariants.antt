use Rattle.std.proofs.Common.{◌≡◌, ◌++◌, drop}
use Rattle.gq_inspect.specs.Steps.{board_steps}
use Rattle.gq_inspect.proofs.steps.add_board.Given as goal

abbrev pub invariant-loop-at : goal.invariant-loop-at
invariant-loop-at l = l.all.items ++ board_steps l.at (drop l.at l.entries) ≡ l.initial.all.items ++ board_steps 0 l.entries
