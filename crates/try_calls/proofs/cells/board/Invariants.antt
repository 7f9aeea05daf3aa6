-- The grid stays.
use Rattle.std.proofs.Common.{◌≡◌}
use Rattle.try_calls.proofs.cells.board.Given as goal

abbrev pub invariant-loop-seen : goal.invariant-loop-seen
invariant-loop-seen l = l.board.grid ≡ record { rows = 1; cols = 1 }
