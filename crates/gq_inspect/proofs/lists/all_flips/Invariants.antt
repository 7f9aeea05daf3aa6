use Rattle.std.proofs.Common.{ℕ, ◌<◌}
use Rattle.gq_inspect.specs.Lists.{HasFlips}
use Rattle.gq_inspect.proofs.lists.all_flips.Given as goal

abbrev pub invariant-loop-server : goal.invariant-loop-server
invariant-loop-server l = (k : ℕ) → k < l.server → HasFlips l.records.board.items l.records.cells.items k
