use Rattle.std.proofs.Common.{◌≡◌, ◌++◌, drop}
use Rattle.gq_inspect.specs.Lists.{board_flips}
use Rattle.gq_inspect.proofs.lists.board_flips.Given as goal

abbrev pub invariant-loop-entry : goal.invariant-loop-entry
invariant-loop-entry l = l.all.items ++ board_flips l.server (drop l.entry-index l.entries) ≡ board_flips l.server l.entries
