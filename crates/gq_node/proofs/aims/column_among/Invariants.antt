-- What is left of the columns decides.
use Rattle.std.proofs.Common.{◌≡◌, ◌-◌}
use Rattle.std.specs.List.{find, range_with_len}
use Rattle.gq_grid.specs.Grid.{below}
use Rattle.gq_grid.specs.Sets.{servers}
use Rattle.gq_node.specs.Columns.{stands_in}
use Rattle.gq_node.proofs.aims.column_among.Given as goal

abbrev pub invariant-loop-first : goal.invariant-loop-first
invariant-loop-first l = find (stands_in l.grid (servers l.set)) (range_with_len l.first (l.grid.cols - l.first)) ≡ find (stands_in l.grid (servers l.set)) (below l.grid.cols)
