-- What is left of the column decides.
use Rattle.std.proofs.Common.{◌≡◌, ◌-◌}
use Rattle.std.specs.List.{list_any, range_with_len}
use Rattle.gq_grid.specs.Grid.{server_at}
use Rattle.gq_grid.specs.Sets.{servers}
use Rattle.gq_node.specs.Columns.{stands_in}
use Rattle.gq_node.proofs.aims.stands_in.Given as goal

abbrev pub invariant-loop-row : goal.invariant-loop-row
invariant-loop-row l = list_any (λ r. servers l.set (server_at l.grid r l.column)) (range_with_len l.row (l.grid.rows - l.row)) ≡ stands_in l.grid (servers l.set) l.column
