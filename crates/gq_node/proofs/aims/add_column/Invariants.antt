-- The servers of the first rows.
use Rattle.std.proofs.Common.{◌≡◌}
use Rattle.std.specs.Prelude.{◌==◌, ◌||◌}
use Rattle.std.specs.List.{list_any, range_with_len}
use Rattle.gq_grid.specs.Grid.{server_at}
use Rattle.gq_grid.specs.Sets.{servers}
use Rattle.gq_node.proofs.aims.add_column.Given as goal

abbrev pub invariant-loop-row : goal.invariant-loop-row
invariant-loop-row l = servers l.set ≡ (λ server. servers l.fn.set server || list_any (λ r. server_at l.grid r l.col == server) (range_with_len 0 l.row))
