-- The servers of the first columns.
use Rattle.std.proofs.Common.{◌≡◌}
use Rattle.std.specs.Prelude.{◌==◌}
use Rattle.std.specs.List.{list_any, range_with_len}
use Rattle.gq_grid.specs.Grid.{server_at}
use Rattle.gq_grid.specs.Sets.{servers}
use Rattle.gq_node.proofs.aims.row_set.Given as goal

abbrev pub invariant-loop-col : goal.invariant-loop-col
invariant-loop-col l = servers l.set ≡ (λ server. list_any (λ c. server_at l.grid l.row c == server) (range_with_len 0 l.col))
