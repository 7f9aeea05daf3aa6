-- What is left of the places decides.
use Rattle.std.proofs.Common.{◌≡◌, ◌-◌, ◌*◌}
use Rattle.std.specs.List.{list_all, range_with_len}
use Rattle.gq_node.specs.Tables.{has_joined}
use Rattle.gq_node.proofs.tables.Core.all_joined.Given as goal

abbrev pub invariant-loop-place : goal.invariant-loop-place
invariant-loop-place l =
    list_all (has_joined l.self) (range_with_len l.place (l.self.plan.grid.rows * l.self.plan.grid.cols - l.place))
    ≡ list_all (has_joined l.self) (range_with_len 0 (l.self.plan.grid.rows * l.self.plan.grid.cols))
