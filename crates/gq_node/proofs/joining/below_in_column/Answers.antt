-- No place is too great.
use Rattle.std.proofs.Common.{◌≤◌, arith}
use Rattle.std.specs.Prelude.{nat_le}
use Rattle.std.proofs.lemmas.Bool.{and_parts, leb-true}
use Rattle.gq_grid.specs.declared.TheConstants.{MOST_SIDE}
use Rattle.gq_node.proofs.joining.below_in_column.Goals as goal

pub overflow_add-below : goal.overflow_add-below
overflow_add-below c =
    let high : c.cols.result ≤ MOST_SIDE = leb-true c.cols.result MOST_SIDE (and_parts (nat_le 1 c.cols.result) (nat_le c.cols.result MOST_SIDE) c.cols.ensures.side).1 in
    let value = c.servers-servers.ensures.value in
    let bound = c.servers-servers.ensures.bound in
    let within = c.requires in
    omega (arith, high, value, bound, within)
