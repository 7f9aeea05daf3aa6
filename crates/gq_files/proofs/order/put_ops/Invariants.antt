use Rattle.std.proofs.Common.{◌≡◌, ◌++◌, take}
use Rattle.std.specs.List.{flat_map}
use Rattle.gq_files.specs.Orders.{operation_line_at}
use Rattle.gq_files.proofs.order.put_ops.Given as goal

abbrev pub invariant-loop-place : goal.invariant-loop-place
invariant-loop-place l = l.out.items ≡ l.fn.out.items ++ flat_map (operation_line_at l.ops) (take l.place-index l.order)
