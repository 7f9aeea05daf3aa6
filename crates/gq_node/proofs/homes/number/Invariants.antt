-- The sessions so far.
use Rattle.std.proofs.Common.{◌≡◌, ◌+◌, ◌*◌, ◌^◌, ◌≤◌, take}
use Rattle.std.specs.Prelude.{sum_by}
use Rattle.gq_node.proofs.homes.number.Given as goal

abbrev pub invariant-loop-row : goal.invariant-loop-row
invariant-loop-row l = record {
  told : l.number ≡ l.place + sum_by (λ row. row.sessions) (take l.row-index l.row-items);
  bound : l.number ≤ (l.row-index + 1) * 2 ^ 32;
}
