use Rattle.std.proofs.Common.{◌≡◌, false}
use Rattle.std.specs.Prelude.{nat_lt}
use Rattle.std.specs.List.{list_any, range_with_len}
use Rattle.gq_desk.specs.Volumes.{account_at}
use Rattle.gq_node.specs.Joining.{lacked_files}
use Rattle.gq_node.specs.Tables.{lacks_at}
use Rattle.gq_machine.proofs.machine.NodeMachine.lacks_some.Given as goal

-- of the tenants so far no file is lacked
abbrev pub invariant-loop-place : goal.invariant-loop-place
invariant-loop-place l = list_any (λ t. nat_lt 0 (lacked_files (lacks_at l.self.node.tables t) (account_at l.self.node.tables.desk t).volumes)) (range_with_len 0 l.place) ≡ false
