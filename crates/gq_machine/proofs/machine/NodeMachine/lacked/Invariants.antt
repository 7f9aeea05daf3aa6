-- Of the tenants so far.
use Rattle.std.proofs.Common.{◌≡◌, ◌≤◌, ◌*◌}
use Rattle.std.specs.List.{sum_by, range_with_len}
use Rattle.gq_desk.specs.Volumes.{account_at}
use Rattle.gq_desk.specs.declared.limits.TheConstants.{MOST_VOLUMES}
use Rattle.gq_tag.specs.declared.TheConstants.{MOST_FILES}
use Rattle.gq_node.specs.Joining.{lacked_files}
use Rattle.gq_node.specs.Tables.{lacks_at}
use Rattle.gq_machine.proofs.machine.NodeMachine.lacked.Given as goal

abbrev pub invariant-loop-place : goal.invariant-loop-place
invariant-loop-place l =
    (l.lacked ≡ sum_by (λ t. lacked_files (lacks_at l.self.node.tables t) (account_at l.self.node.tables.desk t).volumes) (range_with_len 0 l.place))
    × (l.lacked ≤ l.place * (MOST_VOLUMES * MOST_FILES))
