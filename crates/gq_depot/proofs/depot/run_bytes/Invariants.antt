-- The run is looked at from its first number on.
use Rattle.std.proofs.Common.{◌≤◌, ◌-◌}
use Rattle.gq_depot.proofs.depot.run_bytes.Given as goal

abbrev pub invariant-loop-number : goal.invariant-loop-number
invariant-loop-number l = l.last ≤ l.run.last

abbrev pub decreases-loop-number : goal.decreases-loop-number
decreases-loop-number l = l.run.last - l.last
