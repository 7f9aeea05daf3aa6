use Rattle.std.proofs.Common.{◌≡◌, ◌≤◌, length}
use Rattle.gq_svg.specs.Lanes.{down_servers}
use Rattle.gq_svg.proofs.lanes.count_down.Given as goal

-- those of the servers so far are counted
abbrev pub invariant-loop-server : goal.invariant-loop-server
invariant-loop-server l = record {
  counted : l.count ≡ length (down_servers l.outages l.server);
  most : l.count ≤ l.server;
}
