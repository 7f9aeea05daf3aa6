use Rattle.std.proofs.Common.{◌≡◌, ◌≤◌, ◌++◌, length}
use Rattle.gq_svg.specs.Lanes.{down_servers, server_lanes}
use Rattle.gq_svg.proofs.lanes.put_server_lanes.Given as goal

-- the lanes of the servers so far are appended, and counted
abbrev pub invariant-loop-server : goal.invariant-loop-server
invariant-loop-server l = record {
  written : l.out.items ≡ l.fn.out.items ++ server_lanes l.edge l.sessions l.outages l.server;
  counted : l.before ≡ length (down_servers l.outages l.server);
  most : l.before ≤ l.server;
}
