-- What is left of the servers decides.
use Rattle.std.proofs.Common.{◌≡◌, ◌*◌, ◌-◌, ◌&&◌, not}
use Rattle.std.specs.Prelude.{◌==◌}
use Rattle.std.specs.List.{find, range_with_len}
use Rattle.gq_grid.specs.Sets.{servers}
use Rattle.gq_phase.specs.Quorums.{are_peers}
use Rattle.gq_model.specs.Lone.{peer_among}
use Rattle.gq_world.proofs.peers.peer_among.Given as goal

abbrev pub invariant-loop-peer : goal.invariant-loop-peer
invariant-loop-peer l = find (λ m. servers l.set m && (not (m == l.server) && are_peers l.grid l.server m)) (range_with_len l.peer (l.grid.rows * l.grid.cols - l.peer)) ≡ peer_among l.grid (servers l.set) l.server
