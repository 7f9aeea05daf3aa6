-- One more server.
use Rattle.std.proofs.Common.{◌∙◌, ◌*◌, ◌<◌, ◌&&◌, not, sym, arith}
use Rattle.std.specs.Prelude.{◌==◌}
use Rattle.gq_grid.specs.Sets.{servers}
use Rattle.gq_grid.proofs.Ranges.{find_more}
use Rattle.gq_phase.specs.Quorums.{are_peers}
use Rattle.gq_world.proofs.peers.peer_among.Goals as goal

pub loop-peer-preserved : goal.loop-peer-preserved
loop-peer-preserved c =
    let below : c.loop-peer.peer < c.args.grid.now.rows * c.args.grid.now.cols = omega arith in
    find_more (λ m. servers c.args.set m && (not (m == c.args.server) && are_peers c.args.grid.now c.args.server m)) c.loop-peer.peer (c.args.grid.now.rows * c.args.grid.now.cols) below (sym c.gives.ensures ∙ c.if-gives.false) ∙ c.loop-peer.invariant
