-- The stores in two parts, of which one has the server and the other its peer.
use Rattle.std.proofs.Common.{◌∙◌, ◌++◌, ap, arith}
use Rattle.std.specs.Prelude.{slice_set}
use Rattle.gq_world.proofs.Taking.{from_above, from_below}
use Rattle.gq_world.proofs.peers.take_from.Goals as goal

pub returns-then-server-peer : goal.returns-then-server-peer
returns-then-server-peer c =
    let e = c.split_at_mut-low.ensures in
    ap (λ v. slice_set c.split_at_mut-low.result.0.now c.args.server v ++ c.split_at_mut-low.result.1.now) c.take_from.ensures
    ∙ from_above c.args.stores.now c.split_at_mut-low.result.0.now c.split_at_mut-low.result.1.now c.args.server c.args.peer _ e.value e.front_len c.if-server-peer.true (let peer = c.requires.peer in let back = e.back_len in omega arith)

pub returns-else-server-peer : goal.returns-else-server-peer
returns-else-server-peer c =
    let e = c.split_at_mut-low-else-server-peer.ensures in
    ap (λ v. c.split_at_mut-low-else-server-peer.result.0.now ++ slice_set c.split_at_mut-low-else-server-peer.result.1.now 0 v) c.take_from-else-server-peer.ensures
    ∙ from_below c.args.stores.now c.split_at_mut-low-else-server-peer.result.0.now c.split_at_mut-low-else-server-peer.result.1.now c.args.server c.args.peer _ e.value e.front_len (let apart = c.requires.apart in let not_below = c.if-server-peer.false in omega arith)
