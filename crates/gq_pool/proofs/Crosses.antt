-- The nodes may go to another thread, and a `&` to them too.
use Rattle.std.proofs.Common.{ℕ, List, [], ◌∷◌}
use mir.Raw.{raw}
use base.Shift.{Keyless}
use denote.Memory.{lone}
use denote.RawPtr.{Ptr}
use denote.Struct.Struct.{exits_of}
use denote.Struct.Owning.{shape, fields, to}
use denote.Param.Send.{IsSend, IsSync, Common, AllSend, owning_send, struct_send, struct_sync, sendable}
use Rattle.std.proofs.Crossing as crossing
use Rattle.std_alloc.proofs.SendSync.{quiet, lies, seen}
use Rattle.gq_pool.specs.Ownership.{heap, node_of, nodes_owns, nodes_shares}
use Rattle.gq_pool.specs.contracts.node.Node as node
use Rattle.gq_pool.proofs.node.Node.TheSendSync.{the_send, the_sync}
use Rattle.gq_pool.specs.contracts.nodes.Nodes.{the_row, the_type}

nodes-Keyless : (ns : List (Ptr × List ℕ)) → Keyless (nodes_owns ns)
nodes-Keyless [] = tt
nodes-Keyless (n ∷ ns) = ((lies node.the_row the_send n.0 (node_of n.1 ns), crossing.frees.frees heap (raw (lone node.the_row.mir)) n.0), nodes-Keyless ns)

nodes_shares-Common : (ns : List (Ptr × List ℕ)) → Common (nodes_shares ns)
nodes_shares-Common [] κ = tt
nodes_shares-Common (n ∷ ns) κ = (seen node.the_row the_sync n.0 (node_of n.1 ns) κ, nodes_shares-Common ns κ)

pub nodes_send : IsSend the_row
nodes_send =
    let all : AllSend (fields the_type) = (search sendable, tt) in
    owning_send the_type all (λ d. nodes-Keyless d.nodes) (λ k. quiet (to the_type) (exits_of k (fields the_type)) ((struct_send (shape the_type) all).leaving k))

pub nodes_sync : IsSync the_row
nodes_sync = record { shared = λ d b o κ. ((struct_sync (shape the_type) (search sendable, tt)).shared (to the_type d) b o κ, nodes_shares-Common d.nodes κ) }
