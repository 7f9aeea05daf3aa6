-- What a list of nodes owns and lends: each node as a box owns its value, its `next` the place of the node after.
use Rattle.std.specs.Prelude.{ℕ, List, [], ◌∷◌}
use base.Fml.{Lft, Fml, ftrue, fsep}
use denote.RawPtr.{Ptr}
use denote.Sharing.{nothing, beside}
use denote.Struct.Lending.{lent_at}
use Rattle.std.specs.Box.Ownership.{box_owns}
use Rattle.std.specs.declared.alloc.Global.{Global}
use Rattle.std.specs.contracts.impls.GlobalAllocator.TheImpl.{ghosts}
use Rattle.gq_pool.specs.declared.node.Node.{Node}
use Rattle.gq_pool.specs.contracts.node.Node.{the_row}
use Rattle.gq_pool.specs.Linked.{first_place}

-- the node of the bytes bs before the nodes ns
abbrev pub node_of : List ℕ → List (Ptr × List ℕ) → Node
node_of bs ns = record { next = first_place ns; bytes = bs }

-- the heap's handle, of which there is one value
abbrev pub heap : Global
heap = record { memory = record { seal = tt } }

abbrev pub node_owns : Ptr → Node → Fml
node_owns = box_owns (ghosts.dealloc_token heap) the_row

abbrev pub nodes_owns : List (Ptr × List ℕ) → Fml
nodes_owns [] = ftrue
nodes_owns (n ∷ ns) = fsep (node_owns n.0 (node_of n.1 ns)) (nodes_owns ns)

abbrev pub nodes_shares : List (Ptr × List ℕ) → Lft → Fml
nodes_shares [] = nothing
nodes_shares (n ∷ ns) = beside (lent_at the_row n.0 (node_of n.1 ns)) (nodes_shares ns)
