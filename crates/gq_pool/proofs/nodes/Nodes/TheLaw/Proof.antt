-- A `&` to the nodes is made where one to each node is. Assumes `Logic`.
use denote.RawPtr.{RawPtr}
use denote.Param.Shared.{copy_shared}
use denote.Struct.Laws.{field_copy}
use denote.Struct.Lending.{of_Lends}
use Rattle.std.specs.contracts.marker.PhantomData as marker
use Rattle.gq_pool.specs.contracts.nodes.Nodes as C
use Rattle.gq_pool.proofs.nodes.Nodes.TheLaw.Statement.{statement}
use Rattle.gq_pool.proofs.Lending.{nodes_shares_laws, Lends-nodes}

pub shares : statement
shares = of_Lends C.struct (C.the_codes (marker.the_row RawPtr).coded) C.the_heap C.the_lent (λ d p. nodes_shares_laws d.nodes) (copy_shared (marker.the_field RawPtr) (field_copy (marker.the_type RawPtr) tt), tt)
    (λ M 𝓤 𝓛 d p. Lends-nodes 𝓛 C.the_row.lives d.nodes)
