-- A `&` to the nodes is made where one to each node is, and has the laws of what a `&` holds. Assumes `Logic`.
use Rattle.std.proofs.Common.{◌≡◌, ℕ, zero, suc, List, [], ◌∷◌, refl, drop}
use base.Logic.{ent}
use seplogic.Ra.Ura.{Ura}
use base.Fml.{Lft, ftrue}
use types.Logic.{Logic, sem}
use types.Kit.{‵, ◌$◌, ◌∵◌, !, qed, by, keep, drop as drop', fsplit, rewrite, done}
use denote.RawPtr.{Ptr, lies_at}
use denote.Sharing.{ShrLaws}
use denote.SharingLaws.{beside_shr_laws, nothing_shr_laws}
use denote.Shares.{Shares-less}
use contract.BorrowLft.{⊑_static}
use denote.Struct.Lending.{lent_at, lent_at_shr_laws, Lends-lies, Lends-first, Lends, Lends-both, Lends-nothing}
use Rattle.gq_pool.specs.contracts.node.Node.{the_row}
use Rattle.gq_pool.proofs.node.Node.TheLaws.{the_row_laws}
use Rattle.gq_pool.specs.Ownership.{node_of, node_owns, nodes_owns, nodes_shares}
use base.Fraction.{full_share}

pub nodes_shares_laws : (ns : List (Ptr × List ℕ)) → ShrLaws (nodes_shares ns)
nodes_shares_laws [] = nothing_shr_laws
nodes_shares_laws (n ∷ ns) = beside_shr_laws _ _ (lent_at_shr_laws the_row the_row_laws.shr_laws n.0 (node_of n.1 ns)) (nodes_shares_laws ns)

module _ {M : Type 1} {𝓤 : Ura M} (𝓛 : Logic 𝓤) (l : Lft) where
  pub Lends-nodes : (ns : List (Ptr × List ℕ)) → Lends 𝓛 (nodes_owns ns) (nodes_shares ns) l
  Lends-nodes [] = Lends-nothing 𝓛 ftrue l
  Lends-nodes (n ∷ ns) =
      let x = node_of n.1 ns in
      Lends-both 𝓛 (node_owns n.0 x) (nodes_owns ns) (lent_at the_row n.0 x) (nodes_shares ns) l
      (Lends-first 𝓛 (lies_at the_row full_share n.0 x) _ (lent_at the_row n.0 x) l (Lends-lies 𝓛 the_row l n.0 x (Shares-less 𝓛 the_row [] l (⊑_static l) (the_row_laws.shares 𝓛) x)))
      (Lends-nodes ns)

module _ {M : Type 1} {𝓤 : Ura M} (𝓛 : Logic 𝓤) (κ : Lft) where
  -- of what a `&` holds of the nodes, the one that begins `rest`
  pub nodes_seen : (ns : List (Ptr × List ℕ)) (i : ℕ) (n : Ptr × List ℕ) (rest : List (Ptr × List ℕ)) → drop i ns ≡ n ∷ rest
      → ent 𝓤 (sem 𝓛 (nodes_shares ns κ)) (sem 𝓛 (lent_at the_row n.0 (node_of n.1 rest) κ))
  nodes_seen [] zero n rest e = absurd (cc)
  nodes_seen [] (suc i) n rest e = absurd (cc)
  nodes_seen (m ∷ ns) zero n rest e =
      qed 𝓛 (‵ (nodes_shares (m ∷ ns) κ) ∷ []) ∵ rewrite ! 0 (λ (ls : List (Ptr × List ℕ)). ‵ (nodes_shares ls κ)) e refl $ fsplit ! $ keep ! (0 ∷ []) $ done !
  nodes_seen (m ∷ ns) (suc i) n rest e = qed 𝓛 (‵ (nodes_shares (m ∷ ns) κ) ∷ []) ∵ fsplit ! $ drop' ! $ by ! (nodes_seen ns i n rest e)
