-- The machine values of a `Link`, which is one pointer, and of `Nodes`, which takes no bytes, and an end that says two facts. Assumes `Logic`.
use Rattle.std.proofs.Common.{◌≡◌, List, [], ◌∷◌, ◌++◌, refl, subst}
use seplogic.Ra.Ura.{Ura}
use mir.Val.{Val, vstruct, vcons, vnil, of_list}
use base.Logic.{SProp, ent, sep, emp, via, comm∗, mono_l, mono_r, emp∗}
use contract.Monad.{fact, fact_i}
use types.Logic.{Logic, sem}
use types.Kit.{Item, Goal, Seq, Step, step, prop, ‵, ◌$◌, drop, fsplit, fjoin, fpick, fpack, feq_i, feq_l}
use denote.RattleType.{RattleType, Valss}
use denote.Builtin.{RawPtr}
use denote.RawPtr.{Ptr, ptr_val}
use denote.Shadow.{makes_shadow}
use denote.Steps.{nothing}
use denote.Struct.Struct.{Struct, within}
use denote.Struct.Owning.{shape}
use Rattle.std_alloc.proofs.RcSteps.{word}
use Rattle.gq_pool.specs.contracts.node.Link as link
use Rattle.gq_pool.specs.contracts.nodes.Nodes as nodes

abbrev pub mark : Val
mark = vstruct (vcons (vstruct vnil) vnil)

-- the one field of `Nodes`
abbrev pub Mark : RattleType
Mark = Struct (shape nodes.the_type)

pub mark_made : {M : Type 1} {𝓤 : Ura M} (𝓛 : Logic 𝓤) → ent 𝓤 (emp 𝓤) (sem 𝓛 (Mark.own_val (record {}, tt) (mark ∷ [])))
mark_made 𝓛 = makes_shadow 𝓛 (Mark.own_val (record {}, tt) (mark ∷ [])) (λ vss. (tt, ((λ uss. (tt, tt)), tt))) ((vstruct vnil ∷ [], tt), (refl, ((tt, (refl, tt)), tt)))

module _ {M : Type 1} {𝓤 : Ura M} {𝓛 : Logic 𝓤} {K : Type 0} {Γ : List (Item 𝓤)} {G : Goal 𝓤 𝓛.H} where
  pub link_had : K → (x : link.the_row.Denot) (vs : List Val) → (vs ≡ word x.ptr ∷ [] → Seq K 𝓛 Γ G) → Seq K 𝓛 (‵ (link.the_row.own_val x vs) ∷ Γ) G
  link_had t x vs k = fpick t (λ vss. fsplit t $ feq_l t (λ ev. fsplit t $ feq_l t (λ e. drop t $ k (subst (λ (ws : List Val). vs ≡ vstruct (of_list (ws ++ [])) ∷ []) e ev))))

  pub link_made : K → (p : Ptr) → Step K 𝓛 (‵ (link.the_row.own_val (record { ptr = p }) (word p ∷ [])) ∷ Γ) G Γ G
  link_made t p = step (λ s.
      nothing t $ feq_i t (List Val) (ptr_val p ∷ []) (ptr_val p ∷ []) refl $ fjoin t $ feq_i t (List Val) (word p ∷ []) (word p ∷ []) refl $ fjoin t $
      fpack t (Valss (RawPtr ∷ [])) (within (record { name = []; args = []; types = []; fields = RawPtr ∷ [] }) (p, tt) (word p ∷ [])) (ptr_val p ∷ [], tt) $ s)

two_facts : {M : Type 1} (𝓤 : Ura M) {φ ψ : Type 0} → φ → ψ → ent 𝓤 (emp 𝓤) (sep 𝓤 (fact 𝓤 φ) (fact 𝓤 ψ))
two_facts 𝓤 {φ} {ψ} x y =
    via 𝓤 (sep 𝓤 (emp 𝓤) (emp 𝓤)) (emp∗ 𝓤 (emp 𝓤)) (via 𝓤 (sep 𝓤 (fact 𝓤 φ) (emp 𝓤)) (mono_l 𝓤 (emp 𝓤) (fact_i 𝓤 φ (emp 𝓤) x)) (mono_r 𝓤 (fact 𝓤 φ) (fact_i 𝓤 ψ (emp 𝓤) y)))

-- as `says`, for two clauses
pub says_both : {M : Type 1} {𝓤 : Ura M} {𝓛 : Logic 𝓤} {K : Type 0} {Γ : List (Item 𝓤)} → K → {φ ψ : Type 0} {P : SProp 𝓤} → φ → ψ → Step K 𝓛 Γ (prop P) Γ (prop (sep 𝓤 P (sep 𝓤 (fact 𝓤 φ) (fact 𝓤 ψ))))
says_both {𝓤 = 𝓤} {𝓛 = 𝓛} {Γ = Γ} t {φ} {ψ} {P} x y =
    let both : SProp 𝓤 = sep 𝓤 (fact 𝓤 φ) (fact 𝓤 ψ) in
    step (λ s. record { prf = via 𝓤 P s.prf (via 𝓤 (sep 𝓤 (emp 𝓤) P) (emp∗ 𝓤 P) (via 𝓤 (sep 𝓤 both P) (mono_l 𝓤 P (two_facts 𝓤 x y)) (comm∗ 𝓤 both P))) })
