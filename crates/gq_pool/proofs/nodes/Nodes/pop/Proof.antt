-- `pop` makes a box of the first node. Assumes `Logic`.
use Rattle.std.proofs.Common.{◌≡◌, ℕ, ◌<◌, List, [], ◌∷◌, ◌++◌, length, drop as from_place, get_or, refl, sym, ap, ◌∙◌, subst}
use Rattle.std.proofs.Math.Seq.{drop-cons}
use lib.Dec.{T}
use mir.Val.{Val, vptr, has_ty, WT}
use base.Fraction.{full_share}
use base.Logic.{SProp, ent, emp, id⊢}
use base.Fml.{ftrue, flft}
use contract.BorrowLft.{◌⊑◌, ⊑_static}
use prog.Wp.{WpFn}
use contract.Monad.{fact, fact_i}
use contract.Running.{tables}
use types.Kit.{‵, raw, ◌⊛◌, some, later, at_ret, ◌$◌, ◌∵◌, !, qed, move, keep, drop, split, split3, join, use0, use1, fsplit, fsplit3, fjoin, fjoin3, feq_i, feq_l, await, pick, rewrite, suffices, frame, done}
use types.Part.{whole, sub}
use types.Run.{stop, fld, of_opd, and_then, no_more, first, blocks, exec, returns, enter}
use types.ByLocal.{alloc_all, pass_all, free_all, look_at, get, get_in, sets, lands_last, env}
use denote.Exit.{yes}
use denote.RattleType.{RattleType, owns}
use denote.RawPtr.{Ptr, null_ptr, ptr_val}
use denote.Signature.{types_at, plain}
use denote.Param.NoDrop.{glues}
use denote.Steps.{nothing, only, heard, opens, closes}
use denote.Triple.Call.{calls_at_last}
use denote.Triple.Clauses.{Lasts, lasts}
use denote.Triple.Spec.{triple_of}
use denote.Triple.Walked.{Stays, stay_dropped, stay_ref, Goes-dropped, Goes-ref, walk_of, ends_at}
use Rattle.core.proofs.atomic.Steps.{fm}
use Rattle.core.proofs.alloc.Calls.{handle_tells}
use Rattle.std.proofs.VecSteps.Shapes.{after}
use Rattle.gq_pool.specs.contracts.node.Link as link
use Rattle.std.proofs.raw_atomic.Walks.{proved_at}
use Rattle.std.proofs.impls.GlobalAllocator.TheImpl.Met as heap_met
use Rattle.std.specs.contracts.impls.GlobalAllocator.TheImpl.{ghosts, dict}
use Rattle.std.specs.contracts.alloc.Global as heap
use Rattle.std_alloc.proofs.RcSteps.{word, word-Good}
use Rattle.std_alloc.specs.contracts.boxed.Box as box-type
use Rattle.std_alloc.proofs.BoxSteps.Form as box
use Rattle.std_alloc.proofs.BoxSteps.Steps.{box_out, box_in}
use Rattle.std_alloc.specs.contracts.boxed.Box.from_raw as callee
use Rattle.std_alloc.proofs.boxed.Box.from_raw.Met.{met}
use Rattle.gq_pool.specs.Linked.{first_place as leads}
use Rattle.gq_pool.specs.Ownership.{node_of, node_owns, nodes_owns}
use Rattle.gq_pool.specs.declared.node.Node.{Node}
use Rattle.gq_pool.proofs.Words.{link_had, says_both}
use Rattle.gq_pool.proofs.Heap.{E, Nd, Nd_laws, Hp, Hp_laws, heap_ty, drops_of}
use Rattle.gq_pool.proofs.Destruct++none.drop.Code as no_drop
use Rattle.gq_pool.specs.contracts.node.Node as node
use Rattle.gq_pool.specs.contracts.nodes.Nodes as nodes
use Rattle.gq_pool.specs.contracts.nodes.Nodes.pop as f
use Rattle.gq_pool.proofs.nodes.Nodes.pop.Statement.{statement}
use Rattle.gq_pool.proofs.nodes.Nodes.pop.Code as code

abbrev Whole : RattleType
Whole = box-type.the_row node.the_row heap.the_row ghosts

abbrev stayed : Stays f.ended.signature.params f.ended.kept
stayed = (stay_ref (0 ∷ []) tt (plain (λ _. nodes.the_row)), (stay_dropped (plain (λ _. link.the_row)) yes, (stay_dropped (plain (λ _. heap.the_row)) yes, tt)))

pub pop_spec : {M : Type 1} → statement M
unfolding no_drop.code
pop_spec {M} 𝓤 𝓛 𝓜 𝓡 wired =
    let c = f.clauses 𝓛 𝓜.mem 𝓡.returns in let H = 𝓛.H in let 𝓣 = tables 𝓤 H 𝓜 𝓡 𝓡.env in let fn = code.function in let R : RattleType = nodes.the_row in let B : RattleType = box.B E in let γ = 𝓡.env in
    let k = triple_of 𝓛 (callee.signature Nd Hp ghosts dict (drops_of heap_ty)) (callee.spec Nd Hp ghosts dict (drops_of heap_ty) 𝓛 𝓜.mem 𝓡.returns) in
    let allocator = heap_met.passed γ (code.calls-std_heap::GlobalAllocator::allocate γ wired) (code.calls-std_heap::GlobalAllocator::deallocate γ wired) (code.calls-std_heap::GlobalAllocator::grow γ wired) (code.calls-std_heap::GlobalAllocator::shrink γ wired) M 𝓤 𝓛 𝓜 𝓡 in
    let glue = glues "gq_pool::Destruct++none::drop" γ (code.calls-gq_pool::Destruct++none::drop γ wired) in
    proved_at 𝓛 f.ended stayed c 𝓜 𝓡
    (Goes-ref 𝓛 1 0 tt (plain (λ _. R)), (Goes-dropped 𝓛 1 (plain (λ _. link.the_row)) yes (λ κs x w. refl), (Goes-dropped 𝓛 1 (plain (λ _. heap.the_row)) yes (λ κs x w. refl), tt)))
    f.Key.name fn (code.unfolded 𝓤 H 𝓜 𝓡 wired) (λ z are.
    let κs = z.0.0 in let qs = z.0.1 in let κ = κs.0 in let self = z.0.3.0 in let at = z.0.3.1.0 in let alloc = z.0.3.1.1.0 in let b = self.ref_ptr.0 in let o = self.ref_ptr.1 in let ns = self.now.nodes in
    let Post : Val → SProp 𝓤 = (walk_of 𝓛 f.ended stayed c).post z in let Run : List Val → SProp 𝓤 = λ ws. WpFn 𝓤 H 𝓣.C 𝓣.Λ fn ws Post in
    qed 𝓛 (((‵ (flft κ qs.0) ⊛ ‵ ftrue) ⊛ ‵ (owns (types_at f.ended.signature.params κs) z.0.3 z.0.4)) ∷ (raw (fact 𝓤 (0 < length ns)) ⊛ raw (fact 𝓤 (at.ptr ≡ leads ns))) ∷ []) ∵
    split ! $ split ! $ move ! (3 ∷ []) $ split ! $ heard ! _ (λ has. heard ! _ (λ place. move ! (2 ∷ []) $
    -- [what the parameters own; the token; true]
    fsplit ! $ fsplit3 ! $ feq_l ! (λ es. move ! (2 ∷ []) $ fsplit ! $ link_had ! at z.0.4.1.0 (λ e1. fsplit ! $ keep ! (0 ∷ 2 ∷ 3 ∷ 4 ∷ []) $
    handle_tells E.al ! alloc z.0.4.1.1.0 (λ hv e2 fits.
    let args : List Val = vptr b o ∷ word at.ptr ∷ hv ∷ [] in
    let n = get_or ns 0 (null_ptr, []) in let rest = from_place 1 ns in let cut : ns ≡ n ∷ rest = drop-cons ns 0 (null_ptr, []) has in
    let x : Node = node_of n.1 rest in let ep : n.0 ≡ at.ptr = sym (place ∙ ap leads cut) in let new : R.Denot = record self.now { nodes = rest } in
    let y : k.Ghost = ((([], ([], tt)), (full_share, (full_share, tt)), tt, (alloc, (at.ptr, tt)), (hv ∷ [], (ptr_val at.ptr ∷ [], tt))), x) in
    suffices ! (Run args) (subst (λ (us : List Val). ent 𝓤 (Run args) (Run us)) (sym (λ i. es i ++ (e1 i ++ (e2 i ++ [])))) (id⊢ 𝓤 (Run args))) $
    enter ! 𝓣.C 𝓣.Λ fn args Post $ alloc_all ! (λ l. pass_all ! refl ((tt, tt), (word-Good [] at.ptr, (fits, tt))) $ let Ev = env fn.locals l in
    -- [the handle; self, in two; the token]
    move ! (1 ∷ 2 ∷ 3 ∷ []) $ opens ! tt R b o (λ us. move ! (1 ∷ []) $ fsplit ! $ move ! (1 ∷ []) $ rewrite ! 0 (λ (ls : List (Ptr × List ℕ)). ‵ (nodes_owns ls)) cut refl $ fsplit ! $
    -- [the node; the others; what self's field owns; self's cell; the open borrow, in three; the handle]
    move ! (2 ∷ 1 ∷ []) $ fjoin ! $ move ! (2 ∷ 0 ∷ 3 ∷ 4 ∷ 5 ∷ []) $ closes ! tt R new us b o $
    -- [self, in two; the token; the node; the handle]
    move ! (3 ∷ 4 ∷ []) $ rewrite ! 0 (λ (p : Ptr). ‵ (node_owns p x)) ep refl $
    use0 𝓛 (raw (fact 𝓤 ([] ⊑ []))) (fact_i 𝓤 ([] ⊑ []) (emp 𝓤) (⊑_static [])) $ join ! $ use0 𝓛 (raw (fact 𝓤 ([] ⊑ []))) (fact_i 𝓤 ([] ⊑ []) (emp 𝓤) (⊑_static [])) $ join ! $
    move ! (1 ∷ []) $ nothing ! $ feq_i ! (List Val) (ptr_val at.ptr ∷ []) (ptr_val at.ptr ∷ []) refl $ fjoin ! $ move ! (1 ∷ 0 ∷ []) $ fjoin ! $
    nothing ! $ use0 𝓛 (‵ (flft [] full_share)) (𝓛.lfts.lft-nil full_share) $ join ! $ use0 𝓛 (‵ (flft [] full_share)) (𝓛.lfts.lft-nil full_share) $ join ! $ join ! $ join ! $ use1 𝓛 (raw (k.pre y)) (id⊢ 𝓤 _) $
    first ! $ blocks ! $
    calls_at_last ! (fm 𝓛 𝓜 𝓡) k (met 𝓤 𝓛 𝓜 𝓡 (code.calls-std_alloc::boxed::Box::from_raw γ wired) Nd Hp Nd_laws Hp_laws ghosts dict (drops_of heap_ty) allocator (glue Hp Hp_laws M 𝓤 𝓛 𝓜 𝓡)) y
    (and_then ! (get ! refl) (and_then ! (get_in ! (fld ! refl (stop !)) (sub ! 0 refl (whole !))) (no_more !))) (λ u.
    use1 𝓛 (later (some (λ (r : B.Denot). ((‵ (flft [] full_share) ⊛ ‵ (flft [] full_share) ⊛ ‵ ftrue) ⊛ ‵ (B.own_val r (u ∷ []))) ⊛ some (λ (ls : Lasts (callee.ended Nd Hp ghosts dict (drops_of heap_ty)) y.0.0 y.0.3). ‵ (lasts (callee.ended Nd Hp ghosts dict (drops_of heap_ty)) y.0.0 y.0.3 ls) ⊛ (raw (fact 𝓤 (r.value ≡ x)) ⊛ raw (fact 𝓤 (r.alloc ≡ alloc))))))) (id⊢ 𝓤 (k.post y u)) $
    await ! tt $ pick ! (λ r. split ! $ move ! (1 ∷ []) $ pick ! (λ _. split3 ! $ drop ! $ heard ! (r.value ≡ x) (λ same. drop ! $ split ! $ drop ! $
    box_out E ! r (u ∷ []) (λ b' o' h' e' us' fits'. box_in E ! r b' o' r.value e' refl $ rewrite ! 0 (λ (xs : List Val). ‵ (B.own_val r xs)) (sym us') refl $
    let good : T (has_ty (box.box_ty E) u) × WT u = subst (λ (s : Val). T (has_ty (box.box_ty E) s) × WT s) (sym (ap only us')) (box.box_typed E h' b' o' fits') in
    lands_last ! refl good $ exec ! 𝓣.C 𝓣.Λ Ev (after 1 fn.body) (at_ret Ev Post) $ sets ! (of_opd ! (get ! refl)) refl good $
    returns ! (look_at ! 0 refl) $ free_all ! refl $ keep ! (0 ∷ 1 ∷ 2 ∷ 3 ∷ []) $
    suffices ! _ (ends_at 𝓛 f.ended stayed c z u r (new, (tt, (tt, tt))) (tt, (tt, (tt, tt)))) $
    says_both ! (cut ∙ (λ j. (ep j, (sym same j).bytes) ∷ rest)) (ap (λ (s : Node). s.next) same) $
    nothing ! $ move ! (4 ∷ 0 ∷ []) $ join ! $ frame ! $ move ! (1 ∷ 2 ∷ []) $ feq_i ! (List Val) z.0.4.0 (vptr b o ∷ []) es $ fjoin3 ! $ nothing ! $ nothing ! $ fjoin ! $ nothing ! $ fjoin ! $ move ! (1 ∷ 0 ∷ []) $ fjoin ! $ done !)))))))))))))
