-- `push` takes over what a box owns. Assumes `Logic`.
use Rattle.std.proofs.Common.{◌≡◌, List, [], ◌∷◌, ◌++◌, refl, sym, ap, subst}
use mir.Val.{Val, vptr}
use base.Fraction.{full_share}
use base.Logic.{SProp, ent, emp, id⊢}
use base.Fml.{ftrue, flft}
use contract.BorrowLft.{◌⊑◌, ⊑_static}
use prog.Wp.{WpFn}
use contract.Monad.{fact, fact_i}
use contract.Running.{tables}
use types.Kit.{‵, raw, ◌⊛◌, some, later, ◌$◌, ◌∵◌, !, qed, move, keep, drop, split, join, use0, use1, fsplit, fsplit3, fjoin, fjoin3, feq_i, feq_l, await, pick, rewrite, suffices, frame, done}
use types.Part.{agg}
use types.Run.{of_opd, and_then, no_more, returns, enter}
use types.ByLocal.{alloc_all, pass_all, free_all, look_at, get, sets, lands_as}
use denote.Exit.{yes}
use denote.RattleType.{RattleType, owns}
use denote.RawPtr.{Ptr, RawPtr}
use denote.Signature.{types_at, plain}
use denote.Param.NoDrop.{glues}
use denote.Steps.{nothing, only, heard, opens, closes}
use denote.Triple.Call.{calls_at}
use denote.Triple.Clauses.{Lasts, lasts}
use denote.Triple.Spec.{triple_of}
use denote.Triple.Walked.{says, Stays, stay_dropped, stay_ref, Goes-dropped, Goes-ref, walk_of, ends_at}
use Rattle.core.proofs.atomic.Steps.{fm}
use Rattle.std.proofs.raw_atomic.Walks.{proved_at}
use Rattle.std.proofs.impls.GlobalAllocator.TheImpl.Met as heap_met
use Rattle.std.specs.contracts.impls.GlobalAllocator.TheImpl.{ghosts, dict}
use Rattle.std.specs.contracts.alloc.Global as heap
use Rattle.std_alloc.proofs.RcSteps.{word, word-Good, Ptr-Good}
use Rattle.std_alloc.specs.Box.Ownership.{box_owns}
use Rattle.std_alloc.specs.contracts.boxed.Box as box-type
use Rattle.std_alloc.proofs.BoxSteps.Form as box
use Rattle.std_alloc.proofs.BoxSteps.Steps.{box_out, box_in}
use Rattle.std_alloc.specs.contracts.boxed.Box.into_raw as callee
use Rattle.std_alloc.proofs.boxed.Box.into_raw.Met.{met}
use Rattle.gq_pool.specs.Linked.{first_place as leads}
use Rattle.gq_pool.specs.Ownership.{node_of, node_owns}
use Rattle.gq_pool.specs.declared.node.Node.{Node}
use Rattle.gq_pool.proofs.Words.{link_made}
use Rattle.gq_pool.proofs.Heap.{E, Nd, Nd_laws, Hp, Hp_laws, node_ty, heap_ty, drops_of}
use Rattle.gq_pool.proofs.Destruct++none.drop.Code as no_drop
use Rattle.gq_pool.specs.contracts.node.Node as node
use Rattle.gq_pool.specs.contracts.nodes.Nodes as nodes
use Rattle.gq_pool.specs.contracts.nodes.Nodes.push as f
use Rattle.gq_pool.proofs.nodes.Nodes.push.Statement.{statement}
use Rattle.gq_pool.proofs.nodes.Nodes.push.Code as code

abbrev Whole : RattleType
Whole = box-type.the_row node.the_row heap.the_row ghosts

abbrev stayed : Stays f.ended.signature.params f.ended.kept
stayed = (stay_ref (0 ∷ []) tt (plain (λ _. nodes.the_row)), (stay_dropped (plain (λ _. Whole)) yes, tt))

pub push_spec : {M : Type 1} → statement M
unfolding no_drop.code
push_spec {M} 𝓤 𝓛 𝓜 𝓡 wired =
    let c = f.clauses 𝓛 𝓜.mem 𝓡.returns in let H = 𝓛.H in let 𝓣 = tables 𝓤 H 𝓜 𝓡 𝓡.env in let fn = code.function in let R : RattleType = nodes.the_row in let γ = 𝓡.env in
    let k = triple_of 𝓛 (callee.signature Nd Hp ghosts dict (drops_of heap_ty) (drops_of node_ty)) (callee.spec Nd Hp ghosts dict (drops_of heap_ty) (drops_of node_ty) 𝓛 𝓜.mem 𝓡.returns) in
    let allocator = heap_met.passed γ (code.calls-std_heap::GlobalAllocator::allocate γ wired) (code.calls-std_heap::GlobalAllocator::deallocate γ wired) (code.calls-std_heap::GlobalAllocator::grow γ wired) (code.calls-std_heap::GlobalAllocator::shrink γ wired) M 𝓤 𝓛 𝓜 𝓡 in
    let glue = glues "gq_pool::Destruct++none::drop" γ (code.calls-gq_pool::Destruct++none::drop γ wired) in
    proved_at 𝓛 f.ended stayed c 𝓜 𝓡
    (Goes-ref 𝓛 1 0 tt (plain (λ _. R)), (Goes-dropped 𝓛 1 (plain (λ _. Whole)) yes (λ κs x w. refl), tt))
    f.Key.name fn (code.unfolded 𝓤 H 𝓜 𝓡 wired) (λ z are.
    let κs = z.0.0 in let qs = z.0.1 in let κ = κs.0 in let self = z.0.3.0 in let v = z.0.3.1.0 in let b = self.ref_ptr.0 in let o = self.ref_ptr.1 in let ns = self.now.nodes in
    let Post : Val → SProp 𝓤 = (walk_of 𝓛 f.ended stayed c).post z in let Run : List Val → SProp 𝓤 = λ ws. WpFn 𝓤 H 𝓣.C 𝓣.Λ fn ws Post in
    qed 𝓛 (((‵ (flft κ qs.0) ⊛ ‵ ftrue) ⊛ ‵ (owns (types_at f.ended.signature.params κs) z.0.3 z.0.4)) ∷ raw (fact 𝓤 (v.value.next ≡ leads ns)) ∷ []) ∵
    split ! $ split ! $ move ! (3 ∷ []) $ heard ! _ (λ linked. move ! (2 ∷ []) $
    -- [what the parameters own; the token; true]
    fsplit ! $ fsplit3 ! $ feq_l ! (λ es. move ! (2 ∷ []) $ fsplit ! $ keep ! (0 ∷ 2 ∷ 3 ∷ 4 ∷ []) $
    use1 𝓛 (‵ ((box.B E).own_val v z.0.4.1.0)) (id⊢ 𝓤 _) $
    box_out E ! v z.0.4.1.0 (λ b' o' hv e ws fits. box_in E ! v b' o' v.value e refl $
    let w : Val = box.word E hv b' o' in let typed = box.box_typed E hv b' o' fits in let args : List Val = vptr b o ∷ w ∷ [] in
    let y : k.Ghost = ((([], ([], tt)), (full_share, (full_share, tt)), tt, (v, tt), (w ∷ [], tt)), tt) in
    nothing ! $ move ! (1 ∷ 0 ∷ []) $ fjoin ! $
    nothing ! $ use0 𝓛 (raw (fact 𝓤 ([] ⊑ []))) (fact_i 𝓤 ([] ⊑ []) (emp 𝓤) (⊑_static [])) $ join ! $ use0 𝓛 (raw (fact 𝓤 ([] ⊑ []))) (fact_i 𝓤 ([] ⊑ []) (emp 𝓤) (⊑_static [])) $ join ! $ move ! (1 ∷ 0 ∷ []) $
    nothing ! $ use0 𝓛 (‵ (flft [] full_share)) (𝓛.lfts.lft-nil full_share) $ join ! $ use0 𝓛 (‵ (flft [] full_share)) (𝓛.lfts.lft-nil full_share) $ join ! $ join ! $ join ! $ use1 𝓛 (raw (k.pre y)) (id⊢ 𝓤 _) $
    -- [what `into_raw` requires; self, in two; the token]
    suffices ! (Run args) (subst (λ (us : List Val). ent 𝓤 (Run args) (Run us)) (sym (λ i. es i ++ (ws i ++ []))) (id⊢ 𝓤 (Run args))) $
    enter ! 𝓣.C 𝓣.Λ fn args Post $ alloc_all ! (λ l. pass_all ! refl ((tt, tt), (typed, tt)) $
    sets ! (of_opd ! (get ! refl)) refl typed $
    calls_at ! (fm 𝓛 𝓜 𝓡) k (met 𝓤 𝓛 𝓜 𝓡 (code.calls-std_alloc::boxed::Box::into_raw γ wired) Nd Hp Nd_laws Hp_laws ghosts dict (drops_of heap_ty) (drops_of node_ty) allocator (glue Hp Hp_laws M 𝓤 𝓛 𝓜 𝓡) (glue Nd Nd_laws M 𝓤 𝓛 𝓜 𝓡)) y
    (and_then ! (get ! refl) (no_more !)) (λ u.
    use1 𝓛 (later (some (λ (r : Ptr). ((‵ (flft [] full_share) ⊛ ‵ (flft [] full_share) ⊛ ‵ ftrue) ⊛ ‵ (RawPtr.own_val r (u ∷ []))) ⊛ some (λ (ls : Lasts (callee.ended Nd Hp ghosts dict (drops_of heap_ty) (drops_of node_ty)) y.0.0 y.0.3). ‵ (lasts (callee.ended Nd Hp ghosts dict (drops_of heap_ty) (drops_of node_ty)) y.0.0 y.0.3 ls) ⊛ ‵ (box_owns (ghosts.dealloc_token v.alloc) Nd r v.value))))) (id⊢ 𝓤 (k.post y u)) $
    await ! tt $ pick ! (λ r. split ! $ move ! (1 ∷ []) $ pick ! (λ _. split ! $ drop ! $ move ! (1 ∷ []) $ split ! $ drop ! $ feq_l ! (λ eu.
    lands_as ! (ap only eu) refl (Ptr-Good r) $ sets ! (agg ! (and_then ! (get ! refl) (no_more !))) refl (word-Good [] r) $
    let bs = v.value.bytes in let new : R.Denot = record self.now { nodes = (r, bs) ∷ ns } in let same : v.value ≡ node_of bs ns = λ j. record { next = linked j; bytes = bs } in
    use1 𝓛 (‵ (node_owns r v.value)) (id⊢ 𝓤 _) $ rewrite ! 0 (λ (x : Node). ‵ (node_owns r x)) same refl $
    -- [the node; self, in two; the token; ..]
    move ! (1 ∷ 2 ∷ 3 ∷ []) $ opens ! tt R b o (λ us. move ! (1 ∷ []) $ fsplit ! $
    -- [what self's field owns; the nodes; self's cell; the open borrow, in three; the node; ..]
    move ! (6 ∷ 1 ∷ []) $ fjoin ! $ move ! (1 ∷ 0 ∷ []) $ fjoin ! $ move ! (1 ∷ []) $ closes ! tt R new us b o $
    returns ! (look_at ! 0 refl) $ free_all ! refl $ keep ! (0 ∷ 1 ∷ 2 ∷ []) $ link_made ! r $
    suffices ! _ (ends_at 𝓛 f.ended stayed c z (word r) (record { ptr = r }) (new, (tt, tt)) (tt, (tt, tt))) $ says ! refl $
    nothing ! $ move ! (4 ∷ 0 ∷ []) $ join ! $ frame ! $ move ! (1 ∷ 2 ∷ []) $ feq_i ! (List Val) z.0.4.0 (vptr b o ∷ []) es $ fjoin3 ! $ nothing ! $ nothing ! $ fjoin ! $ move ! (1 ∷ 0 ∷ []) $ fjoin ! $ done !))))))))))
