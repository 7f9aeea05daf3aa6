-- `read` shows the node at a place for as long as the list is borrowed. Assumes `Logic`.
use Rattle.std.proofs.Common.{◌≡◌, ◌<◌, suc, List, [], ◌∷◌, ◌++◌, length, drop as from_place, get_or, refl, sym, ap, ◌∙◌, subst, add-one, w64}
use Rattle.std.proofs.Math.Seq.{drop-cons}
use mir.Val.{Val, vptr, vint}
use base.Fraction.{full_share}
use base.Logic.{SProp, ent, id⊢}
use base.Fml.{Fml, ftrue, fat, flft}
use prog.Wp.{WpFn}
use contract.Monad.{fact}
use contract.Running.{tables}
use types.Kit.{‵, raw, ◌⊛◌, at_ret, ◌$◌, ◌∵◌, !, qed, move, keep, drop, split, join, use1, fsplit, fjoin, feq_i, feq_l, flt_l, rewrite, suffices, frame, done}
use types.Part.{whole, sub}
use types.Run.{stop, hop, fld, from, of_opd, addr, first, blocks, exec, returns, enter}
use types.ByLocal.{alloc_all, pass_all, free_all, look_at, look_in_at, get, sets, sets_last, take_at, give_at, env}
use denote.Exit.{yes}
use denote.RattleType.{owns}
use denote.RawPtr.{Ptr, block_ptr, null_ptr, in_a_block}
use denote.Ref.{Bor}
use denote.Builtin.{RefOf, usize}
use denote.Param.{layout}
use denote.Signature.{types_at, plain}
use denote.Opens.{hide, unhide}
use denote.Steps.{nothing, heard}
use denote.Struct.Lending.{lent_at}
use denote.Triple.Walked.{Stays, stay_dropped, Goes-dropped, walk_of, ends_at}
use Rattle.std.proofs.VecSteps.Shapes.{after}
use Rattle.std_alloc.proofs.RcSteps.{word, word-Good}
use Rattle.std.proofs.raw_atomic.Walks.{proved_at}
use Rattle.gq_pool.specs.Linked.{first_place as leads, first_bytes}
use Rattle.gq_pool.specs.Ownership.{node_of}
use Rattle.gq_pool.proofs.Lending.{nodes_seen}
use Rattle.gq_pool.proofs.Words.{link_had, says_both}
use Rattle.gq_pool.specs.contracts.node.Node as node
use Rattle.gq_pool.specs.contracts.node.Link as link
use Rattle.gq_pool.specs.contracts.nodes.Nodes as nodes
use Rattle.gq_pool.specs.contracts.nodes.Nodes.read as f
use Rattle.gq_pool.proofs.nodes.Nodes.read.Statement.{statement}
use Rattle.gq_pool.proofs.nodes.Nodes.read.Code as code

abbrev stayed : Stays f.ended.signature.params f.ended.kept
stayed = (stay_dropped _ yes, (stay_dropped _ yes, (stay_dropped _ yes, tt)))

pub read_spec : {M : Type 1} → statement M
read_spec 𝓤 𝓛 𝓜 𝓡 wired =
    let c = f.clauses 𝓛 𝓜.mem 𝓡.returns in let H = 𝓛.H in let 𝓣 = tables 𝓤 H 𝓜 𝓡 𝓡.env in let fn = code.function in
    proved_at 𝓛 f.ended stayed c 𝓜 𝓡
    (Goes-dropped 𝓛 1 (RefOf (0 ∷ []) tt (plain (λ _. nodes.the_row)) (λ _. tt)) yes (λ κs x w. refl), (Goes-dropped 𝓛 1 (plain (λ _. link.the_row)) yes (λ κs x w. refl), (Goes-dropped 𝓛 1 (plain (λ _. usize)) yes (λ κs x w. refl), tt)))
    f.Key.name fn (code.unfolded 𝓤 H 𝓜 𝓡 wired) (λ z are.
    let κs = z.0.0 in let qs = z.0.1 in let κ = κs.0 in let self = z.0.3.0 in let at = z.0.3.1.0 in let i = z.0.3.1.1.0 in let rb = self.ref_ptr.0 in let ro = self.ref_ptr.1 in let ns = self.now.nodes in
    let Post : Val → SProp 𝓤 = (walk_of 𝓛 f.ended stayed c).post z in let Run : List Val → SProp 𝓤 = λ ws. WpFn 𝓤 H 𝓣.C 𝓣.Λ fn ws Post in
    qed 𝓛 (((‵ (flft κ qs.0) ⊛ ‵ ftrue) ⊛ ‵ (owns (types_at f.ended.signature.params κs) z.0.3 z.0.4)) ∷ (raw (fact 𝓤 (i < length ns)) ⊛ raw (fact 𝓤 (at.ptr ≡ leads (from_place i ns)))) ∷ []) ∵
    split ! $ split ! $ move ! (3 ∷ []) $ split ! $ heard ! _ (λ within. heard ! _ (λ place. move ! (2 ∷ []) $
    fsplit ! $ fsplit ! $ feq_l ! (λ e0. move ! (1 ∷ []) $ fsplit ! $ link_had ! at z.0.4.1.0 (λ e1. fsplit ! $ fsplit ! $ feq_l ! (λ e2. flt_l ! (λ fits. keep ! (1 ∷ 2 ∷ []) $
    let n = get_or ns i (null_ptr, []) in let rest = from_place (suc i) ns in let cut : from_place i ns ≡ n ∷ rest = drop-cons ns i (null_ptr, []) within in
    let One : Ptr → Fml = λ p. lent_at node.the_row p (node_of n.1 rest) κ in
    let args : List Val = vptr rb ro ∷ word at.ptr ∷ vint w64 i ∷ [] in
    suffices ! (Run args) (subst (λ (us : List Val). ent 𝓤 (Run args) (Run us)) (sym (λ j. e0 j ++ (e1 j ++ (e2 j ++ [])))) (id⊢ 𝓤 (Run args))) $
    enter ! 𝓣.C 𝓣.Λ fn args Post $ alloc_all ! (λ l. pass_all ! refl ((tt, tt), (word-Good [] at.ptr, ((tt, record { fits = fits }), tt))) $ let Ev = env fn.locals l in
    unhide ! $ fsplit ! $ drop ! $ use1 𝓛 (‵ (One n.0)) (nodes_seen 𝓛 κ ns i n rest cut) $
    in_a_block ! n.0 One (qed 𝓛 (‵ (One null_ptr) ∷ []) ∵ fsplit ! $ keep ! (0 ∷ []) $ done !) (λ pb po e.
    let ep : at.ptr ≡ block_ptr pb po = place ∙ (ap leads cut ∙ e) in let out : Bor node.the_row.Denot = record { ref_ptr = (pb, po); now = node_of n.1 rest } in
    take_at ! 2 $ rewrite ! 0 (λ (p : Ptr). ‵ (fat full_share (layout link.the_row) (l 2) 0 (word p))) ep refl $ give_at ! 2 $
    first ! $ blocks ! $ sets_last ! (addr ! (from ! (fld ! refl (hop ! (look_in_at ! 2 (sub ! 0 refl (whole !))) (stop !))))) refl (tt, tt) $
    exec ! 𝓣.C 𝓣.Λ Ev (after 1 fn.body) (at_ret Ev Post) $ sets ! (of_opd ! (get ! refl)) refl (tt, tt) $
    fsplit ! $ drop ! $ hide ! $ feq_i ! (List Val) (vptr pb po ∷ []) (vptr pb po ∷ []) refl $ fjoin ! $
    returns ! (look_at ! 0 refl) $ free_all ! refl $ keep ! (0 ∷ 1 ∷ []) $
    suffices ! _ (ends_at 𝓛 f.ended stayed c z (vptr pb po) out (tt, (tt, (tt, tt))) (tt, (tt, (tt, tt)))) $
    says_both ! (ap leads (sym (ap (λ k. from_place k ns) (add-one i)))) (ap first_bytes (sym cut)) $
    nothing ! $ move ! (2 ∷ 0 ∷ []) $ join ! $ frame ! $ nothing ! $ nothing ! $ fjoin ! $ nothing ! $ fjoin ! $ nothing ! $ fjoin ! $ done !)))))))))
