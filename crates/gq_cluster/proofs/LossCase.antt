-- A worked case, computed: of two nodes in one column one loses its disk, and is given its file by the other. No proof rests on it. The
-- words on quorums are opened here to compute, as in WorkedCase.
use Rattle.std.proofs.Common.{◌≡◌, ℕ, zero, suc, ◌-◌, ◌%◌, false, List, [], ◌∷◌, ◌++◌, map, refl, subst, Some, None, arith}
use Rattle.gq_grid.specs.Grid.{Grid}
use Rattle.gq_tag.specs.declared.StoredCopy.{StoredCopy}
use Rattle.gq_tag.specs.declared.Body.{Body}
use Rattle.gq_tag.specs.declared.Body.TheVariants.{Ask, Copy, Store, Stored}
use Rattle.gq_tag.specs.Tag.{File, OwnMessage, first_copy}
use Rattle.gq_desk.specs.declared.plans.TenantRow.{TenantRow}
use Rattle.gq_desk.specs.declared.volumes.VolumeRow.{VolumeRow}
use Rattle.gq_phase.specs.declared.Outcome.TheVariants.{Wrote, Gave}
use Rattle.gq_phase.specs.Quorums.{collect_quorum, store_quorum, ends_collect, ends_store, are_peers}
use Rattle.gq_model.specs.declared.events.Line.TheVariants.{Write, Read}
use Rattle.gq_model.specs.declared.said.Said.TheVariants.{Began, Noted, Round, Done}
use Rattle.gq_model.specs.Trace.{is_awaited}
use Rattle.gq_laws.specs.Operations.{Legal}
use Rattle.gq_laws.specs.Orders.{order}
use Rattle.gq_cluster.specs.Cluster.{Setting, Cluster, NodeStep, Acts, Loses, Returns, Asks, Comes, everyone, new_cluster, cluster_after, copy_in, NoneCounts, CanFollow, exchanges}
use Rattle.gq_cluster.specs.Laws.{setting_of, StepsEnough}
use Rattle.gq_cluster.specs.Operations.{operations_at}
use Rattle.gq_cluster.proofs.Registers.{all_clusters_legal}

-- two servers in one column; session 1 has its home at node 0, and session 2 at node 1
abbrev column : Grid
column = record { rows = 2; cols = 1 }

abbrev row : TenantRow
row = record { name = 97 ∷ []; share = 4; sessions = 2; steps = 100; most_blocks = 16; most_volumes = 64 }

abbrev home : ℕ → ℕ
home k = (k - 1) % 2

abbrev opens : List VolumeRow
opens = record { files = 1; blocks = 1 } ∷ []

abbrev two : Setting
two = setting_of column row home opens

abbrev file : File
file = record { volume = 0; place = 0 }

abbrev written : StoredCopy
written = record { tag = record { number = 1; session = 2 }; bytes = 104 ∷ 105 ∷ [] }

-- a letter of an operation of session 2, to the server or from it
abbrev letter : (op round server : ℕ) → Body → OwnMessage
letter op round server body = record { session = 2; op = op; round = round; server = server; file = file; body = body }

-- session 2 writes, and both servers store
abbrev write_steps : List NodeStep
write_steps =
    Acts (Asks (Write 2 0 0 (104 ∷ 105 ∷ [])) everyone)
    ∷ Acts (Comes (letter 1 1 0 Ask) everyone)
    ∷ Acts (Comes (letter 1 1 0 (Copy first_copy)) everyone)
    ∷ Acts (Comes (letter 1 2 0 (Store written)) everyone)
    ∷ Acts (Comes (letter 1 2 1 (Store written)) everyone)
    ∷ Acts (Comes (letter 1 2 0 Stored) everyone)
    ∷ Acts (Comes (letter 1 2 1 Stored) everyone)
    ∷ []

-- Server 0 loses its disk. Session 2 reads, and server 0 does not answer what it is asked, until server 1 has given it its copy; the same
-- ask then comes again, and is answered.
abbrev read_steps : List NodeStep
read_steps =
    Loses 0 1
    ∷ Acts (Asks (Read 2 0 0) everyone)
    ∷ Acts (Comes (letter 2 1 0 Ask) everyone)
    ∷ Returns 0 file 1 written
    ∷ Acts (Comes (letter 2 1 0 Ask) everyone)
    ∷ Acts (Comes (letter 2 1 0 (Copy written)) everyone)
    ∷ Acts (Comes (letter 2 2 0 (Store written)) everyone)
    ∷ Acts (Comes (letter 2 2 1 (Store written)) everyone)
    ∷ Acts (Comes (letter 2 2 0 Stored) everyone)
    ∷ Acts (Comes (letter 2 2 1 Stored) everyone)
    ∷ []

abbrev steps : List NodeStep
steps = write_steps ++ read_steps

-- ---- the premises of the laws

pub steps_enough : StepsEnough row opens steps
steps_enough = omega arith

-- a step, and those behind it
infixr 4 ◌and◌
◌and◌ : {P Q : Type 0} → P → Q → P × Q
p and q = (p, q)

abbrev before_loss : Cluster
before_loss = cluster_after two write_steps

-- the write is done, so that no operation counts on what server 0 acknowledged
loss_can : NoneCounts two before_loss 0 1
unfolding collect_quorum store_quorum ends_collect ends_store
loss_can m (zero, low, is) reply server within = let P : OwnMessage → Type 0 = λ z. is_awaited ((before_loss.part (home z.session)).session z.session) z ≡ false in subst P is refl
loss_can m (suc zero, low, is) reply server within = let P : OwnMessage → Type 0 = λ z. is_awaited ((before_loss.part (home z.session)).session z.session) z ≡ false in subst P is refl
loss_can m (suc (suc zero), low, is) reply server within = let P : OwnMessage → Type 0 = λ z. is_awaited ((before_loss.part (home z.session)).session z.session) z ≡ false in subst P is refl
loss_can m (suc (suc (suc zero)), low, is) reply server within = let P : OwnMessage → Type 0 = λ z. is_awaited ((before_loss.part (home z.session)).session z.session) z ≡ false in subst P is refl
loss_can m (suc (suc (suc (suc zero))), low, is) reply server within = let P : OwnMessage → Type 0 = λ z. is_awaited ((before_loss.part (home z.session)).session z.session) z ≡ false in subst P is refl
loss_can m (suc (suc (suc (suc (suc zero)))), low, is) reply server within = let P : OwnMessage → Type 0 = λ z. is_awaited ((before_loss.part (home z.session)).session z.session) z ≡ false in subst P is refl
loss_can m (suc (suc (suc (suc (suc (suc i))))), low, is) reply server within = absurd (omega arith)

-- each letter was written before, at this place, and what server 1 gives it held
pub can_follow : CanFollow two new_cluster steps
unfolding collect_quorum store_quorum ends_collect ends_store are_peers
can_follow =
    tt and (0, omega arith, refl) and (1, omega arith, refl) and (2, omega arith, refl) and (3, omega arith, refl) and (4, omega arith, refl) and (5, omega arith, refl)
    and loss_can
    and tt and (6, omega arith, refl)
    and (refl, refl, (0, omega arith, refl))
    and (6, omega arith, refl) and (7, omega arith, refl) and (8, omega arith, refl) and (9, omega arith, refl) and (10, omega arith, refl) and (11, omega arith, refl)
    and tt

-- so the laws speak of it
pub is_legal : Legal (operations_at two steps file) (order (operations_at two steps file))
is_legal = all_clusters_legal column row home opens steps steps_enough can_follow file

-- ---- what is done

pub said : map (λ e. e.said) (exchanges two new_cluster steps) ≡
    Some (Began 1 1) ∷ None ∷ Some (Round 2 (Some written.tag) 2) ∷ None ∷ None ∷ Some Noted ∷ Some (Done (Wrote 2 1 written.tag))
    ∷ Some (Began 2 1) ∷ None ∷ None ∷ Some (Round 2 (Some written.tag) 2) ∷ None ∷ None ∷ Some Noted ∷ Some (Done (Gave 2 2 written))
    ∷ []
unfolding collect_quorum store_quorum ends_collect ends_store
said = refl

-- what the servers have at the loss, and at the end
pub copies : map (λ n. copy_in ((cluster_after two (write_steps ++ Loses 0 1 ∷ [])).part n) file) (0 ∷ 1 ∷ []) ++ map (λ n. copy_in ((cluster_after two steps).part n) file) (0 ∷ 1 ∷ []) ≡
    first_copy ∷ written ∷ written ∷ written ∷ []
unfolding collect_quorum store_quorum ends_collect ends_store
copies = refl
