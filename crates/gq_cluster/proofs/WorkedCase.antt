-- A worked case, computed. No proof rests on it. The four words on quorums are opened here to compute.
use Rattle.std.proofs.Common.{◌≡◌, ℕ, ◌-◌, ◌%◌, List, [], ◌∷◌, map, refl, Some, None, arith}
use Rattle.std.specs.Prelude.{filter_map}
use Rattle.gq_grid.specs.Grid.{Grid}
use Rattle.gq_tag.specs.declared.Tag.{Tag}
use Rattle.gq_tag.specs.declared.StoredCopy.{StoredCopy}
use Rattle.gq_tag.specs.declared.Body.{Body}
use Rattle.gq_tag.specs.declared.Body.TheVariants.{Ask, Copy, Store, Stored}
use Rattle.gq_tag.specs.Tag.{File, OwnMessage, first_copy, first_tag}
use Rattle.gq_desk.specs.declared.plans.TenantRow.{TenantRow}
use Rattle.gq_desk.specs.declared.volumes.VolumeRow.{VolumeRow}
use Rattle.gq_phase.specs.declared.Outcome.TheVariants.{Wrote, Gave}
use Rattle.gq_phase.specs.Quorums.{collect_quorum, store_quorum, ends_collect, ends_store}
use Rattle.gq_model.specs.declared.events.Line.TheVariants.{Write, Read}
use Rattle.gq_model.specs.declared.said.Said.TheVariants.{Began, Noted, Round, Done, Abandoned}
use Rattle.gq_laws.specs.declared.ops.Kind.TheVariants.{Write as Writes, Read as Reads}
use Rattle.gq_laws.specs.Operations.{Legal}
use Rattle.gq_laws.specs.Orders.{order}
use Rattle.gq_cluster.specs.Cluster.{Setting, NodeStep, Acts, Restarts, Asks, Comes, everyone, new_cluster, cluster_after, copy_in, CanFollow, exchanges}
use Rattle.gq_cluster.specs.Facts.{Begun, Numbered, Kept}
use Rattle.gq_cluster.specs.Keeping.{facts_at}
use Rattle.gq_cluster.specs.Laws.{setting_of, StepsEnough, IsServed}
use Rattle.gq_cluster.specs.Operations.{operations_at}
use Rattle.gq_cluster.proofs.Clusters.{all_clusters_serve}
use Rattle.gq_cluster.proofs.Registers.{all_clusters_legal}

-- two servers in one row; session 1 has its home at node 0, and session 2 at node 1
abbrev two_servers : Grid
two_servers = record { rows = 1; cols = 2 }

abbrev row : TenantRow
row = record { name = 97 ∷ []; share = 4; sessions = 2; steps = 100; most_blocks = 16; most_volumes = 64 }

abbrev home : ℕ → ℕ
home k = (k - 1) % 2

abbrev opens : List VolumeRow
opens = record { files = 1; blocks = 1 } ∷ []

abbrev two : Setting
two = setting_of two_servers row home opens

abbrev file : File
file = record { volume = 0; place = 0 }

abbrev tag : Tag
tag = record { number = 1; session = 1 }

abbrev written : StoredCopy
written = record { tag = tag; bytes = 104 ∷ 105 ∷ [] }

-- a letter of the session's operation, to the server or from it
abbrev letter : (session op round server : ℕ) → Body → OwnMessage
letter session op round server body = record { session = session; op = op; round = round; server = server; file = file; body = body }

abbrev later_tag : Tag
later_tag = record { number = 1025; session = 1 }

abbrev later_written : StoredCopy
later_written = record { tag = later_tag; bytes = 111 ∷ 107 ∷ [] }

abbrev last_tag : Tag
last_tag = record { number = 1026; session = 1 }

-- Session 1 writes, and node 0 starts again when the store has been sent to server 0 and has not come. Session 2 reads and
-- misses the write. Then the store comes after all, and session 2 reads again and finds it. Session 1 writes twice more, behind the
-- 1,024 numbers of operations and of tags that were reserved for it before the start; of these two writes the second gives no fact before
-- its store comes.
abbrev steps : List NodeStep
steps =
    Acts (Asks (Write 1 0 0 (104 ∷ 105 ∷ [])) everyone)
    ∷ Acts (Comes (letter 1 1 1 0 Ask) everyone)
    ∷ Acts (Comes (letter 1 1 1 1 Ask) everyone)
    ∷ Acts (Comes (letter 1 1 1 0 (Copy first_copy)) everyone)
    ∷ Acts (Comes (letter 1 1 1 1 (Copy first_copy)) everyone)
    ∷ Restarts 0
    ∷ Acts (Asks (Read 2 0 0) everyone)
    ∷ Acts (Comes (letter 2 1 1 0 Ask) everyone)
    ∷ Acts (Comes (letter 2 1 1 1 Ask) everyone)
    ∷ Acts (Comes (letter 2 1 1 0 (Copy first_copy)) everyone)
    ∷ Acts (Comes (letter 2 1 1 1 (Copy first_copy)) everyone)
    ∷ Acts (Comes (letter 1 1 2 0 (Store written)) everyone)
    ∷ Acts (Asks (Read 2 0 0) everyone)
    ∷ Acts (Comes (letter 2 2 1 0 Ask) everyone)
    ∷ Acts (Comes (letter 2 2 1 1 Ask) everyone)
    ∷ Acts (Comes (letter 2 2 1 0 (Copy written)) everyone)
    ∷ Acts (Comes (letter 2 2 1 1 (Copy first_copy)) everyone)
    ∷ Acts (Asks (Write 1 0 0 (111 ∷ 107 ∷ [])) everyone)
    ∷ Acts (Comes (letter 1 1025 1 0 Ask) everyone)
    ∷ Acts (Comes (letter 1 1025 1 1 Ask) everyone)
    ∷ Acts (Comes (letter 1 1025 1 0 (Copy written)) everyone)
    ∷ Acts (Comes (letter 1 1025 1 1 (Copy first_copy)) everyone)
    ∷ Acts (Comes (letter 1 1025 2 0 (Store later_written)) everyone)
    ∷ Acts (Comes (letter 1 1025 2 0 Stored) everyone)
    ∷ Acts (Asks (Write 1 0 0 (33 ∷ [])) everyone)
    ∷ Acts (Comes (letter 1 1026 1 0 Ask) everyone)
    ∷ Acts (Comes (letter 1 1026 1 1 Ask) everyone)
    ∷ Acts (Comes (letter 1 1026 1 0 (Copy later_written)) everyone)
    ∷ Acts (Comes (letter 1 1026 1 1 (Copy first_copy)) everyone)
    ∷ []

-- ---- the premises of the laws

pub steps_enough : StepsEnough row opens steps
steps_enough = omega arith

-- a step, and those behind it
infixr 4 ◌and◌
◌and◌ : {P Q : Type 0} → P → Q → P × Q
p and q = (p, q)

-- each letter was written before, at this place
pub can_follow : CanFollow two new_cluster steps
unfolding collect_quorum store_quorum ends_collect ends_store
can_follow =
    tt and (0, omega arith, refl) and (1, omega arith, refl) and (2, omega arith, refl) and (3, omega arith, refl)
    and tt
    and tt and (5, omega arith, refl) and (6, omega arith, refl) and (7, omega arith, refl) and (8, omega arith, refl)
    and (4, omega arith, refl)
    and tt and (10, omega arith, refl) and (11, omega arith, refl) and (12, omega arith, refl) and (13, omega arith, refl)
    and tt and (14, omega arith, refl) and (15, omega arith, refl) and (16, omega arith, refl) and (17, omega arith, refl)
    and (18, omega arith, refl) and (19, omega arith, refl)
    and tt and (20, omega arith, refl) and (21, omega arith, refl) and (22, omega arith, refl) and (23, omega arith, refl)
    and tt

-- so the laws speak of it
pub is_served : IsServed two_servers row home opens steps
is_served = all_clusters_serve two_servers row home opens steps steps_enough can_follow

pub is_legal : Legal (operations_at two steps file) (order (operations_at two steps file))
is_legal = all_clusters_legal two_servers row home opens steps steps_enough can_follow file

-- ---- what is done

pub said : map (λ e. e.said) (exchanges two new_cluster steps) ≡
    Some (Began 1 2) ∷ None ∷ None ∷ Some Noted ∷ Some (Round 2 (Some tag) 1) ∷ Some Abandoned
    ∷ Some (Began 1 2) ∷ None ∷ None ∷ Some Noted ∷ Some (Done (Gave 2 1 first_copy))
    ∷ None
    ∷ Some (Began 2 2) ∷ None ∷ None ∷ Some Noted ∷ Some (Done (Gave 2 2 written))
    ∷ Some (Began 1025 2) ∷ None ∷ None ∷ Some Noted ∷ Some (Round 2 (Some later_tag) 1) ∷ None ∷ Some (Done (Wrote 1 1025 later_tag))
    ∷ Some (Began 1026 2) ∷ None ∷ None ∷ Some Noted ∷ Some (Round 2 (Some last_tag) 1) ∷ []
unfolding collect_quorum store_quorum ends_collect ends_store
said = refl

-- the first write stays open; in the order the read that misses it stands before it, and the one that finds it behind it; the last
-- write, which is open and found by nobody, has no place there
pub operations : operations_at two steps file ≡
    record { kind = Writes (104 ∷ 105 ∷ []); session = 1; op = 1; begin = 0; end = None; tag = Some tag }
    ∷ record { kind = Reads (Some []); session = 2; op = 1; begin = 6; end = Some 10; tag = Some first_tag }
    ∷ record { kind = Reads (Some (104 ∷ 105 ∷ [])); session = 2; op = 2; begin = 12; end = Some 16; tag = Some tag }
    ∷ record { kind = Writes (111 ∷ 107 ∷ []); session = 1; op = 1025; begin = 17; end = Some 23; tag = Some later_tag }
    ∷ record { kind = Writes (33 ∷ []); session = 1; op = 1026; begin = 24; end = None; tag = Some last_tag }
    ∷ []
unfolding collect_quorum store_quorum ends_collect ends_store
operations = refl

pub in_order : order (operations_at two steps file) ≡ 1 ∷ 0 ∷ 2 ∷ 3 ∷ []
unfolding collect_quorum store_quorum ends_collect ends_store
in_order = refl

-- ---- what the nodes have, and must not forget

pub copies : map (λ n. copy_in ((cluster_after two steps).part n) file) (0 ∷ 1 ∷ []) ≡ later_written ∷ first_copy ∷ []
unfolding collect_quorum store_quorum ends_collect ends_store
copies = refl

pub facts_of_first : filter_map (λ fact. fact) (facts_at two new_cluster 0 steps) ≡
    Begun 1 1024 ∷ Numbered 1 1024 ∷ Kept file written ∷ Begun 1 2048 ∷ Numbered 1 2048 ∷ Kept file later_written ∷ []
unfolding collect_quorum store_quorum ends_collect ends_store
facts_of_first = refl

pub facts_of_second : filter_map (λ fact. fact) (facts_at two new_cluster 1 steps) ≡ Begun 2 1024 ∷ []
unfolding collect_quorum store_quorum ends_collect ends_store
facts_of_second = refl
