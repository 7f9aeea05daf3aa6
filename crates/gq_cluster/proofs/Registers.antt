-- The operations on a file, read off what was done at the nodes, are those of one register.
use Rattle.std.proofs.Common.{◌≡◌, ℕ, ◌+◌, ◌*◌, Bool, true, false, List, [], ◌∷◌, ◌++◌, length, map, refl, ap, ◌∙◌, subst, arith, append-nil}
use Rattle.std.specs.Prelude.{filter_map, fold, nat_lt, if◌then◌else◌}
use Rattle.gq_grid.specs.Grid.{Grid}
use Rattle.gq_tag.specs.Tag.{File}
use Rattle.gq_desk.specs.declared.plans.TenantRow.{TenantRow}
use Rattle.gq_desk.specs.declared.volumes.VolumeRow.{VolumeRow}
use Rattle.gq_model.specs.declared.events.Line.TheVariants.{NewVolume}
use Rattle.gq_model.specs.Trace.{Turn, Own, Past, start, volumes, files_of}
use Rattle.gq_model.specs.Lone.{after, past_of}
use Rattle.gq_laws.specs.declared.ops.Op.{Op}
use Rattle.gq_laws.specs.Laws.{lone_operations}
use Rattle.gq_laws.specs.Operations.{SessionAnswer, begun_in, opened_in, Tagged}
use Rattle.gq_laws.specs.Orders.{order}
use Rattle.gq_laws.proofs.AllTagged.{all_tagged}
use Rattle.gq_laws.proofs.Ordering.{order_legal}
use Rattle.gq_laws.proofs.Sorting.{order_is}
use Rattle.gq_laws.proofs.Opening.{volumes_reach}
use Rattle.gq_laws.proofs.OtherPlaces.{moved_session_answer, moved_op, begun_in-moved, tagged-unmoved}
use Rattle.gq_laws.proofs.Reaching.{Reach, Here, Later}
use Rattle.gq_laws.proofs.Telling.{tells, tells-cons}
use Rattle.gq_cluster.specs.Cluster.{NodeStep, Exchange, new_cluster, cluster_after, exchanges}
use Rattle.gq_cluster.specs.Laws.{exchanges_from, openings, opened, setting_of, disk_step}
use Rattle.gq_cluster.specs.Operations.{turn_in, session_in, told_in, answers_at, answers_of, node_operations, operations_at, AllClustersLegal}
use Rattle.gq_cluster.proofs.Reading.{own_places, places_rise, reads}
use Rattle.gq_cluster.proofs.Clusters.{Runs, run_of, run_stands}

-- ---- the openings

-- no operation begins in them
opens_begin : (grid : Grid) (row : TenantRow) (file : File) (opens : List VolumeRow) (turns : List Turn) (p : Past) (n : ℕ) →
    begun_in file (tells grid row p n (openings opens ++ turns)) ≡ begun_in file (tells grid row (fold (after grid row) p (openings opens)) (n + length opens) turns)
opens_begin grid row file [] turns p n = ap (λ m. begun_in file (tells grid row p m turns)) (let none : n ≡ n + 0 = omega arith in none)
opens_begin grid row file (v ∷ opens) turns p n =
    let x : Turn = Own (NewVolume v.files v.blocks) in
    let next : Past = after grid row p x in
    let place : n + 1 + length opens ≡ n + length (v ∷ opens) = omega arith in
    ap (begun_in file) (tells-cons grid row p n x (openings opens ++ turns))
    ∙ opens_begin grid row file opens turns next (n + 1)
    ∙ ap (λ m. begun_in file (tells grid row (fold (after grid row) next (openings opens)) m turns)) place

-- ---- the volumes at the end

-- a run comes to its end
reach_end : (grid : Grid) (row : TenantRow) (turns : List Turn) (p : Past) (n : ℕ) → (m : ℕ) × Reach grid row p n turns (fold (after grid row) p turns) m []
reach_end grid row [] p n = (n, Here)
reach_end grid row (x ∷ turns) p n = let later = reach_end grid row turns (after grid row p x) (n + 1) in (later.0, Later later.1)

opened_all : (grid : Grid) (row : TenantRow) (turns : List Turn) → opened_in (tells grid row start 0 turns) ≡ volumes (past_of grid row turns).trace
opened_all grid row turns = volumes_reach (reach_end grid row turns start 0).1 ∙ append-nil (volumes (past_of grid row turns).trace)

-- ---- the law

-- what was done, at places of which each is found from the one before
pub answers_at-moved : (f from base : ℕ → ℕ) → ((i : ℕ) → from i ≡ f (base i)) → (done : List Exchange) → answers_at from done ≡ map (moved_session_answer f) (answers_at base done)
answers_at-moved f from base same [] = refl
answers_at-moved f from base same (d ∷ done) =
    let rest = answers_at-moved f (λ i. from (i + 1)) (λ i. base (i + 1)) (λ i. same (i + 1)) done in
    λ i. record { place = same 0 i; turn = turn_in d.came; told = told_in d.said; session = session_in d.came } ∷ rest i

-- the operations of the model's run are those at the nodes, at the places of the tenant's own lines
pub operations_are : (grid : Grid) (row : TenantRow) (opens : List VolumeRow) (turns : List Turn) (vs : List VolumeRow) (done : List Exchange) (file : File) → volumes (past_of grid row (openings opens ++ turns)).trace ≡ vs → exchanges_from grid row (opened grid row opens) turns ≡ done →
    lone_operations grid row (openings opens ++ turns) file ≡ map (moved_op (own_places (0 + length opens) turns)) (node_operations vs done file)
operations_are grid row opens turns vs done file opened did = ap of volumes_are ∙ ap at begun ∙ by (nat_lt file.place (files_of vs file.volume)) refl
  where
    f : ℕ → ℕ
    f = own_places (0 + length opens) turns

    all : List SessionAnswer
    all = tells grid row start 0 (openings opens ++ turns)

    of : List VolumeRow → List Op
    of z = if nat_lt file.place (files_of z file.volume) then begun_in file all else []

    at : List Op → List Op
    at z = if nat_lt file.place (files_of vs file.volume) then z else []

    volumes_are : opened_in all ≡ vs
    volumes_are = opened_all grid row (openings opens ++ turns) ∙ opened

    begun : begun_in file all ≡ map (moved_op f) (begun_in file (answers_of done))
    begun =
        opens_begin grid row file opens turns start 0
        ∙ (reads grid row turns (fold (after grid row) start (openings opens)) (0 + length opens)).begins file
        ∙ ap (λ z. begun_in file (answers_at f z)) did
        ∙ ap (begun_in file) (answers_at-moved f f (λ i. i) (λ i. refl) done)
        ∙ begun_in-moved f file (answers_of done)

    by : (b : Bool) → nat_lt file.place (files_of vs file.volume) ≡ b → at (map (moved_op f) (begun_in file (answers_of done))) ≡ map (moved_op f) (node_operations vs done file)
    by true e = rw e refl
    by false e = rw e refl

tagged_at : (grid : Grid) (row : TenantRow) (home : ℕ → ℕ) (opens : List VolumeRow) (steps : List NodeStep) (most : ℕ) → Runs (setting_of grid row home opens) (opened grid row opens) (cluster_after (setting_of grid row home opens) steps) (exchanges (setting_of grid row home opens) new_cluster steps) (filter_map disk_step steps) most →
    (file : File) → Tagged (operations_at (setting_of grid row home opens) steps file)
tagged_at grid row home opens steps most run file =
    tagged-unmoved (own_places (0 + length opens) run.turns) (places_rise (0 + length opens) run.turns) (operations_at (setting_of grid row home opens) steps file)
    (subst P (operations_are grid row opens run.turns (setting_of grid row home opens).volumes (exchanges (setting_of grid row home opens) new_cluster steps) file (run_stands grid row home opens steps most run).opened run.did)
    (all_tagged grid row (openings opens ++ run.turns) file))
  where
    P : List Op → Type 0
    P z = Tagged z

pub all_clusters_legal : AllClustersLegal
all_clusters_legal grid row home opens steps enough can file =
    order_legal (operations_at (setting_of grid row home opens) steps file) (order (operations_at (setting_of grid row home opens) steps file))
    (tagged_at grid row home opens steps (length steps * (row.sessions + 1)) (run_of grid row home opens steps enough can) file)
    (order_is (operations_at (setting_of grid row home opens) steps file))
