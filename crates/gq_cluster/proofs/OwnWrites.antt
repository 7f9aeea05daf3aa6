-- Of two writes of one session to a file the later one has the greater tag: a session's last number never falls, and each tag that its writes make is
-- above it. A tag is made while its operation goes on, so before the next one of the session begins.
use Rattle.std.proofs.Common.{◌≡◌, ◌⊎◌, ℕ, ◌+◌, ◌*◌, ◌<◌, ◌≤◌, Bool, true, false, List, [], ◌∷◌, ◌++◌, length, map, refl, sym, ap, ◌∙◌, subst, inl, inr, Some, None, arith, nat_lt}
use Rattle.std.specs.Prelude.{filter_map}
use Rattle.std.proofs.lemmas.Bool.{cases_lt}
use Rattle.std.proofs.lemmas.List.{length-append}
use Rattle.gq_grid.specs.Grid.{Grid}
use Rattle.gq_tag.specs.declared.Tag.{Tag}
use Rattle.gq_tag.specs.Tag.{is_less, File}
use Rattle.gq_tag.proofs.Order.{less_from}
use Rattle.gq_desk.specs.declared.plans.TenantRow.{TenantRow}
use Rattle.gq_desk.specs.declared.volumes.VolumeRow.{VolumeRow}
use Rattle.gq_model.specs.Trace.{files_of, Turn, Entry, Trace, Deed, Elsewhere, Begins, Hears, Moves, Ends, Leaps, Past, start}
use Rattle.gq_model.specs.Lone.{after, said, is_refusal}
use Rattle.gq_laws.specs.Laws.{lone_operations}
use Rattle.gq_laws.specs.declared.ops.Op.{Op}
use Rattle.gq_laws.specs.Operations.{SessionAnswer, opened_in, begun_in}
use Rattle.gq_laws.proofs.Words.{deed_on, floor}
use Rattle.gq_laws.proofs.Runs.{Extends, op_start}
use Rattle.gq_laws.proofs.Holding.{extends_join}
use Rattle.gq_laws.proofs.Invariant.{starts_along}
use Rattle.gq_laws.proofs.Reaching.{Reach, Here, Later, Goes, goes_or_not, reach_between, reach_first, reach_extends, reach_floor}
use Rattle.gq_laws.proofs.Telling.{tells}
use Rattle.gq_laws.proofs.Beginnings.{OpAt, op_at}
use Rattle.gq_laws.proofs.Completed.{MadeTag, made_tag}
use Rattle.gq_laws.proofs.OtherPlaces.{moved_op, op_is}
use Rattle.gq_laws.specs.Laws.{IsRising}
use Rattle.gq_cluster.specs.Cluster.{NodeStep, new_cluster, cluster_after, exchanges}
use Rattle.gq_cluster.specs.Laws.{openings, opened, setting_of, disk_step}
use Rattle.gq_cluster.specs.Operations.{operations_at}
use Rattle.gq_cluster.specs.OwnWrites.{OwnWritesRise, AllOwnWritesRise, AllClustersOwnWritesRise}
use Rattle.gq_cluster.proofs.Reading.{own_places, places_rise}
use Rattle.gq_cluster.proofs.Clusters.{Runs, run_of, run_stands}
use Rattle.gq_cluster.proofs.Registers.{operations_are}

-- ---- where the session's operation began never falls back

same_extends : (s t : Trace) → s ≡ t → Extends s t
same_extends s t same = ([], sym same)

op_start_grows : (t : Trace) (e : Entry) (k : ℕ) → Extends (op_start (e ∷ t) k) (op_start t k)
op_start_grows t e k = go (deed_on t k e) refl
  where
    go : (d : Deed) → deed_on t k e ≡ d → Extends (op_start (e ∷ t) k) (op_start t k)
    go (Begins line) is = rw is (starts_along t k).0
    go (Moves m r tag) is = rw is ([], refl)
    go (Hears m) is = rw is ([], refl)
    go Ends is = rw is ([], refl)
    go (Leaps last number) is = rw is ([], refl)
    go Elsewhere is = rw is ([], refl)

after_op_start : (grid : Grid) (row : TenantRow) (p : Past) (x : Turn) (k : ℕ) → Extends (op_start (after grid row p x).trace k) (op_start p.trace k)
after_op_start grid row p x k = go (goes_or_not grid row p x)
  where
    go : (((after grid row p x).trace ≡ p.trace) × (is_refusal (said grid row p x) ≡ true)) ⊎ Goes grid row p x → Extends (op_start (after grid row p x).trace k) (op_start p.trace k)
    go (inl same) = rw same.0 ([], refl)
    go (inr g) = rw g.grown (op_start_grows p.trace g.e k)

reach_op_start : {grid : Grid} {row : TenantRow} {p q : Past} {n m : ℕ} {es rest : List Turn} (k : ℕ) → Reach grid row p n es q m rest → Extends (op_start q.trace k) (op_start p.trace k)
reach_op_start k Here = ([], refl)
reach_op_start {grid} {row} {p} {q} k (Later {x = x} a) = extends_join (op_start q.trace k) (op_start (after grid row p x).trace k) (op_start p.trace k) (reach_op_start k a) (after_op_start grid row p x k)

extends_length : (later t : Trace) → Extends later t → length t ≤ length later
extends_length later t x = let P : Trace → Type 0 = λ z. length t ≤ length z in subst P x.1 (omega (arith, length-append x.0 t))

-- ---- two writes of one session

abbrev all_told : Grid → TenantRow → List Turn → List SessionAnswer
all_told grid row turns = tells grid row start 0 turns

abbrev the_ops : Grid → TenantRow → List Turn → File → List Op
the_ops grid row turns file = begun_in file (all_told grid row turns)

rises : (grid : Grid) (row : TenantRow) (turns : List Turn) (file : File) (a b : Op) (x y : Tag) (o : OpAt grid row file start 0 turns a) (w : OpAt grid row file start 0 turns b) → a.session ≡ b.session → a.begin < b.begin →
    MadeTag grid row file start 0 turns a o.q.trace x → MadeTag grid row file start 0 turns b w.q.trace y → is_less x y ≡ true
rises grid row turns file a b x y o w same before A B = go (cases_lt A.m B.m)
  where
    go : (A.m < B.m) ⊎ (B.m ≤ A.m) → is_less x y ≡ true
    go (inl low) =
        let between = reach_first (reach_between A.reach B.reach (omega arith)) low in
        let grows = reach_floor a.session between in
        less_from x y (inl (omega (arith, A.floor_is, B.above_floor, grows, ap (floor B.q.trace) same)))
    go (inr high) =
        let sooner : o.m < w.m = omega (arith, o.begun.begin, w.begun.begin, before) in
        let between = reach_first (reach_between o.reach w.reach (omega arith)) sooner in
        let P : Trace → Type 0 = λ z. Extends w.q.trace z in
        let grown : Extends w.q.trace (o.begun.g.e ∷ o.q.trace) = subst P o.begun.g.grown (reach_extends between) in
        let back : Extends (op_start A.q.trace a.session) (op_start B.q.trace a.session) = reach_op_start a.session (reach_between B.reach A.reach high) in
        let begun : op_start B.q.trace a.session ≡ w.q.trace = ap (op_start B.q.trace) same ∙ B.start in
        let shorter = extends_length (op_start A.q.trace a.session) (op_start B.q.trace a.session) back in
        absurd (omega (arith, extends_length w.q.trace (o.begun.g.e ∷ o.q.trace) grown, shorter, ap length A.start, ap length begun))

rises_there : (grid : Grid) (row : TenantRow) (turns : List Turn) (file : File) → OwnWritesRise (the_ops grid row turns file)
rises_there grid row turns file i j a b x y at_a at_b write_a write_b same before tag_a tag_b =
    let o = op_at grid row file turns start 0 i a at_a in
    let w = op_at grid row file turns start 0 j b at_b in
    rises grid row turns file a b x y o w same before (made_tag grid row file start 0 turns a x tt o write_a tag_a) (made_tag grid row file start 0 turns b y tt w write_b tag_b)

pub all_own_writes_rise : AllOwnWritesRise
all_own_writes_rise grid row turns file = go (nat_lt file.place (files_of (opened_in (all_told grid row turns)) file.volume)) refl
  where
    none : OwnWritesRise []
    none i j a b x y at_a at_b write_a write_b same before tag_a tag_b = absurd (let bad : None ≡ Some a = at_a in cc)

    go : (b : Bool) → nat_lt file.place (files_of (opened_in (all_told grid row turns)) file.volume) ≡ b → OwnWritesRise (lone_operations grid row turns file)
    go true e = rw e (rises_there grid row turns file)
    go false e = rw e none

-- ---- at nodes: a run of the model has the same operations, at the places of the tenant's own lines

unmoved : (f : ℕ → ℕ) → IsRising f → (ops : List Op) → OwnWritesRise (map (moved_op f) ops) → OwnWritesRise ops
unmoved f rising ops there i j a b x y at_a at_b write_a write_b same before tag_a tag_b =
    there i j (moved_op f a) (moved_op f b) x y (op_is f ops i a at_a) (op_is f ops j b at_b) write_a write_b same (rising a.begin b.begin before) tag_a tag_b

rises_at : (grid : Grid) (row : TenantRow) (home : ℕ → ℕ) (opens : List VolumeRow) (steps : List NodeStep) (most : ℕ) → Runs (setting_of grid row home opens) (opened grid row opens) (cluster_after (setting_of grid row home opens) steps) (exchanges (setting_of grid row home opens) new_cluster steps) (filter_map disk_step steps) most →
    (file : File) → OwnWritesRise (operations_at (setting_of grid row home opens) steps file)
rises_at grid row home opens steps most run file =
    unmoved (own_places (0 + length opens) run.turns) (places_rise (0 + length opens) run.turns) (operations_at (setting_of grid row home opens) steps file)
    (subst P (operations_are grid row opens run.turns (setting_of grid row home opens).volumes (exchanges (setting_of grid row home opens) new_cluster steps) file (run_stands grid row home opens steps most run).opened run.did)
    (all_own_writes_rise grid row (openings opens ++ run.turns) file))
  where
    P : List Op → Type 0
    P z = OwnWritesRise z

pub all_clusters_own_writes_rise : AllClustersOwnWritesRise
all_clusters_own_writes_rise grid row home opens steps enough can file =
    rises_at grid row home opens steps (length steps * (row.sessions + 1)) (run_of grid row home opens steps enough can) file
