-- The law: whatever happens at nodes of which some are lost and replaced is what happens in a cluster.
use Rattle.std.specs.Prelude.{◌≡◌, ℕ, ◌*◌, ◌<◌, List, [], ◌∷◌, true, false, ⊤, map, fold}
use Rattle.gq_grid.specs.Grid.{Grid}
use Rattle.gq_tag.specs.Tag.{File}
use Rattle.gq_desk.specs.declared.plans.TenantRow.{TenantRow}
use Rattle.gq_desk.specs.declared.volumes.VolumeRow.{VolumeRow}
use Rattle.gq_laws.specs.Operations.{Legal}
use Rattle.gq_laws.specs.Orders.{order}
use Rattle.gq_cluster.specs.Cluster.{Cluster, NodeStep, new_cluster, copy_in, step_of, step_in, after_step, cluster_after, CanFollow}
use Rattle.gq_cluster.specs.Laws.{IsServed, StepsEnough, setting_of}
use Rattle.gq_cluster.specs.Operations.{operations_at}
use Rattle.gq_cluster.specs.OwnWrites.{OwnWritesRise}
use Rattle.gq_replace.specs.Plans.{Plan, IsChain, place_of}
use Rattle.gq_replace.specs.Fleet.{World, Fleet, FleetStep, Does, new_fleet, has_file, after_fleet_step, fleet_after, AllMayHappen, node_steps, all_node_steps}

-- a node tells and sends what is told and sent in the cluster
abbrev pub SaidBy : World → Fleet → Cluster → FleetStep → Type 0
SaidBy w u c (Does node act) = step_of w.setting (u.part node) act ≡ step_in w.setting c act
SaidBy w u c _ = ⊤

abbrev pub AllSaid : World → Fleet → Cluster → List FleetStep → Type 0
AllSaid w u c [] = ⊤
AllSaid w u c (step ∷ steps) = SaidBy w u c step × AllSaid w (after_fleet_step w u step) (fold (after_step w.setting) c (node_steps w u step)) steps

-- of each node that is not gone the cluster has the sessions, and at the node's place the files that the node has
pub record IsAlike (w : World) (u : Fleet) (c : Cluster) : Type 0 where
  pub sessions : (k : ℕ) → u.gone (w.setting.home k) ≡ false → (u.part (w.setting.home k)).session k ≡ (c.part (w.setting.home k)).session k
  pub has : (node : ℕ) (file : File) → u.gone node ≡ false → has_file w u node file ≡ true → (c.part (place_of node)).lacks file ≡ false
  pub copies : (node : ℕ) (file : File) → u.gone node ≡ false → has_file w u node file ≡ true → copy_in (c.part (place_of node)) file ≡ copy_in (u.part node) file
  pub written : c.written ≡ map (λ posted. posted.letter) u.posted

-- the steps of the cluster may follow one another, the same is told and sent, and in the end the cluster is like the nodes
pub record Follows (w : World) (steps : List FleetStep) : Type 0 where
  pub can : CanFollow w.setting new_cluster (all_node_steps w new_fleet steps)
  pub said : AllSaid w new_fleet new_cluster steps
  pub alike : IsAlike w (fleet_after w steps) (cluster_after w.setting (all_node_steps w new_fleet steps))

abbrev pub world_of : Grid → TenantRow → (ℕ → ℕ) → List VolumeRow → (ℕ → Plan) → World
world_of grid row home opens plans = record { setting = setting_of grid row home opens; plans = plans }

-- each session's home stands at a place of the grid
abbrev pub HomesStand : Grid → (ℕ → ℕ) → Type 0
HomesStand grid home = (k : ℕ) → place_of (home k) < grid.rows * grid.cols

-- whichever nodes are lost and replaced, in any order, and again; whatever is lost, late, repeated or out of order
abbrev pub AllFollow : Type 0
AllFollow = (grid : Grid) (row : TenantRow) (home : ℕ → ℕ) (opens : List VolumeRow) (plans : ℕ → Plan) (steps : List FleetStep) →
    let w : World = world_of grid row home opens plans in
    HomesStand grid home → IsChain plans → StepsEnough row opens (all_node_steps w new_fleet steps) → AllMayHappen w new_fleet steps → Follows w steps

-- the cluster's steps are a run of the service, and the operations on each file, read off them, are those of one register
pub record IsRight (grid : Grid) (row : TenantRow) (home : ℕ → ℕ) (opens : List VolumeRow) (steps : List NodeStep) : Type 0 where
  pub served : IsServed grid row home opens steps
  pub legal : (file : File) → Legal (operations_at (setting_of grid row home opens) steps file) (order (operations_at (setting_of grid row home opens) steps file))
  -- and of each session's writes the later one has the greater tag
  pub own_writes : (file : File) → OwnWritesRise (operations_at (setting_of grid row home opens) steps file)

abbrev pub AllRight : Type 0
AllRight = (grid : Grid) (row : TenantRow) (home : ℕ → ℕ) (opens : List VolumeRow) (plans : ℕ → Plan) (steps : List FleetStep) →
    let w : World = world_of grid row home opens plans in
    HomesStand grid home → IsChain plans → StepsEnough row opens (all_node_steps w new_fleet steps) → AllMayHappen w new_fleet steps → IsRight grid row home opens (all_node_steps w new_fleet steps)
