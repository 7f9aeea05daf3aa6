-- What the losses are for that an answer to a look tells.
--
-- A node answers for the server at its place. While a look goes on a place may be lost, and taken over by a new node. Answers of nodes whose plans tell
-- equally many losses are counted together: none of their places is lost from one of them to another.
use Rattle.std.specs.Prelude.{◌≡◌, ℕ, ◌*◌, ◌<◌, List, ◌++◌, length, Bool, false, true, ◌==◌, ◌&&◌}
use Rattle.std.specs.List.{list_any}
use Rattle.gq_grid.specs.Grid.{Grid}
use Rattle.gq_tag.specs.Tag.{File}
use Rattle.gq_desk.specs.declared.plans.TenantRow.{TenantRow}
use Rattle.gq_desk.specs.declared.volumes.VolumeRow.{VolumeRow}
use Rattle.gq_cluster.specs.Cluster.{NodeStep, Loses, is_within}
use Rattle.gq_cluster.specs.Laws.{StepsEnough}
use Rattle.gq_replace.specs.Plans.{Plan, IsChain, place_of}
use Rattle.gq_replace.specs.Fleet.{World, Fleet, FleetStep, IsActing, new_fleet, fleet_after, plan_of, has_file, AllMayHappen, all_node_steps}
use Rattle.gq_replace.specs.Laws.{world_of, HomesStand}

-- whether the server at the place loses the file by a step
abbrev pub loses_it : (place : ℕ) → File → NodeStep → Bool
loses_it place file (Loses server volumes) = (server == place) && is_within volumes file
loses_it place file step = false

-- the node can tell what it has of the file: it acts, stands at a place of the grid, and has it
pub record CanTell (w : World) (u : Fleet) (node : ℕ) (file : File) : Type 0 where
  pub acts : IsActing u node
  pub place : place_of node < w.setting.grid.rows * w.setting.grid.cols
  pub has : has_file w u node file ≡ true

-- how many losses it tells
abbrev pub losses_told : World → Fleet → (node : ℕ) → ℕ
losses_told w u node = length (plan_of w u node).lost

-- Whatever happens: after some steps a node can tell, and after some more another one, or the same, which tells as many losses. Then by none of the
-- steps between does the first one's server lose the file.
abbrev pub AllAnswersKept : Type 0
AllAnswersKept = (grid : Grid) (row : TenantRow) (home : ℕ → ℕ) (opens : List VolumeRow) (plans : ℕ → Plan) (first between : List FleetStep) (node other : ℕ) (file : File) →
    let w : World = world_of grid row home opens plans in
    HomesStand grid home → IsChain plans → StepsEnough row opens (all_node_steps w new_fleet (first ++ between)) → AllMayHappen w new_fleet (first ++ between) →
    CanTell w (fleet_after w first) node file → CanTell w (fleet_after w (first ++ between)) other file →
    losses_told w (fleet_after w first) node ≡ losses_told w (fleet_after w (first ++ between)) other →
    list_any (loses_it (place_of node) file) (all_node_steps w (fleet_after w first) between) ≡ false
