-- One session's writes of a file: the later one has the greater tag. So a write that is open takes no effect once a later write of its session has,
-- and whoever writes a file by one session alone may build on that.
use Rattle.std.specs.Prelude.{◌≡◌, ◌<◌, ℕ, List, true, Some}
use Rattle.gq_grid.specs.Grid.{Grid}
use Rattle.gq_tag.specs.declared.Tag.{Tag}
use Rattle.gq_tag.specs.Tag.{is_less, File}
use Rattle.gq_desk.specs.declared.plans.TenantRow.{TenantRow}
use Rattle.gq_desk.specs.declared.volumes.VolumeRow.{VolumeRow}
use Rattle.gq_model.specs.Trace.{Turn}
use Rattle.gq_laws.specs.declared.ops.Op.{Op}
use Rattle.gq_laws.specs.Operations.{At, is_write}
use Rattle.gq_laws.specs.Laws.{lone_operations}
use Rattle.gq_cluster.specs.Cluster.{Setting, NodeStep, new_cluster, CanFollow}
use Rattle.gq_cluster.specs.Laws.{setting_of, StepsEnough}
use Rattle.gq_cluster.specs.Operations.{operations_at}

-- of two writes of one session the later one has the greater tag, whether or not they ended
abbrev pub OwnWritesRise : List Op → Type 0
OwnWritesRise ops = (i j : ℕ) (a b : Op) (x y : Tag) → At ops i a → At ops j b → is_write a ≡ true → is_write b ≡ true → a.session ≡ b.session → a.begin < b.begin → a.tag ≡ Some x → b.tag ≡ Some y → is_less x y ≡ true

-- in a tenant's run by itself, whatever the turns
abbrev pub AllOwnWritesRise : Type 0
AllOwnWritesRise = (grid : Grid) (row : TenantRow) (turns : List Turn) (file : File) → OwnWritesRise (lone_operations grid row turns file)

-- and at nodes, whatever happens there
abbrev pub AllClustersOwnWritesRise : Type 0
AllClustersOwnWritesRise = (grid : Grid) (row : TenantRow) (home : ℕ → ℕ) (opens : List VolumeRow) (steps : List NodeStep) →
    let s : Setting = setting_of grid row home opens in
    StepsEnough row opens steps → CanFollow s new_cluster steps → (file : File) → OwnWritesRise (operations_at s steps file)
