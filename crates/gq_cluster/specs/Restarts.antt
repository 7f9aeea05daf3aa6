-- What a restart leaves: of the sessions of its node no operation goes on, and each goes on behind the numbers that are reserved for it;
-- copies, reserved numbers, letters, and the sessions of other nodes, each at its home, are as they were.
use Rattle.std.specs.Prelude.{◌≡◌, ◌≢◌, ℕ, List, true, false, None}
use Rattle.gq_grid.specs.Grid.{Grid}
use Rattle.gq_tag.specs.Tag.{File}
use Rattle.gq_desk.specs.declared.plans.TenantRow.{TenantRow}
use Rattle.gq_desk.specs.declared.volumes.VolumeRow.{VolumeRow}
use Rattle.gq_desk.specs.Plans.{is_in}
use Rattle.gq_model.specs.Trace.{Session}
use Rattle.gq_cluster.specs.Facts.{Reserved}
use Rattle.gq_cluster.specs.Cluster.{Setting, Cluster, NodeStep, Restarts, new_cluster, after_step, cluster_after, CanFollow}
use Rattle.gq_cluster.specs.Laws.{setting_of, StepsEnough}

-- the session without its operation, its last numbers being those that are reserved
abbrev pub begun_anew : Reserved → Session → Session
begun_anew reserved s = record s { op = reserved.op; current = None; floor = reserved.floor }

-- the second cluster is the first one, but that the sessions of the node, of those that the tenant has, have begun anew
pub record GivesUp (s : Setting) (node : ℕ) (old new : Cluster) : Type 0 where
  pub own : (k : ℕ) → s.home k ≡ node → is_in 1 s.row.sessions k ≡ true → (new.part node).session k ≡ begun_anew ((old.part node).reserved k) ((old.part node).session k)
  pub outside : (k : ℕ) → s.home k ≡ node → is_in 1 s.row.sessions k ≡ false → (new.part node).session k ≡ (old.part node).session k
  pub others : (k : ℕ) → s.home k ≢ node → (new.part (s.home k)).session k ≡ (old.part (s.home k)).session k
  pub reserved : (n k : ℕ) → (new.part n).reserved k ≡ (old.part n).reserved k
  pub lacks : (n : ℕ) (file : File) → (new.part n).lacks file ≡ (old.part n).lacks file
  pub copies : (n : ℕ) (file : File) → (new.part n).brought file ≡ (old.part n).brought file
  pub written : new.written ≡ old.written

-- no session of the node has an operation, whether it is the tenant's or not
abbrev pub NoneGoes : Setting → (node : ℕ) → Cluster → Type 0
NoneGoes s node c = (k : ℕ) → s.home k ≡ node → ((c.part node).session k).current ≡ None

-- so does a restart leave it, whatever happened before
abbrev pub AllRestartsGiveUp : Type 0
AllRestartsGiveUp = (grid : Grid) (row : TenantRow) (home : ℕ → ℕ) (opens : List VolumeRow) (steps : List NodeStep) (node : ℕ) →
    let s : Setting = setting_of grid row home opens in
    let old : Cluster = cluster_after s steps in
    let new : Cluster = after_step s old (Restarts node) in
    StepsEnough row opens steps → CanFollow s new_cluster steps → GivesUp s node old new × NoneGoes s node new
