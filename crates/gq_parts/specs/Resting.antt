-- A node that was never started, and one that a start makes again.
use Rattle.std.specs.Prelude.{◌≡◌, ℕ, ◌<◌, List, length}
use Rattle.gq_desk.specs.CheckedPlan.{CheckedPlan}
use Rattle.gq_desk.specs.Volumes.{account_at}
use Rattle.gq_desk.specs.declared.volumes.VolumeRow.{VolumeRow}
use Rattle.gq_node.specs.Local.{Local}
use Rattle.gq_node.specs.Resting.{FirstPlan, IsAtRest, IsBare, begun_local}
use Rattle.gq_node.specs.Sites.{Here, site_of}
use Rattle.gq_node.specs.Tables.{Tables, Agrees}

-- it is this node of this plan
pub record IsNodeOf (plan : CheckedPlan) (here : Here) (w : Tables) : Type 0 where
  pub plan_is : w.plan ≡ plan
  pub here_is : w.here ≡ here

-- This node was never started, and these volumes of its tenants are open. Where it is a new one, its server lacks the files of the volumes of these
-- first plans, and its sessions begin where these say.
pub record IsNewNode (plan : CheckedPlan) (here : Here) (volumes : ℕ → List VolumeRow) (lost : ℕ → FirstPlan) (w : Tables) : Type 0 where
  pub node : IsNodeOf plan here w
  pub parts : (t : ℕ) → t < length plan.rows → Agrees w t (begun_local (site_of plan here t) (volumes t) (lost t))

-- the volumes of the tenant at place t, and how many there are
abbrev pub volumes_at : Tables → ℕ → List VolumeRow
volumes_at w t = (account_at w.desk t).volumes

-- the other is this node, never started, with the same volumes open, begun with these first plans
abbrev pub IsBlank : (lost : ℕ → FirstPlan) → (w blank : Tables) → Type 0
IsBlank lost w blank = IsNewNode w.plan w.here (volumes_at w) lost blank

-- what a new node would take from the node's plan for the tenant at place t; and for each tenant it would take this
abbrev pub first_at : Tables → ℕ → FirstPlan
first_at w t = record { volumes = length (volumes_at w t); losses = length w.here.lost }

abbrev pub HasFirst : (first : ℕ → FirstPlan) → Tables → Type 0
HasFirst first w = (t : ℕ) → t < length w.plan.rows → first_at w t ≡ first t

-- the node's part for the tenant at place t is that of the other at rest; of a file that its server lacks it has the first copy
pub record RestsIn (w rest : Tables) (t : ℕ) : Type 0 where
  pub local : Local
  pub again : Local
  pub was : Agrees w t local
  pub is : Agrees rest t again
  pub bare : IsBare local
  pub rests : IsAtRest (site_of w.plan w.here t) again local

-- the other is this node at rest
pub record Rests (w rest : Tables) : Type 0 where
  pub node : IsNodeOf w.plan w.here rest
  pub parts : (t : ℕ) → t < length w.plan.rows → RestsIn w rest t
