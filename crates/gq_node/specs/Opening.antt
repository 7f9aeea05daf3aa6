-- A volume is opened; and what a new node begins with.
use Rattle.std.specs.Prelude.{◌≡◌, ◌≢◌, ℕ, None, ◌++◌, ◌∷◌, [], ◌==◌, if◌then◌else◌}
use Rattle.gq_desk.specs.declared.volumes.VolumeRow.{VolumeRow}
use Rattle.gq_desk.specs.Volumes.{account_at, open_fault}
use Rattle.gq_cluster.specs.Facts.{Numbered}
use Rattle.gq_replace.specs.Plans.{place_of}
use Rattle.gq_node.specs.Local.{Local, new_resident, recalled}
use Rattle.gq_node.specs.Resting.{FirstPlan, bare_local, begun_local}
use Rattle.gq_node.specs.Sites.{site_of, session_at, home_of}
use Rattle.gq_node.specs.Tables.{Tables, Agrees}

-- the tenant's part with one volume more
abbrev pub opened : VolumeRow → Local → Local
opened row local = record local { volumes = local.volumes ++ row ∷ [] }

-- the tenant's part is this one; volumes and all others stay
pub record Becomes (old : Tables) (t : ℕ) (part : Local) (new : Tables) : Type 0 where
  pub plan : new.plan ≡ old.plan
  pub here : new.here ≡ old.here
  pub desk : new.desk ≡ old.desk
  pub own : Agrees new t part
  pub others : (u : ℕ) → u ≢ t → (local : Local) → Agrees old u local → Agrees new u local

-- the part that was new is one that lost so many first volumes, if the node is a new one; its sessions are as they were
abbrev pub lost_local : Tables → (t lost : ℕ) → Local
lost_local w t lost = bare_local (site_of w.plan w.here t) (account_at w.desk t).volumes lost (λ k. new_resident w.plan.grid (place_of w.here.node))

abbrev pub Loses : (old : Tables) (t lost : ℕ) (new : Tables) → Type 0
Loses old t lost new = Becomes old t (lost_local old t lost) new

-- for the session at that place the numbers of tags up to this one are reserved, if its home is this node
abbrev pub reserved_at : Tables → (t place number : ℕ) → Local → Local
reserved_at w t place number local =
    if home_of w.plan t (session_at w.plan w.here t place) == w.here.node then recalled (Numbered (session_at w.plan w.here t place) number) local else local

pub record Reserves (old : Tables) (t place number : ℕ) (new : Tables) : Type 0 where
  pub plan : new.plan ≡ old.plan
  pub here : new.here ≡ old.here
  pub desk : new.desk ≡ old.desk
  pub own : (local : Local) → Agrees old t local → Agrees new t (reserved_at old t place number local)
  pub others : (u : ℕ) → u ≢ t → (local : Local) → Agrees old u local → Agrees new u local

-- it is one that lost the volumes of this first plan, and its sessions begin where that says
abbrev pub Bereaves : (old : Tables) (t : ℕ) (first : FirstPlan) (new : Tables) → Type 0
Bereaves old t first new = Becomes old t (begun_local (site_of old.plan old.here t) (account_at old.desk t).volumes first) new

-- no cause refuses the volume, and the tenant at place t has it from now on
pub record Opens (old : Tables) (t : ℕ) (row : VolumeRow) (new : Tables) : Type 0 where
  pub plan : new.plan ≡ old.plan
  pub here : new.here ≡ old.here
  pub sound : open_fault (account_at old.desk t) row ≡ None
  pub own : (local : Local) → Agrees old t local → Agrees new t (opened row local)
  pub others : (u : ℕ) → u ≢ t → (local : Local) → Agrees old u local → Agrees new u local
