-- A part at rest: what a start makes of it, and the facts that a start needs.
use Rattle.std.specs.Prelude.{◌≡◌, ℕ, ◌<◌, List, [], ◌∷◌, true, ◌==◌, ◌&&◌, None, is_some, length, fold, if◌then◌else◌}
use Rattle.std.specs.List.{list_all}
use Rattle.gq_tag.specs.Tag.{File, first_copy}
use Rattle.gq_desk.specs.declared.volumes.VolumeRow.{VolumeRow}
use Rattle.gq_desk.specs.Plans.{is_in}
use Rattle.gq_model.specs.Trace.{limit_at}
use Rattle.gq_cluster.specs.Cluster.{everyone, copy_in, is_within}
use Rattle.gq_node.specs.declared.output.Fact.{Fact}
use Rattle.gq_cluster.specs.Facts.{OwnFact}
use Rattle.gq_replace.specs.Plans.{base}
use Rattle.gq_node.specs.Local.{Local, Resident, new_local, new_resident, rested, part_in, state_of, recalls}
use Rattle.gq_node.specs.Recalling.{tenant_of, own_fact, fits_in}
use Rattle.gq_node.specs.Sites.{Site, site_of, has_session, is_new}
use Rattle.gq_node.specs.Tables.{Tables, Agrees}

-- what a start makes of facts, in order
abbrev pub recall_one : Site → Local → OwnFact → Local
recall_one site local fact = (recalls fact site local).local

abbrev pub recall_all : Site → Local → List OwnFact → Local
recall_all site local facts = fold (recall_one site) local facts

-- of all facts those of the tenant at place t
abbrev pub those_of : ℕ → List Fact → List OwnFact
those_of t [] = []
those_of t (fact ∷ facts) = if tenant_of fact == t then own_fact fact ∷ those_of t facts else those_of t facts

-- what a new node takes from the plan with which its journal begins: how many volumes the tenant has there, and of how many losses it tells
pub record FirstPlan : Type 0 where
  pub volumes : ℕ
  pub losses : ℕ

-- where the tags of session k begin: a session whose home is a new node begins above all that a lost node wrote, and any other with 1
abbrev pub begun_floor : Site → (losses : ℕ) → ℕ → ℕ
begun_floor site losses k = if (site.home k == site.here) && is_in 1 site.row.sessions k then base site.here losses else 0

abbrev pub begun_resident : Site → (losses : ℕ) → ℕ → Resident
begun_resident site losses k = rested (new_resident site.grid site.place) (record { op = 0; floor = begun_floor site losses k })

-- the part of a node which was never started, with these sessions. If it is a new one, it lacks the files of so many first volumes
abbrev pub bare_local : Site → List VolumeRow → (lost : ℕ) → (ℕ → Resident) → Local
bare_local site volumes lost residents = record (new_local site.grid site.place volumes) { lacks = λ file. is_new site && is_within lost file; residents = residents }

abbrev pub begun_local : Site → List VolumeRow → FirstPlan → Local
begun_local site volumes first = bare_local site volumes first.volumes (begun_resident site first.losses)

-- the session goes on behind the numbers that are reserved for it
pub record GoesBehind (r : Resident) : Type 0 where
  pub op : r.session.op ≡ r.reserved.op
  pub floor : r.session.floor ≡ r.reserved.floor

-- The one part is the other at rest: it has the same volumes and copies, and lacks the same files; the same numbers are reserved for each session
-- of the plan;
-- its sessions go on behind these, and none has an operation.
pub record IsAtRest (site : Site) (rest local : Local) : Type 0 where
  pub volumes : rest.volumes ≡ local.volumes
  pub copies : (file : File) → copy_in (part_in rest) file ≡ copy_in (part_in local) file
  pub lacks : (file : File) → is_some (limit_at (state_of everyone local) file.volume file.place) ≡ true → rest.lacks file ≡ local.lacks file
  pub reserved : (k : ℕ) → has_session site k ≡ true → (rest.residents k).reserved ≡ (local.residents k).reserved
  pub behind : (k : ℕ) → GoesBehind (rest.residents k)
  pub idle : (k : ℕ) → (rest.residents k).session.current ≡ None

-- the facts are of tenants of the plan
abbrev pub AllOfPlan : Tables → List Fact → Type 0
AllOfPlan w [] = Unit {0}
AllOfPlan w (fact ∷ facts) = (tenant_of fact < length w.plan.rows) × AllOfPlan w facts

-- of a file that its server lacks the part has the first copy
abbrev pub IsBare : Local → Type 0
IsBare local = (f : File) → local.lacks f ≡ true → copy_in (part_in local) f ≡ first_copy

-- the plan of these tables, as the first one of a journal
abbrev pub first_in : Tables → Local → FirstPlan
first_in w local = record { volumes = length local.volumes; losses = length w.here.lost }

-- A node that was never started, with the same plan and volumes, and reads these facts, each of which fits, has each part of the node at
-- rest. Of a file that it lacks the node has the first copy, which no fact has to say.
pub record Needed (w : Tables) (facts : List Fact) : Type 0 where
  pub within : AllOfPlan w facts
  pub fit : list_all (fits_in w) facts ≡ true
  pub bare : (t : ℕ) (local : Local) → Agrees w t local → IsBare local
  pub makes : (t : ℕ) → t < length w.plan.rows → (local : Local) → Agrees w t local →
      IsAtRest (site_of w.plan w.here t) (recall_all (site_of w.plan w.here t) (begun_local (site_of w.plan w.here t) local.volumes (first_in w local)) (those_of t facts)) local
