-- Two parts of a node that do the same, whatever comes.
use Rattle.std.specs.Prelude.{◌≡◌, ℕ, List, Bool, true, false, ◌==◌, ◌&&◌, None, is_some}
use Rattle.gq_desk.specs.CheckedPlan.{CheckedPlan}
use Rattle.gq_tag.specs.Tag.{File}
use Rattle.gq_model.specs.Trace.{limit_at}
use Rattle.gq_cluster.specs.Cluster.{everyone, copy_in}
use Rattle.gq_node.specs.Inputs.{Input, does}
use Rattle.gq_node.specs.Local.{Local, Doing, part_in, state_of}
use Rattle.gq_node.specs.Sites.{Here, Site, site_of, has_session}
use Rattle.gq_parts.specs.Texts.{written_for, facts_for}
use Rattle.gq_parts.specs.Within.{after_taken}

-- whether the plan has the session, and the node is its home
abbrev pub is_own_session : Site → ℕ → Bool
is_own_session site k = has_session site k && (site.home k == site.here)

-- whether the file is there
abbrev pub is_file_in : Local → File → Bool
is_file_in local file = is_some (limit_at (state_of everyone local) file.volume file.place)

-- They have the same volumes and copies, and lack the same files; the same nodes have joined, and the same was asked last for a file; each session that
-- the node serves is the same, and no other has an operation.
pub record AreAlike (site : Site) (a b : Local) : Type 0 where
  pub volumes : a.volumes ≡ b.volumes
  pub copies : (file : File) → copy_in (part_in a) file ≡ copy_in (part_in b) file
  pub lacks : (file : File) → is_file_in b file ≡ true → a.lacks file ≡ b.lacks file
  pub joined : a.joined ≡ b.joined
  pub peer : a.peer ≡ b.peer
  pub residents : (k : ℕ) → is_own_session site k ≡ true → a.residents k ≡ b.residents k
  pub idle : (k : ℕ) → is_own_session site k ≡ false → ((a.residents k).session.current ≡ None) × ((b.residents k).session.current ≡ None)

-- the same is told, sent, asked or given, and kept; and the parts are alike after it
pub record DoSame (site : Site) (p q : Doing) : Type 0 where
  pub local : AreAlike site p.local q.local
  pub answer : p.answer ≡ q.answer
  pub letters : p.letters ≡ q.letters
  pub transfer : p.transfer ≡ q.transfer
  pub fact : p.fact ≡ q.fact

-- the same is written for the tenant, and kept; and the parts are alike after it
pub record WriteSame (plan : CheckedPlan) (here : Here) (t : ℕ) (a b : Local) (inputs : List Input) : Type 0 where
  pub written : written_for plan here t a inputs ≡ written_for plan here t b inputs
  pub facts : facts_for plan here t a inputs ≡ facts_for plan here t b inputs
  pub behind : AreAlike (site_of plan here t) (after_taken (site_of plan here t) a inputs) (after_taken (site_of plan here t) b inputs)

-- whatever comes to such parts from outside, with what is taken within after it
abbrev pub AllWriteSame : Type 0
AllWriteSame = (plan : CheckedPlan) (here : Here) (t : ℕ) (a b : Local) (inputs : List Input) → AreAlike (site_of plan here t) a b → WriteSame plan here t a b inputs

-- whatever one input comes to them
abbrev pub AllDoSame : Type 0
AllDoSame = (input : Input) (site : Site) (a b : Local) → AreAlike site a b → DoSame site (does input site a) (does input site b)
