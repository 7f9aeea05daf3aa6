-- What a contract sees of a node's tables, and what a tenant's part of them stands for.
use Rattle.std.specs.Prelude.{◌≡◌, ◌≢◌, ℕ, ◌/◌, ◌%◌, ◌<◌, List, [], ◌∷◌, Option, Some, None, Bool, false, ◌==◌, ◌||◌, nat_lt, length, map, option_map, slice_index_or, slice_set, if◌then◌else◌}
use Rattle.gq_grid.specs.Grid.{Grid}
use Rattle.gq_grid.specs.Sets.{servers}
use Rattle.gq_grid.specs.declared.ServerSet.{ServerSet}
use Rattle.gq_tag.specs.Tag.{File, file_of, message_of, first_copy, greatest}
use Rattle.gq_desk.specs.CheckedPlan.{CheckedPlan, row_at}
use Rattle.gq_desk.specs.Volumes.{Account, account_at, account_with}
use Rattle.gq_phase.specs.Phase.{Operation, listed_row}
use Rattle.gq_phase.specs.declared.Row.{Row}
use Rattle.gq_phase.specs.Standing.{StandsFor}
use Rattle.gq_phase.specs.declared.operation.Operation.{Operation as Code}
use Rattle.gq_store.specs.Copies.{StoreCopies, copy_at}
use Rattle.gq_model.specs.Trace.{operation_with}
use Rattle.gq_replace.specs.Plans.{place_of, generation}
use Rattle.gq_node.specs.declared.session_states.SessionState.{SessionState}
use Rattle.gq_node.specs.declared.output.Output.{Output}
use Rattle.gq_node.specs.declared.output.Fact.{Fact}
use Rattle.gq_node.specs.declared.output.Fact.TheVariants.{Began, Numbered as HasNumber, Kept as IsKept, Had as WasGiven}
use Rattle.gq_node.specs.declared.output.Transfer.{Transfer as CodeTransfer}
use Rattle.gq_node.specs.declared.output.Transfer.TheVariants.{Wants as CodeWants, Brings as CodeBrings}
use Rattle.gq_cluster.specs.Facts.{OwnFact, Begun, Numbered, Kept, Had}
use Rattle.gq_node.specs.Local.{Local, Resident, Transfer, Wants, Brings, Doing}
use Rattle.gq_node.specs.Lacks.{Given, lacks_in}
use Rattle.gq_node.specs.Sites.{Site, Here, session_state_place, session_at, site_of}

-- the plan, which node it is, the tenants' volumes, the server's copies and which files it lacks, the nodes that have joined, whom the tenants'
-- files were asked of last, and the tenants' sessions
pub record Tables : Type 0 where
  pub plan : CheckedPlan
  pub here : Here
  pub desk : List Account
  pub store : StoreCopies
  pub given : List Given
  pub joined : ServerSet
  pub peers : List ℕ
  pub session_states : List (List SessionState)

-- a session that began nothing
abbrev pub no_session_state : SessionState
no_session_state = record { op = 0; floor = 0; reserved_op = 0; reserved_floor = 0; operation = None; outcome = None; row = 0; column = 0; waited = false; stays = 0 }

-- and one that tries the row and the column of this server
abbrev pub first_session_state : Grid → ℕ → SessionState
first_session_state grid server = record { op = 0; floor = 0; reserved_op = 0; reserved_floor = 0; operation = None; outcome = None; row = server / grid.cols; column = server % grid.cols; waited = false; stays = 0 }

-- the sessions of the tenant at place t, and the one at a place of them
abbrev pub session_states_at : List (List SessionState) → ℕ → List SessionState
session_states_at session_states t = slice_index_or session_states t []

abbrev pub session_state_in : List SessionState → ℕ → SessionState
session_state_in session_states place = slice_index_or session_states place no_session_state

-- whether another node was lost at this one's place before
abbrev pub is_new_node : Tables → Bool
is_new_node w = nat_lt 0 (generation w.here.node)

-- which files of the tenant at place t the server lacks, and whom it asked last for one
abbrev pub given_at : Tables → ℕ → Given
given_at w t = slice_index_or w.given t []

abbrev pub lacks_at : Tables → ℕ → File → Bool
lacks_at w t file = lacks_in (given_at w t) file

-- the length and the tag of the server's copy of the file, unless it lacks the file
abbrev pub row_at_server : Tables → ℕ → File → Option Row
row_at_server w t file = if lacks_at w t file then None else Some (listed_row (copy_at w.store (file_of t file)))

abbrev pub peer_at : Tables → ℕ → ℕ
peer_at w t = slice_index_or w.peers t 0

-- the node at that place has joined, or is this one
abbrev pub has_joined : Tables → (place : ℕ) → Bool
has_joined w place = place == place_of w.here.node || servers w.joined place

-- session k of the tenant at place t
abbrev pub session_state_at : Tables → ℕ → ℕ → SessionState
session_state_at w t k = session_state_in (session_states_at w.session_states t) (session_state_place k)

-- the tables in which that session is another
abbrev pub with_session_state : Tables → ℕ → ℕ → SessionState → Tables
with_session_state w t k session_state = record w { session_states = slice_set w.session_states t (slice_set (session_states_at w.session_states t) (session_state_place k) session_state) }

-- session k is that of the plan at its place
pub record IsOfPlan (w : Tables) (t k : ℕ) : Type 0 where
  pub within : session_state_place k < (row_at w.plan t).sessions
  pub number : session_at w.plan w.here t (session_state_place k) ≡ k

-- ---- what the tables stand for

-- a session has the operation of the resident, and without one its own last number
abbrev pub Sits : Grid → ℕ → ℕ → Option Code → ℕ → Option Operation → Type 0
Sits grid t floor None last None = floor ≡ last
Sits grid t floor None last (Some o) = ⊥
Sits grid t floor (Some code) last None = ⊥
Sits grid t floor (Some code) last (Some o) = StandsFor grid t code o

pub record SessionStateAgrees (grid : Grid) (t k : ℕ) (session_state : SessionState) (r : Resident) : Type 0 where
  pub op : session_state.op ≡ r.session.op
  pub reserved_op : session_state.reserved_op ≡ r.reserved.op
  pub reserved_floor : session_state.reserved_floor ≡ r.reserved.floor
  pub sits : Sits grid t session_state.floor session_state.operation r.session.floor (option_map (operation_with k r.session) r.session.current)
  pub outcome : session_state.outcome ≡ r.outcome
  pub row : session_state.row ≡ r.row
  pub column : session_state.column ≡ r.column
  pub waited : session_state.waited ≡ r.waited
  pub stays : session_state.stays ≡ r.stays

-- the tables have for the tenant at place t this part of the node
pub record Agrees (w : Tables) (t : ℕ) (local : Local) : Type 0 where
  pub account : account_at w.desk t ≡ account_with (row_at w.plan t) local.volumes
  pub copies : (file : File) → copy_at w.store (file_of t file) ≡ greatest (first_copy ∷ local.brought file)
  pub lacks : (file : File) → lacks_at w t file ≡ local.lacks file
  pub joined : servers w.joined ≡ local.joined
  pub peer : peer_at w t ≡ local.peer
  pub session_states : (place : ℕ) → place < (row_at w.plan t).sessions → SessionStateAgrees w.plan.grid t (session_at w.plan w.here t place) (session_state_in (session_states_at w.session_states t) place) (local.residents (session_at w.plan w.here t place))

-- ---- what a step gives

-- the fact of the tenant at place t
abbrev pub fact_of : ℕ → OwnFact → Fact
fact_of t (Begun k op) = Began t k op
fact_of t (Numbered k number) = HasNumber t k number
fact_of t (Kept file copy) = IsKept (file_of t file) copy
fact_of t (Had file copy) = WasGiven (file_of t file) copy

-- the transfer of the tenant at place t, if there is one
abbrev pub transfer_of : ℕ → Transfer → CodeTransfer
transfer_of t (Wants to file) = CodeWants to (file_of t file)
transfer_of t (Brings to file copy) = CodeBrings to (file_of t file) copy

-- what is written is what the step of the tenant at place t gives
pub record Gives (t : ℕ) (doing : Doing) (out : Output) : Type 0 where
  pub answer : out.answer ≡ doing.answer
  pub letters : out.letters.items ≡ map (message_of t) doing.letters
  pub transfer : out.transfer ≡ option_map (transfer_of t) doing.transfer
  pub fact : out.fact ≡ option_map (fact_of t) doing.fact

-- the step of the tenant at place t leads from the old tables to the new, whatever part of the node the tables have for the
-- tenant; for all others they have what they had
pub record Leads (old : Tables) (t : ℕ) (step : Site → Local → Doing) (new : Tables) : Type 0 where
  pub plan : new.plan ≡ old.plan
  pub here : new.here ≡ old.here
  pub own : (local : Local) → Agrees old t local → Agrees new t (step (site_of old.plan old.here t) local).local
  pub others : (u : ℕ) → u ≢ t → (local : Local) → Agrees old u local → Agrees new u local

-- this is what the step gives, whatever part of the node the tables have for the tenant
abbrev pub GivesAt : Tables → ℕ → (Site → Local → Doing) → Output → Type 0
GivesAt old t step out = (local : Local) → Agrees old t local → Gives t (step (site_of old.plan old.here t) local) out

-- the step leads from the old tables to the new, and gives this
pub record Acts (old : Tables) (t : ℕ) (step : Site → Local → Doing) (out : Output) (new : Tables) : Type 0 where
  pub leads : Leads old t step new
  pub gives : GivesAt old t step out

-- each part goes on by the step, and nothing is given
pub record LeadsAll (old : Tables) (step : Site → Local → Doing) (new : Tables) : Type 0 where
  pub plan : new.plan ≡ old.plan
  pub here : new.here ≡ old.here
  pub parts : (t : ℕ) → t < length old.plan.rows → (local : Local) → Agrees old t local → Agrees new t (step (site_of old.plan old.here t) local).local

-- the tables have for the tenant some part of the node
pub record Stands (w : Tables) (t : ℕ) : Type 0 where
  pub local : Local
  pub agrees : Agrees w t local

-- they have one for each tenant
abbrev pub AllStand : Tables → Type 0
AllStand w = (t : ℕ) → t < length w.plan.rows → Stands w t

-- the tables, and whether memory ran out
pub record Whole : Type 0 where
  pub tables : Tables
  pub ended : Bool
