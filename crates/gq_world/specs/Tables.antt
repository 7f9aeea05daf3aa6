-- What a contract sees of the tables of all tenants, and what a tenant's part of them answers to the questions.
use Rattle.std.specs.Prelude.{◌≡◌, ℕ, ◌+◌, ◌*◌, ◌<◌, ◌≤◌, List, [], true, false, not, ◌&&◌, Option, Some, None, IsSome, All, nat_lt, length, slice_get, unwrap_or, slice_index_or, option_map, if◌then◌else◌}
use Rattle.gq_grid.specs.Grid.{Grid, Servers}
use Rattle.gq_grid.specs.Sets.{no_set, servers}
use Rattle.gq_grid.specs.declared.ServerSet.{ServerSet}
use Rattle.gq_grid.specs.declared.TheConstants.{MOST_SERVERS}
use Rattle.gq_tag.specs.Tag.{File, file_of, message_of}
use Rattle.gq_desk.specs.CheckedPlan.{CheckedPlan, row_at}
use Rattle.gq_desk.specs.Volumes.{Account, account_at}
use Rattle.gq_desk.specs.declared.limits.TheConstants.{MOST_SESSIONS}
use Rattle.gq_post.specs.Channels.{Channel, channel_at, message_at}
use Rattle.gq_phase.specs.Phase.{Operation}
use Rattle.gq_phase.specs.Standing.{StandsFor}
use Rattle.gq_phase.specs.declared.operation.Operation.{Operation as Code}
use Rattle.gq_store.specs.Copies.{StoreCopies, store_accounts, copy_at}
use Rattle.gq_model.specs.declared.events.Event.{Event}
use Rattle.gq_model.specs.Trace.{State, Known, asked, account_of, own_message_at, held, operation, counts_on, up as up_of, gone as gone_of}
use Rattle.gq_model.specs.Events.{past_at, server_past}
use Rattle.gq_world.specs.declared.sessions.SessionState.{SessionState}
use Rattle.gq_world.specs.Bounds.{IsBounded}

-- the plan, the servers that are up, those that are not lost, how many steps of each tenant are taken, the tenants' volumes and messages, the
-- servers' copies, and the tenants' sessions
pub record Tables : Type 0 where
  pub plan : CheckedPlan
  pub up : ServerSet
  pub kept : ServerSet
  pub lines : List ℕ
  pub desk : List Account
  pub channels : List Channel
  pub stores : List StoreCopies
  pub session_states : List (List SessionState)

-- the servers of the grid that are in the set, and every number that is no server
abbrev pub up_in : Grid → ServerSet → Servers
up_in grid set server = if nat_lt server (grid.rows * grid.cols) then servers set server else true

-- the servers of the grid that are lost, where these are not
abbrev pub gone_in : Grid → ServerSet → Servers
gone_in grid kept server = nat_lt server (grid.rows * grid.cols) && not (servers kept server)

-- how many steps of the tenant at place t are taken
abbrev pub taken_at : Tables → ℕ → ℕ
taken_at w t = unwrap_or (slice_get w.lines t) 0

-- the store of a server, and a session that began nothing
abbrev pub no_store : StoreCopies
no_store = record { blocks = 0; tenants = [] }

abbrev pub store_at : List StoreCopies → ℕ → StoreCopies
store_at stores server = slice_index_or stores server no_store

abbrev pub no_session_state : SessionState
no_session_state = record { op = 0; floor = 0; operation = None; answered = no_set }

-- the sessions of the tenant at place t, and the one at a place of them, which is the session of one more
abbrev pub session_states_at : List (List SessionState) → ℕ → List SessionState
session_states_at session_states t = slice_index_or session_states t []

abbrev pub session_state_in : List SessionState → ℕ → SessionState
session_state_in session_states place = slice_index_or session_states place no_session_state

-- ---- what the tables have for a tenant

-- a session has the operation that is known of it, and without one its own last number
abbrev pub Sits : Grid → ℕ → ℕ → Option Code → ℕ → Option Operation → Type 0
Sits grid t floor None last None = floor ≡ last
Sits grid t floor None last (Some o) = ⊥
Sits grid t floor (Some code) last None = ⊥
Sits grid t floor (Some code) last (Some o) = StandsFor grid t code o

-- and while it has one, the servers that sent a reply of its operation and round
pub record SessionStateAgrees (grid : Grid) (t k : ℕ) (session_state : SessionState) (state : State) : Type 0 where
  pub op : session_state.op ≡ (state.session k).op
  pub answered : IsSome session_state.operation → (server : ℕ) → servers session_state.answered server ≡ counts_on state.sent k (state.session k) server
  pub sits : Sits grid t session_state.floor session_state.operation (state.session k).floor (operation state k)

-- the tables have for the tenant at place t what is known of its run; a server lacks a file exactly where it is lost, and is down then
pub record Agrees (w : Tables) (t : ℕ) (known : Known) : Type 0 where
  pub lines : taken_at w t ≡ known.lines
  pub up : up_in w.plan.grid w.up ≡ known.state.up
  pub gone : gone_in w.plan.grid w.kept ≡ known.state.gone
  pub account : account_at w.desk t ≡ account_of (row_at w.plan t) known.state
  pub sent : length (channel_at w.channels t) ≡ length known.state.sent
  pub lost : (n : ℕ) → length known.state.sent ≤ n → known.state.is_lost n ≡ false
  pub messages : (n : ℕ) → message_at (channel_at w.channels t) n ≡ option_map (message_of t) (own_message_at known.state n)
  pub accounts : (s : ℕ) → s < w.plan.grid.rows * w.plan.grid.cols → account_at (store_accounts (store_at w.stores s)) t ≡ account_at w.desk t
  pub copies : (s : ℕ) → s < w.plan.grid.rows * w.plan.grid.cols → (file : File) → copy_at (store_at w.stores s) (file_of t file) ≡ held known.state s file
  pub lacking : (s : ℕ) (file : File) → known.state.lacks s file ≡ known.state.gone s
  pub down : (s : ℕ) → known.state.gone s ≡ true → known.state.up s ≡ false
  pub session_states : (place : ℕ) → place < (row_at w.plan t).sessions → SessionStateAgrees w.plan.grid t (place + 1) (session_state_in (session_states_at w.session_states t) place) known.state

-- the tables have what the events leave: for each tenant those that it sees, and for the servers the server lines
pub record Stands (w : Tables) (events : List Event) : Type 0 where
  pub tenants : (t : ℕ) → t < length w.plan.rows → Agrees w t (asked (row_at w.plan t) (past_at w.plan t events))
  pub servers : up_in w.plan.grid w.up ≡ up_of (server_past w.plan events).trace
  pub gone : gone_in w.plan.grid w.kept ≡ gone_of (server_past w.plan events).trace

-- ---- the invariant

-- a store of a server of the plan: its blocks, and an account for each tenant
pub record IsOfPlan (plan : CheckedPlan) (store : StoreCopies) : Type 0 where
  pub blocks : store.blocks ≡ plan.blocks
  pub tenants : length (store_accounts store) ≡ length plan.rows

-- there is one of everything for each tenant, server and session, whatever happened
pub record IsShaped (w : Tables) : Type 0 where
  pub lines : length w.lines ≡ length w.plan.rows
  pub desk : length w.desk ≡ length w.plan.rows
  pub channels : length w.channels ≡ length w.plan.rows
  pub servers : length w.stores ≡ w.plan.grid.rows * w.plan.grid.cols
  pub stores : All (IsOfPlan w.plan) w.stores
  pub tenants : length w.session_states ≡ length w.plan.rows
  pub session_states : (t : ℕ) → t < length w.plan.rows → length (session_states_at w.session_states t) ≡ (row_at w.plan t).sessions
  pub sessions : (t : ℕ) → t < length w.plan.rows → (row_at w.plan t).sessions ≤ MOST_SESSIONS
  pub grid : w.plan.grid.rows * w.plan.grid.cols ≤ MOST_SERVERS

-- the tables have for the tenant something that can be known of its run, with its numbers at most the steps taken
pub record IsKnown (w : Tables) (t : ℕ) : Type 0 where
  pub known : Known
  pub agrees : Agrees w t known
  pub bounded : IsBounded w.plan.grid (row_at w.plan t) known.lines known.state

-- the same where the tenant's step is taken and its line has not acted yet: one number is left
pub record IsReady (w : Tables) (t : ℕ) : Type 0 where
  pub known : Known
  pub agrees : Agrees w t known
  pub before : ℕ
  pub taken : known.lines ≡ before + 1
  pub few : known.lines < 4294967296
  pub bounded : IsBounded w.plan.grid (row_at w.plan t) before known.state
