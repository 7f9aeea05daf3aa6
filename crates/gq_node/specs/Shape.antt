-- What holds of a node's tables whatever happened, and tables in which nothing has happened.
use Rattle.std.specs.Prelude.{◌≡◌, ℕ, ◌*◌, ◌<◌, ◌≤◌, [], true, false, length, map, replicate, slice_index_or}
use Rattle.gq_grid.specs.declared.TheConstants.{MOST_SERVERS}
use Rattle.gq_desk.specs.CheckedPlan.{CheckedPlan, row_at}
use Rattle.gq_desk.specs.declared.limits.TheConstants.{MOST_SESSIONS, MOST_VOLUMES}
use Rattle.gq_desk.specs.Volumes.{account_at, new_account}
use Rattle.gq_grid.specs.Grid.{no_servers}
use Rattle.gq_grid.specs.Sets.{servers}
use Rattle.gq_tag.specs.Tag.{File, file_of, first_copy}
use Rattle.gq_store.specs.Copies.{empty_store, store_accounts, copy_at}
use Rattle.gq_replace.specs.Plans.{times, place_of}
use Rattle.gq_node.specs.declared.lost.TheConstants.{MOST_TIMES}
use Rattle.gq_node.specs.Sites.{Here, plan_in}
use Rattle.gq_node.specs.Lacks.{marks_for}
use Rattle.gq_node.specs.Tables.{Tables, session_states_at, first_session_state, given_at, lacks_at, peer_at, is_new_node}

-- the node's place is one of the grid's, and so many nodes may have been lost at each; the desk and the store have the same volumes, of each
-- tenant at most the most; a node that is no new one lacks no
-- file, and of files that it lacks the server has the first copy; each file of a volume that was lost is marked; who was asked last is one of the grid's; there is a session for
-- each of the plan
pub record IsShaped (w : Tables) : Type 0 where
  pub place : place_of w.here.node < w.plan.grid.rows * w.plan.grid.cols
  pub few : (place : ℕ) → times (plan_in w.here.lost) place ≤ MOST_TIMES
  pub grid : w.plan.grid.rows * w.plan.grid.cols ≤ MOST_SERVERS
  pub desk : length w.desk ≡ length w.plan.rows
  pub accounts : store_accounts w.store ≡ w.desk
  pub volumes : (t : ℕ) → length (account_at w.desk t).volumes ≤ MOST_VOLUMES
  pub given : length w.given ≡ length w.plan.rows
  pub whole : is_new_node w ≡ false → (t : ℕ) (file : File) → lacks_at w t file ≡ false
  pub bare : (t : ℕ) (file : File) → lacks_at w t file ≡ true → copy_at w.store (file_of t file) ≡ first_copy
  pub few_given : (t : ℕ) → length (given_at w t) ≤ MOST_VOLUMES
  pub marks : (t v : ℕ) → v < length (given_at w t) → marks_for (account_at w.desk t).volumes v ≤ length (slice_index_or (given_at w t) v [])
  pub peers : length w.peers ≡ length w.plan.rows
  pub grid_peers : (t : ℕ) → t < length w.plan.rows → peer_at w t < w.plan.grid.rows * w.plan.grid.cols
  pub tenants : length w.session_states ≡ length w.plan.rows
  pub session_states : (t : ℕ) → t < length w.plan.rows → length (session_states_at w.session_states t) ≡ (row_at w.plan t).sessions
  pub sessions : (t : ℕ) → t < length w.plan.rows → (row_at w.plan t).sessions ≤ MOST_SESSIONS

-- each tenant has at most the most sessions that a plan may give
abbrev pub FewSessions : CheckedPlan → Type 0
FewSessions plan = (t : ℕ) → t < length plan.rows → (row_at plan t).sessions ≤ MOST_SESSIONS

-- tables in which nothing has happened
pub record IsFirst (plan : CheckedPlan) (here : Here) (w : Tables) : Type 0 where
  pub plan_is : w.plan ≡ plan
  pub here_is : w.here ≡ here
  pub desk : w.desk ≡ map new_account plan.rows
  pub store : w.store ≡ empty_store plan
  pub given : w.given ≡ map (λ row. []) plan.rows
  pub joined : servers w.joined ≡ no_servers
  pub peers : w.peers ≡ map (λ row. place_of here.node) plan.rows
  pub session_states : w.session_states ≡ map (λ row. replicate row.sessions (first_session_state plan.grid (place_of here.node))) plan.rows
