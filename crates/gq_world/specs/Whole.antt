-- What a contract sees of a world, and its invariant.
use Rattle.std.specs.Prelude.{◌≡◌, ℕ, ◌<◌, ◌≤◌, ◌*◌, [], Bool, length, map, replicate}
use Rattle.gq_grid.specs.Grid.{all_servers}
use Rattle.gq_grid.specs.Sets.{servers}
use Rattle.gq_desk.specs.CheckedPlan.{CheckedPlan, row_at}
use Rattle.gq_desk.specs.declared.limits.TheConstants.{MOST_SESSIONS}
use Rattle.gq_desk.specs.Volumes.{new_account}
use Rattle.gq_store.specs.Copies.{empty_store}
use Rattle.gq_world.specs.Tables.{Tables, IsKnown, no_session_state}

-- the tables, and whether memory ran out
pub record Whole : Type 0 where
  pub tables : Tables
  pub ended : Bool

-- for each tenant there is something that can be known of its run which the tables have
abbrev pub AllSound : Tables → Type 0
AllSound w = (t : ℕ) → t < length w.plan.rows → IsKnown w t

-- each tenant has at most the most sessions that a plan may give
abbrev pub FewSessions : CheckedPlan → Type 0
FewSessions plan = (t : ℕ) → t < length plan.rows → (row_at plan t).sessions ≤ MOST_SESSIONS

-- tables in which nothing has happened
pub record IsFirst (plan : CheckedPlan) (w : Tables) : Type 0 where
  pub plan_is : w.plan ≡ plan
  pub up : servers w.up ≡ all_servers plan.grid
  pub kept : servers w.kept ≡ all_servers plan.grid
  pub lines : w.lines ≡ replicate (length plan.rows) 0
  pub desk : w.desk ≡ map new_account plan.rows
  pub channels : w.channels ≡ replicate (length plan.rows) []
  pub stores : w.stores ≡ replicate (plan.grid.rows * plan.grid.cols) (empty_store plan)
  pub session_states : w.session_states ≡ map (λ row. replicate row.sessions no_session_state) plan.rows
