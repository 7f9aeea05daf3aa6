-- What the tables become where a server is lost, and where it is repaired.
use Rattle.std.specs.Prelude.{◌≡◌, ◌≢◌, ℕ, ◌*◌, ◌<◌, true}
use Rattle.gq_grid.specs.Grid.{with_server, without_server}
use Rattle.gq_grid.specs.Sets.{servers}
use Rattle.gq_tag.specs.declared.FileId.{FileId}
use Rattle.gq_tag.specs.Tag.{first_copy}
use Rattle.gq_store.specs.Copies.{store_accounts, copy_at}
use Rattle.gq_model.specs.declared.events.ServerLine.TheVariants.{Repaired as ServerRepaired}
use Rattle.gq_model.specs.Told.{Repaired}
use Rattle.gq_model.specs.Lone.{server_told}
use Rattle.gq_world.specs.Tables.{Tables, store_at, session_states_at, session_state_in, up_in, gone_in}
use Rattle.gq_world.specs.SessionStates.{left_session_state}

-- the server is down and lost, its copies are first ones, and each session that counts on it has given its operation up
pub record Loses (old : Tables) (n : ℕ) (new : Tables) : Type 0 where
  pub new_is : new ≡ record old { up = new.up; kept = new.kept; stores = new.stores; session_states = new.session_states }
  pub up : servers new.up ≡ without_server n (servers old.up)
  pub kept : servers new.kept ≡ without_server n (servers old.kept)
  pub lost : (file : FileId) → copy_at (store_at new.stores n) file ≡ first_copy
  pub accounts : store_accounts (store_at new.stores n) ≡ store_accounts (store_at old.stores n)
  pub others : (s : ℕ) → s ≢ n → store_at new.stores s ≡ store_at old.stores s
  pub session_states : (t place : ℕ) → session_state_in (session_states_at new.session_states t) place ≡ left_session_state n (session_state_in (session_states_at old.session_states t) place)

-- the server is up and not lost, and its store is equal to its peer's
pub record Repairs (old : Tables) (n peer : ℕ) (new : Tables) : Type 0 where
  pub new_is : new ≡ record old { up = new.up; kept = new.kept; stores = new.stores }
  pub up : servers new.up ≡ with_server n (servers old.up)
  pub kept : servers new.kept ≡ with_server n (servers old.kept)
  pub given : store_at new.stores n ≡ store_at old.stores peer
  pub others : (s : ℕ) → s ≢ n → store_at new.stores s ≡ store_at old.stores s

-- the server is lost, and this is the peer that gives it its copies
pub record HasPeer (w : Tables) (n peer : ℕ) : Type 0 where
  pub server : n < w.plan.grid.rows * w.plan.grid.cols
  pub lost : gone_in w.plan.grid w.kept n ≡ true
  pub within : peer < w.plan.grid.rows * w.plan.grid.cols
  pub up : up_in w.plan.grid w.up peer ≡ true
  pub apart : peer ≢ n
  pub told : server_told w.plan.grid (up_in w.plan.grid w.up) (gone_in w.plan.grid w.kept) (ServerRepaired n) ≡ Repaired peer
