-- How much a node holds, counted.
use Rattle.std.specs.Prelude.{◌≡◌, ℕ, ◌*◌, ◌-◌, ◌<◌, ◌≤◌, is_some, length}
use Rattle.std.specs.List.{sum_by, count_by}
use Rattle.gq_desk.specs.CheckedPlan.{row_at}
use Rattle.gq_desk.specs.declared.limits.TheConstants.{MOST_VOLUMES}
use Rattle.gq_desk.specs.Volumes.{account_at}
use Rattle.gq_tag.specs.declared.TheConstants.{BLOCK_BYTES}
use Rattle.gq_store.specs.Copies.{VolumeCopies, tenant_in, blocks_free}
use Rattle.gq_tag.specs.declared.TheConstants.{MOST_FILES}
use Rattle.gq_node.specs.declared.session_states.SessionState.{SessionState}
use Rattle.gq_node.specs.Tables.{Tables, given_at, session_states_at}

-- of the tenant at place t: the files of its open volumes, and the copies that the server has of them
abbrev pub files_open : Tables → ℕ → ℕ
files_open w t = sum_by (λ v. v.files) (account_at w.desk t).volumes

abbrev pub copies_held : Tables → ℕ → ℕ
copies_held w t = sum_by (λ (v : VolumeCopies). length v.copies) (tenant_in w.store.tenants t).volumes

-- its sessions that have an operation, and those of whose last operation an outcome is known
abbrev pub operations_held : Tables → ℕ → ℕ
operations_held w t = count_by (λ (session_state : SessionState). is_some session_state.operation) (session_states_at w.session_states t)

abbrev pub outcomes_held : Tables → ℕ → ℕ
outcomes_held w t = count_by (λ (session_state : SessionState). is_some session_state.outcome) (session_states_at w.session_states t)

-- the volumes that it lost with the node that stood here before, and the marks, which of their files the server was given
abbrev pub volumes_lost : Tables → ℕ → ℕ
volumes_lost w t = length (given_at w t)

abbrev pub marks_held : Tables → ℕ → ℕ
marks_held w t = sum_by length (given_at w t)

-- the bytes of the server's blocks that are not free
abbrev pub content_bytes : Tables → ℕ
content_bytes w = BLOCK_BYTES * (w.plan.blocks - blocks_free w.store)

-- There are tables for the plan's tenants and no others; for each of them no more volumes than it may have, one copy of each file, at
-- most one operation and one outcome for each of its sessions, one place whose node was asked last for a file, and for each of its lost volumes,
-- which are no more than it may have, no more marks than a volume may have files.
pub record IsBounded (w : Tables) : Type 0 where
  pub copied : length w.store.tenants ≡ length w.plan.rows
  pub seated : length w.session_states ≡ length w.plan.rows
  pub marked : length w.given ≡ length w.plan.rows
  pub asked : length w.peers ≡ length w.plan.rows
  pub volumes : (t : ℕ) → length (account_at w.desk t).volumes ≤ MOST_VOLUMES
  pub copies : (t : ℕ) → copies_held w t ≡ files_open w t
  pub operations : (t : ℕ) → t < length w.plan.rows → operations_held w t ≤ (row_at w.plan t).sessions
  pub outcomes : (t : ℕ) → t < length w.plan.rows → outcomes_held w t ≤ (row_at w.plan t).sessions
  pub lost : (t : ℕ) → volumes_lost w t ≤ MOST_VOLUMES
  pub marks : (t : ℕ) → marks_held w t ≤ volumes_lost w t * MOST_FILES
