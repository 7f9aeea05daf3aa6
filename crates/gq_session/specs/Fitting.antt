-- When programs fit a plan.
use Rattle.std.specs.Prelude.{ℕ, zero, suc, ◌≡◌, ◌+◌, ◌*◌, ◌<◌, ◌≤◌, List, [], ◌∷◌, ◌++◌, Bool, true, false, nat_lt, All, length, slice_index_or}
use Rattle.gq_grid.specs.Grid.{Grid}
use Rattle.gq_desk.specs.CheckedPlan.{CheckedPlan, row_at}
use Rattle.gq_model.specs.declared.events.Line.{Line}
use Rattle.gq_model.specs.declared.events.Line.TheVariants.{Write, Read, List as ListFiles}
use Rattle.gq_model.specs.declared.events.ServerLine.{ServerLine}
use Rattle.gq_model.specs.declared.events.ServerLine.TheVariants.{Bad, Down, Up, Lost, Repaired}
use Rattle.gq_model.specs.Events.{IsRequestOf}
use Rattle.gq_session.specs.declared.TheConstants.{MOST_REQUESTS}
use Rattle.gq_session.specs.declared.fitting.SessionId.{SessionId}
use Rattle.gq_session.specs.declared.records.Opening.{Opening}
use Rattle.gq_session.specs.declared.records.Programs.{Programs}

-- a write, a read or a listing
abbrev pub is_request : Line → Bool
is_request (Write session volume file bytes) = true
is_request (Read session volume file) = true
is_request (ListFiles session volume) = true
is_request _ = false

abbrev pub IsRequest : Line → Type 0
IsRequest line = is_request line ≡ true

-- a stop or a return of a server of the grid
abbrev pub is_change : Grid → ServerLine → Bool
is_change grid Bad = false
is_change grid (Lost server) = false
is_change grid (Repaired server) = false
is_change grid (Down server) = nat_lt server (grid.rows * grid.cols)
is_change grid (Up server) = nat_lt server (grid.rows * grid.cols)

abbrev pub IsChange : Grid → ServerLine → Type 0
IsChange grid line = is_change grid line ≡ true

-- ---- the sessions of a plan

-- so many sessions of the tenant, numbered from 1
abbrev pub numbered : ℕ → ℕ → List SessionId
numbered tenant zero = []
numbered tenant (suc n) = numbered tenant n ++ record { tenant = tenant; number = n + 1 } ∷ []

-- the sessions of the first tenants of the plan, those of the first tenant first
abbrev pub sessions_below : CheckedPlan → ℕ → List SessionId
sessions_below plan zero = []
sessions_below plan (suc tenant) = sessions_below plan tenant ++ numbered tenant (row_at plan tenant).sessions

-- all sessions of the plan, in the order of the lists in programs and records
abbrev pub plan_sessions : CheckedPlan → List SessionId
plan_sessions plan = sessions_below plan (length plan.rows)

-- ---- programs

-- the session at a place, where there is one
abbrev pub id_at : List SessionId → ℕ → SessionId
id_at ids place = slice_index_or ids place (record { tenant = 0; number = 0 })

-- the list at the place has at most so many requests, all of the session at that place
abbrev pub HasRequests : List SessionId → List (List Line) → ℕ → Type 0
HasRequests ids lists place =
    All (IsRequestOf (id_at ids place).number) (slice_index_or lists place []) × (length (slice_index_or lists place []) ≤ MOST_REQUESTS)

-- each volume is of one of so many tenants
abbrev pub IsTenants : ℕ → List Opening → Type 0
IsTenants tenants volumes = All (λ (opening : Opening). opening.tenant < tenants) volumes

-- there is one list for each session of the plan, of requests that name that session; each volume is of a tenant of the
-- plan; each change stops a server of the grid or brings it back
pub record FitsPlan (plan : CheckedPlan) (programs : Programs) : Type 0 where
  pub count : length programs.sessions.items ≡ length (plan_sessions plan)
  pub requests : (place : ℕ) → place < length programs.sessions.items → HasRequests (plan_sessions plan) programs.sessions.items place
  pub tenants : IsTenants (length plan.rows) programs.volumes.items
  pub changes : All (IsChange plan.grid) programs.changes.items
