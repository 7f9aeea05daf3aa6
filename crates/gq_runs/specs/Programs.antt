-- What the lines of an input are as programs of a live run, and the first of them that is at fault.
use Rattle.std.specs.Prelude.{◌≡◌, ℕ, ◌+◌, List, [], ◌∷◌, Bool, true, false, ◌&&◌, ◌==◌, Option, Some, None, Ok, Err, length, map, slice_set, if◌then◌else◌}
use Rattle.std.specs.List.{filter_map}
use Rattle.std.specs.Option.{option_or}
use Rattle.gq_desk.specs.CheckedPlan.{CheckedPlan, row_at}
use Rattle.gq_desk.specs.Plans.{is_in}
use Rattle.gq_desk.specs.Volumes.{Account, OpenFault, open_fault, account_at, with_volume, new_account}
use Rattle.gq_desk.specs.declared.limits.TheConstants.{MOST_STEPS}
use Rattle.gq_desk.specs.declared.plans.TenantRow.{TenantRow}
use Rattle.gq_model.specs.declared.events.Event.{Event}
use Rattle.gq_model.specs.declared.events.Event.TheVariants.{Tenant, Server, Stray}
use Rattle.gq_model.specs.declared.events.Line.{Line}
use Rattle.gq_model.specs.declared.events.Line.TheVariants.{NewVolume, Write, Read, List as ListFiles}
use Rattle.gq_model.specs.declared.events.ServerLine.{ServerLine}
use Rattle.gq_session.specs.Fitting.{is_change, plan_sessions}
use Rattle.gq_session.specs.declared.fitting.SessionId.{SessionId}
use Rattle.gq_session.specs.declared.records.Opening.{Opening}
use Rattle.gq_session.specs.declared.records.Programs.{Programs}
use Rattle.gq_lines.specs.Lines.{lines_of}
use Rattle.gq_text.specs.Input.{event_of}
use Rattle.gq_text.specs.PlanText.{Reading, plan_of}
use Rattle.gq_runs.specs.declared.programs.ProgramFault.{ProgramFault}
use Rattle.gq_runs.specs.declared.programs.ProgramFault.TheVariants.{Plan as PlanFault, Steps, Line as LineFault, Refused}

-- the volume that a line of the tenant opens, if it opens one
abbrev pub opening_in : ℕ → Line → Option Opening
opening_in tenant (NewVolume files blocks) = Some (record { tenant = tenant; files = files; blocks = blocks })
opening_in tenant _ = None

abbrev pub opening_of : Event → Option Opening
opening_of (Tenant tenant line) = opening_in tenant line
opening_of _ = None

-- the server line that the event is, if it is one
abbrev pub server_line_in : Event → Option ServerLine
server_line_in (Server line) = Some line
server_line_in _ = None

-- a write, a read or a listing of the session
abbrev pub names_session : ℕ → Line → Bool
names_session k (Write session volume file bytes) = session == k
names_session k (Read session volume file) = session == k
names_session k (ListFiles session volume) = session == k
names_session k _ = false

-- the request of the session that the event is, if it is one
abbrev pub request_for : SessionId → Event → Option Line
request_for id (Tenant tenant line) = if tenant == id.tenant && names_session id.number line then Some line else None
request_for id _ = None

-- the requests of a session, in order
abbrev pub requests_for : List Event → SessionId → List Line
requests_for events id = filter_map (request_for id) events

-- ---- faults

-- the fault, unless the test holds
abbrev pub fault_unless : Bool → ProgramFault → Option ProgramFault
fault_unless true fault = None
fault_unless false fault = Some fault

-- that line n is refused, if the volume can't be opened
abbrev pub refused_at : ℕ → Option OpenFault → Option ProgramFault
refused_at n None = None
refused_at n (Some fault) = Some (Refused n)

-- the fault of line n of the tenant, where the desk is so: only an open, a write, a read and a listing may stand there,
-- of which the desk has to take the first, and the others have to name a session of the tenant
abbrev pub tenant_fault : CheckedPlan → List Account → ℕ → ℕ → Line → Option ProgramFault
tenant_fault plan desk n tenant (NewVolume files blocks) = refused_at n (open_fault (account_at desk tenant) (record { files = files; blocks = blocks }))
tenant_fault plan desk n tenant (Write session volume file bytes) = fault_unless (is_in 1 (row_at plan tenant).sessions session) (LineFault n)
tenant_fault plan desk n tenant (Read session volume file) = fault_unless (is_in 1 (row_at plan tenant).sessions session) (LineFault n)
tenant_fault plan desk n tenant (ListFiles session volume) = fault_unless (is_in 1 (row_at plan tenant).sessions session) (LineFault n)
tenant_fault plan desk n tenant _ = Some (LineFault n)

-- the fault of line n; a server line has to stop a server of the grid or bring it back
abbrev pub line_fault : CheckedPlan → List Account → ℕ → Event → Option ProgramFault
line_fault plan desk n (Tenant tenant line) = tenant_fault plan desk n tenant line
line_fault plan desk n (Server line) = fault_unless (is_change plan.grid line) (LineFault n)
line_fault plan desk n Stray = Some (LineFault n)

-- the desk after a line of the tenant that is not at fault
abbrev pub desk_with_line : List Account → ℕ → Line → List Account
desk_with_line desk tenant (NewVolume files blocks) = slice_set desk tenant (with_volume (record { files = files; blocks = blocks }) (account_at desk tenant))
desk_with_line desk tenant _ = desk

abbrev pub desk_after : List Account → Event → List Account
desk_after desk (Tenant tenant line) = desk_with_line desk tenant line
desk_after desk _ = desk

-- the first fault of the events, of which the first is line n
abbrev pub first_fault : CheckedPlan → List Account → ℕ → List Event → Option ProgramFault
first_fault plan desk n [] = None
first_fault plan desk n (event ∷ events) = option_or (line_fault plan desk n event) (first_fault plan (desk_after desk event) (n + 1) events)

-- the first of the rows, of which the first is in line n, whose steps are not all that a tenant may have
abbrev pub steps_fault : ℕ → List TenantRow → Option ProgramFault
steps_fault n [] = None
steps_fault n (row ∷ rows) = if row.steps == MOST_STEPS then steps_fault (n + 1) rows else Some (Steps n)

-- a desk on which no volume is open
abbrev pub new_desk : CheckedPlan → List Account
new_desk plan = map new_account plan.rows

-- the first fault of the events behind a plan, whose rows begin in line 3 and are followed by `go`
abbrev pub events_fault : CheckedPlan → List Event → Option ProgramFault
events_fault plan events = option_or (steps_fault 3 plan.rows) (first_fault plan (new_desk plan) (4 + length plan.rows) events)

-- the first fault of an input
abbrev pub fault_of : Reading (CheckedPlan × List (List ℕ)) → Option ProgramFault
fault_of (Ok read) = events_fault read.0 (map (event_of read.0) read.1)
fault_of (Err fault) = Some (PlanFault fault.0 fault.1)

-- ---- programs

-- the volumes, the requests of each session and the server lines are those of the events, in order
pub record AreOf (plan : CheckedPlan) (events : List Event) (programs : Programs) : Type 0 where
  pub volumes : programs.volumes.items ≡ filter_map opening_of events
  pub sessions : programs.sessions.items ≡ map (requests_for events) (plan_sessions plan)
  pub changes : programs.changes.items ≡ filter_map server_line_in events

-- the input has this plan, and the programs are those of its lines behind the plan
pub record IsProgramsOf (input : List ℕ) (plan : CheckedPlan) (programs : Programs) : Type 0 where
  pub lines : List (List ℕ)
  pub reads : plan_of (lines_of input) ≡ Ok (plan, lines)
  pub are : AreOf plan (map (event_of plan) lines) programs
