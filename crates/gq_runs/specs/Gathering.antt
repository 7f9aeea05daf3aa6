-- How the requests of sessions are gathered: each tenant's lines at first, then of these each session's.
use Rattle.std.specs.Prelude.{ℕ, ◌≡◌, ◌<◌, ◌==◌, List, [], Option, Some, None, length, slice_index_or, if◌then◌else◌}
use Rattle.std.specs.List.{filter_map}
use Rattle.gq_model.specs.declared.events.Event.{Event}
use Rattle.gq_model.specs.declared.events.Event.TheVariants.{Tenant}
use Rattle.gq_model.specs.declared.events.Line.{Line}
use Rattle.gq_session.specs.declared.fitting.SessionId.{SessionId}
use Rattle.gq_runs.specs.Programs.{names_session}

-- the line of the tenant that the event is, if it is one
abbrev pub line_for : ℕ → Event → Option Line
line_for t (Tenant tenant line) = if tenant == t then Some line else None
line_for t _ = None

abbrev pub list_at : List (List Line) → ℕ → List Line
list_at lists t = slice_index_or lists t []

-- there is a list for each of so many tenants, which has its lines in order
pub record AreByTenant (tenants : ℕ) (events : List Event) (lists : List (List Line)) : Type 0 where
  pub count : length lists ≡ tenants
  pub lines : (t : ℕ) → t < tenants → list_at lists t ≡ filter_map (line_for t) events

-- the request of the session that a line of its tenant is, if it is one
abbrev pub request_in : ℕ → Line → Option Line
request_in k line = if names_session k line then Some line else None

-- the requests of the session among its tenant's lines
abbrev pub requests_at : List (List Line) → SessionId → List Line
requests_at lists id = filter_map (request_in id.number) (list_at lists id.tenant)
