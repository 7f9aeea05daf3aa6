-- Why the tables refuse a request, and what they are once it began.
use Rattle.std.specs.Prelude.{ℕ, ◌+◌, ◌-◌, List, [], ◌∷◌, ◌++◌, Option, Some, None, not, nat_lt, is_some, is_none, unwrap_or, length, slice_set}
use Rattle.gq_grid.specs.Sets.{no_set}
use Rattle.gq_tag.specs.declared.Message.{Message}
use Rattle.gq_tag.specs.Tag.{file_of}
use Rattle.gq_desk.specs.CheckedPlan.{row_at}
use Rattle.gq_desk.specs.Plans.{is_in}
use Rattle.gq_desk.specs.Volumes.{account_at, limit_of}
use Rattle.gq_phase.specs.declared.operation.Operation.{Operation as Code}
use Rattle.gq_phase.specs.Standing.{last_number}
use Rattle.gq_model.specs.declared.events.Refusal.TheVariants.{NoSession, Busy, Idle, NoVolume, NoFile, TooLong}
use Rattle.gq_model.specs.Lone.{Cause}
use Rattle.gq_world.specs.declared.sessions.SessionState.{SessionState}
use Rattle.gq_world.specs.Tables.{Tables, session_states_at, session_state_in}
use Rattle.gq_world.specs.Saying.{with_sent}

-- the causes why a line of session k is refused, the choice of a quorum apart, in their order: one that wants no operation
-- there, and names a volume, or a file, or a content for it; and one that wants an operation there
abbrev pub volume_causes : Tables → ℕ → ℕ → ℕ → List Cause
volume_causes w t k v =
    (not (is_in 1 (row_at w.plan t).sessions k), NoSession)
    ∷ (is_some (session_state_in (session_states_at w.session_states t) (k - 1)).operation, Busy)
    ∷ (not (nat_lt v (length (account_at w.desk t).volumes)), NoVolume)
    ∷ []

abbrev pub table_limit : Tables → ℕ → ℕ → ℕ → Option ℕ
table_limit w t v f = limit_of w.desk (file_of t (record { volume = v; place = f }))

abbrev pub file_causes : Tables → ℕ → ℕ → ℕ → ℕ → List Cause
file_causes w t k v f = volume_causes w t k v ++ (is_none (table_limit w t v f), NoFile) ∷ []

abbrev pub write_causes : Tables → ℕ → ℕ → ℕ → ℕ → List ℕ → List Cause
write_causes w t k v f bytes = file_causes w t k v f ++ (nat_lt (unwrap_or (table_limit w t v f) 0) (length bytes), TooLong) ∷ []

abbrev pub idle_causes : Tables → ℕ → ℕ → List Cause
idle_causes w t k =
    (not (is_in 1 (row_at w.plan t).sessions k), NoSession)
    ∷ (is_none (session_state_in (session_states_at w.session_states t) (k - 1)).operation, Idle)
    ∷ []

-- the session state with one operation more
abbrev pub busy_session_state : SessionState → Code → SessionState
busy_session_state session_state code = record { op = session_state.op + 1; floor = session_state.floor; operation = Some code; answered = no_set }

-- the session state without its operation, whose last number it keeps
abbrev pub rested_session_state : SessionState → SessionState
rested_session_state session_state = record { op = session_state.op; floor = last_number session_state.floor session_state.operation; operation = None; answered = session_state.answered }

-- the tables in which the session at the place has given its operation up
abbrev pub rested_tables : Tables → ℕ → ℕ → Tables
rested_tables w t place = record w { session_states = slice_set w.session_states t (slice_set (session_states_at w.session_states t) place (rested_session_state (session_state_in (session_states_at w.session_states t) place))) }

-- the tables in which the session at the place has begun the operation, with these messages
abbrev pub begun_tables : Tables → ℕ → ℕ → Code → List Message → Tables
begun_tables w t place code messages = record w {
  channels = with_sent w.channels t messages;
  session_states = slice_set w.session_states t (slice_set (session_states_at w.session_states t) place (busy_session_state (session_state_in (session_states_at w.session_states t) place) code));
}
