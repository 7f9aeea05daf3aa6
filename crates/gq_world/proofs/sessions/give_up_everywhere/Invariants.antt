-- The tenants' sessions so far may have given up, and the others are as they were.
use Rattle.std.proofs.Common.{◌≡◌, ℕ, ◌<◌, ◌≤◌, length}
use Rattle.gq_world.specs.Tables.{session_states_at, session_state_in}
use Rattle.gq_world.specs.SessionStates.{left_session_state}
use Rattle.gq_world.proofs.sessions.give_up_everywhere.Given as goal

abbrev pub invariant-loop-tenant : goal.invariant-loop-tenant
invariant-loop-tenant l = record {
  count : length l.session_states.items ≡ length l.initial.session_states.items;
  left : (t : ℕ) → t < l.tenant → (p : ℕ) → session_state_in (session_states_at l.session_states.items t) p ≡ left_session_state l.server (session_state_in (session_states_at l.initial.session_states.items t) p);
  rest : (t : ℕ) → l.tenant ≤ t → session_states_at l.session_states.items t ≡ session_states_at l.initial.session_states.items t;
  places : (t : ℕ) → length (session_states_at l.session_states.items t) ≡ length (session_states_at l.initial.session_states.items t);
}
