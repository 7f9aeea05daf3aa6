-- The sessions so far may have given up, and the others are as they were.
use Rattle.std.proofs.Common.{◌≡◌, ℕ, ◌<◌, ◌≤◌, length}
use Rattle.gq_world.specs.Tables.{session_state_in}
use Rattle.gq_world.specs.SessionStates.{left_session_state}
use Rattle.gq_world.proofs.sessions.SessionStates.give_up.Given as goal

abbrev pub invariant-loop-place : goal.invariant-loop-place
invariant-loop-place l = record {
  count : length l.self ≡ length l.initial.self;
  left : (p : ℕ) → p < l.place → session_state_in l.self p ≡ left_session_state l.server (session_state_in l.initial.self p);
  rest : (p : ℕ) → l.place ≤ p → session_state_in l.self p ≡ session_state_in l.initial.self p;
}
