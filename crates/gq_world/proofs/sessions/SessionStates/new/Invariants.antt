-- The sessions so far.
use Rattle.std.proofs.Common.{◌≡◌, replicate, vec_len, vec_capacity}
use Rattle.gq_world.specs.Tables.{no_session_state}
use Rattle.gq_world.proofs.sessions.SessionStates.new.Given as goal

abbrev pub invariant-loop : goal.invariant-loop
invariant-loop l =
    (l.items.items ≡ replicate l.counter no_session_state)
    × (vec_len l.items ≡ l.counter)
    × (vec_capacity l.items ≡ vec_capacity l.initial.items)
