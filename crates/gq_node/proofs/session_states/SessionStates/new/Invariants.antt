-- The sessions so far.
use Rattle.std.proofs.Common.{◌≡◌, replicate, vec_len, vec_capacity}
use Rattle.gq_node.specs.Tables.{first_session_state}
use Rattle.gq_node.proofs.session_states.SessionStates.new.Given as goal

abbrev pub invariant-loop : goal.invariant-loop
invariant-loop l =
    (l.items.items ≡ replicate l.counter (first_session_state l.grid l.server))
    × (vec_len l.items ≡ l.counter)
    × (vec_capacity l.items ≡ vec_capacity l.initial.items)
