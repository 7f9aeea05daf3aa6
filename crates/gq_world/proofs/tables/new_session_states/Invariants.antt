-- The sessions so far.
use Rattle.std.proofs.Common.{◌≡◌, take, replicate}
use Rattle.std.specs.Prelude.{map}
use Rattle.gq_world.specs.Tables.{no_session_state}
use Rattle.gq_world.proofs.tables.new_session_states.Given as goal

abbrev pub invariant-loop-row : goal.invariant-loop-row
invariant-loop-row l = l.session_states.items ≡ map (λ row. replicate row.sessions no_session_state) (take l.row-index l.row-items)
