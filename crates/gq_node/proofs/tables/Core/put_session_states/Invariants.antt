-- The sessions so far.
use Rattle.std.proofs.Common.{◌≡◌, ◌++◌, map}
use Rattle.gq_node.specs.Needing.{session_states_facts}
use Rattle.gq_node.specs.Tables.{fact_of}
use Rattle.gq_node.proofs.tables.Core.put_session_states.Given as goal

abbrev pub invariant-loop-place : goal.invariant-loop-place
invariant-loop-place l = l.facts.items ≡ l.fn.facts.items ++ map (fact_of l.tenant) (session_states_facts l.self l.tenant l.place)
