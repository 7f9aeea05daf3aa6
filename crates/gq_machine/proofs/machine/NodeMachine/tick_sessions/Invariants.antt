use Rattle.std.specs.Prelude.{map}
use Rattle.std.specs.List.{range_with_len}
use Rattle.gq_node.specs.Inputs.{Ticked}
use Rattle.gq_node.specs.Sites.{session_at}
use Rattle.gq_parts.specs.Steps.{TookOf}
use Rattle.gq_machine.proofs.machine.NodeMachine.tick_sessions.Given as goal

-- the sessions so far
abbrev pub invariant-loop-place : goal.invariant-loop-place
invariant-loop-place l =
    TookOf l.fn.self.node.tables l.tenant (map (λ place. Ticked (session_at l.fn.self.node.tables.plan l.fn.self.node.tables.here l.tenant place)) (range_with_len 0 l.place)) l.fn.facts.items l.facts.items l.fn.told.items l.told.items l.self.node.tables
