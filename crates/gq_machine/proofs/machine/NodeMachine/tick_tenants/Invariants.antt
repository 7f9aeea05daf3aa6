use Rattle.gq_parts.specs.Steps.{TookAll}
use Rattle.gq_parts.proofs.Taking.{ticks_below}
use Rattle.gq_machine.proofs.machine.NodeMachine.tick_tenants.Given as goal

abbrev pub invariant-loop-place : goal.invariant-loop-place
invariant-loop-place l =
    TookAll l.fn.self.node.tables (ticks_below l.fn.self.node.tables.plan l.fn.self.node.tables.here l.place) l.fn.facts.items l.facts.items l.fn.told.items l.told.items l.self.node.tables
