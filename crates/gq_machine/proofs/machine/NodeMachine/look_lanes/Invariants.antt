use Rattle.std.specs.Prelude.{map}
use Rattle.std.specs.List.{range_with_len}
use Rattle.gq_node.specs.Inputs.{Looked}
use Rattle.gq_parts.specs.Steps.{TookOf}
use Rattle.gq_machine.proofs.machine.NodeMachine.look_lanes.Given as goal

-- the lanes so far
abbrev pub invariant-loop-lane : goal.invariant-loop-lane
invariant-loop-lane l = TookOf l.fn.self.node.tables l.tenant (map Looked (range_with_len 0 l.lane)) l.fn.facts.items l.facts.items l.fn.told.items l.told.items l.self.node.tables
