use Rattle.std.proofs.Common.{◌≡◌, ◌++◌, take}
use Rattle.gq_parts.specs.Texts.{joins_text}
use Rattle.gq_machine.proofs.machine.NodeMachine.put_joins.Given as goal

-- the nodes so far
abbrev pub invariant-loop-node : goal.invariant-loop-node
invariant-loop-node l = l.told.items ≡ l.fn.told.items ++ joins_text l.self.node.tables.plan l.self.node.tables.here (take l.node-index l.nodes)
