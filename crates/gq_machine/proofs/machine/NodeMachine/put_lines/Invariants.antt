use Rattle.std.proofs.Common.{◌≡◌, ◌++◌, false, take}
use Rattle.gq_parts.specs.Steps.{table_lines}
use Rattle.gq_machine.proofs.machine.NodeMachine.put_lines.Given as goal

abbrev pub invariant-loop-letter : goal.invariant-loop-letter
invariant-loop-letter l = l.told.items ≡ l.fn.told.items ++ table_lines false l.self.node.tables.plan l.self.node.tables.here l.self.node.tables (take l.letter-index l.letters)
