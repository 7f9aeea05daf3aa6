use Rattle.std.proofs.Common.{◌≡◌, ◌++◌, take}
use Rattle.gq_parts.specs.Steps.{going_home, told_letters}
use Rattle.gq_machine.proofs.machine.NodeMachine.put_letters.Given as goal

-- the letters so far
abbrev pub invariant-loop-letter : goal.invariant-loop-letter
invariant-loop-letter l =
    (l.told.items ≡ l.fn.told.items ++ told_letters l.again l.self.node.tables.plan l.self.node.tables.here l.self.node.tables (take l.letter-index l.letters))
    × (l.own.items ≡ l.fn.own.items ++ going_home l.again l.self.node.tables.plan l.self.node.tables.here (take l.letter-index l.letters))
