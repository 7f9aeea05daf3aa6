use Rattle.std.proofs.Common.{map, take}
use Rattle.gq_tag.specs.Tag.{own_message}
use Rattle.gq_parts.specs.Steps.{TookHop}
use Rattle.gq_machine.proofs.machine.NodeMachine.take_hop.Given as goal

-- the letters so far
abbrev pub invariant-loop-letter : goal.invariant-loop-letter
invariant-loop-letter l =
    TookHop l.fn.self.node.tables l.tenant (map own_message (take l.letter-index l.letters)) l.fn.own.items l.own.items l.fn.facts.items l.facts.items l.fn.told.items l.told.items l.self.node.tables
