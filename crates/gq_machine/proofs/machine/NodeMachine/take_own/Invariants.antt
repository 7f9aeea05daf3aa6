use Rattle.std.proofs.Common.{map}
use Rattle.gq_tag.specs.Tag.{own_message}
use Rattle.gq_parts.proofs.Own.{TookHops}
use Rattle.gq_machine.proofs.machine.NodeMachine.take_own.Given as goal

-- the hops so far
abbrev pub invariant-loop-hop : goal.invariant-loop-hop
invariant-loop-hop l =
    TookHops l._hop l.fn.self.node.tables l.tenant (map own_message l.fn.first.items) l.own.items l.fn.facts.items l.facts.items l.fn.told.items l.told.items l.self.node.tables
