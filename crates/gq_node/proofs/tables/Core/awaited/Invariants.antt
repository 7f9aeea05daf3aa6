-- Of the nodes so far those that have not joined.
use Rattle.std.proofs.Common.{◌≡◌, take}
use Rattle.std.specs.Prelude.{not, filter}
use Rattle.gq_replace.specs.Plans.{place_of}
use Rattle.gq_node.specs.Tables.{has_joined}
use Rattle.gq_node.proofs.tables.Core.awaited.Given as goal

abbrev pub invariant-loop-node : goal.invariant-loop-node
invariant-loop-node l = l.awaited.items ≡ filter (λ node. not (has_joined l.self (place_of node))) (take l.node-index l.node-items)
