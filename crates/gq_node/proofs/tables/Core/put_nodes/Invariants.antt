-- The nodes at the places so far.
use Rattle.std.proofs.Common.{◌≡◌, ◌++◌}
use Rattle.gq_node.proofs.Naming.{nodes_below}
use Rattle.gq_node.proofs.tables.Core.put_nodes.Given as goal

abbrev pub invariant-loop-place : goal.invariant-loop-place
invariant-loop-place l = l.nodes.items ≡ l.initial.nodes.items ++ nodes_below l.self.here l.turn l.place
