-- The nodes of the turns so far.
use Rattle.std.proofs.Common.{◌≡◌, ◌≤◌}
use Rattle.gq_node.proofs.Naming.{nodes_until}
use Rattle.gq_node.proofs.tables.Core.nodes_from.Given as goal

abbrev pub invariant-loop-turn : goal.invariant-loop-turn
invariant-loop-turn l = (l.nodes.items ≡ nodes_until l.self l.first l.turn) × (l.first ≤ l.turn)
