use Rattle.std.proofs.Common.{◌≡◌, ◌++◌, take, map, decimal}
use Rattle.gq_lines.specs.Written.{spaced}
use Rattle.gq_wire.proofs.answers.put_nodes.Given as goal

abbrev pub invariant-loop-node : goal.invariant-loop-node
invariant-loop-node l = l.out.items ≡ l.fn.out.items ++ spaced (map decimal (take l.node-index l.nodes))
