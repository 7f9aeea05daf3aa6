use Rattle.std.proofs.Common.{◌≡◌, ◌++◌}
use Rattle.std.specs.List.{flat_map, range_with_len}
use Rattle.gq_parts.specs.Texts.{greeting_at}
use Rattle.gq_machine.proofs.machine.NodeMachine.greet.Given as goal

-- the places so far
abbrev pub invariant-loop-place : goal.invariant-loop-place
invariant-loop-place l = l.told.items ≡ l.fn.told.items ++ flat_map (greeting_at l.self.node.tables.plan l.self.node.tables.here) (range_with_len 0 l.place)
