use Rattle.std.proofs.Common.{◌≡◌, ◌+◌, length, drop}
use Rattle.gq_pool.specs.Linked.{first_place}
use Rattle.gq_pool.proofs.Copied.{turned_onto, bytes_of}
use Rattle.gq_pool.proofs.stack.Stack.copy.Given as goal

-- the blocks before `i`, with the last first, and those from `i` on are all
abbrev pub invariant-loop-i : goal.invariant-loop-i
invariant-loop-i l =
    (l.place.ptr ≡ first_place (drop l.i l.self-inside.nodes.nodes))
    × (length l.turned ≡ l.i)
    × (length l.free + l.i ≡ length l.initial.free)
    × (turned_onto l.turned (bytes_of (drop l.i l.self-inside.nodes.nodes)) ≡ bytes_of l.self-inside.nodes.nodes)

abbrev pub invariant-loop : goal.invariant-loop
invariant-loop l =
    (length l.turned + l.counter ≡ length l.initial.turned)
    × (turned_onto l.turned l.blocks ≡ turned_onto l.initial.turned l.initial.blocks)
