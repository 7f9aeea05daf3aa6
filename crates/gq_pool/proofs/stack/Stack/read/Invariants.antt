use Rattle.std.proofs.Common.{◌≡◌, ◌*◌, ◌-◌, ◌++◌, map, take, drop, min}
use Rattle.gq_pool.specs.Linked.{first_place}
use Rattle.gq_tag.specs.declared.TheConstants.{BLOCK_BYTES}
use Rattle.gq_pool.specs.Blocks.{content_of}
use Rattle.gq_pool.proofs.stack.Stack.read.Given as goal

-- what is written and what the blocks from `i` on hold are the whole
abbrev pub invariant-loop-start : goal.invariant-loop-start
invariant-loop-start l =
    (l.start ≡ min (l.i * BLOCK_BYTES) l.len)
    × (l.at.ptr ≡ first_place (drop l.i l.self-inside.nodes.nodes))
    × (take l.start l.out ++ content_of (l.len - l.start) (map (λ n. n.1) (drop l.i l.self-inside.nodes.nodes)) ≡ content_of l.len (map (λ n. n.1) l.self-inside.nodes.nodes))

abbrev pub decreases-loop-start : goal.decreases-loop-start
decreases-loop-start l = l.len - l.start
