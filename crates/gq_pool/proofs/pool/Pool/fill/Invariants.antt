use Rattle.std.proofs.Common.{◌≡◌, ◌+◌, ◌-◌, ◌*◌, ◌≤◌, length, drop}
use Rattle.gq_tag.specs.declared.TheConstants.{BLOCK_BYTES}
use Rattle.gq_pool.specs.Blocks.{content_of}
use Rattle.gq_pool.proofs.pool.Pool.fill.Given as goal

-- the blocks hold the content from block `i` on
abbrev pub invariant-loop-i : goal.invariant-loop-i
invariant-loop-i l =
    (l.i ≤ l.need)
    × (length l.blocks + l.i ≡ l.need)
    × (length l.self-inside.free + length l.blocks ≡ length l.initial.self-inside.free)
    × (l.self-inside.count ≡ l.initial.self-inside.count)
    × (content_of (l.len - l.i * BLOCK_BYTES) l.blocks ≡ drop (l.i * BLOCK_BYTES) l.bytes)

abbrev pub decreases-loop-i : goal.decreases-loop-i
decreases-loop-i l = l.i
