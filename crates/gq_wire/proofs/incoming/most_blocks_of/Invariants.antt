use Rattle.std.proofs.Common.{◌≡◌, drop}
use Rattle.std.specs.Prelude.{max}
use Rattle.gq_wire.specs.Incoming.{most_blocks_of}
use Rattle.gq_wire.proofs.incoming.most_blocks_of.Given as goal

-- the most so far, and what the other rows have
abbrev pub invariant-loop-row : goal.invariant-loop-row
invariant-loop-row l = max l.most (most_blocks_of (drop l.row-index l.rows)) ≡ most_blocks_of l.rows
