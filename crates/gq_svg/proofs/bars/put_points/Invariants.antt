use Rattle.std.proofs.Common.{◌≡◌, ◌++◌, drop}
use Rattle.gq_svg.specs.Bars.{points_text}
use Rattle.gq_svg.proofs.bars.put_points.Given as goal

-- the points so far, and those that are left
abbrev pub invariant-loop-index : goal.invariant-loop-index
invariant-loop-index l = l.out.items ++ points_text l.ops l.index (drop l.index l.bars) ≡ l.fn.out.items ++ points_text l.ops 0 l.bars
