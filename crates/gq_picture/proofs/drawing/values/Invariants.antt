-- The values so far, and those of the bars that are left.
use Rattle.std.proofs.Common.{◌≡◌, ◌++◌, drop, None}
use Rattle.gq_picture.specs.Drawing.{values_from}
use Rattle.gq_picture.proofs.drawing.values.Given as goal

abbrev pub invariant-loop-bar : goal.invariant-loop-bar
invariant-loop-bar l = l.drawn.items ++ values_from l.ops l.columns l.write l.left (drop l.bar-index l.bars) ≡ values_from l.ops l.columns None 0 l.bars
