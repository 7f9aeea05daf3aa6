-- The bars so far, and those of the places that are left.
use Rattle.std.proofs.Common.{◌≡◌, ◌++◌, drop, length}
use Rattle.gq_laws.specs.Operations.{ops_at}
use Rattle.gq_picture.specs.Drawing.{bars, bars_from}
use Rattle.gq_picture.proofs.drawing.bars.Given as goal

abbrev pub invariant-loop-place : goal.invariant-loop-place
invariant-loop-place l = l.drawn.items ++ bars_from l.ops (ops_at l.ops l.order) (length l.drawn.items) l.last (drop l.place-index l.order) ≡ bars l.ops l.order
