use Rattle.std.proofs.Common.{true, false}
use Rattle.gq_svg.specs.Bars.{bars_text, points_text}
use Rattle.gq_svg.proofs.Joining.{three}
use Rattle.gq_svg.proofs.bars.put_operations.Goals as goal

pub returns : goal.returns
returns c =
    let first = c.args.first in let ops = c.args.ops.now in let bars = c.args.bars.now in
    three c.args.out.now.items _ _ _ (bars_text true first ops 0 bars) (bars_text false first ops 0 bars) (points_text ops 0 bars)
    c.in_ok-put_bars.ensures c.in_ok-put_bars-2.ensures c.in_ok-put_points.ensures
