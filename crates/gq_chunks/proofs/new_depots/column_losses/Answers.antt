use Rattle.std.proofs.Common.{arith}
use Rattle.gq_chunks.proofs.Begun.{losses_more}
use Rattle.gq_chunks.proofs.new_depots.column_losses.Goals as goal

pub loop-other-preserved : goal.loop-other-preserved
loop-other-preserved c = (
  losses_more c.args.cols c.args.place c.args.lost.now c.loop-other.other-index 0 c.loop-other.losses c.in_column-losses.result c.loop-other-test.true c.loop-other.invariant.0 c.in_column-losses.ensures.one,
  omega (arith, c.loop-other.invariant.1, c.in_column-losses.ensures.few),
)
