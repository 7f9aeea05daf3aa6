use Rattle.std.proofs.Common.{arith, rules}
use Rattle.gq_streams.proofs.Writing.{Appends-take}
use Rattle.gq_streams.proofs.whole.write_whole.Goals as goal

pub loop-done-preserved : goal.loop-done-preserved
loop-done-preserved g c = record {
  within = omega (arith, c.in-Ok.ensures.bound);
  fine = search rules;
  same = search rules;
  written = Appends-take _ _ _ _ _ _ c.loop-done.invariant.written c.in-Ok.ensures.bytes;
}
