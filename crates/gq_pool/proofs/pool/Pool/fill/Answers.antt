use Rattle.std.proofs.Common.{◌*◌, ◌-◌, length, ap, arith}
use Rattle.gq_tag.specs.declared.TheConstants.{BLOCK_BYTES}
use Rattle.gq_pool.proofs.Contents.{fill_step, fill_part}
use Rattle.gq_pool.proofs.pool.Pool.fill.Goals as goal

pub loop-i-preserved : goal.loop-i-preserved
loop-i-preserved c =
    let bytes = c.args.bytes.now in let s = (c.loop-i.i - 1) * BLOCK_BYTES in
    let more = ap length c.push.ensures in
    (omega arith, omega arith, omega (arith, ap length c.pop-block.ensures), c.loop-i.invariant.3, rw c.push.ensures (fill_step bytes _ c.loop-i.blocks s (c.loop-i.i * BLOCK_BYTES) (omega arith) (fill_part bytes c.write.new.self s _ (c.min-end.result - s) (omega arith) (omega arith) c.write.ensures) c.loop-i.invariant.4))
