use Rattle.std.proofs.Common.{◌∙◌, refl, sym, ap, set, arith}
use Rattle.gq_files.specs.Histories.{placed}
use Rattle.gq_files.proofs.Histories.{placed_more}
use Rattle.gq_files.proofs.history.place_all.Goals as goal

pub loop-op-preserved : goal.loop-op-preserved
loop-op-preserved c =
    let ops = c.loop-op.ops in let i = c.loop-op.op-index in
    let more = placed_more (placed c.args.places.now) c.args.ops.now ops (set ops i c.place.new.op) i c.op-item.result c.place.new.op (omega arith) c.op-item.is (c.place.ensures ∙ ap (placed c.args.places.now) (sym c.op-item.is)) refl c.loop-op.invariant.done c.loop-op.invariant.left in
    record { done = more.0; left = more.1 }
