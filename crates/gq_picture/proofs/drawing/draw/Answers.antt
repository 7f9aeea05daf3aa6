use Rattle.std.proofs.Common.{rules}
use Rattle.gq_picture.specs.Drawing.{IsDrawing}
use Rattle.gq_picture.proofs.Drawings.{drawings_are_true}
use Rattle.gq_picture.proofs.drawing.draw.Goals as goal

pub returns-clause-truth : goal.returns-clause-truth
returns-clause-truth c =
    let is : IsDrawing c.args.ops.items c.args.order.now c.args.absences.now (record { ops = c.args.ops; bars = c.in_ok-bars.bars; values = c.in_ok-values.values; outages = c.in_ok-outages.outages; columns = c.count-count.result }) = search rules in
    drawings_are_true c.args.ops.items c.args.order.now c.args.absences.now _ is
