use Rattle.std.proofs.Common.{codes}
use Rattle.gq_svg.specs.Bars.{bar_class, circle}
use Rattle.gq_svg.proofs.Joining.{three}
use Rattle.gq_svg.proofs.bars.put_point.Goals as goal

pub returns : goal.returns
returns c =
    let a = c.args.op.now in
    three c.args.out.now.items _ _ _ (codes "<g class=\"") (bar_class a) (circle c.args.index c.args.bar a c.args.top)
    c.in_ok-grow_by.ensures.items c.in_ok-put_class.ensures c.in_ok-put_circle.ensures
