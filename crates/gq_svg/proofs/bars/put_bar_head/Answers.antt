use Rattle.std.proofs.Common.{codes}
use Rattle.gq_svg.specs.Bars.{bar_class, telling}
use Rattle.gq_svg.proofs.Joining.{four}
use Rattle.gq_svg.proofs.bars.put_bar_head.Goals as goal

pub returns : goal.returns
returns c =
    let a = c.args.op.now in
    four c.args.out.now.items _ _ _ _ (codes "<g class=\"") (bar_class a) (codes "\"><title>") (telling c.args.first c.args.index a)
    c.in_ok-grow_by.ensures.items c.in_ok-put_class.ensures c.in_ok-grow_by-2.ensures.items c.in_ok-put_telling.ensures
