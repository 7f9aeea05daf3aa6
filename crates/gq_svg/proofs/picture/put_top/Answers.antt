use Rattle.gq_svg.specs.Svg.{ground, subject}
use Rattle.gq_svg.proofs.Joining.{two}
use Rattle.gq_svg.proofs.picture.put_top.Goals as goal

pub returns : goal.returns
returns c =
    two c.args.out.now.items _ _ (ground c.args.width c.args.height) (subject c.args.name.now c.args.heading)
    c.in_ok-put_ground.ensures c.in_ok-put_subject.ensures
