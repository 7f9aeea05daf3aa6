use Rattle.std.proofs.Common.{codes}
use Rattle.gq_svg.specs.declared.picture.TheConstants.{STYLE}
use Rattle.gq_svg.specs.Svg.{beginning, subject}
use Rattle.gq_svg.proofs.Joining.{four}
use Rattle.gq_svg.proofs.picture.put_head.Goals as goal

pub returns : goal.returns
returns c =
    four c.args.out.now.items _ _ _ _ (beginning c.args.width c.args.height) (subject c.args.name.now c.args.heading) (codes "</title>\n") STYLE.now
    c.in_ok-put_beginning.ensures c.in_ok-put_subject.ensures c.in_ok-grow_by.ensures.items c.in_ok-grow_by-2.ensures.items
