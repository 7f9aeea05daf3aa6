-- The lowest mark is the first place.
use Rattle.gq_lines.proofs.Marking.{none_before, marked_here}
use Rattle.gq_lines.proofs.first_bytes.near.Goals as goal

pub returns-clause-before : goal.returns-clause-before
returns-clause-before c = none_before c.args.text.now c.args.byte c.marks.result c.lowest.result c.marks.ensures c.lowest.ensures.below

pub returns-clause-here : goal.returns-clause-here
returns-clause-here c = marked_here c.args.text.now c.args.byte c.marks.result c.lowest.result c.marks.ensures c.lowest.ensures.here
