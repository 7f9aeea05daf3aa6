-- The line is found, and then cut.
use Rattle.gq_lines.proofs.Cutting.{cut_far}
use Rattle.gq_lines.proofs.lines.cut_far_line.Goals as goal

pub returns : goal.returns
returns c = cut_far c.args.text.now _ _ _ _ c.first_line.ensures.lines c.first_line.ensures.shorter c.first_word.ensures.words c.first_word.ensures.whole
