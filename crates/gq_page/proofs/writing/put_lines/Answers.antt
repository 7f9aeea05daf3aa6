use Rattle.gq_lines.proofs.Extending.{extends_more, on_err}
use Rattle.gq_page.proofs.writing.put_lines.Goals as goal

pub returns-in_err-put_line-clause-err : goal.returns-in_err-put_line-clause-err
returns-in_err-put_line-clause-err c = on_err _ (extends_more _ _ _ _ c.loop-line.invariant c.in_err-put_line.ensures.err)
