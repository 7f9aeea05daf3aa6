use Rattle.gq_lines.proofs.Extending.{extends_more, on_err}
use Rattle.gq_page.proofs.writing.put_numbers.Goals as goal

pub returns-in_err-put_spaced-clause-err : goal.returns-in_err-put_spaced-clause-err
returns-in_err-put_spaced-clause-err c = on_err _ (extends_more _ _ _ _ c.loop-number.invariant c.in_err-put_spaced.ensures.err)
