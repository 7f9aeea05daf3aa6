use Rattle.gq_lines.proofs.Extending.{extends_more, on_err}
use Rattle.gq_setup.proofs.setup.put_gone.Goals as goal

pub returns-in_err-put_one_gone-clause-err : goal.returns-in_err-put_one_gone-clause-err
returns-in_err-put_one_gone-clause-err c = on_err _ (extends_more _ _ _ _ c.loop-name.invariant c.in_err-put_one_gone.ensures.err)
