use Rattle.gq_lines.proofs.Extending.{extends_more, on_err}
use Rattle.gq_setup.proofs.setup.put_losses.Goals as goal

pub returns-in_err-put_loss-clause-err : goal.returns-in_err-put_loss-clause-err
returns-in_err-put_loss-clause-err c = on_err _ (extends_more _ _ _ _ c.loop-place.invariant c.in_err-put_loss.ensures.err)
