use Rattle.std.proofs.lemmas.Result.{on_err_weaker}
use Rattle.gq_lines.proofs.Extending.{extends_more}
use Rattle.gq_setup.proofs.setup.Setup.put_end.Goals as goal

pub returns-clause-err : goal.returns-clause-err
returns-clause-err c = on_err_weaker c.put_gone.result (extends_more _ _ _ _ c.in_ok-put_losses.ensures.ok) c.put_gone.ensures.err
