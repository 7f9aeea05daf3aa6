use Rattle.gq_lines.proofs.Extending.{extends_more, on_err}
use Rattle.gq_text.proofs.pieces.put_volumes.Goals as goal

pub returns-in_err-put_volume-clause-err : goal.returns-in_err-put_volume-clause-err
returns-in_err-put_volume-clause-err c = on_err _ (extends_more _ _ _ _ c.loop-volume.invariant c.in_err-put_volume.ensures.err)
