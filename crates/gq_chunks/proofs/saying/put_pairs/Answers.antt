use Rattle.gq_lines.proofs.Extending.{extends_more, on_err}
use Rattle.gq_chunks.proofs.saying.put_pairs.Goals as goal

pub returns-in_err-put_pair-clause-err : goal.returns-in_err-put_pair-clause-err
returns-in_err-put_pair-clause-err c = on_err _ (extends_more _ _ _ _ c.loop-chunk.invariant c.in_err-put_pair.ensures.err)
