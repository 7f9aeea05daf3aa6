use Rattle.gq_lines.proofs.Extending.{extends_more, on_err}
use Rattle.gq_wire.proofs.answers.put_nodes.Goals as goal

pub returns-in_err-put_spaced-clause-err : goal.returns-in_err-put_spaced-clause-err
returns-in_err-put_spaced-clause-err c = on_err _ (extends_more _ _ _ _ c.loop-node.invariant c.in_err-put_spaced.ensures.err)
