use Rattle.gq_lines.proofs.Extending.{extends_more, on_err}
use Rattle.gq_text.proofs.pieces.put_files.Goals as goal

pub returns-in_err-put_file-clause-err : goal.returns-in_err-put_file-clause-err
returns-in_err-put_file-clause-err c = on_err _ (extends_more _ _ _ _ c.loop-file.invariant c.in_err-put_file.ensures.err)
