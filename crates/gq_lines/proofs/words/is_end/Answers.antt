use Rattle.gq_lines.proofs.WordsLemmas.{ends}
use Rattle.gq_lines.proofs.words.is_end.Goals as goal

pub returns : goal.returns
returns c = rw c.is_empty.ensures (ends c.args.text.now)
