use Rattle.gq_script.proofs.Alone.{answers_each_line, tells_as_alone, tells_the_same}
use Rattle.gq_script.proofs.laws.alone.Goals as goal

pub returns-clause-lines : goal.returns-clause-lines
returns-clause-lines c = answers_each_line

pub returns-clause-alone : goal.returns-clause-alone
returns-clause-alone c = tells_as_alone

pub returns-clause-same : goal.returns-clause-same
returns-clause-same c = tells_the_same
