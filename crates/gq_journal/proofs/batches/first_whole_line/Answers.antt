use Rattle.gq_journal.proofs.Lines.{found_lines, found_text, found_one, none_lines}
use Rattle.gq_journal.proofs.batches.first_whole_line.Goals as goal

pub returns-in-Some-clause-lines : goal.returns-in-Some-clause-lines
returns-in-Some-clause-lines c = found_lines c.args.text.now c.in-Some.end c.in-Some.ensures

pub returns-in-Some-clause-text : goal.returns-in-Some-clause-text
returns-in-Some-clause-text c = found_text c.args.text.now c.in-Some.end c.in-Some.ensures

pub returns-in-None-clause-lines : goal.returns-in-None-clause-lines
returns-in-None-clause-lines c = none_lines c.args.text.now c.in-None.ensures

pub returns-in-None-clause-text : goal.returns-in-None-clause-text
returns-in-None-clause-text c = none_lines c.args.text.now c.in-None.ensures

pub returns-in-Some-clause-one : goal.returns-in-Some-clause-one
returns-in-Some-clause-one c = found_one c.args.text.now c.in-Some.end c.in-Some.ensures
