use Rattle.gq_script.proofs.Ends.{last_ended, none_ended}
use Rattle.gq_script.proofs.stepping.end_of_lines.Goals as goal

pub returns-in-Some-clause-ends : goal.returns-in-Some-clause-ends
returns-in-Some-clause-ends c = (last_ended c.args.text.now c.args.begun c.in-Some.place c.requires.within c.in-Some.ensures).1

pub returns-in-Some-clause-none : goal.returns-in-Some-clause-none
returns-in-Some-clause-none c = (last_ended c.args.text.now c.args.begun c.in-Some.place c.requires.within c.in-Some.ensures).2

pub returns-in-None-clause-none : goal.returns-in-None-clause-none
returns-in-None-clause-none c = none_ended c.args.text.now c.args.done c.args.begun c.requires.within c.in-None.ensures c.requires.none
