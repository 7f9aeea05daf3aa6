use Rattle.gq_streams.specs.Watched.{inner_of}
use Rattle.gq_script.proofs.Alone.{answered_on}
use Rattle.gq_script.proofs.Turns.{first_missing}
use Rattle.gq_script.proofs.stepping.step.Goals as goal

pub step_with-requires-clause-stage : goal.step_with-requires-clause-stage
step_with-requires-clause-stage g c = first_missing

pub returns-clause-lines : goal.returns-clause-lines
returns-clause-lines g c = answered_on c.step_with.result (g.R.Read.remaining (inner_of c.args.reader.now)) c.step_with.ensures.accepted
