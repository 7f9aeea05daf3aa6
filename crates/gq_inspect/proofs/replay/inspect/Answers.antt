-- The events are a run's, and those of a run are in the plan.
use Rattle.std.proofs.Common.{subst}
use Rattle.gq_inspect.specs.Replay.{IsRunOf}
use Rattle.gq_inspect.proofs.Within.{run_within}
use Rattle.gq_inspect.proofs.replay.inspect.Goals as goal

pub returns-clause-run : goal.returns-clause-run
returns-clause-run c = subst (λ plan. IsRunOf plan c.args.records.now c.close.result.items) c.in_ok-tape.ensures.plan (rw (c.close.ensures) c.in_ok-play_records.ensures)

pub returns-clause-within : goal.returns-clause-within
returns-clause-within c = run_within c.args.plan.now c.args.records.now c.close.result.items (returns-clause-run c)
