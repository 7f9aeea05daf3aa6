use Rattle.gq_runs.proofs.Living.{scripts_are}
use Rattle.gq_runs.proofs.live.live_script.Goals as goal

pub returns-in-Ok-clause-script : goal.returns-in-Ok-clause-script
returns-in-Ok-clause-script g c = scripts_are c.args.input.now _ _ c.requires c.in-Ok.ensures.programs c.recorded_script.result c.recorded_script.ensures.script
