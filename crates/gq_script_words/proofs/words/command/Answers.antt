use Rattle.std.proofs.Common.{ap}
use Rattle.gq_words.proofs.Subcommands.{top_of}
use Rattle.gq_script_words.proofs.words.command.Goals as goal

pub returns : goal.returns
returns c =
    let to_run = c.with-to_run.ensures.app _ _ c.bare.ensures.app c.run.ensures.shape in
    let to_order = c.with-to_order.ensures.app _ _ to_run c.of_file.ensures.shape in
    let to_finish = c.with-to_finish.ensures.app _ _ to_order c.finish.ensures.shape in
    let to_live = c.with-to_live.ensures.app _ _ to_finish (ap top_of c.subcommand.ensures.app) in
    let to_step = c.with-to_step.ensures.app _ _ to_live (ap top_of c.subcommand-2.ensures.app) in
    let to_history = c.with-to_history.ensures.app _ _ to_step c.of_file-2.ensures.shape in
    record { app = c.with.ensures.app _ _ to_history c.of_file-3.ensures.shape }
