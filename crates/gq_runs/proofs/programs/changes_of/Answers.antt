use Rattle.gq_runs.specs.Programs.{server_line_in}
use Rattle.gq_runs.proofs.Programming.{one_picked}
use Rattle.gq_runs.proofs.programs.changes_of.Goals as goal

pub loop-event-preserved : goal.loop-event-preserved
loop-event-preserved c =
    one_picked server_line_in c.args.events.now c.loop-event.event-index _ _ c.loop-event.changes.items c.keep.new.items.items c.loop-event-test.true c.event-item.is c.change_of.ensures c.loop-event.invariant c.in_ok-keep.ensures
