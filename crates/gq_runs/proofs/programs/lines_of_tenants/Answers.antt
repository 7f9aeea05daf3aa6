use Rattle.gq_runs.proofs.Gathering.{more_by_tenant, none_by_tenant}
use Rattle.gq_runs.proofs.programs.lines_of_tenants.Goals as goal

pub loop-event-init : goal.loop-event-init
loop-event-init c = none_by_tenant c.args.tenants c.in_ok-lists.lists.items c.in_ok-lists.ensures

pub loop-event-preserved : goal.loop-event-preserved
loop-event-preserved c =
    more_by_tenant c.args.tenants c.args.events.now c.loop-event.event-index _ c.loop-event.lists.items c.add_line.new.lists.items c.loop-event-test.true c.event-item.is c.in_ok-add_line.ensures.count c.in_ok-add_line.ensures.lines c.loop-event.invariant
