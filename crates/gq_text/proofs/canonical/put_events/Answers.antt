use Rattle.std.proofs.Common.{subst}
use Rattle.std.proofs.lemmas.List.Elements.{All-more}
use Rattle.gq_text.specs.Canonical.{event_line, Fits}
use Rattle.gq_lines.proofs.Extending.{one_more}
use Rattle.gq_text.proofs.canonical.put_events.Goals as goal

pub loop-event-preserved : goal.loop-event-preserved
loop-event-preserved c = record {
  written = one_more (event_line c.args.plan.now) c.args.out.now.items c.loop-event.out.items c.put_event.new.out.items c.args.events.now c.loop-event.event-index c.event-item.result c.loop-event-test.true c.event-item.is c.loop-event.invariant.written c.in_ok-put_event.ensures.ok;
  fits = All-more (Fits c.args.plan.now) c.args.events.now c.loop-event.event-index c.event-item.result c.loop-event-test.true c.loop-event.invariant.fits (subst (Fits c.args.plan.now) c.event-item.is c.put_event.ensures.fits);
}
