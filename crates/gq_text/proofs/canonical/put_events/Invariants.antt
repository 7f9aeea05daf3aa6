use Rattle.std.proofs.Common.{◌≡◌, ◌++◌, take}
use Rattle.std.specs.List.{All, flat_map}
use Rattle.gq_text.specs.Canonical.{event_line, Fits}
use Rattle.gq_text.proofs.canonical.put_events.Given as goal

abbrev pub invariant-loop-event : goal.invariant-loop-event
invariant-loop-event l = record {
  written : l.out.items ≡ l.fn.out.items ++ flat_map (event_line l.plan) (take l.event-index l.events);
  fits : All (Fits l.plan) (take l.event-index l.events);
}
