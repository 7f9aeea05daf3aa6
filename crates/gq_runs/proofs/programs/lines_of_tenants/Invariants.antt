use Rattle.std.proofs.Common.{take}
use Rattle.gq_runs.specs.Gathering.{AreByTenant}
use Rattle.gq_runs.proofs.programs.lines_of_tenants.Given as goal

abbrev pub invariant-loop-event : goal.invariant-loop-event
invariant-loop-event l = AreByTenant l.tenants (take l.event-index l.events) l.lists.items
