use Rattle.std.proofs.Common.{◌≡◌, take}
use Rattle.std.specs.List.{filter_map}
use Rattle.gq_runs.specs.Programs.{server_line_in}
use Rattle.gq_runs.proofs.programs.changes_of.Given as goal

abbrev pub invariant-loop-event : goal.invariant-loop-event
invariant-loop-event l = l.changes.items ≡ filter_map server_line_in (take l.event-index l.events)
