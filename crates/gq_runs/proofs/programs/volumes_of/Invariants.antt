use Rattle.std.proofs.Common.{◌≡◌, take}
use Rattle.std.specs.List.{filter_map}
use Rattle.gq_runs.specs.Programs.{opening_of}
use Rattle.gq_runs.proofs.programs.volumes_of.Given as goal

abbrev pub invariant-loop-event : goal.invariant-loop-event
invariant-loop-event l = l.volumes.items ≡ filter_map opening_of (take l.event-index l.events)
