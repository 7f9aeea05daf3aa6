use Rattle.std.proofs.Common.{◌≡◌, take}
use Rattle.std.specs.List.{filter_map}
use Rattle.gq_runs.specs.Gathering.{request_in}
use Rattle.gq_runs.proofs.programs.requests_in.Given as goal

abbrev pub invariant-loop-line : goal.invariant-loop-line
invariant-loop-line l = l.items.items ≡ filter_map (request_in l.number) (take l.line-index l.lines)
