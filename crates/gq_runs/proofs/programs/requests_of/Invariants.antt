use Rattle.std.proofs.Common.{◌≡◌, take, map}
use Rattle.gq_runs.specs.Gathering.{requests_at}
use Rattle.gq_runs.proofs.programs.requests_of.Given as goal

abbrev pub invariant-loop-place : goal.invariant-loop-place
invariant-loop-place l = l.lists.items ≡ map (requests_at l.tenants) (take l.place l.ids)
