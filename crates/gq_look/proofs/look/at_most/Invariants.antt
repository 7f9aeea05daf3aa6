use Rattle.std.proofs.Common.{◌≡◌, drop}
use Rattle.gq_grid.specs.Sets.{servers}
use Rattle.gq_grid.specs.Grid.{no_servers}
use Rattle.gq_look.specs.Look.{most_from}
use Rattle.gq_look.proofs.look.at_most.Given as goal

abbrev pub invariant-loop-place : goal.invariant-loop-place
invariant-loop-place l = most_from l.place l.tag (drop l.place l.told) (servers l.set) ≡ most_from 0 l.tag l.told no_servers
