use Rattle.std.proofs.Common.{◌≡◌, drop}
use Rattle.gq_look.specs.Look.{found_from}
use Rattle.gq_look.proofs.look.settled.Given as goal

abbrev pub invariant-loop-each : goal.invariant-loop-each
invariant-loop-each l = found_from l.grid l.told (drop l.each-index l.told) ≡ found_from l.grid l.told l.told
