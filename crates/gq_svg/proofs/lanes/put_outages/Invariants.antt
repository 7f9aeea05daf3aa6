use Rattle.std.proofs.Common.{◌≡◌, ◌++◌, take}
use Rattle.std.specs.List.{flat_map}
use Rattle.gq_svg.specs.Lanes.{outage_in}
use Rattle.gq_svg.proofs.lanes.put_outages.Given as goal

-- the outages so far are appended
abbrev pub invariant-loop-outage : goal.invariant-loop-outage
invariant-loop-outage l = l.out.items ≡ l.fn.out.items ++ flat_map (outage_in l.top l.server) (take l.outage-index l.outages)
