-- Of no tenant so far does one lie there.
use Rattle.std.proofs.Common.{length, ◌-◌}
use Rattle.gq_depot.specs.Segments.{NoneOf}
use Rattle.gq_depot.proofs.Segments.{OfFirst}
use Rattle.gq_depot.proofs.depots.Depots.lies_in.Given as goal

abbrev pub invariant-loop-tenant : goal.invariant-loop-tenant
invariant-loop-tenant g l = OfFirst (NoneOf l.segment) l.self.depots.items l.tenant

abbrev pub decreases-loop-tenant : goal.decreases-loop-tenant
decreases-loop-tenant g l = length l.self.depots.items - l.tenant
