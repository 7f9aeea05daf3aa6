use Rattle.std.proofs.Common.{arith}
use Rattle.gq_depot.specs.Segments.{NoneOf}
use Rattle.gq_depot.proofs.Segments.{one_more, of_all}
use Rattle.gq_depot.proofs.depots.Depots.lies_in.Goals as goal

pub returns-then-lies_in-clause-some : goal.returns-then-lies_in-clause-some
returns-then-lies_in-clause-some g c is = record { tenant = c.loop-tenant.tenant; depot = c.depot.result.now; there = c.depot.ensures; some = c.lies_in.ensures.some c.if-lies_in.true }

pub loop-tenant-preserved : goal.loop-tenant-preserved
loop-tenant-preserved g c = one_more (NoneOf c.args.segment) c.args.self.now.depots.items c.loop-tenant.tenant c.depot.result.now c.depot.ensures (c.lies_in.ensures.none c.if-lies_in.false) c.loop-tenant.invariant

pub returns-clause-none : goal.returns-clause-none
returns-clause-none g c is = of_all (NoneOf c.args.segment) c.args.self.now.depots.items c.loop-tenant.tenant (omega (arith, c.loop-tenant-test.false, c.len.ensures)) c.loop-tenant.invariant
