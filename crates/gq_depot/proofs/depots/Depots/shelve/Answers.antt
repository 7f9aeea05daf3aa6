use Rattle.std.proofs.Common.{None}
use Rattle.gq_stock.proofs.Sessions.{others_stay}
use Rattle.gq_depot.proofs.Moved.{none_moved}
use Rattle.gq_depot.proofs.Tenants.{moves_own}
use Rattle.gq_depot.proofs.depots.Depots.shelve.Goals as goal

pub returns-in-Ok-clause-own : goal.returns-in-Ok-clause-own
returns-in-Ok-clause-own g c = moves_own _ _ c.args.self.now.depots.items c.args.tenant c.args.session c.args.number c.index_mut-moving.result.now c.shelve.new.self c.in-Ok.fact c.requires c.index_mut-moving.ensures.value
    (record { gives = c.in-Ok.ensures.gives; leads = c.in-Ok.ensures.leads; put = c.in-Ok.ensures.put; reads = c.in-Ok.ensures.reads; memory = c.in-Ok.ensures.memory; used = c.in-Ok.ensures.used })

pub returns-in-Ok-clause-apart : goal.returns-in-Ok-clause-apart
returns-in-Ok-clause-apart g c other is = others_stay c.args.self.now.depots.items c.args.tenant other c.shelve.new.self is

pub returns-in-Err-clause-apart : goal.returns-in-Err-clause-apart
returns-in-Err-clause-apart g c other is = others_stay c.args.self.now.depots.items c.args.tenant other c.shelve.new.self is

pub returns-in-Err-clause-full : goal.returns-in-Err-clause-full
returns-in-Err-clause-full g c full = moves_own _ _ c.args.self.now.depots.items c.args.tenant c.args.session c.args.number c.index_mut-moving.result.now c.shelve.new.self None c.requires c.index_mut-moving.ensures.value
    (none_moved _ _ c.index_mut-moving.result.now c.shelve.new.self c.args.session c.args.number (c.in-Err.ensures.full full) c.in-Err.ensures.memory c.in-Err.ensures.used)
