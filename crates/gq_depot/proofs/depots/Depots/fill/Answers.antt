use Rattle.gq_depot.proofs.Tenants.{fills_own}
use Rattle.gq_depot.proofs.depots.Depots.fill.Goals as goal

pub returns-clause-own : goal.returns-clause-own
returns-clause-own g c = fills_own _ c.args.self.now.depots.items c.args.tenant c.index_mut-lacking.result.now c.fill.new.self c.args.filling c.in_ok-fact.fact c.requires c.index_mut-lacking.ensures.value
    (record { fills = c.in_ok-fact.ensures.fills; leads = c.in_ok-fact.ensures.leads; sure = c.in_ok-fact.ensures.sure; reads = c.in_ok-fact.ensures.reads; memory = c.in_ok-fact.ensures.memory })
