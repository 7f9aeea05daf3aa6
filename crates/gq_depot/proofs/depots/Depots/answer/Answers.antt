use Rattle.gq_depot.proofs.Tenants.{takes_own}
use Rattle.gq_depot.proofs.depots.Depots.answer.Goals as goal

pub returns-clause-own : goal.returns-clause-own
returns-clause-own g c = takes_own _ c.args.self.now.losses c.args.self.now.depots.items c.args.tenant c.index_mut-depot.result.now c.answer.new.self c.args.request c.in_ok-answered.answered c.requires c.index_mut-depot.ensures.value
    (record { tells = c.in_ok-answered.ensures.tells; gives = c.in_ok-answered.ensures.gives; leads = c.in_ok-answered.ensures.leads; sure = c.in_ok-answered.ensures.sure; reads = c.in_ok-answered.ensures.reads; memory = c.in_ok-answered.ensures.memory })
