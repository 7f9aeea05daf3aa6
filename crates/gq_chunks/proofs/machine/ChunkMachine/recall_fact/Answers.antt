use Rattle.std.proofs.Common.{ap}
use Rattle.gq_chunks.proofs.Begun.{recalled_ok}
use Rattle.gq_chunks.proofs.machine.ChunkMachine.recall_fact.Goals as goal

pub returns-clause-leads : goal.returns-clause-leads
returns-clause-leads g c = recalled_ok c.recall.result c.args.self.now.plan c.args.self.now.node c.args.self.now.lost c.args.self.now.depots.losses _ c.args.self.now.depots.depots.items _ _ _ c.args.tenant c.args.fact c.recall.ensures.own c.recall.ensures.apart c.recall.ensures.tenants c.recall.ensures.losses (ap g.S.Shelf.noted c.recall.ensures.shelf)
