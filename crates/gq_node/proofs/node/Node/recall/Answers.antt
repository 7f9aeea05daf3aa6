-- The tables stand for something after the step.
use Rattle.std.proofs.Common.{◌∙◌, ap}
use Rattle.gq_node.specs.Local.{recalls}
use Rattle.gq_node.specs.Recalling.{tenant_of, own_fact, fits_in}
use Rattle.gq_node.specs.Tables.{Whole}
use Rattle.gq_node.proofs.Starting.{stand_after}
use Rattle.gq_node.proofs.node.Node.recall.Goals as goal

pub invariant_of-self : goal.invariant_of-self
invariant_of-self c = λ goes. stand_after c.self.inside.tables c.recall.new.self (tenant_of c.args.fact.now) (recalls (own_fact c.args.fact.now)) c.recall.ensures.leads (c.self.invariant goes)

pub returns-clause-fits : goal.returns-clause-fits
returns-clause-fits c = c.recall.ensures.fits ∙ ap (λ (x : Whole). fits_in x.tables c.args.fact.now) c.self.view_is
