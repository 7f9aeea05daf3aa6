-- The tables stand for something after the step.
use Rattle.gq_node.specs.Joining.{looks}
use Rattle.gq_node.proofs.Starting.{stand_after}
use Rattle.gq_node.proofs.node.Node.look.Goals as goal

pub invariant_of-self : goal.invariant_of-self
invariant_of-self c = λ goes. stand_after c.self.inside.tables c.look.new.self c.args.tenant (looks c.args.lane) c.look.ensures.leads (c.self.invariant goes)
