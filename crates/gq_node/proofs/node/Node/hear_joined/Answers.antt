-- The tables stand for something after the step.
use Rattle.gq_node.specs.Joining.{hears_joined}
use Rattle.gq_node.proofs.Starting.{stand_all}
use Rattle.gq_node.proofs.node.Node.hear_joined.Goals as goal

pub invariant_of-self : goal.invariant_of-self
invariant_of-self c = λ goes. stand_all c.self.inside.tables c.join.new.self (hears_joined c.args.from c.args.losses) c.join.ensures.leads (c.self.invariant goes)
