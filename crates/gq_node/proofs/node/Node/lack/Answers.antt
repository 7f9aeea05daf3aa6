-- The tables stand for something after the step.
use Rattle.gq_node.proofs.Starting.{stand_bereaved}
use Rattle.gq_node.proofs.node.Node.lack.Goals as goal

pub invariant_of-self : goal.invariant_of-self
invariant_of-self c = λ goes. stand_bereaved c.self.inside.tables c.lack.new.self c.args.tenant (record { volumes = c.args.volumes; losses = c.args.losses }) c.in-Ok.ensures.begins (c.self.invariant goes)
