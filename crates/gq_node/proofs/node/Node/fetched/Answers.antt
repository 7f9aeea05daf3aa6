-- The tables stand for something after the step.
use Rattle.gq_tag.specs.Tag.{file_place}
use Rattle.gq_node.specs.Joining.{takes}
use Rattle.gq_node.proofs.Starting.{stand_after}
use Rattle.gq_node.proofs.node.Node.fetched.Goals as goal

pub invariant_of-self : goal.invariant_of-self
invariant_of-self c = λ goes. stand_after c.self.inside.tables c.take.new.self c.args.file.tenant (takes c.args.from (file_place c.args.file) c.args.copy) c.take.ensures.leads (c.self.invariant goes)
