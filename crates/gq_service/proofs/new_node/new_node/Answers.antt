use Rattle.gq_service.proofs.new_node.new_node.Goals as goal

pub returns : goal.returns
returns c = c.bereft_node.ensures
