use Rattle.gq_node_words.proofs.words.command.Goals as goal

pub returns : goal.returns
returns c =
    let to_node = c.with-to_node.ensures.app _ _ c.bare.ensures.app c.node.ensures.shape in
    record { app = c.with.ensures.app _ _ to_node c.plan.ensures.shape }
