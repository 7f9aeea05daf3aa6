-- The tables stand for something with the volume.
use Rattle.std.proofs.Common.{◌∙◌, ap}
use Rattle.gq_node.specs.Tables.{Whole}
use Rattle.gq_node.proofs.Starting.{stand_opened}
use Rattle.gq_node.proofs.node.Node.open.Goals as goal

pub invariant_of-result : goal.invariant_of-result
invariant_of-result c = λ goes.
    stand_opened c.self.inside.tables c.in_ok-tables.tables c.args.tenant (record { files = c.args.files; blocks = c.args.blocks }) c.in_ok-tables.ensures.opened
    (c.self.invariant (ap (λ (x : Whole). x.ended) c.self.view_is ∙ c.requires.has_memory))
