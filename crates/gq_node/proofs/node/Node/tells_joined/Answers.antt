-- The tables answer.
use Rattle.std.proofs.Common.{◌∙◌, ap}
use Rattle.gq_node.specs.Joining.{tells_joined}
use Rattle.gq_node.specs.Sites.{site_of}
use Rattle.gq_node.specs.Tables.{Whole}
use Rattle.gq_node.proofs.node.Node.tells_joined.Goals as goal

pub returns : goal.returns
returns c = λ t. c.tells_joined.ensures t ∙ ap (λ (x : Whole). tells_joined c.args.from c.args.losses (site_of x.tables.plan x.tables.here t)) c.self.view_is
