-- The home is read off the plan.
use Rattle.std.proofs.Common.{◌∙◌, ap}
use Rattle.std.specs.Prelude.{◌==◌}
use Rattle.gq_node.specs.Sites.{home_of}
use Rattle.gq_node.specs.Tables.{Tables}
use Rattle.gq_node.proofs.tables.Core.is_home.Goals as goal

pub returns : goal.returns
returns c =
    ap (λ n. n == c.self.inside.node) c.home.ensures.home
    ∙ ap (λ (x : Tables). home_of x.plan c.args.tenant c.args.session == x.here.node) c.self.view_is
