-- It is the form that the tables have the letter written in.
use Rattle.std.proofs.Common.{◌≡◌, ap, subst}
use Rattle.gq_node.specs.ShortSteps.{ShortFormIs}
use Rattle.gq_node.specs.Tables.{Tables, Whole}
use Rattle.gq_node.proofs.node.Node.short_of.Goals as goal

pub returns-clause-stands : goal.returns-clause-stands
returns-clause-stands c =
    let tables : c.self.inside.tables ≡ c.args.self.now.tables = ap (λ (x : Whole). x.tables) c.self.view_is in
    subst (λ (x : Tables). ShortFormIs x c.args.message.now c.short_of.result) tables c.short_of.ensures.stands
