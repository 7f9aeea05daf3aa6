-- The tables stand for something after the step.
use Rattle.std.proofs.Common.{◌≡◌, [], ap, subst}
use Rattle.gq_node.specs.Shorts.{own_short, takes_short}
use Rattle.gq_node.specs.ShortSteps.{ActsShortly}
use Rattle.gq_node.specs.Tables.{Tables, Whole}
use Rattle.gq_node.proofs.Starting.{stand_after}
use Rattle.gq_node.proofs.node.Node.short.Goals as goal

pub invariant_of-self : goal.invariant_of-self
invariant_of-self c = λ goes. stand_after c.self.inside.tables c.short.new.self c.args.short.now.tenant (λ site local. (takes_short c.args.from (own_short c.args.short.now) [] site local).doing) (c.in-Ok.ensures.acts []).leads (c.self.invariant goes)

pub returns-in-Ok-clause-acts : goal.returns-in-Ok-clause-acts
returns-in-Ok-clause-acts c =
    let tables : c.self.inside.tables ≡ c.args.self.now.tables = ap (λ (x : Whole). x.tables) c.self.view_is in
    λ bytes. subst (λ (x : Tables). ActsShortly x c.args.short.now.tenant (takes_short c.args.from (own_short c.args.short.now) bytes) c.in-Ok.given c.short.new.self) tables (c.in-Ok.ensures.acts bytes)
