-- The tables stand for something after the step.
use Rattle.std.proofs.Common.{◌≡◌, ◌<◌, length, ap, sym, subst}
use Rattle.std.specs.Prelude.{is_some}
use Rattle.gq_node.specs.Sites.{session_at}
use Rattle.gq_node.specs.Local.{ticks}
use Rattle.gq_node.specs.Tables.{Tables, Whole, Acts}
use Rattle.gq_node.proofs.Starting.{stand_after}
use Rattle.gq_node.proofs.node.Node.tick.Goals as goal

pub invariant_of-self : goal.invariant_of-self
invariant_of-self c = λ goes. stand_after c.self.inside.tables c.tick.new.self c.args.tenant (ticks (session_at c.self.inside.tables.plan c.self.inside.tables.here c.args.tenant c.args.place)) c.in-Ok.ensures.acts.leads (c.self.invariant goes)

pub returns-in-Ok-clause-acts : goal.returns-in-Ok-clause-acts
returns-in-Ok-clause-acts c =
    let tables : c.self.inside.tables ≡ c.args.self.now.tables = ap (λ (x : Whole). x.tables) c.self.view_is in
    subst (λ (x : Tables). Acts x c.args.tenant (ticks (session_at x.plan x.here c.args.tenant c.args.place)) c.in-Ok.out c.tick.new.self) tables c.in-Ok.ensures.acts

pub tick-requires-clause-stands : goal.tick-requires-clause-stands
tick-requires-clause-stands c =
    let tables : c.self.inside.tables ≡ c.args.self.now.tables = ap (λ (x : Whole). x.tables) c.self.view_is in
    let within : c.args.tenant < length c.self.inside.tables.plan.rows = subst (λ (x : Tables). c.args.tenant < length x.plan.rows) (sym tables) c.requires.tenant in
    c.self.invariant (ap is_some c.in_default.is) c.args.tenant within
