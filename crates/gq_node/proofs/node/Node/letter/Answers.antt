-- The tables stand for something after the step.
use Rattle.std.proofs.Common.{◌≡◌, ap, subst}
use Rattle.gq_tag.specs.Tag.{own_message}
use Rattle.gq_node.specs.Local.{receives}
use Rattle.gq_node.specs.Tables.{Tables, Whole, Acts}
use Rattle.gq_node.proofs.Starting.{stand_after}
use Rattle.gq_node.proofs.node.Node.letter.Goals as goal

pub invariant_of-self : goal.invariant_of-self
invariant_of-self c = λ goes. stand_after c.self.inside.tables c.letter.new.self c.args.message.now.tenant (receives c.args.from (own_message c.args.message.now)) c.in-Ok.ensures.acts.leads (c.self.invariant goes)

pub returns-in-Ok-clause-acts : goal.returns-in-Ok-clause-acts
returns-in-Ok-clause-acts c =
    let tables : c.self.inside.tables ≡ c.args.self.now.tables = ap (λ (x : Whole). x.tables) c.self.view_is in
    subst (λ (x : Tables). Acts x c.args.message.now.tenant (receives c.args.from (own_message c.args.message.now)) c.in-Ok.out c.letter.new.self) tables c.in-Ok.ensures.acts
