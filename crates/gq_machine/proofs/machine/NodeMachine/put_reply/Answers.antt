-- The line goes to the node that the whole letter would go to.
use Rattle.std.proofs.Common.{◌∙◌, ◌++◌, [], Option, ap, sym}
use Rattle.gq_desk.specs.CheckedPlan.{CheckedPlan}
use Rattle.gq_tag.specs.declared.Message.{Message}
use Rattle.gq_node.specs.declared.shorts.Short.{Short}
use Rattle.gq_node.specs.Shorts.{body_with}
use Rattle.gq_node.specs.ShortSteps.{whole_of}
use Rattle.gq_node.specs.Sites.{address_of}
use Rattle.gq_node.specs.Tables.{Tables}
use Rattle.gq_wire.specs.Texts.{short_line}
use Rattle.gq_parts.specs.Texts.{reply_text}
use Rattle.gq_parts.proofs.Taking.{on_ok}
use Rattle.gq_machine.proofs.machine.NodeMachine.put_reply.Goals as goal

pub returns-in-Some : goal.returns-in-Some
returns-in-Some c =
    let w : Tables = c.args.self.now.node.tables in
    let short : Short = c.in-Some.short in
    let before = c.args.told.now.items in
    on_ok c.put_short.result (λ is.
    is
    ∙ ap (λ (p : CheckedPlan). before ++ short_line p c.address.result c.number.result short) c.plan.ensures
    ∙ ap (λ to. before ++ short_line w.plan to c.number.result short) c.address.ensures
    ∙ ap (λ (m : Message). before ++ short_line w.plan (address_of w.plan w.here m) c.number.result short) c.plain.ensures
    ∙ ap (λ from. before ++ short_line w.plan (address_of w.plan w.here (whole_of short (body_with [] short.body))) from short) c.number.ensures
    ∙ ap (λ (reply : Option Short). before ++ reply_text w.plan w.here reply) (sym c.in-Some.is)) c.put_short.ensures.ok
