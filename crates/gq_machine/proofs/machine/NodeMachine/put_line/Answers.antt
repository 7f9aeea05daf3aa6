-- The line goes to the node that the letter goes to, in the letter's form.
use Rattle.std.proofs.Common.{◌∙◌, ◌++◌, Option, ap}
use Rattle.gq_desk.specs.CheckedPlan.{CheckedPlan}
use Rattle.gq_tag.specs.declared.Message.{Message}
use Rattle.gq_node.specs.declared.shorts.Short.{Short}
use Rattle.gq_node.specs.Sites.{address_of}
use Rattle.gq_node.specs.Tables.{Tables}
use Rattle.gq_wire.specs.Texts.{short_line}
use Rattle.gq_parts.specs.Texts.{formed_line}
use Rattle.gq_parts.proofs.Taking.{on_ok}
use Rattle.gq_machine.proofs.machine.NodeMachine.put_line.Goals as goal

pub returns-in-Some : goal.returns-in-Some
returns-in-Some c =
    let w : Tables = c.args.self.now.node.tables in
    let letter : Message = c.args.letter.now in
    let short : Short = c.in-Some.short in
    let before = c.args.told.now.items in
    on_ok c.put_short.result (λ is.
    is
    ∙ ap (λ (p : CheckedPlan). before ++ short_line p c.address.result c.number.result short) c.plan.ensures
    ∙ ap (λ to. before ++ short_line w.plan to c.number.result short) c.address.ensures
    ∙ ap (λ from. before ++ short_line w.plan (address_of w.plan w.here letter) from short) c.number.ensures
    ∙ ap (λ (form : Option Short). before ++ formed_line w.plan w.here letter form) c.in-Some.ensures) c.put_short.ensures.ok

pub returns-in-None : goal.returns-in-None
returns-in-None c =
    let w : Tables = c.args.self.now.node.tables in
    let before = c.args.told.now.items in
    on_ok c.put_whole.result (λ is. is ∙ ap (λ (form : Option Short). before ++ formed_line w.plan w.here c.args.letter.now form) c.in-None.ensures) c.put_whole.ensures
