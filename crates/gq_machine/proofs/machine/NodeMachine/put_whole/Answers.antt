-- The line goes to the node that the letter goes to.
use Rattle.std.proofs.Common.{◌∙◌, ◌++◌, ap}
use Rattle.gq_desk.specs.CheckedPlan.{CheckedPlan}
use Rattle.gq_tag.specs.declared.Message.{Message}
use Rattle.gq_node.specs.Sites.{address_of}
use Rattle.gq_node.specs.Tables.{Tables}
use Rattle.gq_wire.specs.Texts.{letter_line}
use Rattle.gq_parts.proofs.Taking.{on_ok}
use Rattle.gq_machine.proofs.machine.NodeMachine.put_whole.Goals as goal

pub returns : goal.returns
returns c =
    let w : Tables = c.args.self.now.node.tables in
    let letter : Message = c.args.letter.now in
    let before = c.args.told.now.items in
    on_ok c.put_letter.result (λ is.
    is
    ∙ ap (λ (p : CheckedPlan). before ++ letter_line p c.address.result c.number.result letter) c.plan.ensures
    ∙ ap (λ to. before ++ letter_line w.plan to c.number.result letter) c.address.ensures
    ∙ ap (λ from. before ++ letter_line w.plan (address_of w.plan w.here letter) from letter) c.number.ensures) c.put_letter.ensures.ok
