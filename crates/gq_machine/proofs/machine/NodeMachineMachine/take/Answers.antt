-- What was taken is what the line brings.
use Rattle.std.proofs.Common.{◌≡◌, ◌∙◌, subst, ap}
use Rattle.gq_desk.specs.CheckedPlan.{CheckedPlan}
use Rattle.gq_text.specs.Canonical.{IsPlan}
use Rattle.gq_wire.specs.Incoming.{incoming_of}
use Rattle.gq_wire.specs.declared.incoming.Incoming.{Incoming}
use Rattle.gq_parts.specs.Steps.{TookIncoming}
use Rattle.gq_parts.proofs.Taking.{takes_line}
use Rattle.gq_machine.specs.Machines.{tables_of}
use Rattle.gq_machine.proofs.machine.NodeMachineMachine.take.Goals as goal

pub returns-clause-takes : goal.returns-clause-takes
returns-clause-takes c =
    let w = c.args.self.now.node.tables in
    let is : IsPlan w.plan = subst IsPlan c.plan.ensures c.plan_is_sound.ensures in
    let incoming : c.in_ok-incoming.incoming ≡ incoming_of w.plan w.here.node c.args.line.now =
    c.in_ok-incoming.ensures.incoming ∙ ap (λ (p : CheckedPlan). incoming_of p c.number.result c.args.line.now) c.plan-2.ensures ∙ ap (λ n. incoming_of w.plan n c.args.line.now) c.number.ensures in
    let P : Incoming → Type 0 = λ i. TookIncoming w i c.args.facts.now.items c.take_incoming.new.facts.items c.args.told.now.items c.take_incoming.new.told.items c.take_incoming.new.self.node.tables in
    takes_line tables_of c.args.self.now c.take_incoming.new.self c.args.line.now _ _ _ _ is c.in_ok-has_memory.ensures (subst P incoming c.in_ok-take_incoming.ensures)
