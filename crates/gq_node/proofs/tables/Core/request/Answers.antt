-- What the number decides is told, or passed over.
use Rattle.std.proofs.Common.{◌∙◌, ap, sym}
use Rattle.gq_node.proofs.Asking.{of_line, some_one, told_by_number, passed_by_number}
use Rattle.gq_node.specs.Asking.{admission_at}
use Rattle.gq_node.specs.Local.{asker, begins}
use Rattle.gq_node.proofs.tables.Core.request.Goals as goal

pub returns-in-Tells : goal.returns-in-Tells
returns-in-Tells c =
    let one = some_one (begins c.args.line.now) (asker c.args.line.now) c.in-Some.session c.in-Some.begins (sym c.in-Some.is ∙ c.asked.ensures) in
    record {
      acts = told_by_number c.args.self.now c.args.tenant c.in-Some.session c.args.op c.args.line.now c.in-Tells.answer c.told-in-Tells.result (of_line c.in-Some.session c.args.line.now one.0)
          (ap (admission_at c.args.self.now c.args.tenant c.in-Some.session c.args.op) one.1 ∙ sym c.in_ok-answer.ensures ∙ c.in-Tells.is)
          (record { answer_is = c.told-in-Tells.ensures.answer; letters = c.told-in-Tells.ensures.letters; transfer = c.told-in-Tells.ensures.transfer; fact = c.told-in-Tells.ensures.fact });
    }

pub returns-in-Passes : goal.returns-in-Passes
returns-in-Passes c =
    let one = some_one (begins c.args.line.now) (asker c.args.line.now) c.in-Some.session c.in-Some.begins (sym c.in-Some.is ∙ c.asked.ensures) in
    record {
      acts = passed_by_number c.args.self.now c.args.tenant c.in-Some.session c.args.op c.args.line.now c.nothing.result (of_line c.in-Some.session c.args.line.now one.0)
          (ap (admission_at c.args.self.now c.args.tenant c.in-Some.session c.args.op) one.1 ∙ sym c.in_ok-answer.ensures ∙ c.in-Passes.is)
          (record { answer = c.nothing.ensures.answer; letters = c.nothing.ensures.letters; transfer = c.nothing.ensures.transfer; fact = c.nothing.ensures.fact });
    }
