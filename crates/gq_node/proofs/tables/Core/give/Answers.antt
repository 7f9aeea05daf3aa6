-- The node gives its copy, where it does.
use Rattle.std.proofs.Common.{◌∙◌, sym}
use Rattle.gq_node.proofs.Giving.{gives_not, gives_so}
use Rattle.gq_node.proofs.tables.Core.give.Goals as goal

pub returns-then-not-gives : goal.returns-then-not-gives
returns-then-not-gives c = record {
  acts = gives_not c.args.self.now c.args.from c.args.file c.nothing.result (sym c.gives.ensures.gives ∙ c.if-not-gives.true)
      (record { answer = c.nothing.ensures.answer; letters = c.nothing.ensures.letters; transfer = c.nothing.ensures.transfer; fact = c.nothing.ensures.fact });
}

pub returns : goal.returns
returns c = record {
  acts = gives_so c.args.self.now c.args.from c.args.file c.in_ok-copy.copy c.sent.result (sym c.gives.ensures.gives ∙ c.if-not-gives.false) c.in_ok-copy.ensures
      (record { answer = c.sent.ensures.answer; letters = c.sent.ensures.letters; transfer_is = c.sent.ensures.transfer; fact = c.sent.ensures.fact });
}
