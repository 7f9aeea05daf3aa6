-- A line of another kind is no request.
use Rattle.gq_node.proofs.Asking.{bad_acts, no_asker}
use Rattle.gq_node.proofs.tables.Core.go.Goals as goal

pub returns-in_default : goal.returns-in_default
returns-in_default c = record {
  acts = bad_acts c.args.self.now c.args.tenant c.args.op c.args.line.now c.told.result (no_asker c.args.line.now c.in_default.not-Write c.in_default.not-Read c.in_default.not-List c.in_default.not-Abandon)
      (record { answer_is = c.told.ensures.answer; letters = c.told.ensures.letters; transfer = c.told.ensures.transfer; fact = c.told.ensures.fact });
}
