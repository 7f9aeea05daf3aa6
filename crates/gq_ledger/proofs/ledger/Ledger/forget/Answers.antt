use Rattle.std.proofs.Common.{◌+◌, sym, ap, ◌∙◌}
use Rattle.gq_ledger.specs.Used.{used_of}
use Rattle.gq_ledger.proofs.Used.{after_remove, taken_from, before_within}
use Rattle.gq_ledger.proofs.ledger.Ledger.forget.Goals as goal

pub overflow_sub-self : goal.overflow_sub-self
overflow_sub-self g c =
    before_within _ _ _ (ap (λ z. used_of g.T.Long.length c.remove-was.new.self.entries + z) c.long_at-before.ensures ∙ after_remove g.T.Long.length c.args.self.now.chunks.entries c.remove-was.new.self.entries c.args.number c.remove-was.ensures.entries ∙ sym c.args.self.now.counted)

pub overflow_sub-self-2 : goal.overflow_sub-self-2
overflow_sub-self-2 g c =
    before_within _ _ _ (ap (λ z. used_of g.T.Long.fresh_length c.remove-was.new.self.entries + z) c.fresh_at-fresh_before.ensures ∙ after_remove g.T.Long.fresh_length c.args.self.now.chunks.entries c.remove-was.new.self.entries c.args.number c.remove-was.ensures.entries ∙ sym c.args.self.now.fresh_counted)

pub invariant_of-self : goal.invariant_of-self
invariant_of-self g c = record {
  counted = taken_from _ _ _ (ap (λ z. used_of g.T.Long.length c.remove-was.new.self.entries + z) c.long_at-before.ensures ∙ after_remove g.T.Long.length c.args.self.now.chunks.entries c.remove-was.new.self.entries c.args.number c.remove-was.ensures.entries ∙ sym c.args.self.now.counted);
  fresh_counted = taken_from _ _ _ (ap (λ z. used_of g.T.Long.fresh_length c.remove-was.new.self.entries + z) c.fresh_at-fresh_before.ensures ∙ after_remove g.T.Long.fresh_length c.args.self.now.chunks.entries c.remove-was.new.self.entries c.args.number c.remove-was.ensures.entries ∙ sym c.args.self.now.fresh_counted);
}

pub returns-clause-used : goal.returns-clause-used
returns-clause-used g c = after_remove g.T.Long.length c.args.self.now.chunks.entries c.remove-was.new.self.entries c.args.number c.remove-was.ensures.entries

pub returns-clause-fresh : goal.returns-clause-fresh
returns-clause-fresh g c = after_remove g.T.Long.fresh_length c.args.self.now.chunks.entries c.remove-was.new.self.entries c.args.number c.remove-was.ensures.entries
