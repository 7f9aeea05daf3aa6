use Rattle.std.proofs.Common.{◌≡◌, ◌+◌, ◌≤◌, None, sym, ap, ◌∙◌, arith}
use Rattle.std.specs.Ordering.{nat_cmp}
use Rattle.std.specs.BTreeMap.{get}
use Rattle.gq_ledger.specs.Used.{used_of}
use Rattle.gq_ledger.proofs.Used.{long_of, after_insert, absent_long, kept_with, fresh_within}
use Rattle.gq_ledger.proofs.ledger.Ledger.keep.Goals as goal

pub overflow_add-self-then-eq : goal.overflow_add-self-then-eq
overflow_add-self-then-eq g c =
    let sums : used_of g.T.Long.fresh_length c.args.self.now.chunks.entries ≤ used_of g.T.Long.length c.args.self.now.chunks.entries = fresh_within g.T.Long.fresh_length g.T.Long.length c.args.self.now.chunks.entries g.met.T.Long.within in
    let own : g.T.Long.fresh_length c.args.chunk ≤ g.T.Long.length c.args.chunk = g.met.T.Long.within c.args.chunk in
    let fits : g.T.Long.length c.args.chunk ≤ c.args.free = grind (arith, c.verdict-verdict.ensures, c.if-eq.ensures, c.eq.ensures, c.len-long.ensures) in
    omega (arith, sums, own, fits, c.fresh_len-fresh.ensures, c.args.self.now.counted, c.args.self.now.fresh_counted, c.requires)

pub invariant_of-self-then-eq : goal.invariant_of-self-then-eq
invariant_of-self-then-eq g c =
    let none : get nat_cmp c.args.self.now.chunks c.args.number ≡ None = grind (arith, c.verdict-verdict.ensures, c.if-eq.ensures, c.eq.ensures) in
    record {
      counted = kept_with _ (long_of g.T.Long.length c.args.self.now.chunks.entries c.args.number) _ _ (absent_long g.T.Long.length c.args.self.now.chunks.entries c.args.number none)
          (after_insert g.T.Long.length c.args.self.now.chunks.entries c.grow_at.new.self.entries c.args.number c.args.chunk c.grow_at.ensures.was_ordered c.in_ok-grow_at.ensures.entries
          ∙ ap (λ z. z + g.T.Long.length c.args.chunk) (sym c.args.self.now.counted) ∙ ap (λ z. c.args.self.now.used + z) (sym c.len-long.ensures));
      fresh_counted = kept_with _ (long_of g.T.Long.fresh_length c.args.self.now.chunks.entries c.args.number) _ _ (absent_long g.T.Long.fresh_length c.args.self.now.chunks.entries c.args.number none)
          (after_insert g.T.Long.fresh_length c.args.self.now.chunks.entries c.grow_at.new.self.entries c.args.number c.args.chunk c.grow_at.ensures.was_ordered c.in_ok-grow_at.ensures.entries
          ∙ ap (λ z. z + g.T.Long.fresh_length c.args.chunk) (sym c.args.self.now.fresh_counted) ∙ ap (λ z. c.args.self.now.fresh + z) (sym c.fresh_len-fresh.ensures));
    }
