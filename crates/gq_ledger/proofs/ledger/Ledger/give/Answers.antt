use Rattle.std.proofs.Common.{◌≡◌, ◌+◌, ◌≤◌, sym, ap, ◌∙◌, arith}
use Rattle.gq_ledger.specs.Used.{used_of}
use Rattle.gq_ledger.proofs.Used.{long_of, long_within, after_insert, given_to, fresh_within}
use Rattle.gq_ledger.proofs.ledger.Ledger.give.Goals as goal

pub overflow_sub-self : goal.overflow_sub-self
overflow_sub-self g c =
    let within : long_of g.T.Long.length c.args.self.now.chunks.entries c.args.number ≤ used_of g.T.Long.length c.args.self.now.chunks.entries = long_within g.T.Long.length c.args.self.now.chunks.entries c.args.number in
    omega (arith, within, c.long_at-before.ensures, c.args.self.now.counted)

pub overflow_add-self : goal.overflow_add-self
overflow_add-self g c =
    let within : long_of g.T.Long.length c.args.self.now.chunks.entries c.args.number ≤ used_of g.T.Long.length c.args.self.now.chunks.entries = long_within g.T.Long.length c.args.self.now.chunks.entries c.args.number in
    omega (arith, within, c.long_at-before.ensures, c.len-long.ensures, c.args.self.now.counted, c.requires)

pub overflow_sub-self-2 : goal.overflow_sub-self-2
overflow_sub-self-2 g c =
    let within : long_of g.T.Long.fresh_length c.args.self.now.chunks.entries c.args.number ≤ used_of g.T.Long.fresh_length c.args.self.now.chunks.entries = long_within g.T.Long.fresh_length c.args.self.now.chunks.entries c.args.number in
    omega (arith, within, c.fresh_at-fresh_before.ensures, c.args.self.now.fresh_counted)

-- what is in memory is no more than what is used, which 64 bits tell
pub overflow_add-self-2 : goal.overflow_add-self-2
overflow_add-self-2 g c =
    let within : long_of g.T.Long.fresh_length c.args.self.now.chunks.entries c.args.number ≤ used_of g.T.Long.fresh_length c.args.self.now.chunks.entries = long_within g.T.Long.fresh_length c.args.self.now.chunks.entries c.args.number in
    let used : used_of g.T.Long.length c.grow_at.new.self.entries + long_of g.T.Long.length c.args.self.now.chunks.entries c.args.number ≡ used_of g.T.Long.length c.args.self.now.chunks.entries + g.T.Long.length c.args.chunk = after_insert g.T.Long.length c.args.self.now.chunks.entries c.grow_at.new.self.entries c.args.number c.args.chunk c.grow_at.ensures.was_ordered c.in_ok-grow_at.ensures.entries in
    let fresh : used_of g.T.Long.fresh_length c.grow_at.new.self.entries + long_of g.T.Long.fresh_length c.args.self.now.chunks.entries c.args.number ≡ used_of g.T.Long.fresh_length c.args.self.now.chunks.entries + g.T.Long.fresh_length c.args.chunk = after_insert g.T.Long.fresh_length c.args.self.now.chunks.entries c.grow_at.new.self.entries c.args.number c.args.chunk c.grow_at.ensures.was_ordered c.in_ok-grow_at.ensures.entries in
    let less : used_of g.T.Long.fresh_length c.grow_at.new.self.entries ≤ used_of g.T.Long.length c.grow_at.new.self.entries = fresh_within g.T.Long.fresh_length g.T.Long.length c.grow_at.new.self.entries g.met.T.Long.within in
    omega (arith, within, used, fresh, less, c.fresh_at-fresh_before.ensures, c.fresh_len-fresh.ensures, c.args.self.now.fresh_counted, c.requires)

pub invariant_of-self-2 : goal.invariant_of-self-2
invariant_of-self-2 g c =
    let within : long_of g.T.Long.length c.args.self.now.chunks.entries c.args.number ≤ used_of g.T.Long.length c.args.self.now.chunks.entries = long_within g.T.Long.length c.args.self.now.chunks.entries c.args.number in
    let fresh_in : long_of g.T.Long.fresh_length c.args.self.now.chunks.entries c.args.number ≤ used_of g.T.Long.fresh_length c.args.self.now.chunks.entries = long_within g.T.Long.fresh_length c.args.self.now.chunks.entries c.args.number in
    let under : c.long_at-before.result ≤ c.args.self.now.used = omega (arith, within, c.long_at-before.ensures, c.args.self.now.counted) in
    let fresh_under : c.fresh_at-fresh_before.result ≤ c.args.self.now.fresh = omega (arith, fresh_in, c.fresh_at-fresh_before.ensures, c.args.self.now.fresh_counted) in
    record {
      counted = given_to _ _ _ _ under
          (ap (λ z. used_of g.T.Long.length c.grow_at.new.self.entries + z) c.long_at-before.ensures ∙ after_insert g.T.Long.length c.args.self.now.chunks.entries c.grow_at.new.self.entries c.args.number c.args.chunk c.grow_at.ensures.was_ordered c.in_ok-grow_at.ensures.entries
          ∙ ap (λ z. z + g.T.Long.length c.args.chunk) (sym c.args.self.now.counted) ∙ ap (λ z. c.args.self.now.used + z) (sym c.len-long.ensures));
      fresh_counted = given_to _ _ _ _ fresh_under
          (ap (λ z. used_of g.T.Long.fresh_length c.grow_at.new.self.entries + z) c.fresh_at-fresh_before.ensures ∙ after_insert g.T.Long.fresh_length c.args.self.now.chunks.entries c.grow_at.new.self.entries c.args.number c.args.chunk c.grow_at.ensures.was_ordered c.in_ok-grow_at.ensures.entries
          ∙ ap (λ z. z + g.T.Long.fresh_length c.args.chunk) (sym c.args.self.now.fresh_counted) ∙ ap (λ z. c.args.self.now.fresh + z) (sym c.fresh_len-fresh.ensures));
    }

pub returns-clause-used : goal.returns-clause-used
returns-clause-used g c = after_insert g.T.Long.length c.args.self.now.chunks.entries c.grow_at.new.self.entries c.args.number c.args.chunk c.grow_at.ensures.was_ordered c.in_ok-grow_at.ensures.entries

pub returns-clause-fresh : goal.returns-clause-fresh
returns-clause-fresh g c = after_insert g.T.Long.fresh_length c.args.self.now.chunks.entries c.grow_at.new.self.entries c.args.number c.args.chunk c.grow_at.ensures.was_ordered c.in_ok-grow_at.ensures.entries
