-- None is counted.
use Rattle.std.proofs.Common.{ℕ, List, sym, subst}
use Rattle.gq_node.specs.Lost.{IsCounted}
use Rattle.gq_node.proofs.Counting.{none_counted}
use Rattle.gq_node.proofs.lost.Lost.none.Goals as goal

pub invariant_of-result : goal.invariant_of-result
invariant_of-result c = subst (λ (ps : List ℕ). IsCounted ps c.in_ok-times.times.items) (sym c.new.ensures.items) (subst (λ (cs : List ℕ). IsCounted _ cs) (sym c.in_ok-times.ensures.items) none_counted)
