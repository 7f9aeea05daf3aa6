use Rattle.std.proofs.lemmas.List.Sorted.{IsNonDecreasingBy-from_sort}
use Rattle.gq_laws.specs.Operations.{ops_at}
use Rattle.gq_picture.specs.Columns.{begins, ends, latest}
use Rattle.gq_picture.proofs.Rising.{count_as, count_same, rise_as}
use Rattle.gq_picture.proofs.columns.Columns.new.Goals as goal

pub invariant_of-result : goal.invariant_of-result
invariant_of-result c = record {
  begins_rise = IsNonDecreasingBy-from_sort (λ x. x) c.sort_items.new.self.items c.in_ok-sort_items.ensures.sorted;
  ends_rise = IsNonDecreasingBy-from_sort (λ x. x) c.sort_items-2.new.self.items c.in_ok-sort_items-2.ensures.sorted;
  latest_rise = rise_as (ops_at c.args.ops.now c.args.order.now) c.in_ok-latest.latest.items c.in_ok-latest.ensures;
}

pub returns : goal.returns
returns c = let seq = ops_at c.args.ops.now c.args.order.now in record {
  of_begins = count_as (begins seq) c.in_ok-begins.begins.items c.sort_items.new.self.items c.in_ok-begins.ensures c.in_ok-sort_items.ensures.permutation;
  of_ends = count_as (ends seq) c.in_ok-ends.ends.items c.sort_items-2.new.self.items c.in_ok-ends.ensures c.in_ok-sort_items-2.ensures.permutation;
  of_latest = count_same (latest seq) c.in_ok-latest.latest.items c.in_ok-latest.ensures;
}
