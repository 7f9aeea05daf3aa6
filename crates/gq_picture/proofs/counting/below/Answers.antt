use Rattle.std.proofs.Common.{nat_lt, arith, rules, of_calls}
use Rattle.std.proofs.lemmas.Bool.{ltb-true, ltb-false}
use Rattle.std.proofs.lemmas.Fn.{always_returns_same}
use Rattle.std.proofs.lemmas.List.Sorted.{IsPartitionedBy-ltb}
use Rattle.gq_picture.proofs.Turning.{below_turn}
use Rattle.gq_picture.proofs.counting.below.Goals as goal

pub returns : goal.returns
returns c =
    let xs = c.args.numbers.now in let n = c.args.n in
    let point = c.partition_point.ensures.partitioned (λ x. nat_lt x n) (always_returns_same _ _ _ (λ a r f k. search (rules, of_calls))) (IsPartitionedBy-ltb (λ x. x) xs n c.requires) in
    below_turn n xs c.partition_point.result c.partition_point.ensures.bound
    (λ k e low. ltb-true _ n (point.0 k e (omega arith) low))
    (λ k e high low. ltb-false _ n (point.1 k e high low))
