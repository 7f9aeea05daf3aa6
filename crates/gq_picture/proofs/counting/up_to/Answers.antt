use Rattle.std.proofs.Common.{◌<◌, ◌≤◌, ◌+◌, nat_le, get_or, arith, rules, of_calls}
use Rattle.std.proofs.lemmas.Bool.{leb-true, leb-false}
use Rattle.std.proofs.lemmas.Fn.{always_returns_same}
use Rattle.std.proofs.lemmas.List.Sorted.{IsPartitionedBy-leb}
use Rattle.gq_picture.proofs.Turning.{below_turn}
use Rattle.gq_picture.proofs.counting.up_to.Goals as goal

pub returns : goal.returns
returns c =
    let xs = c.args.numbers.now in let n = c.args.n in
    let point = c.partition_point.ensures.partitioned (λ x. nat_le x n) (always_returns_same _ _ _ (λ a r f k. search (rules, of_calls))) (IsPartitionedBy-leb (λ x. x) xs n c.requires) in
    below_turn (n + 1) xs c.partition_point.result c.partition_point.ensures.bound
    (λ k e low. let up_to : get_or xs k e ≤ n = leb-true _ n (point.0 k e (omega arith) low) in omega arith)
    (λ k e high low. let above : n < get_or xs k e = leb-false _ n (point.1 k e high low) in omega arith)
