use Rattle.std.proofs.Common.{◌≡◌, ◌++◌, Ok, map}
use Rattle.gq_shards.proofs.answering.all_of.Given as goal

abbrev pub invariant-loop-told : goal.invariant-loop-told
invariant-loop-told l = map Ok l.all.items ++ l.told-iterator.rest.items ≡ l.initial.told-iterator.rest.items
