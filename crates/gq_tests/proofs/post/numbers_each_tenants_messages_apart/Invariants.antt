-- The channels stay two.
use Rattle.std.proofs.Common.{◌≡◌, length}
use Rattle.gq_tests.proofs.post.numbers_each_tenants_messages_apart.Given as goal

abbrev pub invariant-loop-number : goal.invariant-loop-number
invariant-loop-number g l = length l.post ≡ 2
