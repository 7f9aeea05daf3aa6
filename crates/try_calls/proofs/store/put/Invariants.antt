use Rattle.std.proofs.Common.{◌≡◌}
use Rattle.gq_store.specs.Copies.{store_accounts}
use Rattle.try_calls.proofs.store.put.Given as goal

abbrev pub invariant-loop-number : goal.invariant-loop-number
invariant-loop-number l = store_accounts l.store ≡ store_accounts l.initial.store
