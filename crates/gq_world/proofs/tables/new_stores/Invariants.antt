-- The stores so far.
use Rattle.std.proofs.Common.{◌≡◌, replicate}
use Rattle.gq_store.specs.Copies.{empty_store}
use Rattle.gq_world.proofs.tables.new_stores.Given as goal

abbrev pub invariant-loop-server : goal.invariant-loop-server
invariant-loop-server l = l.stores.items ≡ replicate l._server (empty_store l.plan)
