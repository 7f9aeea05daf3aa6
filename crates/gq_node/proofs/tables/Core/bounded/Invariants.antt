-- The tenants so far have room.
use Rattle.std.proofs.Common.{ℕ, ◌<◌}
use Rattle.gq_node.specs.Lacks.{HasRoom}
use Rattle.gq_node.specs.Tables.{given_at}
use Rattle.gq_node.proofs.tables.Core.bounded.Given as goal

abbrev pub invariant-loop-tenant : goal.invariant-loop-tenant
invariant-loop-tenant l = (t : ℕ) → t < l.tenant → HasRoom (given_at l.self t)
