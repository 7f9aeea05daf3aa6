-- The sessions so far begin where they have to.
use Rattle.std.proofs.Common.{◌≡◌, ℕ}
use Rattle.gq_node.specs.Opening.{Becomes, lost_local}
use Rattle.gq_node.specs.Tables.{Agrees}
use Rattle.gq_node.proofs.Bereaving.{part_to}
use Rattle.gq_node.proofs.tables.Core.reserve_all.Given as goal

abbrev pub invariant-loop-place : goal.invariant-loop-place
invariant-loop-place l =
    (l.self.plan ≡ l.fn.self.plan)
    × ((lost : ℕ) → Agrees l.fn.self l.tenant (lost_local l.fn.self l.tenant lost) → Becomes l.fn.self l.tenant (part_to l.fn.self l.tenant lost l.losses l.place) l.self)
