-- The tenants so far.
use Rattle.std.proofs.Common.{◌≡◌, ◌<◌, ℕ, map}
use Rattle.std.specs.List.{flat_map, range_with_len}
use Rattle.gq_node.specs.Needing.{tenant_facts, AllReadable}
use Rattle.gq_node.specs.Tables.{fact_of}
use Rattle.gq_node.proofs.tables.Core.needed.Given as goal

abbrev pub invariant-loop-place : goal.invariant-loop-place
invariant-loop-place l =
    (l.facts.items ≡ flat_map (λ t. map (fact_of t) (tenant_facts l.self t)) (range_with_len 0 l.place))
    × ((t : ℕ) → t < l.place → AllReadable l.self t)
