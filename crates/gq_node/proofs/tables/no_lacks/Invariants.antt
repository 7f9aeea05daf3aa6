-- The tenants so far.
use Rattle.std.proofs.Common.{◌≡◌, [], replicate, vec_len, vec_capacity}
use Rattle.gq_node.proofs.tables.no_lacks.Given as goal

abbrev pub invariant-loop : goal.invariant-loop
invariant-loop l =
    (l.lacks.items ≡ replicate l.counter [])
    × (vec_len l.lacks ≡ l.counter)
    × (vec_capacity l.lacks ≡ vec_capacity l.initial.lacks)
