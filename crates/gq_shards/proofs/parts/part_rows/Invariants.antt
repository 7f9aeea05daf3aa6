use Rattle.std.proofs.Common.{◌≡◌, ◌++◌, drop}
use Rattle.gq_shards.specs.Shards.{part_rows}
use Rattle.gq_shards.proofs.parts.part_rows.Given as goal

abbrev pub invariant-loop-tenant : goal.invariant-loop-tenant
invariant-loop-tenant l = l.part.items ++ part_rows l.fn.shards l.fn.shard l.tenant (drop l.tenant l.fn.rows) ≡ part_rows l.fn.shards l.fn.shard 0 l.fn.rows
