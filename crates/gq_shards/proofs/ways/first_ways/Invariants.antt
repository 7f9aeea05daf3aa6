use Rattle.std.proofs.Common.{◌≡◌, ◌<◌, ℕ, vec_len, get_or}
use Rattle.gq_shards.specs.declared.ways.Way.{Way}
use Rattle.gq_shards.specs.Shards.{IsFirstWay}
use Rattle.gq_shards.proofs.ways.first_ways.Given as goal

-- one for each shard so far
abbrev pub invariant-loop-shard : goal.invariant-loop-shard
invariant-loop-shard l = record {
  size : vec_len l.ways ≡ l._shard;
  each : (k : ℕ) (d : Way) → k < l._shard → IsFirstWay (get_or l.ways.items k d);
}
