use Rattle.std.proofs.Common.{◌≡◌, ◌≤◌, ◌<◌, true, ℕ, length, get_or}
use Rattle.gq_shards.specs.declared.ways.Way.{Way}
use Rattle.gq_shards.specs.Shards.{Stops}
use Rattle.gq_shards.proofs.ways.stop_at.Given as goal

-- the ways of the shards so far went on
abbrev pub invariant-loop-shard : goal.invariant-loop-shard
invariant-loop-shard l = record {
  size : length l.ways ≡ length l.fn.ways;
  before : (k : ℕ) (d : Way) → k < l.shard → Stops true l.fn.place l.fn.after (get_or l.fn.ways k d) (get_or l.ways k d);
  from_here : (k : ℕ) (d : Way) → l.shard ≤ k → get_or l.ways k d ≡ get_or l.fn.ways k d;
}
