use Rattle.std.proofs.Common.{◌≡◌, vec_len}
use Rattle.gq_shards.proofs.answering.untold.Given as goal

-- one for each shard so far
abbrev pub invariant-loop-shard : goal.invariant-loop-shard
invariant-loop-shard l = vec_len l.tried ≡ l._shard
