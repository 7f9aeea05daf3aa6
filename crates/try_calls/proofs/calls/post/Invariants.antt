use Rattle.std.proofs.Common.{◌<◌, length}
use Rattle.try_calls.proofs.calls.post.Given as goal

abbrev pub invariant-loop-op : goal.invariant-loop-op
invariant-loop-op l = 0 < length l.post
