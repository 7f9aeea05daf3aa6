use Rattle.std.proofs.lemmas.Result.{on_ok_weaker, on_err_weaker}
use Rattle.gq_shards.specs.Shards.{waiting}
use Rattle.gq_shards.proofs.Passing.{on_err, prefix_longer, prefix_after, passes_both}
use Rattle.gq_shards.proofs.chunk.Chunk.put_far.Goals as goal

pub returns-in_err-flush-clause-prefix : goal.returns-in_err-flush-clause-prefix
returns-in_err-flush-clause-prefix g c = on_err c.from_residual.result (prefix_longer _ _ (waiting c.args.self.now) c.args.bytes.now c.in_err-flush.ensures.prefix)

pub returns-then-bytes-len-clause-ok : goal.returns-then-bytes-len-clause-ok
returns-then-bytes-len-clause-ok g c = on_ok_weaker c.write_whole.result (passes_both _ _ _ (waiting c.args.self.now) c.args.bytes.now (waiting c.flush.new.self) c.in_ok-flush.ensures.ok c.in_ok-flush.ensures.empty) c.write_whole.ensures.ok

pub returns-then-bytes-len-clause-prefix : goal.returns-then-bytes-len-clause-prefix
returns-then-bytes-len-clause-prefix g c = on_err_weaker c.write_whole.result (prefix_after _ _ _ (waiting c.args.self.now) c.args.bytes.now c.in_ok-flush.ensures.ok) c.write_whole.ensures.prefix
