use Rattle.std.proofs.Common.{sym}
use Rattle.gq_chunks.proofs.Searching.{last_more}
use Rattle.gq_chunks.proofs.search.last_of.Goals as goal

pub loop-chunk-preserved : goal.loop-chunk-preserved
loop-chunk-preserved c = sym (last_more c.args.after c.args.chunks.now c.loop-chunk.chunk-index (record { number = 0; size = 0 }) c.loop-chunk-test.true)
