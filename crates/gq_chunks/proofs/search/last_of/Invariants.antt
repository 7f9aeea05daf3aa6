-- The last number so far.
use Rattle.std.proofs.Common.{◌≡◌, take}
use Rattle.gq_depot.specs.Answers.{last_of}
use Rattle.gq_chunks.proofs.search.last_of.Given as goal

abbrev pub invariant-loop-chunk : goal.invariant-loop-chunk
invariant-loop-chunk l = l.last ≡ last_of l.after (take l.chunk-index l.chunks)
