-- The pairs so far.
use Rattle.std.proofs.Common.{◌≡◌, ◌++◌, take}
use Rattle.gq_lines.specs.Written.{spaced}
use Rattle.gq_chunks.specs.PeerLines.{pair_words}
use Rattle.gq_chunks.proofs.saying.put_pairs.Given as goal

abbrev pub invariant-loop-chunk : goal.invariant-loop-chunk
invariant-loop-chunk l = l.out.items ≡ l.fn.out.items ++ spaced (pair_words (take l.chunk-index l.chunks))
