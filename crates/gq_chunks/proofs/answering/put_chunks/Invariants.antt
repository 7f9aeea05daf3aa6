-- The chunks so far.
use Rattle.std.proofs.Common.{◌≡◌, ◌++◌, take, map}
use Rattle.gq_lines.specs.Written.{spaced}
use Rattle.gq_chunks.specs.Answers.{chunk_word}
use Rattle.gq_chunks.proofs.answering.put_chunks.Given as goal

abbrev pub invariant-loop-chunk : goal.invariant-loop-chunk
invariant-loop-chunk l = l.out.items ≡ l.fn.out.items ++ spaced (map chunk_word (take l.chunk-index l.chunks))
