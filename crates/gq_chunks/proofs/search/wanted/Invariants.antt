-- Those that are wanted so far.
use Rattle.std.proofs.Common.{◌≡◌, take}
use Rattle.gq_chunks.specs.Search.{wanted_of}
use Rattle.gq_chunks.proofs.search.wanted.Given as goal

abbrev pub invariant-loop-chunk : goal.invariant-loop-chunk
invariant-loop-chunk l = l.left.items ≡ wanted_of l.depot l.session (take l.chunk-index l.chunks)
