-- What is read of the rest, behind the chunks so far, is what is read of all.
use Rattle.std.proofs.Common.{◌≡◌, [], length}
use Rattle.gq_lines.specs.Words.{words_after}
use Rattle.gq_chunks.specs.PeerLines.{pairs_behind}
use Rattle.gq_chunks.proofs.hearing.pairs.Given as goal

abbrev pub invariant-loop-rest : goal.invariant-loop-rest
invariant-loop-rest l = pairs_behind l.chunks.items (words_after l.rest) ≡ pairs_behind [] (words_after l.text)

abbrev pub decreases-loop-rest : goal.decreases-loop-rest
decreases-loop-rest l = length (words_after l.rest)
