use Rattle.std.proofs.Common.{length}
use Rattle.gq_lines.specs.Words.{words_after}
use Rattle.try_names.proofs.words.words_of.Given as goal

abbrev pub decreases-loop-word : goal.decreases-loop-word
decreases-loop-word l = length (words_after l.rest)
