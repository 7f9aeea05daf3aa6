use Rattle.std.proofs.Common.{◌≡◌, length}
use Rattle.gq_lines.specs.Words.{words_after}
use Rattle.gq_page.specs.Text.{numbers_of}
use Rattle.gq_page.proofs.Fronts.{in_front}
use Rattle.gq_page.proofs.reading.numbers_of.Given as goal

abbrev pub decreases-loop-word : goal.decreases-loop-word
decreases-loop-word l = length (words_after l.rest)

-- the numbers so far and those of the rest are those of the whole
abbrev pub invariant-loop-word : goal.invariant-loop-word
invariant-loop-word l = in_front l.numbers.items (numbers_of (words_after l.rest)) ≡ numbers_of (words_after l.text)
