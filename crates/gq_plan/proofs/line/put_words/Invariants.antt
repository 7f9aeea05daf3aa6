-- The words so far.
use Rattle.std.proofs.Common.{◌≡◌, ◌++◌, take, map}
use Rattle.gq_lines.specs.Written.{spaced}
use Rattle.gq_plan.specs.PlanWords.{word_of}
use Rattle.gq_plan.proofs.line.put_words.Given as goal

abbrev pub invariant-loop-word : goal.invariant-loop-word
invariant-loop-word l = l.out.items ≡ l.fn.out.items ++ spaced (map word_of (take l.word-index l.words))
