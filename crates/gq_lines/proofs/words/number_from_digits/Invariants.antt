use Rattle.std.proofs.Common.{◌≡◌, ◌≤◌, drop}
use Rattle.gq_lines.specs.declared.words.TheConstants.{MOST_NUMBER}
use Rattle.gq_lines.specs.Words.{number_after}
use Rattle.gq_lines.proofs.words.number_from_digits.Given as goal

abbrev pub invariant-loop-c : goal.invariant-loop-c
invariant-loop-c l = (number_after MOST_NUMBER l.n (drop l.c-index l.word) ≡ number_after MOST_NUMBER 0 l.word) × (l.n ≤ MOST_NUMBER)
