use Rattle.std.proofs.Common.{◌≡◌, ◌≤◌, drop}
use Rattle.gq_lines.specs.declared.long_numbers.TheConstants.{MOST_LONG}
use Rattle.gq_lines.specs.Words.{number_after}
use Rattle.gq_lines.proofs.long_numbers.long_from_digits.Given as goal

abbrev pub invariant-loop-c : goal.invariant-loop-c
invariant-loop-c l = (number_after MOST_LONG l.n (drop l.c-index l.word) ≡ number_after MOST_LONG 0 l.word) × (l.n ≤ MOST_LONG)
