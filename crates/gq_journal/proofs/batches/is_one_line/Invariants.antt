use Rattle.std.proofs.Common.{◌≡◌, drop}
use Rattle.gq_journal.specs.Batches.{is_one_line}
use Rattle.gq_journal.proofs.batches.is_one_line.Given as goal

abbrev pub invariant-loop-c : goal.invariant-loop-c
invariant-loop-c l = is_one_line (drop l.c-index l.line) ≡ is_one_line l.line
