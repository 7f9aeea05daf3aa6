use Rattle.std.proofs.Common.{length}
use Rattle.gq_journal.proofs.Scanning.{Searched}
use Rattle.gq_journal.proofs.batches.has_right_batch.Given as goal

abbrev pub invariant-loop-line : goal.invariant-loop-line
invariant-loop-line l = Searched l.text l.rest

abbrev pub decreases-loop-line : goal.decreases-loop-line
decreases-loop-line l = length l.rest
