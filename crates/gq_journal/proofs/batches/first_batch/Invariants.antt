use Rattle.std.proofs.Common.{length}
use Rattle.gq_journal.proofs.Scanning.{Scanned}
use Rattle.gq_journal.proofs.batches.first_batch.Given as goal

abbrev pub invariant-loop-line : goal.invariant-loop-line
invariant-loop-line l = Scanned l.n l.text l.rest

abbrev pub decreases-loop-line : goal.decreases-loop-line
decreases-loop-line l = length l.rest
