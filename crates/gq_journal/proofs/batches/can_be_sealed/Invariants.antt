use Rattle.std.proofs.Common.{length}
use Rattle.gq_journal.proofs.Scanning.{Scanned}
use Rattle.gq_journal.proofs.batches.can_be_sealed.Given as goal

abbrev pub invariant-loop-line : goal.invariant-loop-line
invariant-loop-line l = Scanned 0 l.text l.rest

abbrev pub decreases-loop-line : goal.decreases-loop-line
decreases-loop-line l = length l.rest
