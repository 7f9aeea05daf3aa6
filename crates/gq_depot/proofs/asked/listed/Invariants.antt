-- The first chunks so far.
use Rattle.std.proofs.Common.{◌≡◌, ◌≤◌, ◌-◌, length}
use Rattle.gq_depot.specs.declared.limits.TheConstants.{MOST_LISTED}
use Rattle.gq_ledger.specs.Ledgers.{book_of}
use Rattle.gq_depot.specs.Answers.{Follow, last_of}
use Rattle.gq_depot.proofs.asked.listed.Given as goal

abbrev pub invariant-loop-number : goal.invariant-loop-number
invariant-loop-number l = Follow (book_of l.session.chunks) l.after l.chunks.items × (l.last ≡ last_of l.after l.chunks.items) × (length l.chunks.items ≤ MOST_LISTED)

abbrev pub decreases-loop-number : goal.decreases-loop-number
decreases-loop-number l = MOST_LISTED - length l.chunks.items
