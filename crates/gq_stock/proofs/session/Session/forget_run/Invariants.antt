-- The numbers of the run so far are absent.
use Rattle.std.proofs.Common.{◌≤◌, ◌-◌}
use Rattle.gq_ledger.specs.Ledgers.{book_of, all_fresh}
use Rattle.gq_stock.proofs.Numbers.{TookAway}
use Rattle.gq_stock.proofs.session.Session.forget_run.Given as goal

abbrev pub invariant-loop-found : goal.invariant-loop-found
invariant-loop-found l = TookAway (book_of l.fn.self.chunks) (book_of l.self.chunks) l.run.first l.from × (l.run.first ≤ l.from) × (l.from ≤ l.run.last) × (all_fresh l.self.chunks ≤ all_fresh l.fn.self.chunks)

abbrev pub decreases-loop-found : goal.decreases-loop-found
decreases-loop-found l = l.run.last - l.from
