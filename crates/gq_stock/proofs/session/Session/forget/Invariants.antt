-- The runs so far are forgotten.
use Rattle.std.proofs.Common.{◌≤◌, take}
use Rattle.gq_ledger.specs.Ledgers.{book_of, all_fresh}
use Rattle.gq_stock.specs.Forgetting.{ForgotAs}
use Rattle.gq_stock.proofs.session.Session.forget.Given as goal

abbrev pub invariant-loop-run : goal.invariant-loop-run
invariant-loop-run l = ForgotAs (book_of l.fn.self.chunks) l.floor (take l.run-index l.runs) (book_of l.self.chunks) × (all_fresh l.self.chunks ≤ all_fresh l.fn.self.chunks)
