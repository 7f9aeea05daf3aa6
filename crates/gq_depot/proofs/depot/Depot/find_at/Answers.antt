use Rattle.gq_ledger.specs.Ledgers.{book_of}
use Rattle.gq_depot.proofs.Standing.{found_told}
use Rattle.gq_depot.proofs.depot.Depot.find_at.Goals as goal

pub returns-clause-found : goal.returns-clause-found
returns-clause-found g c written session is = found_told _ written c.args.self.now.lacks c.is_told.result ((book_of session.chunks).at c.args.number) c.in_ok-found.found (c.is_told.ensures session is) c.if-not-is_told.false (c.in_ok-found.ensures.found written session is)
