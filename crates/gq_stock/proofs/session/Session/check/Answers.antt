use Rattle.gq_stock.proofs.Syncing.{read_puts}
use Rattle.gq_stock.proofs.session.Session.check.Goals as goal

pub returns-in-Ok-clause-puts_stay : goal.returns-in-Ok-clause-puts_stay
returns-in-Ok-clause-puts_stay g c = read_puts c.in-Some.chunk.now.place _ (g.S.Shelf.noted c.args.shelf.now) (g.S.Shelf.noted c.read.new.shelf) c.in-Ok.ensures.read
