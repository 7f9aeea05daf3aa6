use Rattle.gq_shelf.proofs.Clean.{goes_on}
use Rattle.gq_stock.proofs.Syncing.{puts_on, read_puts, failed_puts}
use Rattle.gq_stock.proofs.moving.copied_from_peer.Goals as goal

pub returns-in-Ok-clause-puts_stay : goal.returns-in-Ok-clause-puts_stay
returns-in-Ok-clause-puts_stay g c = read_puts c.args.place.now _ (g.S.Shelf.noted c.args.shelf.now) (g.S.Shelf.noted c.read.new.shelf) c.in-Ok.ensures.read

pub returns-in-Err-Damaged-clause-puts_stay : goal.returns-in-Err-Damaged-clause-puts_stay
returns-in-Err-Damaged-clause-puts_stay g c =
    puts_on (g.S.Shelf.noted c.args.shelf.now) (g.S.Shelf.noted c.read.new.shelf) (g.S.Shelf.noted c.put_vouched.new.shelf)
    (failed_puts c.args.place.now c.in-Err-Damaged.field-0 (g.S.Shelf.noted c.args.shelf.now) (g.S.Shelf.noted c.read.new.shelf) c.in-Err-Damaged.ensures.failed) c.put_vouched.ensures.puts_stay

pub returns-in-Err-Damaged-clause-goes_on : goal.returns-in-Err-Damaged-clause-goes_on
returns-in-Err-Damaged-clause-goes_on g c = goes_on (g.S.Shelf.noted c.args.shelf.now) (g.S.Shelf.noted c.read.new.shelf) (g.S.Shelf.noted c.put_vouched.new.shelf) c.in-Err-Damaged.ensures.goes_on c.put_vouched.ensures.goes_on
