use Rattle.std.proofs.Common.{◌∙◌, sym}
use Rattle.gq_shelf.proofs.Clean.{goes_on}
use Rattle.gq_stock.proofs.Syncing.{puts_on, read_puts, refusal_puts, behind_puts}
use Rattle.gq_stock.proofs.moving.copied_from_shelf.Goals as goal

pub returns-in_err-there-in-Ok-clause-goes_on : goal.returns-in_err-there-in-Ok-clause-goes_on
returns-in_err-there-in-Ok-clause-goes_on g c = goes_on (g.S.Shelf.noted c.args.shelf.now) (g.S.Shelf.noted c.read.new.shelf) (g.S.Shelf.noted c.put.new.shelf) c.read.ensures.goes_on c.put.ensures.goes_on

pub returns-in_ok-there-in-Ok-clause-goes_on : goal.returns-in_ok-there-in-Ok-clause-goes_on
returns-in_ok-there-in-Ok-clause-goes_on g c = goes_on (g.S.Shelf.noted c.args.shelf.now) (g.S.Shelf.noted c.read.new.shelf) (g.S.Shelf.noted c.put.new.shelf) c.read.ensures.goes_on c.put.ensures.goes_on

pub returns-in_ok-there-in-Ok-clause-bytes : goal.returns-in_ok-there-in-Ok-clause-bytes
returns-in_ok-there-in-Ok-clause-bytes g c written clean =
    c.in_ok-there-in-Ok.ensures.bytes written clean ∙ (c.as_slice.ensures ∙ sym (c.in-Ok.ensures.bytes written (c.put.ensures.goes_on written clean)))

pub returns-in_err-there-in-Ok-clause-puts_stay : goal.returns-in_err-there-in-Ok-clause-puts_stay
returns-in_err-there-in-Ok-clause-puts_stay g c =
    puts_on (g.S.Shelf.noted c.args.shelf.now) (g.S.Shelf.noted c.read.new.shelf) (g.S.Shelf.noted c.put.new.shelf)
    (read_puts c.args.place.now c.in-Ok.bytes (g.S.Shelf.noted c.args.shelf.now) (g.S.Shelf.noted c.read.new.shelf) c.in-Ok.ensures.read)
    (refusal_puts (g.S.Shelf.noted c.read.new.shelf) (g.S.Shelf.noted c.put.new.shelf) c.in_err-there-in-Ok.ensures.refused)

pub returns-in_ok-there-in-Ok-clause-puts_stay : goal.returns-in_ok-there-in-Ok-clause-puts_stay
returns-in_ok-there-in-Ok-clause-puts_stay g c =
    puts_on (g.S.Shelf.noted c.args.shelf.now) (g.S.Shelf.noted c.read.new.shelf) (g.S.Shelf.noted c.put.new.shelf)
    (read_puts c.args.place.now c.in-Ok.bytes (g.S.Shelf.noted c.args.shelf.now) (g.S.Shelf.noted c.read.new.shelf) c.in-Ok.ensures.read)
    (behind_puts c.in_ok-there-in-Ok.there _ _ (g.S.Shelf.noted c.read.new.shelf) (g.S.Shelf.noted c.put.new.shelf) c.in_ok-there-in-Ok.ensures.put)
