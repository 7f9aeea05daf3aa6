use Rattle.std.proofs.Common.{◌∙◌, sym}
use Rattle.gq_shelf.proofs.Clean.{goes_on}
use Rattle.gq_stock.proofs.Syncing.{puts_on, vouched_puts, behind_put, behind_puts, refusal_puts}
use Rattle.gq_stock.proofs.moving.put_vouched.Goals as goal

pub returns-in_err-there-clause-goes_on : goal.returns-in_err-there-clause-goes_on
returns-in_err-there-clause-goes_on g c = goes_on (g.S.Shelf.noted c.args.shelf.now) (g.S.Shelf.noted c.vouch.new.shelf) (g.S.Shelf.noted c.put.new.shelf) c.vouch.ensures.goes_on c.put.ensures.goes_on

pub returns-clause-goes_on : goal.returns-clause-goes_on
returns-clause-goes_on g c = goes_on (g.S.Shelf.noted c.args.shelf.now) (g.S.Shelf.noted c.vouch.new.shelf) (g.S.Shelf.noted c.put.new.shelf) c.vouch.ensures.goes_on c.put.ensures.goes_on

pub returns-clause-bytes : goal.returns-clause-bytes
returns-clause-bytes g c written clean = c.in_ok-there.ensures.bytes written clean ∙ sym (c.vouch.ensures.bytes written c.if-not-vouch.false (c.put.ensures.goes_on written clean))

pub returns-clause-put : goal.returns-clause-put
returns-clause-put g c = behind_put c.in_ok-there.there _ _ (g.S.Shelf.noted c.vouch.new.shelf) (g.S.Shelf.noted c.put.new.shelf) c.in_ok-there.ensures.put

pub returns-clause-puts_stay : goal.returns-clause-puts_stay
returns-clause-puts_stay g c =
    puts_on (g.S.Shelf.noted c.args.shelf.now) (g.S.Shelf.noted c.vouch.new.shelf) (g.S.Shelf.noted c.put.new.shelf)
    (vouched_puts c.args.place.now c.args.bytes.now (g.S.Shelf.noted c.args.shelf.now) (g.S.Shelf.noted c.vouch.new.shelf) (c.vouch.ensures.noted c.if-not-vouch.false))
    (behind_puts c.in_ok-there.there _ _ (g.S.Shelf.noted c.vouch.new.shelf) (g.S.Shelf.noted c.put.new.shelf) c.in_ok-there.ensures.put)

pub returns-clause-described : goal.returns-clause-described
returns-clause-described g c = c.vouch.ensures.describes c.if-not-vouch.false
