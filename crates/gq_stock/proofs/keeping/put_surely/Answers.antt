use Rattle.gq_shelf.proofs.Clean.{goes_on, sync_goes_on}
use Rattle.gq_stock.proofs.Memory.{put_behind}
use Rattle.gq_stock.proofs.Syncing.{refusal_goes_on, put_sure}
use Rattle.gq_stock.proofs.keeping.put_surely.Goals as goal

pub returns-in_err-sync-clause-goes_on : goal.returns-in_err-sync-clause-goes_on
returns-in_err-sync-clause-goes_on g c = goes_on (g.S.Shelf.noted c.args.shelf.now) (g.S.Shelf.noted c.put.new.shelf) (g.S.Shelf.noted c.sync.new.self) c.put.ensures.goes_on (refusal_goes_on (g.S.Shelf.noted c.put.new.shelf) (g.S.Shelf.noted c.sync.new.self) c.in_err-sync.ensures.refused)

pub returns-clause-goes_on : goal.returns-clause-goes_on
returns-clause-goes_on g c = goes_on (g.S.Shelf.noted c.args.shelf.now) (g.S.Shelf.noted c.put.new.shelf) (g.S.Shelf.noted c.sync.new.self) c.put.ensures.goes_on (sync_goes_on (g.S.Shelf.noted c.put.new.shelf) (g.S.Shelf.noted c.sync.new.self) c.in_ok-sync.ensures.sure)

pub returns-clause-sure : goal.returns-clause-sure
returns-clause-sure g c = put_sure c.in_ok-place.place _ _ _ _ _ c.in_ok-place.ensures.put c.in_ok-sync.ensures.sure

pub returns-clause-bytes : goal.returns-clause-bytes
returns-clause-bytes g c written clean = c.in_ok-place.ensures.bytes written (sync_goes_on (g.S.Shelf.noted c.put.new.shelf) (g.S.Shelf.noted c.sync.new.self) c.in_ok-sync.ensures.sure written clean)

pub returns-clause-shelved : goal.returns-clause-shelved
returns-clause-shelved g c = put_behind c.in_ok-place.place _ _ _ _ c.in_ok-place.ensures.put
