use Rattle.std.proofs.Common.{List, ℕ, subst}
use Rattle.std.specs.Prelude.{IfOk}
use Rattle.gq_shelf.specs.Notes.{IsClean}
use Rattle.gq_ledger.specs.Ledgers.{book_of}
use Rattle.gq_stock.specs.Held.{contents}
use Rattle.gq_stock.specs.Keeping.{ComparesAs}
use Rattle.gq_stock.proofs.Compared.{compared}
use Rattle.gq_stock.proofs.Syncing.{never_new}
use Rattle.gq_stock.proofs.session.Session.keep.Goals as goal

pub returns-in-There-clause-kept : goal.returns-in-There-clause-kept
returns-in-There-clause-kept g c written =
    compared c.compare.result (IsClean written (g.S.Shelf.noted c.compare.new.shelf)) (contents written (book_of c.args.self.now.chunks)) c.args.number c.args.bytes c.args.is_sure c.args.free
    (subst (λ (bytes : List ℕ). IfOk c.compare.result (λ told. IsClean written (g.S.Shelf.noted c.compare.new.shelf) → ComparesAs ((contents written (book_of c.args.self.now.chunks)).at c.args.number) bytes told)) c.as_slice.ensures (c.compare.ensures.told written))

pub returns-in-There-clause-sure : goal.returns-in-There-clause-sure
returns-in-There-clause-sure g c = never_new c.compare.result _ c.compare.ensures.not_new

pub returns-in-There-clause-alone : goal.returns-in-There-clause-alone
returns-in-There-clause-alone g c = never_new c.compare.result _ c.compare.ensures.not_new

pub returns-in-There-clause-long : goal.returns-in-There-clause-long
returns-in-There-clause-long g c = never_new c.compare.result _ c.compare.ensures.not_new
