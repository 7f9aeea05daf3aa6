use Rattle.std.proofs.Common.{◌≡◌, Option, ap, sym, subst, refl, arith}
use Rattle.std.specs.Prelude.{IfSome, option_map, unwrap_or}
use Rattle.gq_shelf.specs.declared.place.Place.{Place}
use Rattle.gq_shelf.specs.Notes.{IsClean}
use Rattle.gq_shelf.specs.Places.{content_at, long_at}
use Rattle.gq_ledger.specs.Ledgers.{book_of, bytes_under}
use Rattle.gq_stock.specs.Charge.{charge_of}
use Rattle.gq_stock.specs.Moving.{LiesBehind}
use Rattle.gq_stock.specs.Sure.{PlaceIsPut}
use Rattle.gq_stock.specs.declared.chunk.Chunk.{Chunk}
use Rattle.gq_stock.specs.Memory.{fresh_at}
use Rattle.gq_stock.proofs.Memory.{lies_all}
use Rattle.gq_stock.proofs.Moved.{moved, moved_to, moved_put}
use Rattle.gq_stock.proofs.session.Session.shelve.Goals as goal

pub give-requires : goal.give-requires
give-requires g c =
    let under : bytes_under c.args.self.now.chunks c.args.number ≡ charge_of (long_at c.in-Some.chunk.now.place) = ap (λ (o : Option Chunk). unwrap_or (option_map (λ (chunk : Chunk). charge_of (long_at chunk.place)) o) 0) (sym c.in-Some.ensures) in
    let long : long_at c.in-Some-2.place ≡ long_at c.in-Some.chunk.now.place = subst (λ (o : Option Place). IfSome o (λ there. long_at there ≡ long_at c.in-Some.chunk.now.place)) c.in-Some-2.is c.in_ok-place.ensures.long in
    omega (arith, under, long, c.used-used.ensures)

pub returns-clause-moved : goal.returns-clause-moved
returns-clause-moved g c written clean =
    let bytes = subst (λ (o : Option Place). IfSome o (λ there. IsClean written (g.S.Shelf.noted c.copied.new.shelf) → content_at written there ≡ content_at written c.in-Some.chunk.now.place)) c.in-Some-2.is (c.in_ok-place.ensures.bytes written) in
    moved written (book_of c.args.self.now.chunks) (book_of c.give.new.self) c.args.number c.in-Some.chunk.now _ (sym c.in-Some.ensures) (bytes clean) refl c.in_ok-give.ensures.leads

pub returns-clause-fresh : goal.returns-clause-fresh
returns-clause-fresh g c =
    let none : fresh_at c.in-Some-2.place ≡ 0 = subst (λ (o : Option Place). IfSome o (λ there. fresh_at there ≡ 0)) c.in-Some-2.is (lies_all _ _ c.in_ok-place.ensures.shelved) in
    omega (arith, none, c.in_ok-give.ensures.fresh)

pub returns-clause-is : goal.returns-clause-is
returns-clause-is g c written is =
    let long : long_at c.in-Some-2.place ≡ long_at c.in-Some.chunk.now.place = subst (λ (o : Option Place). IfSome o (λ there. long_at there ≡ long_at c.in-Some.chunk.now.place)) c.in-Some-2.is c.in_ok-place.ensures.long in
    let lies : LiesBehind (g.S.Shelf.end c.args.shelf.now) c.in-Some-2.place = subst (λ (o : Option Place). IfSome o (λ there. LiesBehind (g.S.Shelf.end c.args.shelf.now) there)) c.in-Some-2.is c.in_ok-place.ensures.shelved in
    let bytes = subst (λ (o : Option Place). IfSome o (λ there. IsClean written (g.S.Shelf.noted c.copied.new.shelf) → content_at written there ≡ content_at written c.in-Some.chunk.now.place)) c.in-Some-2.is (c.in_ok-place.ensures.bytes written) in
    moved_to (IsClean written (g.S.Shelf.noted c.copied.new.shelf)) written (g.S.Shelf.end c.args.shelf.now) (book_of c.args.self.now.chunks) (book_of c.give.new.self) c.args.number c.in-Some.chunk.now _ (sym c.in-Some.ensures) c.in_ok-give.ensures.leads refl long lies bytes

pub returns-clause-put : goal.returns-clause-put
returns-clause-put g c is =
    let put : PlaceIsPut c.in-Some-2.place (g.S.Shelf.noted c.copied.new.shelf) = subst (λ (o : Option Place). IfSome o (λ there. PlaceIsPut there (g.S.Shelf.noted c.copied.new.shelf))) c.in-Some-2.is c.in_ok-place.ensures.put in
    moved_put (book_of c.args.self.now.chunks) (book_of c.give.new.self) c.args.number _ (g.S.Shelf.noted c.copied.new.shelf) c.in_ok-give.ensures.leads put
