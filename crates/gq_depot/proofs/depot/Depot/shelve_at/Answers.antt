use Rattle.std.proofs.Common.{◌<◌, ℕ, List, [], length, refl, arith}
use Rattle.gq_shelf.specs.Notes.{IsClean}
use Rattle.gq_shelf.specs.declared.extent.Extent.{Extent}
use Rattle.gq_depot.specs.declared.depot.Depot.{Depot}
use Rattle.gq_depot.proofs.Moved.{moved_at, fact_put, moved_reads}
use Rattle.gq_depot.proofs.Standing.{give_leads, stands_still, nothing_led}
use Rattle.gq_depot.proofs.depot.Depot.shelve_at.Goals as goal

pub returns-clause-gives : goal.returns-clause-gives
returns-clause-gives g c written =
    let within : c.args.place < length c.shelve.new.self.sessions.items = omega (arith, c.requires.there, c.in-Ok.ensures.sessions) in
    moved_at (IsClean written (g.S.Shelf.noted c.shelve.new.shelf)) written (g.S.Shelf.end c.args.shelf.now) c.args.self.now c.shelve.new.self.sessions.items c.args.place c.args.session c.args.number c.in_ok-fact.fact within (c.in-Ok.ensures.moved written c.if-not-is_moved.false)
    (stands_still c.shelve.new.self c.note.new.self.stock c.args.place c.args.session c.args.number c.in_ok-fact.fact c.note.ensures.stock c.in_ok-fact.ensures)

pub returns-clause-leads : goal.returns-clause-leads
returns-clause-leads g c =
    let mid : Depot = record { stock = c.shelve.new.self; lacks = c.args.self.now.lacks; gone = c.args.self.now.gone; in_journal = 0 } in
    give_leads c.args.self.now mid c.note.new.self c.args.place c.args.session c.args.number c.in_ok-fact.fact c.requires.number c.requires.there c.in-Ok.ensures.sessions c.in-Ok.ensures.allowed refl refl c.in-Ok.ensures.others
    (c.in-Ok.ensures.alone c.if-not-is_moved.false) c.note.ensures.stock c.note.ensures.lacks c.note.ensures.gone
    (stands_still c.shelve.new.self c.note.new.self.stock c.args.place c.args.session c.args.number c.in_ok-fact.fact c.note.ensures.stock c.in_ok-fact.ensures)

pub returns-clause-put : goal.returns-clause-put
returns-clause-put g c =
    let within : c.args.place < length c.shelve.new.self.sessions.items = omega (arith, c.requires.there, c.in-Ok.ensures.sessions) in
    fact_put c.shelve.new.self.sessions.items c.args.place c.args.session c.args.number c.in_ok-fact.fact (g.S.Shelf.noted c.shelve.new.shelf) within (c.in-Ok.ensures.put c.if-not-is_moved.false)
    (stands_still c.shelve.new.self c.note.new.self.stock c.args.place c.args.session c.args.number c.in_ok-fact.fact c.note.ensures.stock c.in_ok-fact.ensures)

pub returns-clause-reads : goal.returns-clause-reads
returns-clause-reads g c =
    let within : c.args.place < length c.shelve.new.self.sessions.items = omega (arith, c.requires.there, c.in-Ok.ensures.sessions) in
    let none : Extent → List ℕ = λ extent. [] in
    moved_reads (IsClean none (g.S.Shelf.noted c.shelve.new.shelf)) none (g.S.Shelf.end c.args.shelf.now) c.args.self.now c.args.place c.args.session c.args.number c.in_ok-fact.fact c.requires.number c.requires.there (c.fits_at.ensures c.if-not-fits_at.false)
    (moved_at (IsClean none (g.S.Shelf.noted c.shelve.new.shelf)) none (g.S.Shelf.end c.args.shelf.now) c.args.self.now c.shelve.new.self.sessions.items c.args.place c.args.session c.args.number c.in_ok-fact.fact within (c.in-Ok.ensures.moved none c.if-not-is_moved.false)
    (stands_still c.shelve.new.self c.note.new.self.stock c.args.place c.args.session c.args.number c.in_ok-fact.fact c.note.ensures.stock c.in_ok-fact.ensures))

pub returns-then-not-is_moved-clause-leads : goal.returns-then-not-is_moved-clause-leads
returns-then-not-is_moved-clause-leads g c =
    let mid : Depot = record { stock = c.shelve.new.self; lacks = c.args.self.now.lacks; gone = c.args.self.now.gone; in_journal = c.args.self.now.in_journal } in
    nothing_led c.args.self.now mid c.args.place c.args.session c.requires.number c.requires.there c.in-Ok.ensures.sessions c.in-Ok.ensures.allowed refl refl c.in-Ok.ensures.others (c.in-Ok.ensures.same c.if-not-is_moved.true)

pub returns-in-Err-clause-full : goal.returns-in-Err-clause-full
returns-in-Err-clause-full g c full =
    let mid : Depot = record { stock = c.shelve.new.self; lacks = c.args.self.now.lacks; gone = c.args.self.now.gone; in_journal = c.args.self.now.in_journal } in
    nothing_led c.args.self.now mid c.args.place c.args.session c.requires.number c.requires.there c.in-Err.ensures.sessions c.in-Err.ensures.allowed refl refl c.in-Err.ensures.others c.in-Err.ensures.unchanged
