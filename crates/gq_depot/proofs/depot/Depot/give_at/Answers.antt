use Rattle.std.proofs.Common.{◌<◌, length, Some, refl, arith}
use Rattle.gq_depot.specs.declared.depot.Depot.{Depot}
use Rattle.gq_stock.specs.declared.keeping.Keeping.TheVariants.{New}
use Rattle.gq_depot.proofs.Memory.{stays_on}
use Rattle.gq_depot.proofs.Standing.{give_leads, stands_still, put_given, sure_by, reads_by, nothing_led}
use Rattle.gq_depot.proofs.depot.Depot.give_at.Goals as goal

pub returns-clause-gives : goal.returns-clause-gives
returns-clause-gives g c written clean =
    let within : c.args.place < length c.give.new.self.sessions.items = omega (arith, c.requires.there, c.in-Ok.ensures.sessions) in
    put_given written c.give.new.self.sessions.items c.args.place c.args.session c.args.number c.args.bytes c.in_ok-fact.fact within (c.in-Ok.ensures.given written c.if-not-is_given.false clean)
    (stands_still c.give.new.self c.note.new.self.stock c.args.place c.args.session c.args.number c.in_ok-fact.fact c.note.ensures.stock c.in_ok-fact.ensures)

pub returns-clause-leads : goal.returns-clause-leads
returns-clause-leads g c =
    let mid : Depot = record { stock = c.give.new.self; lacks = c.args.self.now.lacks; gone = c.args.self.now.gone; in_journal = 0 } in
    give_leads c.args.self.now mid c.note.new.self c.args.place c.args.session c.args.number c.in_ok-fact.fact c.requires.number c.requires.there c.in-Ok.ensures.sessions c.in-Ok.ensures.allowed refl refl c.in-Ok.ensures.others
    (c.in-Ok.ensures.alone c.if-not-is_given.false) c.note.ensures.stock c.note.ensures.lacks c.note.ensures.gone
    (stands_still c.give.new.self c.note.new.self.stock c.args.place c.args.session c.args.number c.in_ok-fact.fact c.note.ensures.stock c.in_ok-fact.ensures)

pub returns-clause-sure : goal.returns-clause-sure
returns-clause-sure g c =
    let within : c.args.place < length c.give.new.self.sessions.items = omega (arith, c.requires.there, c.in-Ok.ensures.sessions) in
    sure_by c.give.new.self.sessions.items c.args.place c.args.session c.args.number New (Some c.in_ok-fact.fact) _ within (λ same. c.in-Ok.ensures.sure c.if-not-is_given.false)
    (stands_still c.give.new.self c.note.new.self.stock c.args.place c.args.session c.args.number c.in_ok-fact.fact c.note.ensures.stock c.in_ok-fact.ensures)

pub returns-clause-reads : goal.returns-clause-reads
returns-clause-reads g c =
    reads_by c.give.new.self.sessions.items c.args.place c.args.session c.args.number _ New (Some c.in_ok-fact.fact) c.requires.number c.requires.there c.in-Ok.ensures.sessions c.requires.long (λ same. c.in-Ok.ensures.long c.if-not-is_given.false)
    (stands_still c.give.new.self c.note.new.self.stock c.args.place c.args.session c.args.number c.in_ok-fact.fact c.note.ensures.stock c.in_ok-fact.ensures)

pub returns-clause-memory : goal.returns-clause-memory
returns-clause-memory g c = stays_on c.args.self.now c.give.new.self c.note.new.self.stock c.note.ensures.stock c.in-Ok.ensures.within

pub returns-in-Err-clause-full : goal.returns-in-Err-clause-full
returns-in-Err-clause-full g c full =
    let mid : Depot = record { stock = c.give.new.self; lacks = c.args.self.now.lacks; gone = c.args.self.now.gone; in_journal = c.args.self.now.in_journal } in
    (nothing_led c.args.self.now mid c.args.place c.args.session c.requires.number c.requires.there c.in-Err.ensures.sessions c.in-Err.ensures.allowed refl refl c.in-Err.ensures.others c.in-Err.ensures.unchanged, c.in-Err.ensures.space full)
