use Rattle.std.proofs.Common.{refl, arith}
use Rattle.std.specs.Prelude.{not}
use Rattle.gq_depot.specs.declared.depot.Depot.{Depot}
use Rattle.gq_depot.proofs.Memory.{stays_on}
use Rattle.gq_depot.proofs.Standing.{leads_by, leads_on, tells_by, gives_by, sure_by, reads_by}
use Rattle.gq_depot.proofs.depot.Depot.keep_at.Goals as goal

pub returns-clause-tells : goal.returns-clause-tells
returns-clause-tells g c written clean = tells_by written c.args.self.now c.args.place c.args.session c.args.number c.args.bytes (not c.args.self.now.lacks) c.args.losses c.floor_at-floor.result c.free-free.result c.in_ok-told.told c.keep.new.self.sessions.items c.requires.there c.in_ok-told.ensures.sessions c.free-free.ensures c.floor_at-floor.ensures (c.in_ok-told.ensures.kept written clean)

pub returns-clause-gives : goal.returns-clause-gives
returns-clause-gives g c written clean = gives_by written c.args.self.now.stock.sessions.items c.keep.new.self.sessions.items c.args.place c.args.session c.args.number c.args.bytes (not c.args.self.now.lacks) c.args.losses c.floor_at-floor.result c.free-free.result _ c.in_ok-told.told c.in_ok-fact.fact c.requires.there c.in_ok-told.ensures.sessions (c.in_ok-told.ensures.kept written clean) c.in_ok-fact.ensures.gives

pub returns-clause-leads : goal.returns-clause-leads
returns-clause-leads g c =
    let mid : Depot = record { stock = c.keep.new.self; lacks = c.args.self.now.lacks; gone = c.args.self.now.gone; in_journal = 0 } in
    leads_on c.args.self.now mid c.fact_of.new.self c.in_ok-fact.fact
    (leads_by c.args.self.now mid c.args.place c.args.session c.args.number c.in_ok-told.told c.in_ok-fact.fact c.requires.number c.requires.there c.in_ok-told.ensures.sessions c.in_ok-told.ensures.allowed refl refl c.in_ok-told.ensures.others (c.in_ok-told.ensures.alone, c.in_ok-told.ensures.stays) c.in_ok-fact.ensures.gives)
    c.in_ok-fact.ensures.stock c.in_ok-fact.ensures.lacks c.in_ok-fact.ensures.gone

pub returns-clause-sure : goal.returns-clause-sure
returns-clause-sure g c = sure_by c.keep.new.self.sessions.items c.args.place c.args.session c.args.number c.in_ok-told.told c.in_ok-fact.fact _ (omega (arith, c.requires.there, c.in_ok-told.ensures.sessions)) c.in_ok-told.ensures.sure c.in_ok-fact.ensures.gives

pub returns-clause-reads : goal.returns-clause-reads
returns-clause-reads g c = reads_by c.keep.new.self.sessions.items c.args.place c.args.session c.args.number _ c.in_ok-told.told c.in_ok-fact.fact c.requires.number c.requires.there c.in_ok-told.ensures.sessions c.requires.long c.in_ok-told.ensures.long c.in_ok-fact.ensures.gives

pub returns-clause-memory : goal.returns-clause-memory
returns-clause-memory g c = stays_on c.args.self.now c.keep.new.self c.fact_of.new.self.stock c.in_ok-fact.ensures.stock c.in_ok-told.ensures.within
