use Rattle.gq_stock.proofs.Moved.{moved_in, alone_in, none_in, err_in, put_in, used_stays, fresh_falls}
use Rattle.gq_stock.proofs.Sessions.{others_stay}
use Rattle.gq_stock.proofs.stock.Stock.shelve.Goals as goal

pub returns-clause-moved : goal.returns-clause-moved
returns-clause-moved g c written = moved_in c.shelve.result _ written _ c.args.self.now.sessions.items c.args.place c.args.number c.index_mut.result.now c.shelve.new.self c.requires c.index_mut.ensures.value (c.shelve.ensures.is written)

pub returns-clause-alone : goal.returns-clause-alone
returns-clause-alone g c = alone_in c.shelve.result c.args.self.now.sessions.items c.args.place c.args.number c.index_mut.result.now c.shelve.new.self c.requires c.index_mut.ensures.value c.shelve.ensures.alone

pub returns-clause-same : goal.returns-clause-same
returns-clause-same g c = none_in c.shelve.result c.args.self.now.sessions.items c.args.place c.index_mut.result.now c.shelve.new.self c.requires c.index_mut.ensures.value c.shelve.ensures.same

pub returns-clause-put : goal.returns-clause-put
returns-clause-put g c = put_in c.shelve.result c.args.self.now.sessions.items c.args.place c.args.number c.shelve.new.self _ c.requires c.shelve.ensures.put

pub returns-clause-others : goal.returns-clause-others
returns-clause-others g c other is = others_stay c.args.self.now.sessions.items c.args.place other c.shelve.new.self is

pub returns-clause-used : goal.returns-clause-used
returns-clause-used g c = used_stays c.args.self.now.sessions.items c.args.place c.index_mut.result.now c.shelve.new.self c.requires c.index_mut.ensures.value c.shelve.ensures.used

pub returns-clause-fresh : goal.returns-clause-fresh
returns-clause-fresh g c = fresh_falls c.args.self.now.sessions.items c.args.place c.index_mut.result.now c.shelve.new.self c.requires c.index_mut.ensures.value c.shelve.ensures.fresh

pub returns-clause-unchanged : goal.returns-clause-unchanged
returns-clause-unchanged g c = err_in c.shelve.result c.args.self.now.sessions.items c.args.place c.index_mut.result.now c.shelve.new.self c.requires c.index_mut.ensures.value c.shelve.ensures.unchanged
