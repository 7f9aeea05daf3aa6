use Rattle.std.proofs.Common.{◌≡◌, ◌≤◌, ap, arith, get_or}
use Rattle.gq_ledger.specs.Ledgers.{all_bytes}
use Rattle.gq_stock.specs.declared.session.Session.{Session}
use Rattle.gq_stock.specs.Stocks.{used_in}
use Rattle.gq_stock.proofs.Memory.{kept_fresh, kept_within}
use Rattle.gq_stock.proofs.Sessions.{used_within, kept_in, others_stay, err_stays, sure_in, long_in, changes_in, keeps_in, damaged_in}
use Rattle.gq_stock.proofs.stock.Stock.keep.Goals as goal

pub keep-requires-clause-room : goal.keep-requires-clause-room
keep-requires-clause-room g c =
    let d = c.index_mut-session.result.now in
    let within : all_bytes (get_or c.args.self.now.sessions.items c.args.place d).chunks ≤ used_in c.args.self.now.sessions.items = used_within c.args.self.now.sessions.items c.args.place d c.requires.there in
    let same : all_bytes d.chunks ≡ all_bytes (get_or c.args.self.now.sessions.items c.args.place d).chunks = ap (λ (s : Session). all_bytes s.chunks) c.index_mut-session.ensures.value in
    omega (arith, within, same, c.free-free.ensures, c.used-used.ensures)

pub returns-clause-kept : goal.returns-clause-kept
returns-clause-kept g c written = kept_in c.keep.result written c.args.self.now.sessions.items c.args.place c.args.number c.args.bytes c.args.is_sure c.free-free.result c.args.self.now.allowed _ c.index_mut-session.result.now c.keep.new.self c.requires.there c.index_mut-session.ensures.value c.free-free.ensures (c.keep.ensures.kept written)

pub returns-clause-others : goal.returns-clause-others
returns-clause-others g c other is = others_stay c.args.self.now.sessions.items c.args.place other c.keep.new.self is

pub returns-clause-unchanged : goal.returns-clause-unchanged
returns-clause-unchanged g c = err_stays c.keep.result c.args.self.now.sessions.items c.args.place c.index_mut-session.result.now c.keep.new.self c.requires.there c.index_mut-session.ensures.value c.keep.ensures.unchanged

pub returns-clause-sure : goal.returns-clause-sure
returns-clause-sure g c = sure_in c.keep.result c.args.self.now.sessions.items c.args.place c.args.number c.keep.new.self (g.S.Shelf.noted c.keep.new.shelf) c.requires.there c.keep.ensures.sure

pub returns-clause-alone : goal.returns-clause-alone
returns-clause-alone g c = changes_in c.keep.result c.args.self.now.sessions.items c.args.place c.args.number c.index_mut-session.result.now c.keep.new.self c.requires.there c.index_mut-session.ensures.value c.keep.ensures.alone

pub returns-clause-stays : goal.returns-clause-stays
returns-clause-stays g c = keeps_in c.keep.result c.args.self.now.sessions.items c.args.place c.index_mut-session.result.now c.keep.new.self c.requires.there c.index_mut-session.ensures.value c.keep.ensures.stays

pub returns-clause-damaged : goal.returns-clause-damaged
returns-clause-damaged g c = damaged_in c.keep.result c.args.self.now.sessions.items c.args.place c.args.number c.index_mut-session.result.now _ _ c.requires.there c.index_mut-session.ensures.value c.keep.ensures.damaged

pub returns-clause-long : goal.returns-clause-long
returns-clause-long g c = long_in c.keep.result c.args.self.now.sessions.items c.args.place c.args.number c.keep.new.self _ c.requires.there c.keep.ensures.long

pub returns-clause-fresh : goal.returns-clause-fresh
returns-clause-fresh g c = kept_fresh c.keep.result c.args.self.now.sessions.items c.args.place c.index_mut-session.result.now c.keep.new.self _ c.left-left.result _ c.requires.there c.index_mut-session.ensures.value c.left-left.ensures c.keep.ensures.fresh

pub returns-clause-within : goal.returns-clause-within
returns-clause-within g c = kept_within c.keep.result c.args.self.now.sessions.items c.args.place c.index_mut-session.result.now c.keep.new.self _ c.left-left.result _ c.requires.there c.index_mut-session.ensures.value c.left-left.ensures c.keep.ensures.fresh c.keep.ensures.as_fresh
