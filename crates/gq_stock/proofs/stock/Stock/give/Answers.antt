use Rattle.std.proofs.Common.{◌≡◌, ◌≤◌, ap, arith, get_or}
use Rattle.gq_ledger.specs.Ledgers.{all_bytes}
use Rattle.gq_stock.specs.declared.session.Session.{Session}
use Rattle.gq_stock.specs.Stocks.{used_in}
use Rattle.gq_stock.proofs.Memory.{given_within}
use Rattle.gq_stock.proofs.Sessions.{used_within, others_stay, stays_in}
use Rattle.gq_stock.proofs.Giving.{given_in, given_alone, given_sure, given_long, on_any_error}
use Rattle.gq_stock.proofs.stock.Stock.give.Goals as goal

pub returns-clause-given : goal.returns-clause-given
returns-clause-given g c written is clean = given_in written c.args.self.now.sessions.items c.args.place c.args.number c.args.bytes c.index_mut-session.result.now c.give.new.self c.requires.there (c.in_ok-is_given.ensures.given written is clean)

pub returns-clause-alone : goal.returns-clause-alone
returns-clause-alone g c is = given_alone c.args.self.now.sessions.items c.args.place c.args.number c.index_mut-session.result.now c.give.new.self c.requires.there c.index_mut-session.ensures.value (c.in_ok-is_given.ensures.alone is)

pub returns-clause-same : goal.returns-clause-same
returns-clause-same g c is = stays_in c.args.self.now.sessions.items c.args.place c.index_mut-session.result.now c.give.new.self c.requires.there c.index_mut-session.ensures.value (c.in_ok-is_given.ensures.same is)

pub returns-clause-much : goal.returns-clause-much
returns-clause-much g c is =
    let d = c.index_mut-session.result.now in
    let within : all_bytes (get_or c.args.self.now.sessions.items c.args.place d).chunks ≤ used_in c.args.self.now.sessions.items = used_within c.args.self.now.sessions.items c.args.place d c.requires.there in
    let same : all_bytes d.chunks ≡ all_bytes (get_or c.args.self.now.sessions.items c.args.place d).chunks = ap (λ (s : Session). all_bytes s.chunks) c.index_mut-session.ensures.value in
    omega (arith, within, same, c.in_ok-is_given.ensures.much is)

pub returns-clause-others : goal.returns-clause-others
returns-clause-others g c other is = others_stay c.args.self.now.sessions.items c.args.place other c.give.new.self is

pub returns-in_err-is_given-clause-others : goal.returns-in_err-is_given-clause-others
returns-in_err-is_given-clause-others g c other is = others_stay c.args.self.now.sessions.items c.args.place other c.give.new.self is

pub returns-in_err-is_given-clause-unchanged : goal.returns-in_err-is_given-clause-unchanged
returns-in_err-is_given-clause-unchanged g c = on_any_error c.from_residual.result (stays_in c.args.self.now.sessions.items c.args.place c.index_mut-session.result.now c.give.new.self c.requires.there c.index_mut-session.ensures.value c.in_err-is_given.ensures.unchanged)

pub returns-clause-sure : goal.returns-clause-sure
returns-clause-sure g c is = given_sure c.args.self.now.sessions.items c.args.place c.args.number c.give.new.self (g.S.Shelf.noted c.give.new.shelf) c.requires.there (c.in_ok-is_given.ensures.sure is)

pub returns-clause-long : goal.returns-clause-long
returns-clause-long g c is = given_long c.args.self.now.sessions.items c.args.place c.args.number c.give.new.self _ c.requires.there (c.in_ok-is_given.ensures.long is)

pub returns-clause-within : goal.returns-clause-within
returns-clause-within g c = given_within c.args.self.now.sessions.items c.args.place c.index_mut-session.result.now c.give.new.self c.left-left.result _ c.requires.there c.index_mut-session.ensures.value c.left-left.ensures c.in_ok-is_given.ensures.within

pub returns-in_err-is_given-clause-within : goal.returns-in_err-is_given-clause-within
returns-in_err-is_given-clause-within g c = given_within c.args.self.now.sessions.items c.args.place c.index_mut-session.result.now c.give.new.self c.left-left.result _ c.requires.there c.index_mut-session.ensures.value c.left-left.ensures c.in_err-is_given.ensures.within
