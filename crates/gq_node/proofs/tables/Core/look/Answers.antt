-- A peer is asked, once all have joined.
use Rattle.std.proofs.Common.{◌∙◌, sym}
use Rattle.gq_node.proofs.Giving.{looks_not, looks_on}
use Rattle.gq_node.proofs.tables.Core.look.Goals as goal

pub returns-then-not-all_joined : goal.returns-then-not-all_joined
returns-then-not-all_joined c = looks_not c.args.self.now c.args.tenant c.args.lane c.nothing.result (λ t. sym (c.all_joined.ensures t) ∙ c.if-not-all_joined.true)
    (record { answer = c.nothing.ensures.answer; letters = c.nothing.ensures.letters; transfer = c.nothing.ensures.transfer; fact = c.nothing.ensures.fact })

pub returns : goal.returns
returns c =
    looks_on c.args.self.now c.ask.new.self c.args.tenant c.args.lane c.peer_for-place.result c.ask.result (λ u. sym (c.all_joined.ensures u) ∙ c.if-not-all_joined.false) c.peer_for-place.ensures.peer
    (record { leads = c.ask.ensures.leads; gives = c.ask.ensures.gives })
