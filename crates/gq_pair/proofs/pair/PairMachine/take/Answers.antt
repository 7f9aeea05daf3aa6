use Rattle.std.proofs.Common.{sym, ◌∙◌}
use Rattle.std.proofs.lemmas.Result.{on_ok_weaker}
use Rattle.gq_pair.specs.Pairing.{takes_both}
use Rattle.gq_pair.proofs.pair.PairMachine.take.Goals as goal

pub returns-in_ok-take-in-Both : goal.returns-in_ok-take-in-Both
returns-in_ok-take-in-Both g c = on_ok_weaker c.take-in-Both-2.result
    (λ two. takes_both (λ p. p.first) (λ p. p.second) g.A.Machine.steps g.B.Machine.steps g.R.Parts.takes c.args.self.now (record { first = c.take-in-Both.new.self; second = c.take-in-Both-2.new.self; parts = c.args.self.now.parts }) c.args.line.now _ _ _ _ _ _
    (sym c.taker_of.ensures ∙ c.in-Both.is) c.in_ok-take-in-Both.ensures two)
    c.take-in-Both-2.ensures
