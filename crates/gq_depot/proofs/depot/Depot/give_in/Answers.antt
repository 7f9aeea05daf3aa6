use Rattle.std.proofs.Common.{List, ℕ, ◌∙◌, sym, ap}
use Rattle.gq_depot.specs.Answers.{fits}
use Rattle.gq_depot.specs.Filling.{wants_at}
use Rattle.gq_depot.proofs.Standing.{match_both}
use Rattle.gq_depot.proofs.depot.Depot.give_in.Goals as goal

pub returns-clause-fills : goal.returns-clause-fills
returns-clause-fills g c written session is =
    match_both (fits c.args.bytes) (wants_at c.args.self.now c.args.place c.args.number session) _ _
    (sym (ap (λ (bytes : List ℕ). fits bytes) c.as_slice.ensures) ∙ (sym c.has_length.ensures.fits ∙ c.if-not-has_length.false))
    (sym (c.wants_at.ensures session is) ∙ c.if-not-wants_at.false) (c.in_ok-fact.ensures.gives written)
