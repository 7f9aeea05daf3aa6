use Rattle.std.proofs.Common.{◌≡◌, [], true, sym, ap, ◌∙◌, subst}
use Rattle.gq_setup.specs.Setups.{Setup, can_lose, CanLose}
use Rattle.gq_setup.proofs.Losing.{one_lost, few_lost}
use Rattle.gq_setup.proofs.setup.Setup.lose.Goals as goal

pub add_loss-requires-clause-few : goal.add_loss-requires-clause-few
add_loss-requires-clause-few c =
    let can : can_lose c.self.inside.plan c.self.inside.lost c.in-Some.place ≡ true =
    ap (λ (s : Setup). can_lose s.plan s.lost c.in-Some.place) c.self.view_is ∙ sym c.can_lose.ensures.can ∙ c.if-not-can_lose.false in
    few_lost c.self.inside.plan c.self.inside.lost c.in-Some.place can

pub invariant_of-self : goal.invariant_of-self
invariant_of-self c =
    (c.self.invariant.0, c.self.invariant.1, c.self.invariant.2, subst (CanLose c.self.inside.plan []) (sym c.in_err-add_loss.ensures.same) c.self.invariant.3, c.self.invariant.4)

pub invariant_of-self-2 : goal.invariant_of-self-2
invariant_of-self-2 c =
    let can : can_lose c.self.inside.plan c.self.inside.lost c.in-Some.place ≡ true =
    ap (λ (s : Setup). can_lose s.plan s.lost c.in-Some.place) c.self.view_is ∙ sym c.can_lose.ensures.can ∙ c.if-not-can_lose.false in (
      c.self.invariant.0,
      c.self.invariant.1,
      c.self.invariant.2,
      subst (CanLose c.self.inside.plan []) (sym c.in_ok-add_loss.ensures.added) (one_lost c.self.inside.plan [] c.self.inside.lost c.in-Some.place c.self.invariant.3 can),
      c.self.invariant.4,
    )
