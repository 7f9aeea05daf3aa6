use Rattle.std.proofs.Common.{◌++◌, ap, ◌∙◌, subst}
use Rattle.gq_keeper_tests.specs.Registers.{IsHeld}
use Rattle.gq_keeper_tests.proofs.Needed.{needed}
use Rattle.gq_keeper_tests.proofs.register.RegisterLasting.put_needed.Goals as goal

pub returns : goal.returns
returns c = λ plan is.
    needed c.args.self.now c.args.facts.now.items c.grow_by.new.self.items (subst IsHeld c.self.view_is c.self.invariant)
    (c.in_ok-grow_by.ensures.items ∙ ap (λ t. c.args.facts.now.items ++ t) (c.as_slice.ensures.value ∙ c.self.view_is))
