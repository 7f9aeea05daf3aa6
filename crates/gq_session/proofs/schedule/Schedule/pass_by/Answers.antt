use Rattle.std.proofs.Common.{rules, ◌≡◌, [], ◌∷◌, ◌++◌, false, ap, sym, ◌∙◌}
use Rattle.gq_session.specs.Changed.{picked}
use Rattle.gq_session.proofs.Changing.{picked-skip}
use Rattle.gq_session.proofs.schedule.Schedule.pass_by.Goals as goal

pub invariant_of-self-2 : goal.invariant_of-self-2
invariant_of-self-2 c =
    let old = c.args.self.now in
    let is : c.push_reserved.new.self.items ≡ old.done.items ++ false ∷ [] = search rules in
    record { fits = old.fits; done_are = old.done_are ∙ sym (ap (λ bs. picked bs old.list.items) is ∙ picked-skip old.done.items old.list.items) }
