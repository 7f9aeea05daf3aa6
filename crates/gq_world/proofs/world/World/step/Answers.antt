-- The world stands for one event more, and answers what its events say.
use Rattle.std.proofs.Common.{◌≡◌, ◌∙◌, ap, sym, subst}
use Rattle.gq_model.specs.declared.events.Event.{Event}
use Rattle.gq_model.specs.Events.{IsIn, answer_to}
use Rattle.gq_model.specs.Shown.{shown}
use Rattle.gq_world.specs.Tables.{Tables, Stands}
use Rattle.gq_world.specs.Whole.{Whole}
use Rattle.gq_world.proofs.Soundness.{sound_after}
use Rattle.gq_world.proofs.Standing.{stands_on, tells_as}
use Rattle.gq_world.proofs.world.World.step.Goals as goal

pub invariant_of-self : goal.invariant_of-self
invariant_of-self c = λ goes. sound_after c.self.inside.tables c.advance.new.self c.args.event.now c.in-Ok.ensures.advances (c.self.invariant goes)

pub returns-in-Ok-clause-answer : goal.returns-in-Ok-clause-answer
returns-in-Ok-clause-answer c = λ events stands.
    let e : Event = c.args.event.now in
    let tables : c.self.inside.tables ≡ c.args.self.now.tables = ap (λ (x : Whole). x.tables) c.self.view_is in
    let before : Stands c.self.inside.tables events = subst (λ (x : Tables). Stands x events) (sym tables) stands in
    let within : IsIn c.self.inside.tables.plan e = subst (λ (x : Tables). IsIn x.plan e) (sym tables) c.requires in
    tells_as c.self.inside.tables events e (shown c.in-Ok.answer) before within c.in-Ok.ensures.answer ∙ ap (λ (x : Tables). answer_to x.plan events e) tables

pub returns-in-Ok-clause-stands : goal.returns-in-Ok-clause-stands
returns-in-Ok-clause-stands c = λ events stands.
    let tables : c.self.inside.tables ≡ c.args.self.now.tables = ap (λ (x : Whole). x.tables) c.self.view_is in
    let before : Stands c.self.inside.tables events = subst (λ (x : Tables). Stands x events) (sym tables) stands in
    stands_on c.self.inside.tables c.advance.new.self events c.args.event.now before c.in-Ok.ensures.advances
