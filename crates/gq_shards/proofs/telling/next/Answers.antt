use Rattle.std.proofs.Common.{◌∙◌, [], ◌∷◌, ◌++◌, ap, subst}
use Rattle.gq_desk.specs.CheckedPlan.{CheckedPlan}
use Rattle.gq_model.specs.declared.events.Event.{Event}
use Rattle.gq_world.specs.Tables.{Stands}
use Rattle.gq_lines.specs.Words.{words_after}
use Rattle.gq_text.specs.Input.{event_of_words}
use Rattle.gq_shards.proofs.telling.next.Goals as goal

pub returns-clause-stands : goal.returns-clause-stands
returns-clause-stands c = λ before stands.
    subst (λ (event : Event). Stands c.step.new.self.tables (before ++ event ∷ []))
    (c.in_ok-event.ensures.event ∙ ap (λ (p : CheckedPlan). event_of_words p (c.args.first.now ∷ words_after c.args.words.now)) c.plan.ensures)
    (c.in-Ok.ensures.stands before stands)
