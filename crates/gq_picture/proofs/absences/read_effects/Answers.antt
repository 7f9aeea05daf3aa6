use Rattle.std.proofs.Common.{◌∙◌, ◌++◌, ◌∷◌, [], ap}
use Rattle.gq_picture.proofs.Effects.{effects_more}
use Rattle.gq_picture.proofs.absences.read_effects.Goals as goal

pub loop-i-preserved : goal.loop-i-preserved
loop-i-preserved c =
    effects_more c.args.events.now c.args.answers.now c.loop-i.i c.index-events-i.result c.index-answers-i.result c.loop-i.all.items c.grow.new.self.items c.loop-i-test.true c.requires c.index-events-i.is c.index-answers-i.is c.loop-i.invariant
    (c.in_ok-grow.ensures.items ∙ ap (λ e. c.loop-i.all.items ++ e ∷ []) c.effect_of.ensures)
