use Rattle.std.proofs.Common.{[], map, subst}
use Rattle.gq_desk.specs.CheckedPlan.{CheckedPlan}
use Rattle.gq_world.specs.Tables.{Stands}
use Rattle.gq_text.specs.Input.{event_of}
use Rattle.gq_lines.specs.Lines.{lines_of}
use Rattle.gq_script.proofs.stepping.begin.Goals as goal

pub returns-in-Ok-clause-stands : goal.returns-in-Ok-clause-stands
returns-in-Ok-clause-stands c =
    subst (λ (p : CheckedPlan). Stands c.answers.new.world.tables (map (event_of p) (lines_of c.args.lines.now))) c.in_ok-world.ensures.plan (c.in-Ok.ensures.stands [] c.in_ok-world.ensures.stands)
