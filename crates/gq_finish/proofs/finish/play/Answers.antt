use Rattle.std.proofs.Common.{◌∙◌, ap, sym, length}
use Rattle.std.proofs.lemmas.Bool.{eqb-true}
use Rattle.gq_desk.specs.CheckedPlan.{CheckedPlan}
use Rattle.gq_text.specs.Input.{event_of}
use Rattle.gq_lines.specs.Lines.{lines_of}
use Rattle.gq_finish.proofs.Finishing.{plays_first, plays_more, plays_all}
use Rattle.gq_finish.proofs.finish.play.Goals as goal

pub loop-rest-init : goal.loop-rest-init
loop-rest-init c = plays_first c.args.world.now.tables (lines_of c.args.lines.now) c.requires

pub loop-rest-preserved : goal.loop-rest-preserved
loop-rest-preserved c =
    let line = c.first_line.result.0.now in
    plays_more c.args.world.now.tables.plan c.loop-rest.world.tables c.step.new.self.tables line (lines_of c.loop-rest.rest.now) (lines_of c.first_line.result.1.now) (lines_of c.args.lines.now) c.in_ok-event.event c.loop-rest.invariant c.first_line.ensures.lines
    (c.in_ok-event.ensures.event ∙ ap (λ (p : CheckedPlan). event_of p line) c.plan.ensures) c.step.ensures.plan c.in-Ok.ensures.stands

pub returns : goal.returns
returns c = record {
  plan = c.loop-rest.invariant.plan_is;
  stands = plays_all c.args.world.now.tables.plan c.loop-rest.world.tables c.loop-rest.rest.now (lines_of c.args.lines.now) c.loop-rest.invariant (eqb-true (length c.loop-rest.rest.now) 0 (sym c.is_empty.ensures ∙ c.loop-rest-test.false));
}
