use Rattle.std.proofs.Common.{◌≡◌, ◌∙◌, [], ◌∷◌, ◌++◌, ap, sym, subst, refl, length}
use Rattle.std.proofs.lemmas.Bool.{eqb-true}
use Rattle.gq_desk.specs.CheckedPlan.{CheckedPlan}
use Rattle.gq_model.specs.declared.events.Event.{Event}
use Rattle.gq_model.specs.Events.{answer_to}
use Rattle.gq_model.specs.Shown.{shown}
use Rattle.gq_world.specs.Tables.{Stands}
use Rattle.gq_text.specs.Input.{event_of, event_of_words}
use Rattle.gq_lines.specs.Lines.{lines_of}
use Rattle.gq_lines.specs.Words.{words_after}
use Rattle.gq_text.specs.AnswerText.{answer_line}
use Rattle.gq_text.specs.QuorumText.{Held}
use Rattle.gq_script.proofs.Answering.{continues_first, continues_more, continues_all}
use Rattle.gq_script.proofs.script.answers.Goals as goal

pub loop-rest-init : goal.loop-rest-init
loop-rest-init c = record {
  grid = ap (λ (held : Held). held.grid) c.new-quorum.ensures ∙ (c.grid.ensures ∙ ap (λ (p : CheckedPlan). p.grid) c.plan.ensures);
  plan = refl;
  answered = rw (c.new-text.ensures.items) (λ before stands. continues_first c.args.world.now.tables.plan before c.args.world.now.tables (lines_of c.args.lines.now) stands);
}

pub loop-rest-preserved : goal.loop-rest-preserved
loop-rest-preserved c =
    let plan : CheckedPlan = c.loop-rest.world.tables.plan in let first = c.cut_line.result.0.now in let words = words_after c.cut_line.result.1.now in
    let line = first ++ c.cut_line.result.1.now in let e = c.in_ok-event.event in let text = c.loop-rest.text.items in
    let reads : e ≡ event_of plan line =
    c.in_ok-event.ensures.event ∙ (ap (λ (p : CheckedPlan). event_of_words p (first ∷ words)) c.plan-in-loop-rest.ensures ∙ ap (event_of_words plan) (sym c.cut_line.ensures.words)) in
    record {
      grid = c.write_next_answer.ensures.grid ∙ c.loop-rest.invariant.grid ∙ sym (ap (λ (p : CheckedPlan). p.grid) c.step.ensures.plan);
      plan = c.step.ensures.plan ∙ c.loop-rest.invariant.plan;
      answered = λ before start. continues_more c.args.world.now.tables.plan before c.loop-rest.world.tables c.step.new.self.tables text c.write_next_answer.new.out.items line _ _ _
          (c.loop-rest.invariant.answered before start) c.loop-rest.invariant.plan c.cut_line.ensures.lines
          (λ so_far stands. subst (λ (x : Event). Stands c.step.new.self.tables (so_far ++ x ∷ [])) reads (c.in-Ok.ensures.stands so_far stands))
          (λ so_far stands. c.in_ok-write_next_answer.ensures.ok
          ∙ ap (λ (p : CheckedPlan). text ++ answer_line p e (shown c.in-Ok.answer)) (c.plan-in-loop-rest-2.ensures ∙ c.step.ensures.plan)
          ∙ ap (λ told. text ++ answer_line plan e told) (c.in-Ok.ensures.answer so_far stands)
          ∙ ap (λ (x : Event). text ++ answer_line plan x (answer_to plan so_far x)) reads);
    }

pub returns-clause-text : goal.returns-clause-text
returns-clause-text c = λ before stands.
    (continues_all c.args.world.now.tables.plan before c.loop-rest.world.tables c.loop-rest.text.items c.loop-rest.rest.now (lines_of c.args.lines.now) (c.loop-rest.invariant.answered before stands)
    (eqb-true (length c.loop-rest.rest.now) 0 (sym c.is_empty.ensures ∙ c.loop-rest-test.false))).0

pub returns-clause-stands : goal.returns-clause-stands
returns-clause-stands c = λ before stands.
    (continues_all c.args.world.now.tables.plan before c.loop-rest.world.tables c.loop-rest.text.items c.loop-rest.rest.now (lines_of c.args.lines.now) (c.loop-rest.invariant.answered before stands)
    (eqb-true (length c.loop-rest.rest.now) 0 (sym c.is_empty.ensures ∙ c.loop-rest-test.false))).1
