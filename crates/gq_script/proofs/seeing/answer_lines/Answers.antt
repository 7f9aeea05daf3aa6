use Rattle.std.proofs.Common.{◌≡◌, ◌∙◌, arith, ◌++◌, ap, refl, sym, length}
use Rattle.std.proofs.lemmas.Bool.{eqb-true}
use Rattle.std.specs.Prelude.{Some}
use Rattle.gq_desk.specs.CheckedPlan.{CheckedPlan}
use Rattle.gq_model.specs.declared.events.Event.{Event}
use Rattle.gq_text.specs.Input.{event_cut, event_of, event_of_words}
use Rattle.gq_lines.specs.Lines.{lines_of}
use Rattle.gq_text.specs.QuorumText.{Held}
use Rattle.gq_script.proofs.Answering.{keeps_first, keeps_more, keeps_all}
use Rattle.gq_script.proofs.Places.{counts_first, counts_more, counts_all}
use Rattle.gq_script.proofs.seeing.answer_lines.Goals as goal

pub loop-rest-init : goal.loop-rest-init
loop-rest-init c = record {
  grid = ap (λ (held : Held). held.grid) c.new-quorum.ensures ∙ (c.grid.ensures ∙ ap (λ (p : CheckedPlan). p.grid) c.plan.ensures);
  kept = rw (c.new.ensures.items, c.new-2.ensures.items, c.new-3.ensures.items) (keeps_first c.args.world.now.tables.plan (Some c.args.tenant) c.args.world.now.tables c.args.tells (lines_of c.args.lines.now) refl c.requires);
  places = rw c.new-4.ensures.items (counts_first c.args.world.now.tables.plan (Some c.args.tenant) (lines_of c.args.lines.now));
  few = omega arith;
}

pub loop-rest-preserved : goal.loop-rest-preserved
loop-rest-preserved c =
    let plan : CheckedPlan = c.loop-rest.world.tables.plan in let first = c.cut_line.result.0.now in let words = c.cut_line.result.1.now in
    let line = first ++ words in let e : Event = event_cut plan first words in
    let reads : e ≡ event_of plan line = ap (event_of_words plan) (sym c.cut_line.ensures.words) in
    let kept = c.loop-rest.invariant.kept in
    record {
      grid = c.next_line.ensures.grid ∙ c.loop-rest.invariant.grid ∙ sym (ap (λ (p : CheckedPlan). p.grid) c.next_line.ensures.plan);
      kept = keeps_more c.args.world.now.tables.plan (Some c.args.tenant) c.loop-rest.world.tables _ _ _ _ _ c.args.tells _ _ line _ _ _ e kept c.cut_line.ensures.lines c.next_line.ensures.plan reads
          c.in_ok-next_line.ensures.stands c.in_ok-next_line.ensures.text c.in_ok-next_line.ensures.events c.in_ok-next_line.ensures.seen c.in_ok-next_line.ensures.unseen;
      places = rw c.in_ok-next_line.ensures.lines (counts_more c.args.world.now.tables.plan (Some c.args.tenant) _ _ _ line _ _ _ e c.loop-rest.invariant.places c.cut_line.ensures.lines
          (reads ∙ ap (λ (p : CheckedPlan). event_of p line) kept.plan_is) c.in_ok-next_line.ensures.places);
      few = omega (arith, c.in_ok-next_line.ensures.lines, c.cut_line.ensures.shorter, c.loop-rest.invariant.few);
    }

pub returns : goal.returns
returns c =
    let plan = c.args.world.now.tables.plan in
    let none : length c.loop-rest.rest.now ≡ 0 = eqb-true (length c.loop-rest.rest.now) 0 (sym c.is_empty.ensures ∙ c.loop-rest-test.false) in
    let all = keeps_all plan (Some c.args.tenant) _ _ _ c.args.tells _ c.loop-rest.rest.now (lines_of c.args.lines.now) c.loop-rest.invariant.kept none in
    let placed = counts_all plan (Some c.args.tenant) _ _ c.loop-rest.rest.now (lines_of c.args.lines.now) c.loop-rest.invariant.places none in
    record { plan = c.loop-rest.invariant.kept.plan_is; text = all.0; events = all.1; places = placed.0; lines = placed.1; run = all.2 }
