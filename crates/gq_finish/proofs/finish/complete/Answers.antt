use Rattle.std.proofs.Common.{◌≡◌, ◌∙◌, subst}
use Rattle.gq_desk.specs.CheckedPlan.{CheckedPlan}
use Rattle.gq_model.specs.declared.events.Line.TheVariants.{Deliver}
use Rattle.gq_model.specs.declared.events.Event.TheVariants.{Tenant}
use Rattle.gq_model.specs.declared.events.Refusal.TheVariants.{Spent, Idle}
use Rattle.gq_model.specs.Events.{answer_to}
use Rattle.gq_model.specs.Told.{Refused}
use Rattle.gq_finish.proofs.Finishing.{Answers, Going, first_goes, next_goes, stops_first, stops_next}
use Rattle.gq_finish.proofs.finish.complete.Goals as goal

pub loop-init : goal.loop-init
loop-init c = record {
  plan = c.go_on.ensures.plan;
  progress = λ events stands.
      first_goes c.args.world.now.tables.plan events c.args.tenant c.args.session c.args.world.now.tables c.go_on.new.world.tables c.args.text.now.items c.go_on.new.text.items c.in-Ok.is_done stands
      (record { written_is = c.in-Ok.ensures.text; stands = c.in-Ok.ensures.stands; going = c.in-Ok.ensures.going; done = c.in-Ok.ensures.done });
}

pub loop-preserved : goal.loop-preserved
loop-preserved c =
    let t = c.args.tenant in let k = c.args.session in let n = c.in_ok-number.number in
    let answers : Answers c.args.world.now.tables.plan t k (Deliver n) c.loop.world.tables c.go_on-in-loop.new.world.tables c.loop.text.items c.go_on-in-loop.new.text.items c.in-Ok-go_on.done =
    subst (λ (p : CheckedPlan). Answers p t k (Deliver n) c.loop.world.tables c.go_on-in-loop.new.world.tables c.loop.text.items c.go_on-in-loop.new.text.items c.in-Ok-go_on.done) c.loop.invariant.plan
    (record { written_is = c.in-Ok-go_on.ensures.text; stands = c.in-Ok-go_on.ensures.stands; going = c.in-Ok-go_on.ensures.going; done = c.in-Ok-go_on.ensures.done }) in
    record {
      plan = c.go_on-in-loop.ensures.plan ∙ c.loop.invariant.plan;
      progress = λ events stands.
          let going : Going c.args.world.now.tables.plan events t k c.loop.world.tables c.args.text.now.items c.loop.text.items = rw c.if-is_done.false at (c.loop.invariant.progress events stands) in
          next_goes c.args.world.now.tables.plan events t k n c.loop.world.tables c.go_on-in-loop.new.world.tables c.args.text.now.items c.loop.text.items c.go_on-in-loop.new.text.items c.in-Ok-go_on.done going answers;
    }

pub returns-in-Err-clause-fault : goal.returns-in-Err-clause-fault
returns-in-Err-clause-fault c events stands =
    stops_first c.args.world.now.tables.plan events c.args.tenant c.args.session c.in-Err.stop (λ is. c.in-Err.ensures.spent is events stands) (λ is. c.in-Err.ensures.idle is events stands)

pub returns-in-Err-go_on-clause-fault : goal.returns-in-Err-go_on-clause-fault
returns-in-Err-go_on-clause-fault c events stands =
    let plan = c.args.world.now.tables.plan in let t = c.args.tenant in let n = c.in_ok-number.number in
    let going : Going plan events t c.args.session c.loop.world.tables c.args.text.now.items c.loop.text.items = rw c.if-is_done.false at (c.loop.invariant.progress events stands) in
    stops_next plan events t c.args.session n c.loop.world.tables c.args.text.now.items c.loop.text.items c.in-Err-go_on.stop going
    (λ is before stood. subst (λ (p : CheckedPlan). answer_to p before (Tenant t (Deliver n)) ≡ Refused Spent) c.loop.invariant.plan (c.in-Err-go_on.ensures.spent is before stood))
    (λ is before stood. subst (λ (p : CheckedPlan). answer_to p before (Tenant t (Deliver n)) ≡ Refused Idle) c.loop.invariant.plan (c.in-Err-go_on.ensures.idle is before stood))
