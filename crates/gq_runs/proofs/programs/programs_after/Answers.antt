use Rattle.std.proofs.Common.{◌≡◌, ◌≤◌, ◌∙◌, ap, sym, subst, arith, length}
use Rattle.std.specs.List.{All}
use Rattle.gq_model.specs.Events.{IsIn}
use Rattle.gq_session.specs.declared.TheConstants.{MOST_REQUESTS}
use Rattle.gq_runs.specs.Programs.{first_fault, new_desk}
use Rattle.gq_runs.proofs.Programming.{fits_plan}
use Rattle.gq_runs.proofs.programs.programs_after.Goals as goal

pub returns-in-Ok-programs_of-clause-fits : goal.returns-in-Ok-programs_of-clause-fits
returns-in-Ok-programs_of-clause-fits c =
    let plan = c.args.plan.now in
    let held = c.as_slice-2.ensures.value in
    let same : c.as_slice.result.now ≡ c.as_slice-2.result.now = c.as_slice.ensures.value ∙ sym held in
    let long : length c.as_slice-2.result.now ≡ length c.in-Ok.events.items = ap length held in
    let within : All (IsIn plan) c.as_slice-2.result.now = subst (All (IsIn plan)) (sym held) c.in-Ok.ensures.within in
    let low = c.in-Ok.ensures.few in
    let most = c.requires in
    let few : length c.as_slice-2.result.now ≤ MOST_REQUESTS = omega (arith, long, low, most) in
    fits_plan plan (new_desk plan) _ c.as_slice-2.result.now c.in-Ok-programs_of.programs c.in-Ok-programs_of.ensures within few (sym (ap (first_fault plan (new_desk plan) _) same) ∙ c.in_ok-test_events.ensures.ok)
