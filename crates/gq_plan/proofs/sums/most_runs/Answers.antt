use Rattle.std.proofs.Common.{◌≡◌, ◌∙◌, ℕ, length, sym, ap, arith}
use Rattle.std.specs.Prelude.{max}
use Rattle.gq_plan.specs.PlanWords.{runs_of, volumes_of}
use Rattle.gq_plan.proofs.Ranges.{most_more}
use Rattle.gq_plan.proofs.sums.most_runs.Goals as goal

pub loop-tenant-preserved : goal.loop-tenant-preserved
loop-tenant-preserved c =
    let f : ℕ → ℕ = λ t. length (runs_of (volumes_of c.args.setup.now t)) in
    let runs = ap length (c.in_ok-runs.ensures.runs ∙ ap runs_of c.volume_rows.ensures.volumes) in
    let here : length c.as_slice.result.now ≡ f c.loop-tenant.tenant = ap length c.as_slice.ensures.value ∙ runs in
    record {
      told = c.max-most.ensures ∙ ap (λ n. max n c.loop-tenant.most) here ∙ ap (max (f c.loop-tenant.tenant)) c.loop-tenant.invariant.told ∙ sym (most_more f c.loop-tenant.tenant);
      few = omega (arith, c.max-most.ensures, ap length c.as_slice.ensures.value, c.in_ok-runs.ensures.few, c.volume_rows.ensures.few, c.loop-tenant.invariant.few);
    }
