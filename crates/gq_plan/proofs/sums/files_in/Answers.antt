use Rattle.std.proofs.Common.{◌≡◌, ◌∙◌, ℕ, ◌+◌, sym, ap, arith}
use Rattle.std.specs.Prelude.{sum_by}
use Rattle.std.specs.List.{range_with_len}
use Rattle.gq_plan.specs.PlanWords.{files_of, volumes_of}
use Rattle.gq_plan.proofs.Ranges.{sum_more}
use Rattle.gq_plan.proofs.sums.files_in.Goals as goal

pub loop-tenant-preserved : goal.loop-tenant-preserved
loop-tenant-preserved c =
    let f : ℕ → ℕ = λ t. files_of (volumes_of c.args.setup.now t) in
    let here : c.files_of-files.result ≡ f c.loop-tenant.tenant = c.files_of-files.ensures.files ∙ ap files_of c.volume_rows.ensures.volumes in
    record {
      told = ap (λ n. n + c.files_of-files.result) c.loop-tenant.invariant.told ∙ ap (λ n. sum_by f (range_with_len 0 c.loop-tenant.tenant) + n) here ∙ sym (sum_more f c.loop-tenant.tenant);
      bound = omega (arith, c.files_of-files.ensures.bound, c.loop-tenant.invariant.bound);
    }
