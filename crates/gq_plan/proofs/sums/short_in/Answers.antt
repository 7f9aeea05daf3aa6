use Rattle.std.proofs.Common.{◌≡◌, ◌∙◌, ℕ, ◌+◌, sym, ap, arith}
use Rattle.std.specs.Prelude.{sum_by}
use Rattle.std.specs.List.{range_with_len}
use Rattle.gq_plan.specs.PlanWords.{short_of}
use Rattle.gq_plan.proofs.Ranges.{sum_more}
use Rattle.gq_plan.proofs.sums.short_in.Goals as goal

pub loop-tenant-preserved : goal.loop-tenant-preserved
loop-tenant-preserved c =
    let f : ℕ → ℕ = λ t. short_of c.args.setup.now t in record {
      told = ap (λ n. n + c.short_of-short.result) c.loop-tenant.invariant.told ∙ ap (λ n. sum_by f (range_with_len 0 c.loop-tenant.tenant) + n) c.short_of-short.ensures.short ∙ sym (sum_more f c.loop-tenant.tenant);
      bound = omega (arith, c.short_of-short.ensures.bound, c.loop-tenant.invariant.bound);
    }
