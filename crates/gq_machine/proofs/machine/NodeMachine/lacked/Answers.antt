-- Tenant by tenant.
use Rattle.std.proofs.Common.{◌≡◌, ◌∙◌, ℕ, ◌+◌, length, refl, sym, ap, arith}
use Rattle.std.specs.List.{sum_by, range_with_len}
use Rattle.gq_desk.specs.CheckedPlan.{CheckedPlan}
use Rattle.gq_desk.specs.Volumes.{account_at}
use Rattle.gq_node.specs.Joining.{lacked_files}
use Rattle.gq_node.specs.Tables.{Tables, lacks_at}
use Rattle.gq_parts.proofs.Lacking.{sum_more}
use Rattle.gq_machine.proofs.machine.NodeMachine.lacked.Goals as goal

-- how many files of the tenant at place t are lacked
abbrev lacked_at : Tables → ℕ → ℕ
lacked_at w t = lacked_files (lacks_at w t) (account_at w.desk t).volumes

pub loop-place-init : goal.loop-place-init
loop-place-init c = (refl, omega arith)

pub overflow_add-lacked : goal.overflow_add-lacked
overflow_add-lacked c = omega (arith, c.loop-place.invariant.1, c.lacked-lacked.ensures.few, c.loop-place-test.true, c.tenants-tenants.ensures.bound)

pub loop-place-preserved : goal.loop-place-preserved
loop-place-preserved c =
    let w : Tables = c.args.self.now.node.tables in (
      ap (λ n. n + c.lacked-lacked.result) c.loop-place.invariant.0
          ∙ ap (λ n. sum_by (lacked_at w) (range_with_len 0 c.loop-place.place) + n) c.lacked-lacked.ensures.lacked
          ∙ sym (sum_more (lacked_at w) c.loop-place.place),
      omega (arith, c.loop-place.invariant.1, c.lacked-lacked.ensures.few),
    )

pub returns : goal.returns
returns c =
    let w : Tables = c.args.self.now.node.tables in
    let tenants : c.tenants-tenants.result ≡ length w.plan.rows = c.tenants-tenants.ensures.value ∙ ap (λ (p : CheckedPlan). length p.rows) c.plan.ensures in
    let end : c.loop-place.place ≡ c.tenants-tenants.result = omega (arith, c.loop-place-test.false, c.loop-place.auto.place-end) in
    c.loop-place.invariant.0 ∙ ap (λ n. sum_by (lacked_at w) (range_with_len 0 n)) (end ∙ tenants)
