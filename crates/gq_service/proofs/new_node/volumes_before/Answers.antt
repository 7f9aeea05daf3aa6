-- A tenant that the setup does not have has no volume.
use Rattle.std.proofs.Common.{◌∙◌, ◌≤◌, length, sym, ap, subst}
use Rattle.gq_desk.specs.CheckedPlan.{CheckedPlan}
use Rattle.gq_setup.specs.Setups.{Setup}
use Rattle.gq_service.specs.Serving.{first_of_read}
use Rattle.gq_service.proofs.NewNodes.{no_volume_beyond}
use Rattle.gq_service.proofs.new_node.volumes_before.Goals as goal

pub returns-then-tenant-tenants-clause-count : goal.returns-then-tenant-tenants-clause-count
returns-then-tenant-tenants-clause-count c =
    let setup : Setup = c.in-Some.setup in
    let past : length setup.plan.rows ≤ c.args.tenant = subst (λ n. n ≤ c.args.tenant) (c.tenants.ensures.value ∙ ap (λ (p : CheckedPlan). length p.rows) c.plan.ensures) c.if-tenant-tenants.true in
    no_volume_beyond setup c.args.tenant past ∙ sym (ap (λ read. (first_of_read read c.args.tenant).volumes) c.in-Some.is)
