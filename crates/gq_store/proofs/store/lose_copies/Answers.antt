use Rattle.std.proofs.Common.{◌≡◌, ◌<◌, length, map, get_or, ap, sym, ◌∙◌, arith}
use Rattle.std.specs.List.{sum_by}
use Rattle.std.proofs.lemmas.List.{length-map, get_or_default}
use Rattle.gq_store.specs.Copies.{no_tenant, lost_tenant, tenant_taken}
use Rattle.gq_store.proofs.Mixed.{mixed_end, replace_step, mapped_at}
use Rattle.gq_store.proofs.Lost.{tenant_nothing, nothing_taken}
use Rattle.gq_store.proofs.store.lose_copies.Goals as goal

pub loop-tenant-preserved : goal.loop-tenant-preserved
loop-tenant-preserved c =
    let xs = c.args.tenants.now in let items = c.loop-tenant.tenants in let k = c.loop-tenant.tenant-index in
    let lt : k < length items = omega (arith, c.loop-tenant-test.true) in
    let long : length items ≡ length xs = c.loop-tenant.auto.tenants in
    let old : c.tenant-item.result ≡ get_or items k no_tenant = c.tenant-item.is ∙ get_or_default items k _ _ lt in
    let put : c.lose.new.self ≡ lost_tenant c.tenant-item.result = c.lose.ensures.copies ∙ ap lost_tenant (sym c.tenant-item.is) in
    let new : c.lose.new.self ≡ get_or (map lost_tenant xs) k no_tenant = mapped_at lost_tenant xs items k no_tenant c.tenant-item.result c.lose.new.self lt long c.loop-tenant.invariant.0 old put in
    replace_step tenant_taken xs (map lost_tenant xs) items k no_tenant c.tenant-item.result c.lose.new.self c.loop-tenant.pool c.lose.new.pool _ lt long (sym (length-map xs lost_tenant)) c.loop-tenant.invariant.0 c.loop-tenant.invariant.1 old new
    (omega (arith, c.lose.ensures.free, ap tenant_taken put, tenant_nothing c.tenant-item.result, ap tenant_taken c.tenant-item.is))

pub returns-clause-free : goal.returns-clause-free
returns-clause-free c =
    let xs = c.args.tenants.now in let k = c.loop-tenant.tenant-index in
    let done : c.loop-tenant.tenants ≡ map lost_tenant xs = c.loop-tenant.invariant.0 ∙ mixed_end xs (map lost_tenant xs) k (omega (arith, c.loop-tenant-test.false)) (sym (length-map xs lost_tenant)) in
    omega (arith, c.loop-tenant.invariant.1, ap (sum_by tenant_taken) done, nothing_taken xs)
