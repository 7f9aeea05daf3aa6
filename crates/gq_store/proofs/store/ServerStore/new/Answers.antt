use Rattle.std.proofs.Common.{ap, ◌∙◌, arith}
use Rattle.std.proofs.Common.{◌≡◌, ◌++◌, map, List}
use Rattle.gq_store.specs.Copies.{TenantCopies, new_tenant}
use Rattle.gq_store.proofs.Blocks.{balanced_empty}
use Rattle.gq_store.proofs.store.ServerStore.new.Goals as goal

pub invariant_of-result : goal.invariant_of-result
invariant_of-result c =
    let rows : c.rows.result.now ≡ c.args.plan.now.rows = cc in
    let made : c.add_tenants.new.tenants.items ≡ map new_tenant c.args.plan.now.rows =
    c.add_tenants.ensures ∙ (ap (λ (xs : List TenantCopies). xs ++ map new_tenant c.rows.result.now) c.in_ok-tenants.ensures.items ∙ ap (map new_tenant) rows) in
    rw made (balanced_empty c.blocks-blocks.result c.in-Ok.pool c.args.plan.now.rows (omega (arith, c.in-Ok.ensures)) c.blocks-blocks.ensures.shares)
