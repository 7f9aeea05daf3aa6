use Rattle.std.proofs.Common.{◌≡◌, ◌*◌, ◌<◌, ◌≤◌, List, length, map, set, ap, ◌∙◌, sym, subst, arith}
use Rattle.std.proofs.lemmas.List.{get_or_default, length-map}
use Rattle.gq_desk.specs.Volumes.{Account, account_at, with_volume, free_of}
use Rattle.gq_store.specs.Copies.{StoreCopies, TenantCopies, tenant_in, copies_account, store_accounts, copy_at}
use Rattle.gq_store.proofs.There.{account_at-store_accounts}
use Rattle.gq_store.proofs.Added.{grown, size, accounts-tenants_grown, copy_of-grown, balanced_grown}
use Rattle.gq_store.proofs.store.ServerStore.add_files.Goals as goal

pub invariant_of-self-2 : goal.invariant_of-self-2
invariant_of-self-2 c =
    let tenants : List TenantCopies = c.self.inside.tenants.items in let t = c.args.tenant in
    let lt : t < length tenants = omega (arith, c.requires.tenant, length-map tenants copies_account, ap (λ (s : StoreCopies). length (store_accounts s)) c.self.view_is) in
    let at : c.index_mut.result.now ≡ tenant_in tenants t = c.index_mut.ensures.value ∙ get_or_default tenants t _ _ lt in
    let fits : c.args.files * c.args.blocks ≤ free_of (copies_account (tenant_in tenants t)) =
    subst (λ (a : Account). c.args.files * c.args.blocks ≤ free_of a) (ap (λ (s : StoreCopies). account_at (store_accounts s) t) (sym c.self.view_is) ∙ account_at-store_accounts tenants t) c.requires.share in
    rw (c.in_ok-add.ensures.added, at) (balanced_grown c.self.inside.blocks c.self.inside.pool tenants t c.args.files c.args.blocks c.self.invariant lt fits)

pub returns-clause-added : goal.returns-clause-added
returns-clause-added c =
    let tenants : List TenantCopies = c.self.inside.tenants.items in let t = c.args.tenant in
    let lt : t < length tenants = omega (arith, c.requires.tenant, length-map tenants copies_account, ap (λ (s : StoreCopies). length (store_accounts s)) c.self.view_is) in
    let at : c.index_mut.result.now ≡ tenant_in tenants t = c.index_mut.ensures.value ∙ get_or_default tenants t _ _ lt in
    let new : c.add.new.self ≡ grown (tenant_in tenants t) c.args.files c.args.blocks = c.in_ok-add.ensures.added ∙ ap (λ (x : TenantCopies). grown x c.args.files c.args.blocks) at in
    ap (λ (x : TenantCopies). map copies_account (set tenants t x)) new
    ∙ (accounts-tenants_grown tenants t c.args.files c.args.blocks
    ∙ ap (λ (s : StoreCopies). set (store_accounts s) t (with_volume (size c.args.files c.args.blocks) (account_at (store_accounts s) t))) c.self.view_is)

pub returns-clause-copies : goal.returns-clause-copies
returns-clause-copies c id =
    let tenants : List TenantCopies = c.self.inside.tenants.items in let t = c.args.tenant in
    let lt : t < length tenants = omega (arith, c.requires.tenant, length-map tenants copies_account, ap (λ (s : StoreCopies). length (store_accounts s)) c.self.view_is) in
    let at : c.index_mut.result.now ≡ tenant_in tenants t = c.index_mut.ensures.value ∙ get_or_default tenants t _ _ lt in
    let new : c.add.new.self ≡ grown (tenant_in tenants t) c.args.files c.args.blocks = c.in_ok-add.ensures.added ∙ ap (λ (x : TenantCopies). grown x c.args.files c.args.blocks) at in
    rw new (copy_of-grown tenants t c.args.files c.args.blocks id lt ∙ ap (λ (s : StoreCopies). copy_at s id) c.self.view_is)
