-- All copies are first ones, and all blocks are free.
use Rattle.std.proofs.Common.{◌≡◌, ◌∙◌, List, length, map, ap, sym, subst, arith}
use Rattle.std.specs.List.{sum_by}
use Rattle.std.proofs.lemmas.List.{length-map, with_items_is}
use Rattle.gq_store.specs.Balance.{Balanced}
use Rattle.gq_store.specs.Copies.{TenantCopies, copies_account, store_accounts, copy_at, tenant_taken, lost_tenant, blocks_free}
use Rattle.gq_store.proofs.Lost.{balanced_lost, accounts_lost, copies_lost, all_free}
use Rattle.gq_store.proofs.store.ServerStore.lose.Goals as goal

pub invariant_of-self : goal.invariant_of-self
invariant_of-self c =
    let tenants : List TenantCopies = c.self.inside.tenants.items in let blocks = c.self.inside.blocks in
    let lost : c.lose_copies.new.tenants ≡ map lost_tenant tenants = c.lose_copies.ensures.copies ∙ ap (map lost_tenant) c.as_mut_slice.ensures.value in
    let made = with_items_is c.self.inside.tenants c.lose_copies.new.tenants (omega (arith, ap length lost, length-map tenants lost_tenant, c.self.inside.tenants.ok.0)) ∙ lost in
    subst (λ (ts : List TenantCopies). Balanced blocks c.lose_copies.new.pool ts) (sym made)
    (balanced_lost blocks c.self.inside.pool c.lose_copies.new.pool tenants c.self.invariant (omega (arith, c.lose_copies.ensures.free, ap (sum_by tenant_taken) c.as_mut_slice.ensures.value, c.self.invariant.balance)))

pub returns-clause-copies : goal.returns-clause-copies
returns-clause-copies c file =
    let tenants : List TenantCopies = c.self.inside.tenants.items in let blocks = c.self.inside.blocks in
    let lost : c.lose_copies.new.tenants ≡ map lost_tenant tenants = c.lose_copies.ensures.copies ∙ ap (map lost_tenant) c.as_mut_slice.ensures.value in
    let made = with_items_is c.self.inside.tenants c.lose_copies.new.tenants (omega (arith, ap length lost, length-map tenants lost_tenant, c.self.inside.tenants.ok.0)) ∙ lost in
    ap (λ (ts : List TenantCopies). copy_at (record { blocks = blocks; tenants = ts }) file) made ∙ copies_lost (record { blocks = blocks; tenants = tenants }) file

pub returns-clause-accounts : goal.returns-clause-accounts
returns-clause-accounts c =
    let tenants : List TenantCopies = c.self.inside.tenants.items in
    let lost : c.lose_copies.new.tenants ≡ map lost_tenant tenants = c.lose_copies.ensures.copies ∙ ap (map lost_tenant) c.as_mut_slice.ensures.value in
    let made = with_items_is c.self.inside.tenants c.lose_copies.new.tenants (omega (arith, ap length lost, length-map tenants lost_tenant, c.self.inside.tenants.ok.0)) ∙ lost in
    ap (λ (ts : List TenantCopies). map copies_account ts) made ∙ (accounts_lost tenants ∙ ap store_accounts c.self.view_is)

pub returns-clause-free : goal.returns-clause-free
returns-clause-free c =
    let tenants : List TenantCopies = c.self.inside.tenants.items in let blocks = c.self.inside.blocks in
    let lost : c.lose_copies.new.tenants ≡ map lost_tenant tenants = c.lose_copies.ensures.copies ∙ ap (map lost_tenant) c.as_mut_slice.ensures.value in
    let made = with_items_is c.self.inside.tenants c.lose_copies.new.tenants (omega (arith, ap length lost, length-map tenants lost_tenant, c.self.inside.tenants.ok.0)) ∙ lost in
    ap (λ (ts : List TenantCopies). blocks_free (record { blocks = blocks; tenants = ts })) made ∙ all_free (record { blocks = blocks; tenants = tenants })
