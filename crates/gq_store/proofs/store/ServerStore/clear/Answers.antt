-- No tenant is left, and all blocks are free.
use Rattle.std.proofs.Common.{◌≡◌, ◌∙◌, List, [], ◌∷◌, append-nil, length, ap, refl, sym, subst, arith}
use Rattle.std.specs.List.{sum_by}
use Rattle.gq_store.specs.Balance.{Balanced}
use Rattle.gq_store.specs.Copies.{StoreCopies, TenantCopies, tenant_taken}
use Rattle.gq_store.proofs.Blocks.{balanced_empty}
use Rattle.gq_store.proofs.store.ServerStore.clear.Goals as goal

empty : (tenants : List TenantCopies) → length tenants ≡ 0 → tenants ≡ []
empty [] e = refl
empty (x ∷ tenants) e = absurd (omega arith)

pub invariant_of-self : goal.invariant_of-self
invariant_of-self c =
    let none : c.pop.new.self.items ≡ [] = empty c.pop.new.self.items (omega (arith, c.in_default.ensures.cases.1, c.pop.new.self.ok.0)) in
    let before : c.loop-tenant.self-inside.tenants.items ≡ [] = c.in_default.ensures.items ∙ append-nil c.pop.new.self.items ∙ none in
    let balance = c.loop-tenant.invariant.balance in
    subst (λ (ts : List TenantCopies). Balanced c.loop-tenant.self-inside.blocks c.loop-tenant.self-inside.pool ts) (sym none)
    (balanced_empty c.loop-tenant.self-inside.blocks c.loop-tenant.self-inside.pool [] (let taken = ap (sum_by tenant_taken) before in omega (arith, taken, balance, c.self.invariant.balance, c.loop-tenant.invariant.blocks)) (omega arith))

pub returns : goal.returns
returns c =
    let none : c.pop.new.self.items ≡ [] = empty c.pop.new.self.items (omega (arith, c.in_default.ensures.cases.1, c.pop.new.self.ok.0)) in
    let blocks = c.loop-tenant.invariant.blocks ∙ ap (λ (s : StoreCopies). s.blocks) c.self.view_is in
    (λ i. record { blocks = blocks i; tenants = none i })
