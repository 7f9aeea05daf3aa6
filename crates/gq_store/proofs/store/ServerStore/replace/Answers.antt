use Rattle.std.proofs.Common.{◌≡◌, ◌+◌, ◌≤◌, length, ap, ◌∙◌, sym, subst, arith}
use Rattle.std.specs.Prelude.{IsSome, IfSome}
use Rattle.std.proofs.lemmas.List.{get_or_default}
use Rattle.gq_tag.specs.declared.StoredCopy.{StoredCopy}
use Rattle.gq_store.specs.Copies.{StoreCopies, TenantCopies, tenant_in, volume_in, volume_copy, taken, file_limit}
use Rattle.gq_store.proofs.There.{is_there, limit_or_zero, blocks_within}
use Rattle.gq_store.proofs.Blocks.{room, taken_below, balanced_with}
use Rattle.gq_store.proofs.store.ServerStore.replace.Goals as goal

pub put-requires-clause-fits : goal.put-requires-clause-fits
put-requires-clause-fits c =
    let store : StoreCopies = record { blocks = c.self.inside.blocks; tenants = c.self.inside.tenants.items } in let id = c.args.file in
    let is : IsSome (file_limit store id) = subst (λ (s : StoreCopies). IsSome (file_limit s id)) (sym c.self.view_is) c.requires.there in
    let there = is_there store id is in
    let at : c.index_mut.result.now ≡ tenant_in store.tenants id.tenant = c.index_mut.ensures.value ∙ get_or_default store.tenants id.tenant _ _ there.tenant in
    omega (arith, taken_below store.blocks c.self.inside.pool store id (limit_or_zero store id) c.self.invariant there, ap (λ (x : TenantCopies). taken (volume_copy (volume_in x id.volume) id.file)) at)

pub put-requires-clause-room : goal.put-requires-clause-room
put-requires-clause-room c =
    let store : StoreCopies = record { blocks = c.self.inside.blocks; tenants = c.self.inside.tenants.items } in let id = c.args.file in
    let is : IsSome (file_limit store id) = subst (λ (s : StoreCopies). IsSome (file_limit s id)) (sym c.self.view_is) c.requires.there in
    let fits : IfSome (file_limit store id) (λ n. length c.args.bytes.now ≤ n) = subst (λ (s : StoreCopies). IfSome (file_limit s id) (λ n. length c.args.bytes.now ≤ n)) (sym c.self.view_is) c.requires.limit in
    let there = is_there store id is in
    let at : c.index_mut.result.now ≡ tenant_in store.tenants id.tenant = c.index_mut.ensures.value ∙ get_or_default store.tenants id.tenant _ _ there.tenant in
    omega (
      arith,
      room store.blocks c.self.inside.pool store id (limit_or_zero store id) c.self.invariant there,
      blocks_within store id (length c.args.bytes.now) is fits,
      ap (λ (x : TenantCopies). taken (volume_copy (volume_in x id.volume) id.file)) at,
    )

pub invariant_of-self : goal.invariant_of-self
invariant_of-self c =
    let store : StoreCopies = record { blocks = c.self.inside.blocks; tenants = c.self.inside.tenants.items } in let id = c.args.file in
    let is : IsSome (file_limit store id) = subst (λ (s : StoreCopies). IsSome (file_limit s id)) (sym c.self.view_is) c.requires.there in
    let fits : IfSome (file_limit store id) (λ n. length c.args.bytes.now ≤ n) = subst (λ (s : StoreCopies). IfSome (file_limit s id) (λ n. length c.args.bytes.now ≤ n)) (sym c.self.view_is) c.requires.limit in
    let there = is_there store id is in
    let at : c.index_mut.result.now ≡ tenant_in store.tenants id.tenant = c.index_mut.ensures.value ∙ get_or_default store.tenants id.tenant _ _ there.tenant in
    let copy : StoredCopy = record { tag = c.args.tag; bytes = c.args.bytes.now } in
    rw (c.put.ensures.copy, at) (balanced_with store.blocks c.self.inside.pool c.put.new.pool store id (limit_or_zero store id) copy c.self.invariant there
    (blocks_within store id (length c.args.bytes.now) is fits)
    (c.put.ensures.free ∙ ap (λ (x : TenantCopies). c.self.inside.pool + taken (volume_copy (volume_in x id.volume) id.file)) at))
