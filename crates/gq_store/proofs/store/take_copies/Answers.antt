use Rattle.std.proofs.Common.{◌≡◌, ◌+◌, ◌<◌, length, get_or, ap, sym, ◌∙◌, arith}
use Rattle.std.proofs.lemmas.List.{get_or_default}
use Rattle.gq_store.specs.Copies.{no_tenant, copies_account, tenant_taken}
use Rattle.gq_store.proofs.Mixed.{replace_step, room_step, alike_long, alike_at}
use Rattle.gq_store.proofs.store.take_copies.Goals as goal

pub take_from-requires-clause-account : goal.take_from-requires-clause-account
take_from-requires-clause-account c =
    let xs = c.args.tenants.now in let ys = c.args.peers.now in let items = c.loop-place.tenants in let k = c.loop-place.place in
    alike_at copies_account xs ys items k _ _ (omega (arith, c.loop-place-test.true)) c.loop-place.auto.tenants c.loop-place.invariant.0 c.requires.accounts ∙ ap copies_account (sym c.index-peers-place.is)

pub loop-place-preserved : goal.loop-place-preserved
loop-place-preserved c =
    let xs = c.args.tenants.now in let ys = c.args.peers.now in let items = c.loop-place.tenants in let k = c.loop-place.place in let item = c.index-tenants-place in
    let lt : k < length items = omega (arith, c.loop-place-test.true) in
    let long : length items ≡ length xs = c.loop-place.auto.tenants in
    let same : length xs ≡ length ys = alike_long copies_account xs ys c.requires.accounts in
    let old : item.result ≡ get_or items k no_tenant = item.is ∙ get_or_default items k _ _ lt in
    let new : c.take_from.new.self ≡ get_or ys k no_tenant = c.take_from.ensures.copies ∙ (c.index-peers-place.is ∙ get_or_default ys k _ _ (omega arith)) in
    let moved : c.take_from.new.pool + tenant_taken c.take_from.new.self ≡ c.loop-place.pool + tenant_taken item.result = omega (arith, c.take_from.ensures.free, ap tenant_taken c.take_from.ensures.copies, ap tenant_taken item.is) in
    let both = replace_step tenant_taken xs ys items k no_tenant item.result c.take_from.new.self c.loop-place.pool c.take_from.new.pool _ lt long same c.loop-place.invariant.0 c.loop-place.invariant.1 old new moved in
    (both.0, both.1, room_step tenant_taken ys k no_tenant c.take_from.new.self c.loop-place.pool c.take_from.new.pool _ (omega arith) new moved c.loop-place.invariant.2)
