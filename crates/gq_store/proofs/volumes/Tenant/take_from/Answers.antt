use Rattle.std.proofs.Common.{◌≡◌, ◌+◌, ◌<◌, length, map, get_or, ap, sym, ◌∙◌, arith}
use Rattle.std.proofs.lemmas.List.{get_or_default}
use Rattle.gq_desk.specs.Volumes.{Account}
use Rattle.gq_store.specs.Copies.{TenantCopies, empty_volume, volume_size, volume_taken}
use Rattle.gq_store.proofs.Mixed.{replace_step, room_step, alike_long, alike_at}
use Rattle.gq_store.proofs.volumes.Tenant.take_from.Goals as goal

pub take_from-requires-clause-size : goal.take_from-requires-clause-size
take_from-requires-clause-size c =
    let xs = c.deref_mut-volume-items.result.now in let ys = c.peer.inside.volumes.items in let items = c.loop-number.volume-items in let k = c.loop-number.number in
    let sizes : map volume_size xs ≡ map volume_size ys =
    ap (map volume_size) c.deref_mut-volume-items.ensures.value ∙ (ap (λ (t : TenantCopies). map volume_size t.volumes) c.self.view_is
    ∙ (ap (λ (a : Account). a.volumes) c.requires.account ∙ sym (ap (λ (t : TenantCopies). map volume_size t.volumes) c.peer.view_is))) in
    alike_at volume_size xs ys items k _ _ (omega (arith, c.loop-number-test.true)) c.loop-number.auto.volume-items c.loop-number.invariant.0 sizes ∙ ap volume_size (sym c.index.ensures)

pub loop-number-preserved : goal.loop-number-preserved
loop-number-preserved c =
    let xs = c.deref_mut-volume-items.result.now in let ys = c.peer.inside.volumes.items in let items = c.loop-number.volume-items in let k = c.loop-number.number in
    let lt : k < length items = omega (arith, c.loop-number-test.true) in
    let long : length items ≡ length xs = c.loop-number.auto.volume-items in
    let sizes : map volume_size xs ≡ map volume_size ys =
    ap (map volume_size) c.deref_mut-volume-items.ensures.value ∙ (ap (λ (t : TenantCopies). map volume_size t.volumes) c.self.view_is
    ∙ (ap (λ (a : Account). a.volumes) c.requires.account ∙ sym (ap (λ (t : TenantCopies). map volume_size t.volumes) c.peer.view_is))) in
    let same : length xs ≡ length ys = alike_long volume_size xs ys sizes in
    let old : c.volume-item.result ≡ get_or items k empty_volume = c.volume-item.is ∙ get_or_default items k _ _ lt in
    let new : c.take_from.new.self ≡ get_or ys k empty_volume = c.take_from.ensures.copies ∙ (c.index.ensures ∙ get_or_default ys k _ _ (omega arith)) in
    let moved : c.take_from.new.pool + volume_taken c.take_from.new.self ≡ c.loop-number.pool + volume_taken c.volume-item.result = omega (arith, c.take_from.ensures.free, ap volume_taken c.take_from.ensures.copies, ap volume_taken c.volume-item.is) in
    let both = replace_step volume_taken xs ys items k empty_volume c.volume-item.result c.take_from.new.self c.loop-number.pool c.take_from.new.pool _ lt long same c.loop-number.invariant.0 c.loop-number.invariant.1 old new moved in
    (both.0, both.1, room_step volume_taken ys k empty_volume c.take_from.new.self c.loop-number.pool c.take_from.new.pool _ (omega arith) new moved c.loop-number.invariant.2)
