use Rattle.std.proofs.Common.{◌≡◌, ◌<◌, length, map, get_or, ap, sym, ◌∙◌, arith}
use Rattle.std.specs.List.{sum_by}
use Rattle.std.proofs.lemmas.List.{length-map, get_or_default}
use Rattle.gq_store.specs.Copies.{TenantCopies, empty_volume, lost_volume, volume_taken, tenant_taken}
use Rattle.gq_store.proofs.Mixed.{mixed_end, replace_step, mapped_at}
use Rattle.gq_store.proofs.Lost.{volume_nothing, tenant_nothing}
use Rattle.gq_store.proofs.volumes.Tenant.lose.Goals as goal

pub loop-volume-preserved : goal.loop-volume-preserved
loop-volume-preserved c =
    let xs = c.deref_mut-volume-items.result.now in let items = c.loop-volume.volume-items in let k = c.loop-volume.volume-index in
    let lt : k < length items = omega (arith, c.loop-volume-test.true) in
    let long : length items ≡ length xs = c.loop-volume.auto.volume-items in
    let old : c.volume-item.result ≡ get_or items k empty_volume = c.volume-item.is ∙ get_or_default items k _ _ lt in
    let put : c.lose.new.self ≡ lost_volume c.volume-item.result = c.lose.ensures.copies ∙ ap lost_volume (sym c.volume-item.is) in
    let new : c.lose.new.self ≡ get_or (map lost_volume xs) k empty_volume = mapped_at lost_volume xs items k empty_volume c.volume-item.result c.lose.new.self lt long c.loop-volume.invariant.0 old put in
    replace_step volume_taken xs (map lost_volume xs) items k empty_volume c.volume-item.result c.lose.new.self c.loop-volume.pool c.lose.new.pool _ lt long (sym (length-map xs lost_volume)) c.loop-volume.invariant.0 c.loop-volume.invariant.1 old new
    (omega (arith, c.lose.ensures.free, ap volume_taken put, volume_nothing c.volume-item.result, ap volume_taken c.volume-item.is))

pub returns-clause-free : goal.returns-clause-free
returns-clause-free c =
    let xs = c.deref_mut-volume-items.result.now in let k = c.loop-volume.volume-index in
    let done : c.loop-volume.volume-items ≡ map lost_volume xs = c.loop-volume.invariant.0 ∙ mixed_end xs (map lost_volume xs) k (omega (arith, c.loop-volume-test.false)) (sym (length-map xs lost_volume)) in
    omega (
      arith,
      c.loop-volume.invariant.1,
      ap (sum_by volume_taken) done,
      tenant_nothing (record { share = 0; most_blocks = 0; most_volumes = 0; volumes = xs }),
      ap (sum_by volume_taken) c.deref_mut-volume-items.ensures.value,
      ap (λ (t : TenantCopies). tenant_taken t) c.self.view_is,
    )
