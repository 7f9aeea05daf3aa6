use Rattle.std.proofs.Common.{◌≡◌, ◌+◌, ◌<◌, length, get_or, ap, ◌∙◌, arith}
use Rattle.std.proofs.lemmas.List.{get_or_default}
use Rattle.gq_desk.specs.declared.volumes.VolumeRow.{VolumeRow}
use Rattle.gq_tag.specs.Tag.{first_copy}
use Rattle.gq_store.specs.Copies.{VolumeCopies, taken}
use Rattle.gq_store.proofs.Mixed.{replace_step, room_step}
use Rattle.gq_store.proofs.volumes.Volume.take_from.Goals as goal

pub loop-file-preserved : goal.loop-file-preserved
loop-file-preserved c =
    let xs = c.deref_mut-entry-items.result.now in let ys = c.peer.inside.files.items in let items = c.loop-file.entry-items in let k = c.loop-file.file in
    let lt : k < length items = omega (arith, c.loop-file-test.true) in
    let long : length items ≡ length xs = c.loop-file.auto.entry-items in
    let same : length xs ≡ length ys = omega (
      arith,
      ap length c.deref_mut-entry-items.ensures.value,
      ap (λ (v : VolumeCopies). length v.copies) c.self.view_is,
      ap (λ (r : VolumeRow). r.files) c.requires.size,
      ap (λ (v : VolumeCopies). length v.copies) c.peer.view_is,
    ) in
    let old : c.entry-item.result ≡ get_or items k first_copy = c.entry-item.is ∙ get_or_default items k _ _ lt in
    let new : c.take_from.new.self ≡ get_or ys k first_copy = c.take_from.ensures.copy ∙ (c.index.ensures ∙ get_or_default ys k _ _ (omega arith)) in
    let moved : c.take_from.new.pool + taken c.take_from.new.self ≡ c.loop-file.pool + taken c.entry-item.result = omega (arith, c.take_from.ensures.free, ap taken c.take_from.ensures.copy, ap taken c.entry-item.is) in
    let both = replace_step taken xs ys items k first_copy c.entry-item.result c.take_from.new.self c.loop-file.pool c.take_from.new.pool _ lt long same c.loop-file.invariant.0 c.loop-file.invariant.1 old new moved in
    (both.0, both.1, room_step taken ys k first_copy c.take_from.new.self c.loop-file.pool c.take_from.new.pool _ (omega arith) new moved c.loop-file.invariant.2)
