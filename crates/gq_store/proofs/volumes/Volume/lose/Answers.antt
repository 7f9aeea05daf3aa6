use Rattle.std.proofs.Common.{◌≡◌, ◌<◌, length, map, get_or, ap, sym, ◌∙◌, arith}
use Rattle.std.specs.List.{sum_by}
use Rattle.std.proofs.lemmas.List.{length-map, get_or_default}
use Rattle.gq_tag.specs.declared.StoredCopy.{StoredCopy}
use Rattle.gq_tag.specs.Tag.{first_copy}
use Rattle.gq_store.specs.Copies.{VolumeCopies, taken, volume_taken}
use Rattle.gq_store.proofs.Mixed.{mixed_end, replace_step, mapped_at}
use Rattle.gq_store.proofs.Lost.{volume_nothing}
use Rattle.gq_store.proofs.volumes.Volume.lose.Goals as goal

pub loop-entry-preserved : goal.loop-entry-preserved
loop-entry-preserved c =
    let xs = c.deref_mut-entry-items.result.now in let items = c.loop-entry.entry-items in let k = c.loop-entry.entry-index in
    let f : StoredCopy → StoredCopy = λ copy. first_copy in
    let lt : k < length items = omega (arith, c.loop-entry-test.true) in
    let long : length items ≡ length xs = c.loop-entry.auto.entry-items in
    let old : c.entry-item.result ≡ get_or items k first_copy = c.entry-item.is ∙ get_or_default items k _ _ lt in
    let new : c.lose.new.self ≡ get_or (map f xs) k first_copy = mapped_at f xs items k first_copy c.entry-item.result c.lose.new.self lt long c.loop-entry.invariant.0 old c.lose.ensures.copy in
    replace_step taken xs (map f xs) items k first_copy c.entry-item.result c.lose.new.self c.loop-entry.pool c.lose.new.pool _ lt long (sym (length-map xs f)) c.loop-entry.invariant.0 c.loop-entry.invariant.1 old new
    (omega (arith, c.lose.ensures.free, ap taken c.lose.ensures.copy, ap taken c.entry-item.is))

pub returns-clause-free : goal.returns-clause-free
returns-clause-free c =
    let xs = c.deref_mut-entry-items.result.now in let k = c.loop-entry.entry-index in let f : StoredCopy → StoredCopy = λ copy. first_copy in
    let done : c.loop-entry.entry-items ≡ map f xs = c.loop-entry.invariant.0 ∙ mixed_end xs (map f xs) k (omega (arith, c.loop-entry-test.false)) (sym (length-map xs f)) in
    omega (
      arith,
      c.loop-entry.invariant.1,
      ap (sum_by taken) done,
      volume_nothing (record { blocks = 0; copies = xs }),
      ap (sum_by taken) c.deref_mut-entry-items.ensures.value,
      ap (λ (v : VolumeCopies). volume_taken v) c.self.view_is,
    )
