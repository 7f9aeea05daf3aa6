-- Volume by volume.
use Rattle.std.proofs.Common.{◌≡◌, ◌∙◌, ℕ, ◌+◌, Bool, false, List, refl, sym, ap, arith}
use Rattle.std.specs.List.{count_by, flat_map, range_with_len}
use Rattle.gq_desk.specs.Volumes.{account_at}
use Rattle.gq_tag.specs.Tag.{File}
use Rattle.gq_desk.specs.declared.volumes.VolumeRow.{VolumeRow}
use Rattle.gq_node.specs.Joining.{all_files}
use Rattle.gq_node.specs.Tables.{is_new_node, lacks_at}
use Rattle.gq_node.proofs.Counting.{volumes_more, none_such}
use Rattle.gq_node.proofs.Giving.{volume_files}
use Rattle.gq_node.proofs.tables.Core.lacked.Goals as goal

pub loop-volume-init : goal.loop-volume-init
loop-volume-init c = (refl, omega arith)

pub overflow_add-lacked : goal.overflow_add-lacked
overflow_add-lacked c = omega (arith, c.loop-volume.invariant.1, c.lacked_in-lacked.ensures.few, c.loop-volume-test.true, c.count_volumes-volume-end.ensures.few)

pub loop-volume-preserved : goal.loop-volume-preserved
loop-volume-preserved c =
    let lacks : File → Bool = lacks_at c.args.self.now c.args.tenant in
    let g : ℕ → List File = volume_files (account_at c.args.self.now.desk c.args.tenant).volumes in
    let before : ℕ = c.loop-volume.lacked in (
      ap (λ n. n + c.lacked_in-lacked.result) c.loop-volume.invariant.0
          ∙ ap (λ n. count_by lacks (flat_map g (range_with_len 0 c.loop-volume.volume)) + n) c.lacked_in-lacked.ensures.lacked
          ∙ sym (volumes_more lacks g c.loop-volume.volume),
      omega (arith, c.loop-volume.invariant.1, c.lacked_in-lacked.ensures.few),
    )

pub returns-clause-lacked : goal.returns-clause-lacked
returns-clause-lacked c =
    let lacks : File → Bool = lacks_at c.args.self.now c.args.tenant in
    let g : ℕ → List File = volume_files (account_at c.args.self.now.desk c.args.tenant).volumes in
    let end : c.loop-volume.volume ≡ c.count_volumes-volume-end.result = omega (arith, c.loop-volume-test.false, c.loop-volume.auto.volume-end) in
    c.loop-volume.invariant.0 ∙ ap (λ n. count_by lacks (flat_map g (range_with_len 0 n))) (end ∙ c.count_volumes-volume-end.ensures.count)

pub returns-clause-few : goal.returns-clause-few
returns-clause-few c = omega (arith, c.loop-volume.invariant.1, c.loop-volume.auto.volume-end, c.count_volumes-volume-end.ensures.few)

pub returns-then-not-is_new-clause-lacked : goal.returns-then-not-is_new-clause-lacked
returns-then-not-is_new-clause-lacked c =
    let volumes : List VolumeRow = (account_at c.args.self.now.desk c.args.tenant).volumes in
    let old : is_new_node c.args.self.now ≡ false = sym (c.is_new.ensures 0) ∙ c.if-not-is_new.true in
    sym (none_such (lacks_at c.args.self.now c.args.tenant) (all_files volumes) (λ file. c.is_whole.ensures old c.args.tenant file))
