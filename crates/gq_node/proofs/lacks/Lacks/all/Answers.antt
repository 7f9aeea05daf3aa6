-- One volume more.
use Rattle.std.proofs.Common.{◌∙◌, ◌++◌, ◌∷◌, [], ℕ, List, Bool, replicate, false, sym, ap, subst, arith}
use Rattle.std.proofs.lemmas.List.FromFn.{map-range_with_len_more}
use Rattle.gq_node.specs.Lacks.{Given, HasRoom, marks_for, all_lost}
use Rattle.gq_node.proofs.Lacking.{marks_few, room_first, none_whole}
use Rattle.gq_node.proofs.lacks.Lacks.all.Goals as goal

pub loop-volume-preserved : goal.loop-volume-preserved
loop-volume-preserved c =
    let v : ℕ = c.loop-volume.volume in
    let marked : ℕ → List Bool = λ u. replicate (marks_for c.args.rows.now u) false in (
      c.push_reserved.ensures.items
          ∙ ap (λ (given : Given). given ++ c.in_ok-none.field-0 ∷ []) c.loop-volume.invariant.0
          ∙ ap (λ (files : List Bool). all_lost c.args.rows.now v ++ files ∷ []) (c.in_ok-none.ensures ∙ ap (λ n. replicate n false) c.marks_for.ensures.value)
          ∙ sym (map-range_with_len_more marked 0 v v (omega arith)),
      omega (arith, c.push_reserved.ensures.len, c.loop-volume.invariant.1),
      c.push_reserved.ensures.capacity ∙ c.loop-volume.invariant.2,
    )

pub invariant_of-result : goal.invariant_of-result
invariant_of-result c = (
  subst HasRoom (sym c.loop-volume.invariant.0) (room_first c.args.rows.now c.loop-volume.volume (marks_few c.args.rows.now c.requires)),
  none_whole c.loop-volume.volumes.items,
)
