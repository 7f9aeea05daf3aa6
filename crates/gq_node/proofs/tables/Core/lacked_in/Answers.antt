-- File by file.
use Rattle.std.proofs.Common.{◌≡◌, ◌∙◌, ℕ, ◌+◌, ◌≤◌, Bool, cond, map, refl, sym, ap, subst, arith}
use Rattle.std.specs.List.{count_by, range_with_len}
use Rattle.gq_tag.specs.Tag.{File}
use Rattle.gq_node.specs.Tables.{lacks_at}
use Rattle.gq_node.proofs.Counting.{files_more, few_files}
use Rattle.gq_node.proofs.Giving.{at_place}
use Rattle.gq_node.proofs.tables.Core.lacked_in.Goals as goal
use Rattle.gq_node.proofs.tables.Core.lacked_in.Goals.{then-lacks, else-lacks}

pub loop-place-init : goal.loop-place-init
loop-place-init c = refl

pub overflow_add-lacked : goal.overflow_add-lacked
overflow_add-lacked c =
    let few : c.loop-place.lacked ≤ c.loop-place.place = subst (λ n. n ≤ c.loop-place.place) (sym c.loop-place.invariant) (few_files (lacks_at c.args.self.now c.args.tenant) c.args.volume c.loop-place.place) in
    omega (arith, few, c.loop-place-test.true, c.files-place-end.ensures.bound)

pub loop-place-preserved : goal.loop-place-preserved
loop-place-preserved c =
    let lacks : File → Bool = lacks_at c.args.self.now c.args.tenant in
    let v : ℕ = c.args.volume in
    let n : ℕ = c.loop-place.place in
    let counted : ℕ → ℕ = λ m. count_by lacks (map (at_place v) (range_with_len 0 m)) in
    elim c.if-lacks.branch [
      | then-lacks w ↦ (w.lacked-is ∙ ap (λ m. m + 1) c.loop-place.invariant ∙ sym (files_more lacks v n ∙ ap (λ b. counted n + cond b 1 0) (sym c.lacks.ensures ∙ w.if-lacks.true)))
      | else-lacks w ↦ (w.lacked-is ∙ c.loop-place.invariant ∙ sym (files_more lacks v n ∙ ap (λ b. counted n + cond b 1 0) (sym c.lacks.ensures ∙ w.if-lacks.false) ∙ plus_zero (counted n)))
    ]
  where
    plus_zero : (n : ℕ) → n + 0 ≡ n
    plus_zero n = omega arith

pub returns-clause-lacked : goal.returns-clause-lacked
returns-clause-lacked c =
    let end : c.loop-place.place ≡ c.files-place-end.result = omega (arith, c.loop-place-test.false, c.loop-place.auto.place-end) in
    c.loop-place.invariant ∙ ap (λ m. count_by (lacks_at c.args.self.now c.args.tenant) (map (at_place c.args.volume) (range_with_len 0 m))) (end ∙ c.files-place-end.ensures.value)

pub returns-clause-few : goal.returns-clause-few
returns-clause-few c =
    let few : c.loop-place.lacked ≤ c.loop-place.place = subst (λ n. n ≤ c.loop-place.place) (sym c.loop-place.invariant) (few_files (lacks_at c.args.self.now c.args.tenant) c.args.volume c.loop-place.place) in
    omega (arith, few, c.loop-place.auto.place-end, c.files-place-end.ensures.bound)
