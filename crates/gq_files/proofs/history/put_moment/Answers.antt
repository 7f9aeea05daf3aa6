use Rattle.std.proofs.Common.{◌∙◌, ◌++◌, List, ℕ, ap, codes, ◌∷◌, []}
use Rattle.std.specs.Prelude.{decimal, ◌+◌}
use Rattle.gq_files.specs.Histories.{function_word, stage_word, value_word}
use Rattle.gq_files.proofs.Histories.{pieces_joined}
use Rattle.gq_files.proofs.history.put_moment.Goals as goal

pub returns : goal.returns
returns c =
    let m = c.args.moment in let kind = c.args.op.now.kind in
    c.in_ok-grow_by-3.ensures.items
    ∙ (ap (λ (z : List ℕ). z ++ (codes "}" ++ 10 ∷ []))
    (c.in_ok-put_value.ensures
    ∙ ap (λ (z : List ℕ). z ++ value_word m.stage kind)
    (c.in_ok-grow_by-2.ensures.items
    ∙ ap (λ (z : List ℕ). z ++ codes ", :value ")
    (c.in_ok-put_named-2.ensures
    ∙ (ap (λ (w : List ℕ). c.put_counted-2.new.out.items ++ codes ", :f :" ++ w) c.function_word.ensures
    ∙ ap (λ (z : List ℕ). z ++ codes ", :f :" ++ function_word kind)
    (c.in_ok-put_counted-2.ensures
    ∙ ap (λ (z : List ℕ). z ++ codes ", :process " ++ decimal m.process)
    (c.in_ok-put_named.ensures
    ∙ (ap (λ (w : List ℕ). c.put_sum.new.out.items ++ codes ", :type :" ++ w) c.stage_word.ensures
    ∙ ap (λ (z : List ℕ). z ++ codes ", :type :" ++ stage_word m.stage)
    (c.in_ok-put_sum.ensures.ok
    ∙ ap (λ (z : List ℕ). z ++ decimal (m.line + c.args.first))
    (c.in_ok-grow_by.ensures.items
    ∙ ap (λ (z : List ℕ). z ++ codes ", :time ") c.in_ok-put_counted.ensures)))))))))
    ∙ pieces_joined c.args.out.now.items (codes "{:index ") (decimal c.args.index) (codes ", :time ") (decimal (m.line + c.args.first)) (codes ", :type :") (stage_word m.stage) (codes ", :process ") (decimal m.process) (codes ", :f :")
    (function_word kind) (codes ", :value ") (value_word m.stage kind) (codes "}" ++ 10 ∷ []))
