use Rattle.std.proofs.Common.{◌∙◌, ◌++◌, [], ◌∷◌, cond, append-nil, ap, sym}
use Rattle.std.proofs.lemmas.Bool.{eq-eqb, ne_eqb}
use Rattle.gq_script.specs.Completing.{missing_newline}
use Rattle.gq_finish.proofs.Finishing.{newline_some, on_ok_is}
use Rattle.gq_finish.proofs.finish.put_missing_newline.Goals as goal

pub returns-then-last-eq10 : goal.returns-then-last-eq10
returns-then-last-eq10 c =
    let none = newline_some c.args.text.now c.in-Some.last.now c.in-Some.ensures.value ∙ ap (λ b. cond b [] (10 ∷ [])) (eq-eqb c.in-Some.last.now 10 c.if-last-eq10.true) in
    sym (append-nil c.args.out.now.items) ∙ ap (λ z. c.args.out.now.items ++ z) (sym none)

pub returns : goal.returns
returns c =
    let one = newline_some c.args.text.now c.in-Some.last.now c.in-Some.ensures.value ∙ ap (λ b. cond b [] (10 ∷ [])) (ne_eqb c.in-Some.last.now 10 c.if-last-eq10.false) in
    on_ok_is c.grow_by.result c.grow_by.new.self.items (c.args.out.now.items ++ 10 ∷ []) c.args.out.now.items (c.args.out.now.items ++ missing_newline c.args.text.now) c.grow_by.ensures.items
    (ap (λ z. c.args.out.now.items ++ z) (sym one))
