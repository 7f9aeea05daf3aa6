-- Lines that are seen by how they begin.
use Rattle.std.proofs.Common.{◌≡◌, ◌++◌, Some, refl, arith, rules, sym, ap, ◌∙◌}
use Rattle.std.specs.Prelude.{codes}
use Rattle.std.proofs.lemmas.Bool.Decides.{Decides-eqb}
use Rattle.std.proofs.lemmas.Slice.Eq.{text_from_reads, strip_prefix_is}
use Rattle.gq_text.specs.Input.{line_of}
use Rattle.gq_text.proofs.OneNumber.{lost}
use Rattle.gq_text.proofs.input.line_behind_name.Goals as goal

pub returns-in-32-2 : goal.returns-in-32-2
unfolding line_of
returns-in-32-2 c =
    let is : c.args.text.now ≡ codes " volumes" = text_from_reads c.args.text.now (codes " volumes") (omega arith) (search rules) in
    rw is refl

pub returns-in-Some-number : goal.returns-in-Some-number
returns-in-Some-number c =
    let is : c.args.text.now ≡ codes " lose " ++ c.in-Some.word.now = strip_prefix_is Decides-eqb c.args.text.now c.as_slice.result.now (Some c.in-Some.word) c.in-Some.ensures.cases ∙ ap (λ p. p ++ c.in-Some.word.now) c.as_slice.ensures in
    lost c.args.text.now c.in-Some.word.now _ is (sym c.in-Some-number.is ∙ c.number.ensures)

pub returns-in-None : goal.returns-in-None
returns-in-None c =
    let is : c.args.text.now ≡ codes " lose " ++ c.in-Some.word.now = strip_prefix_is Decides-eqb c.args.text.now c.as_slice.result.now (Some c.in-Some.word) c.in-Some.ensures.cases ∙ ap (λ p. p ++ c.in-Some.word.now) c.as_slice.ensures in
    lost c.args.text.now c.in-Some.word.now _ is (sym c.in-None.is ∙ c.number.ensures)
