-- A delivery is seen by how it begins.
use Rattle.std.proofs.Common.{◌≡◌, ℕ, Option, None, Some, sym}
use Rattle.std.specs.Prelude.{IfSome}
use Rattle.gq_model.specs.declared.events.Line.{Line}
use Rattle.gq_model.specs.declared.events.Line.TheVariants.{Deliver}
use Rattle.gq_text.specs.Input.{line_from}
use Rattle.gq_text.proofs.OneNumber.{delivered}
use Rattle.gq_text.proofs.input.delivery.Goals as goal

read_on : (o : Option ℕ) (line : Line) → line_from o (λ n. Deliver n) ≡ line → IfSome o (λ n. line ≡ Deliver n)
read_on None line e = tt
read_on (Some n) line e = sym e

pub returns : goal.returns
returns c =
    read_on c.number.result _ (delivered c.args.text.now c.in_ok-word.word.now c.number.result c.in_ok-word.ensures c.number.ensures)
