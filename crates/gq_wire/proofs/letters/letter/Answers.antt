-- The letter is that of the words.
use Rattle.std.proofs.Common.{sym, ap, ◌∙◌}
use Rattle.gq_lines.specs.Words.{words_after}
use Rattle.gq_wire.specs.Letters.{in_round}
use Rattle.gq_wire.proofs.Arriving.{letter_arrives}
use Rattle.gq_wire.proofs.letters.letter.Goals as goal

pub returns-in-Some-2 : goal.returns-in-Some-2
returns-in-Some-2 c =
    c.in_round.ensures ∙ ap in_round c.message.ensures
    ∙ letter_arrives c.args.here c.args.from c.args.tenant (words_after c.args.text.now) (words_after c.in-Some.rest.now) c.in-Some.h c.in-Some-2.body
    c.in-Some.ensures (sym c.in_ok-body.ensures ∙ c.in-Some-2.is)
