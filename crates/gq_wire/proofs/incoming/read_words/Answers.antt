-- A line to this node is what its words are.
use Rattle.std.proofs.Common.{◌∷◌, Some, sym, ap, ◌∙◌}
use Rattle.gq_lines.specs.Words.{words_of, words_after}
use Rattle.gq_wire.proofs.Arriving.{line_arrives, is_some_of}
use Rattle.gq_wire.proofs.incoming.read_words.Goals as goal

pub returns-in-Some-clause-incoming : goal.returns-in-Some-clause-incoming
returns-in-Some-clause-incoming c =
    let to = c.first_word.result.0.now in
    let here = is_some_of c.number.result c.from.result (sym c.ne.ensures ∙ c.if-ne.false) in
    rw (← (line_arrives c.args.plan.now c.args.here (words_of c.args.line.now) (words_after c.in-Some.text.now) to c.in-Some.from.now
    (c.first_word.ensures.words ∙ ap (λ ws. to ∷ ws) c.in-Some.ensures) (sym c.number.ensures ∙ here ∙ ap Some c.from.ensures)))
    c.from_whom.ensures.incoming
