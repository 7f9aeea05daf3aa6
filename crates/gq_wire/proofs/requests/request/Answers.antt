-- The request is that of the words, or one of its first words is wanting.
use Rattle.std.proofs.Common.{◌∙◌, sym, Some, None}
use Rattle.gq_lines.specs.Words.{words_after}
use Rattle.gq_wire.proofs.Arriving.{request_arrives, no_words, no_session, no_number}
use Rattle.gq_wire.proofs.requests.request.Goals as goal

pub returns-in_default : goal.returns-in_default
returns-in_default c = no_words (words_after c.args.text.now) c.in_default.ensures

pub returns-in_default-take_number : goal.returns-in_default-take_number
returns-in_default-take_number c =
    no_session (words_after c.args.text.now) (words_after c.in-Some.rest.now) c.in-Some.verb.now c.in-Some.ensures c.in_default-take_number.ensures

pub returns-in_default-take_number-2 : goal.returns-in_default-take_number-2
returns-in_default-take_number-2 c =
    no_number (words_after c.args.text.now) (words_after c.in-Some.rest.now) (words_after c.in-Some-take_number.rest.now) c.in-Some.verb.now c.in-Some-take_number.session
    c.in-Some.ensures c.in-Some-take_number.ensures c.in_default-take_number-2.ensures

pub returns-in-None : goal.returns-in-None
returns-in-None c =
    request_arrives (words_after c.args.text.now) (words_after c.in-Some.rest.now) (words_after c.in-Some-take_number.rest.now) (words_after c.in-Some-take_number-2.rest.now)
    c.in-Some.verb.now c.in-Some-take_number.session c.in-Some-take_number-2.op None
    c.in-Some.ensures c.in-Some-take_number.ensures c.in-Some-take_number-2.ensures (sym c.in_ok-line.ensures ∙ c.in-None.is)

pub returns-in-Some-2 : goal.returns-in-Some-2
returns-in-Some-2 c =
    request_arrives (words_after c.args.text.now) (words_after c.in-Some.rest.now) (words_after c.in-Some-take_number.rest.now) (words_after c.in-Some-take_number-2.rest.now)
    c.in-Some.verb.now c.in-Some-take_number.session c.in-Some-take_number-2.op (Some c.in-Some-2.line)
    c.in-Some.ensures c.in-Some-take_number.ensures c.in-Some-take_number-2.ensures (sym c.in_ok-line.ensures ∙ c.in-Some-2.is)
