-- The answer `stored` to a message that is there.
use Rattle.std.proofs.Common.{◌∙◌, ◌<◌, ◌++◌, ◌∷◌, [], Some, length, map, set, refl, ap, sym, subst}
use Rattle.std.specs.Prelude.{IsSome}
use Rattle.gq_tag.specs.declared.Body.TheVariants as body
use Rattle.gq_post.specs.declared.envelopes.Says.TheVariants.{Stored}
use Rattle.gq_post.specs.Channels.{channel_at}
use Rattle.gq_post.specs.Envelopes.{answering}
use Rattle.gq_post.specs.Copies.{channel_of}
use Rattle.gq_post.proofs.Reading.{within_channels, envelope_of_message, message_in}
use Rattle.gq_post.proofs.Sending.{keeps_nothing, sent_counted, sent_view, other_body}
use Rattle.gq_post.proofs.post.Post.reply_stored.Goals as goal

pub push_answer-requires-clause-there : goal.push_answer-requires-clause-there
push_answer-requires-clause-there c =
    let asked = envelope_of_message c.self.inside.copies.slots c.self.inside.channels.items c.args.self.now c.args.tenant c.args.number c.self.view_is c.requires.there in
    subst IsSome (sym asked.1) refl

pub invariant_of-self-2 : goal.invariant_of-self-2
invariant_of-self-2 c =
    let within : c.args.tenant < length c.self.inside.channels.items = within_channels c.self.inside.copies.slots c.self.inside.channels.items c.args.self.now c.args.tenant c.self.view_is c.requires.tenant in
    let asked = envelope_of_message c.self.inside.copies.slots c.self.inside.channels.items c.args.self.now c.args.tenant c.args.number c.self.view_is c.requires.there in
    rw (c.in_ok-number.ensures.ok asked.0 asked.1)
    (sent_counted c.self.inside.copies c.self.inside.copies c.self.inside.copies c.self.inside.channels.items c.args.tenant (answering asked.0 Stored 0) body.Stored (asked.0.server ∷ []) within refl refl (keeps_nothing c.self.inside.copies 0 1) c.self.invariant)

pub returns-clause-sent : goal.returns-clause-sent
returns-clause-sent c = λ message is.
    let within : c.args.tenant < length c.self.inside.channels.items = within_channels c.self.inside.copies.slots c.self.inside.channels.items c.args.self.now c.args.tenant c.self.view_is c.requires.tenant in
    let asked = envelope_of_message c.self.inside.copies.slots c.self.inside.channels.items c.args.self.now c.args.tenant c.args.number c.self.view_is c.requires.there in
    ap (map (channel_of c.self.inside.copies.slots)) (c.in_ok-number.ensures.ok asked.0 asked.1)
    ∙ sent_view c.self.inside.copies c.self.inside.copies c.self.inside.copies c.self.inside.channels.items c.args.tenant (answering asked.0 Stored 0) body.Stored (asked.0.server ∷ []) within refl refl (keeps_nothing c.self.inside.copies 0 1) c.self.invariant
    c.args.self.now c.self.view_is
    ∙ ap (λ m. set c.args.self.now c.args.tenant (channel_at c.args.self.now c.args.tenant ++ Some m ∷ [])) (other_body c.self.inside.copies.slots asked.0 message body.Stored (sym (message_in c.self.inside.copies.slots c.self.inside.channels.items c.args.self.now c.args.tenant c.args.number (Some asked.0) c.self.view_is asked.1) ∙ is))
