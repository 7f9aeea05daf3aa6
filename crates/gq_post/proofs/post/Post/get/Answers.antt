-- The envelope as a message, or none.
use Rattle.std.proofs.Common.{◌≡◌, ◌∙◌, ◌<◌, Some, None, length, ap, sym}
use Rattle.std.specs.Prelude.{option_map}
use Rattle.gq_post.specs.Envelopes.{with_body, envelopes_at, envelope_at}
use Rattle.gq_post.proofs.Reading.{within_channels, envelope_read, message_in}
use Rattle.gq_post.proofs.post.Post.get.Goals as goal

pub returns-in_err-envelope : goal.returns-in_err-envelope
returns-in_err-envelope c =
    let within : c.args.tenant < length c.self.inside.channels.items = within_channels c.self.inside.copies.slots c.self.inside.channels.items c.args.self.now c.args.tenant c.self.view_is c.requires in
    let none : envelope_at (envelopes_at c.self.inside.channels.items c.args.tenant) c.args.number ≡ None = envelope_read _ _ _ _ _ within c.index.ensures c.envelope.ensures ∙ c.in_err-envelope.was in
    c.from_residual.ensures ∙ sym (message_in c.self.inside.copies.slots c.self.inside.channels.items c.args.self.now c.args.tenant c.args.number None c.self.view_is none)

pub returns-in_err-body : goal.returns-in_err-body
returns-in_err-body c =
    let within : c.args.tenant < length c.self.inside.channels.items = within_channels c.self.inside.copies.slots c.self.inside.channels.items c.args.self.now c.args.tenant c.self.view_is c.requires in
    let some : envelope_at (envelopes_at c.self.inside.channels.items c.args.tenant) c.args.number ≡ Some c.in_ok-envelope.envelope = envelope_read _ _ _ _ _ within c.index.ensures c.envelope.ensures ∙ c.in_ok-envelope.was in
    c.from_residual-in_err-body.ensures
    ∙ ap (option_map (with_body c.in_ok-envelope.envelope)) c.in_err-body.ensures
    ∙ sym (message_in c.self.inside.copies.slots c.self.inside.channels.items c.args.self.now c.args.tenant c.args.number (Some c.in_ok-envelope.envelope) c.self.view_is some)

pub returns : goal.returns
returns c =
    let within : c.args.tenant < length c.self.inside.channels.items = within_channels c.self.inside.copies.slots c.self.inside.channels.items c.args.self.now c.args.tenant c.self.view_is c.requires in
    let some : envelope_at (envelopes_at c.self.inside.channels.items c.args.tenant) c.args.number ≡ Some c.in_ok-envelope.envelope = envelope_read _ _ _ _ _ within c.index.ensures c.envelope.ensures ∙ c.in_ok-envelope.was in
    ap (λ x. Some x) c.with_body.ensures
    ∙ ap (option_map (with_body c.in_ok-envelope.envelope)) c.in_ok-body.ensures
    ∙ sym (message_in c.self.inside.copies.slots c.self.inside.channels.items c.args.self.now c.args.tenant c.args.number (Some c.in_ok-envelope.envelope) c.self.view_is some)
