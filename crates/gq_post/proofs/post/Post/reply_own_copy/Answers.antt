-- The answer with a copy of its own.
use Rattle.std.proofs.Common.{◌≡◌, ◌∙◌, ◌<◌, ◌++◌, ◌∷◌, [], Some, length, map, set, refl, ap, sym, subst}
use Rattle.std.specs.Prelude.{IsSome}
use Rattle.slab.specs.Slab.{Slab}
use Rattle.gq_tag.specs.declared.Body.TheVariants as body
use Rattle.gq_post.specs.declared.copies.SharedCopy.{SharedCopy}
use Rattle.gq_post.specs.declared.envelopes.Says.TheVariants.{Copy}
use Rattle.gq_post.specs.Channels.{channel_at}
use Rattle.gq_post.specs.Envelopes.{body_copy, answering}
use Rattle.gq_post.specs.Copies.{channel_of}
use Rattle.gq_post.proofs.Reading.{within_channels, envelope_of_message, message_in}
use Rattle.gq_post.proofs.Sending.{Keeps, sent_counted, sent_view, other_body}
use Rattle.gq_post.proofs.post.Post.reply_own_copy.Goals as goal

pub push_answer-requires-clause-there : goal.push_answer-requires-clause-there
push_answer-requires-clause-there c =
    let asked = envelope_of_message c.self.inside.copies.slots c.self.inside.channels.items c.args.self.now c.args.tenant c.args.number c.self.view_is c.requires.there in
    subst IsSome (sym asked.1) refl

pub invariant_of-self-2 : goal.invariant_of-self-2
invariant_of-self-2 c =
    let within : c.args.tenant < length c.self.inside.channels.items = within_channels c.self.inside.copies.slots c.self.inside.channels.items c.args.self.now c.args.tenant c.self.view_is c.requires.tenant in
    let asked = envelope_of_message c.self.inside.copies.slots c.self.inside.channels.items c.args.self.now c.args.tenant c.args.number c.self.view_is c.requires.there in
    let own = body.Copy (record { tag = c.args.tag; bytes = c.in_ok-bytes.bytes }) in
    let key : c.in_ok-hint.hint ≡ c.make_place.new.self.vacant_key = c.in_ok-hint.ensures.place ∙ sym (ap (λ (s : Slab SharedCopy). s.vacant_key) c.make_place.ensures.rest_kept) in
    let room : c.make_place.new.self.slots ≡ c.self.inside.copies.slots = ap (λ (s : Slab SharedCopy). s.slots) c.make_place.ensures.rest_kept in
    let keeps : Keeps c.make_place.new.self c.keep.new.copies c.in_ok-hint.hint (body_copy own) 1 =
    rw key record { none = c.keep.ensures.none; nobody = c.keep.ensures.nobody; vacant = c.keep.ensures.vacant; kept = c.keep.ensures.kept } in
    rw (c.in_ok-number.ensures.ok asked.0 asked.1)
    (sent_counted c.self.inside.copies c.make_place.new.self c.keep.new.copies c.self.inside.channels.items c.args.tenant (answering asked.0 Copy c.in_ok-hint.hint) own (asked.0.server ∷ []) within room refl keeps c.self.invariant)

pub returns-clause-sent : goal.returns-clause-sent
returns-clause-sent c = λ message is.
    let within : c.args.tenant < length c.self.inside.channels.items = within_channels c.self.inside.copies.slots c.self.inside.channels.items c.args.self.now c.args.tenant c.self.view_is c.requires.tenant in
    let asked = envelope_of_message c.self.inside.copies.slots c.self.inside.channels.items c.args.self.now c.args.tenant c.args.number c.self.view_is c.requires.there in
    let own = body.Copy (record { tag = c.args.tag; bytes = c.in_ok-bytes.bytes }) in
    let key : c.in_ok-hint.hint ≡ c.make_place.new.self.vacant_key = c.in_ok-hint.ensures.place ∙ sym (ap (λ (s : Slab SharedCopy). s.vacant_key) c.make_place.ensures.rest_kept) in
    let room : c.make_place.new.self.slots ≡ c.self.inside.copies.slots = ap (λ (s : Slab SharedCopy). s.slots) c.make_place.ensures.rest_kept in
    let keeps : Keeps c.make_place.new.self c.keep.new.copies c.in_ok-hint.hint (body_copy own) 1 =
    rw key record { none = c.keep.ensures.none; nobody = c.keep.ensures.nobody; vacant = c.keep.ensures.vacant; kept = c.keep.ensures.kept } in
    ap (map (channel_of c.keep.new.copies.slots)) (c.in_ok-number.ensures.ok asked.0 asked.1)
    ∙ sent_view c.self.inside.copies c.make_place.new.self c.keep.new.copies c.self.inside.channels.items c.args.tenant (answering asked.0 Copy c.in_ok-hint.hint) own (asked.0.server ∷ []) within room refl keeps c.self.invariant
    c.args.self.now c.self.view_is
    ∙ ap (λ m. set c.args.self.now c.args.tenant (channel_at c.args.self.now c.args.tenant ++ Some m ∷ [])) (other_body c.self.inside.copies.slots asked.0 message own (sym (message_in c.self.inside.copies.slots c.self.inside.channels.items c.args.self.now c.args.tenant c.args.number (Some asked.0) c.self.view_is asked.1) ∙ is)
    ∙ ap (λ bytes. record message { body = body.Copy (record { tag = c.args.tag; bytes = bytes }) }) c.in_ok-bytes.ensures)
