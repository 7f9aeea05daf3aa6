-- A message is sent.
use Rattle.std.proofs.Common.{◌≡◌, ◌∙◌, ◌<◌, ◌∷◌, [], length, refl, ap, sym}
use Rattle.slab.specs.Slab.{Slab}
use Rattle.gq_post.specs.declared.copies.SharedCopy.{SharedCopy}
use Rattle.gq_post.specs.Envelopes.{body_copy, envelope_of}
use Rattle.gq_post.proofs.Reading.{within_channels}
use Rattle.gq_post.proofs.Sending.{Keeps, sent_counted, sent_view}
use Rattle.gq_post.proofs.post.Post.send.Goals as goal

pub invariant_of-self-2 : goal.invariant_of-self-2
invariant_of-self-2 c =
    let within : c.args.tenant < length c.self.inside.channels.items = within_channels c.self.inside.copies.slots c.self.inside.channels.items c.args.self.now c.args.tenant c.self.view_is c.requires in
    let key : c.in-Ok.place ≡ c.make_place.new.self.vacant_key = c.in-Ok.ensures.place ∙ sym (ap (λ (s : Slab SharedCopy). s.vacant_key) c.make_place.ensures.rest_kept) in
    let room : c.make_place.new.self.slots ≡ c.self.inside.copies.slots = ap (λ (s : Slab SharedCopy). s.slots) c.make_place.ensures.rest_kept in
    let keeps : Keeps c.make_place.new.self c.keep.new.copies c.make_place.new.self.vacant_key (body_copy c.args.message.body) 1 =
    record { none = c.keep.ensures.none; nobody = c.keep.ensures.nobody; vacant = c.keep.ensures.vacant; kept = c.keep.ensures.kept } in
    rw (c.in-Ok-push.ensures.ok, c.of-envelope.ensures, key)
    (sent_counted c.self.inside.copies c.make_place.new.self c.keep.new.copies c.self.inside.channels.items c.args.tenant (envelope_of c.args.message c.make_place.new.self.vacant_key) c.args.message.body (c.args.message.server ∷ []) within room refl keeps c.self.invariant)

pub returns-clause-sent : goal.returns-clause-sent
returns-clause-sent c =
    let within : c.args.tenant < length c.self.inside.channels.items = within_channels c.self.inside.copies.slots c.self.inside.channels.items c.args.self.now c.args.tenant c.self.view_is c.requires in
    let key : c.in-Ok.place ≡ c.make_place.new.self.vacant_key = c.in-Ok.ensures.place ∙ sym (ap (λ (s : Slab SharedCopy). s.vacant_key) c.make_place.ensures.rest_kept) in
    let room : c.make_place.new.self.slots ≡ c.self.inside.copies.slots = ap (λ (s : Slab SharedCopy). s.slots) c.make_place.ensures.rest_kept in
    let keeps : Keeps c.make_place.new.self c.keep.new.copies c.make_place.new.self.vacant_key (body_copy c.args.message.body) 1 =
    record { none = c.keep.ensures.none; nobody = c.keep.ensures.nobody; vacant = c.keep.ensures.vacant; kept = c.keep.ensures.kept } in
    rw (c.in-Ok-push.ensures.ok, c.of-envelope.ensures, key)
    (sent_view c.self.inside.copies c.make_place.new.self c.keep.new.copies c.self.inside.channels.items c.args.tenant (envelope_of c.args.message c.make_place.new.self.vacant_key) c.args.message.body (c.args.message.server ∷ []) within room refl keeps c.self.invariant
    c.args.self.now c.self.view_is)
