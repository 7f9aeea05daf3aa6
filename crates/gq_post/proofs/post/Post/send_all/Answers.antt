-- A round is sent.
use Rattle.std.proofs.Common.{◌≡◌, ◌∙◌, ◌<◌, ◌++◌, Some, length, map, set, ap, sym}
use Rattle.slab.specs.Slab.{Slab}
use Rattle.gq_grid.specs.Grid.{rising}
use Rattle.gq_grid.specs.Sets.{servers}
use Rattle.gq_round.specs.Round.{apart, addressed}
use Rattle.gq_post.specs.declared.copies.SharedCopy.{SharedCopy}
use Rattle.gq_post.specs.Channels.{channel_at}
use Rattle.gq_post.specs.Envelopes.{body_copy, envelope_of}
use Rattle.gq_post.specs.Copies.{channel_of}
use Rattle.gq_post.proofs.Reading.{within_channels}
use Rattle.gq_post.proofs.Sending.{Keeps, sent_counted, sent_view}
use Rattle.gq_post.proofs.post.Post.send_all.Goals as goal

pub invariant_of-self-2 : goal.invariant_of-self-2
invariant_of-self-2 c =
    let within : c.args.tenant < length c.self.inside.channels.items = within_channels c.self.inside.copies.slots c.self.inside.channels.items c.args.self.now c.args.tenant c.self.view_is c.requires in
    let key : c.in_ok-place.place ≡ c.make_place.new.self.vacant_key = c.in_ok-place.ensures.place ∙ sym (ap (λ (s : Slab SharedCopy). s.vacant_key) c.make_place.ensures.rest_kept) in
    let room : c.make_place.new.self.slots ≡ c.self.inside.copies.slots = ap (λ (s : Slab SharedCopy). s.slots) c.make_place.ensures.rest_kept in
    let keeps : Keeps c.make_place.new.self c.keep.new.copies c.in_ok-place.place (body_copy c.messages.inside.message.body) (length (rising c.messages.inside.grid (apart (servers c.messages.inside.to) (servers c.messages.inside.except)))) =
    rw (key, ← c.in_ok-users.ensures.count) record { none = c.keep.ensures.none; nobody = c.keep.ensures.nobody; vacant = c.keep.ensures.vacant; kept = c.keep.ensures.kept } in
    rw c.in_ok-users.ensures.ok
    (sent_counted c.self.inside.copies c.make_place.new.self c.keep.new.copies c.self.inside.channels.items c.args.tenant (record (envelope_of (addressed c.messages.inside.message 0) c.in_ok-place.place) { says = c.of.result }) c.messages.inside.message.body (rising c.messages.inside.grid (apart (servers c.messages.inside.to) (servers c.messages.inside.except))) within room c.of.ensures keeps c.self.invariant)

pub returns-clause-sent : goal.returns-clause-sent
returns-clause-sent c =
    let within : c.args.tenant < length c.self.inside.channels.items = within_channels c.self.inside.copies.slots c.self.inside.channels.items c.args.self.now c.args.tenant c.self.view_is c.requires in
    let key : c.in_ok-place.place ≡ c.make_place.new.self.vacant_key = c.in_ok-place.ensures.place ∙ sym (ap (λ (s : Slab SharedCopy). s.vacant_key) c.make_place.ensures.rest_kept) in
    let room : c.make_place.new.self.slots ≡ c.self.inside.copies.slots = ap (λ (s : Slab SharedCopy). s.slots) c.make_place.ensures.rest_kept in
    let keeps : Keeps c.make_place.new.self c.keep.new.copies c.in_ok-place.place (body_copy c.messages.inside.message.body) (length (rising c.messages.inside.grid (apart (servers c.messages.inside.to) (servers c.messages.inside.except)))) =
    rw (key, ← c.in_ok-users.ensures.count) record { none = c.keep.ensures.none; nobody = c.keep.ensures.nobody; vacant = c.keep.ensures.vacant; kept = c.keep.ensures.kept } in
    ap (map (channel_of c.keep.new.copies.slots)) c.in_ok-users.ensures.ok
    ∙ sent_view c.self.inside.copies c.make_place.new.self c.keep.new.copies c.self.inside.channels.items c.args.tenant (record (envelope_of (addressed c.messages.inside.message 0) c.in_ok-place.place) { says = c.of.result }) c.messages.inside.message.body (rising c.messages.inside.grid (apart (servers c.messages.inside.to) (servers c.messages.inside.except))) within room c.of.ensures keeps c.self.invariant
    c.args.self.now c.self.view_is
    ∙ ap (λ messages. set c.args.self.now c.args.tenant (channel_at c.args.self.now c.args.tenant ++ map Some messages)) c.messages.view_is
