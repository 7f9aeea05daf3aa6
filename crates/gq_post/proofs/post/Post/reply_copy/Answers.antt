-- The answer with a copy: one that is there already is shared.
use Rattle.std.proofs.Common.{◌≡◌, ◌∙◌, ◌<◌, ◌+◌, ◌++◌, ◌∷◌, [], Some, length, map, set, refl, ap, sym, subst}
use Rattle.std.specs.Prelude.{IsSome}
use Rattle.gq_tag.specs.declared.Body.TheVariants as body
use Rattle.slab.specs.Slab.{get, Updates}
use Rattle.gq_post.specs.declared.envelopes.Says.TheVariants.{Copy}
use Rattle.gq_post.specs.Channels.{channel_at}
use Rattle.gq_post.specs.Envelopes.{with_body, answering}
use Rattle.gq_post.specs.Copies.{channel_of}
use Rattle.gq_post.proofs.Reading.{within_channels, envelope_of_message, message_in}
use Rattle.gq_post.proofs.Sending.{some_there, holds_there, shared_counted, shared_view, other_body}
use Rattle.gq_post.proofs.post.Post.reply_copy.Goals as goal

pub push_answer-requires-clause-there : goal.push_answer-requires-clause-there
push_answer-requires-clause-there c =
    let asked = envelope_of_message c.self.inside.copies.slots c.self.inside.channels.items c.args.self.now c.args.tenant c.args.number c.self.view_is c.requires.there in
    subst IsSome (sym asked.1) refl

pub invariant_of-self-then-can_share : goal.invariant_of-self-then-can_share
invariant_of-self-then-can_share c =
    let within : c.args.tenant < length c.self.inside.channels.items = within_channels c.self.inside.copies.slots c.self.inside.channels.items c.args.self.now c.args.tenant c.self.view_is c.requires.tenant in
    let asked = envelope_of_message c.self.inside.copies.slots c.self.inside.channels.items c.args.self.now c.args.tenant c.args.number c.self.view_is c.requires.there in
    let shared = some_there (λ shared. (shared.copy ≡ record { tag = c.args.tag; bytes = c.args.bytes.now }) × (shared.users < 18446744073709551615)) (get c.self.inside.copies c.args.hint) (c.can_share.ensures.0 c.if-can_share.true) in
    let updates = holds_there (λ shared. Updates c.self.inside.copies c.add_user.new.copies c.args.hint (Some (record shared { users = shared.users + 1 }))) (get c.self.inside.copies c.args.hint) shared.0 shared.1 c.add_user.ensures in
    rw (c.in_ok-number.ensures.ok asked.0 asked.1)
    (shared_counted c.self.inside.copies c.add_user.new.copies c.self.inside.channels.items c.args.tenant (answering asked.0 Copy c.args.hint) shared.0 within refl shared.1 updates c.self.invariant)

pub returns-then-can_share-clause-sent : goal.returns-then-can_share-clause-sent
returns-then-can_share-clause-sent c = λ message is.
    let within : c.args.tenant < length c.self.inside.channels.items = within_channels c.self.inside.copies.slots c.self.inside.channels.items c.args.self.now c.args.tenant c.self.view_is c.requires.tenant in
    let asked = envelope_of_message c.self.inside.copies.slots c.self.inside.channels.items c.args.self.now c.args.tenant c.args.number c.self.view_is c.requires.there in
    let shared = some_there (λ shared. (shared.copy ≡ record { tag = c.args.tag; bytes = c.args.bytes.now }) × (shared.users < 18446744073709551615)) (get c.self.inside.copies c.args.hint) (c.can_share.ensures.0 c.if-can_share.true) in
    let updates = holds_there (λ shared. Updates c.self.inside.copies c.add_user.new.copies c.args.hint (Some (record shared { users = shared.users + 1 }))) (get c.self.inside.copies c.args.hint) shared.0 shared.1 c.add_user.ensures in
    ap (map (channel_of c.add_user.new.copies.slots)) (c.in_ok-number.ensures.ok asked.0 asked.1)
    ∙ shared_view c.self.inside.copies c.add_user.new.copies c.self.inside.channels.items c.args.tenant (answering asked.0 Copy c.args.hint) shared.0 within refl shared.1 updates c.self.invariant
    c.args.self.now c.self.view_is
    ∙ ap (λ m. set c.args.self.now c.args.tenant (channel_at c.args.self.now c.args.tenant ++ Some m ∷ []))
    (ap (λ copy. with_body asked.0 (body.Copy copy)) shared.2.0 ∙ other_body c.self.inside.copies.slots asked.0 message (body.Copy (record { tag = c.args.tag; bytes = c.args.bytes.now })) (sym (message_in c.self.inside.copies.slots c.self.inside.channels.items c.args.self.now c.args.tenant c.args.number (Some asked.0) c.self.view_is asked.1) ∙ is))
