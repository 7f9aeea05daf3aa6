-- A message is lost, or there is none to lose.
use Rattle.std.proofs.Common.{◌≡◌, ◌∙◌, ◌<◌, true, false, Some, None, is_some, length, map, ap, sym}
use Rattle.gq_post.specs.Envelopes.{names_copy}
use Rattle.gq_post.specs.Copies.{channel_of}
use Rattle.gq_post.proofs.Reading.{within_channels, message_in}
use Rattle.gq_post.proofs.Sending.{lost_counted, lost_view, lost_unnamed_counted, lost_unnamed_view, message_is, nothing_view}
use Rattle.gq_post.proofs.post.Post.lose.Goals as goal

pub returns-in_default-clause-was : goal.returns-in_default-clause-was
returns-in_default-clause-was c = sym (ap is_some (message_in c.self.inside.copies.slots c.self.inside.channels.items c.args.self.now c.args.tenant c.args.number None c.self.view_is (sym c.in_default.ensures.envelope)))

pub returns-in_default-clause-lost : goal.returns-in_default-clause-lost
returns-in_default-clause-lost c =
    ap (map (channel_of c.self.inside.copies.slots)) c.in_default.ensures.none ∙ c.self.view_is
    ∙ nothing_view c.args.self.now c.args.tenant c.args.number (message_in c.self.inside.copies.slots c.self.inside.channels.items c.args.self.now c.args.tenant c.args.number None c.self.view_is (sym c.in_default.ensures.envelope))

pub invariant_of-self-then-names_copy : goal.invariant_of-self-then-names_copy
invariant_of-self-then-names_copy c =
    let within : c.args.tenant < length c.self.inside.channels.items = within_channels c.self.inside.copies.slots c.self.inside.channels.items c.args.self.now c.args.tenant c.self.view_is c.requires in
    let named : names_copy c.in-Some.envelope.says ≡ true = sym c.names_copy.ensures ∙ c.if-names_copy.true in
    rw c.in-Some.ensures.some
    (lost_counted c.self.inside.copies c.remove_user.new.copies c.self.inside.channels.items c.args.tenant c.args.number c.in-Some.envelope within (sym c.in-Some.ensures.envelope) c.self.invariant named c.remove_user.ensures)

pub invariant_of-self-else-names_copy : goal.invariant_of-self-else-names_copy
invariant_of-self-else-names_copy c =
    let within : c.args.tenant < length c.self.inside.channels.items = within_channels c.self.inside.copies.slots c.self.inside.channels.items c.args.self.now c.args.tenant c.self.view_is c.requires in
    let unnamed : names_copy c.in-Some.envelope.says ≡ false = sym c.names_copy.ensures ∙ c.if-names_copy.false in
    rw c.in-Some.ensures.some
    (lost_unnamed_counted c.self.inside.copies c.self.inside.copies c.self.inside.channels.items c.args.tenant c.args.number c.in-Some.envelope within (sym c.in-Some.ensures.envelope) c.self.invariant unnamed)

pub returns-then-names_copy-clause-was : goal.returns-then-names_copy-clause-was
returns-then-names_copy-clause-was c =
    let within : c.args.tenant < length c.self.inside.channels.items = within_channels c.self.inside.copies.slots c.self.inside.channels.items c.args.self.now c.args.tenant c.self.view_is c.requires in
    sym (
    ap is_some (message_in c.self.inside.copies.slots c.self.inside.channels.items c.args.self.now c.args.tenant c.args.number (Some c.in-Some.envelope) c.self.view_is (sym c.in-Some.ensures.envelope))
    ∙ message_is c.self.inside.copies.slots c.self.inside.channels.items c.args.tenant c.args.number c.in-Some.envelope within (sym c.in-Some.ensures.envelope) c.self.invariant
    )

pub returns-else-names_copy-clause-was : goal.returns-else-names_copy-clause-was
returns-else-names_copy-clause-was c =
    let within : c.args.tenant < length c.self.inside.channels.items = within_channels c.self.inside.copies.slots c.self.inside.channels.items c.args.self.now c.args.tenant c.self.view_is c.requires in
    sym (
    ap is_some (message_in c.self.inside.copies.slots c.self.inside.channels.items c.args.self.now c.args.tenant c.args.number (Some c.in-Some.envelope) c.self.view_is (sym c.in-Some.ensures.envelope))
    ∙ message_is c.self.inside.copies.slots c.self.inside.channels.items c.args.tenant c.args.number c.in-Some.envelope within (sym c.in-Some.ensures.envelope) c.self.invariant
    )

pub returns-then-names_copy-clause-lost : goal.returns-then-names_copy-clause-lost
returns-then-names_copy-clause-lost c =
    let within : c.args.tenant < length c.self.inside.channels.items = within_channels c.self.inside.copies.slots c.self.inside.channels.items c.args.self.now c.args.tenant c.self.view_is c.requires in
    let named : names_copy c.in-Some.envelope.says ≡ true = sym c.names_copy.ensures ∙ c.if-names_copy.true in
    ap (map (channel_of c.remove_user.new.copies.slots)) c.in-Some.ensures.some
    ∙ lost_view c.self.inside.copies c.remove_user.new.copies c.self.inside.channels.items c.args.tenant c.args.number c.in-Some.envelope within (sym c.in-Some.ensures.envelope) c.self.invariant named c.remove_user.ensures
    c.args.self.now c.self.view_is

pub returns-else-names_copy-clause-lost : goal.returns-else-names_copy-clause-lost
returns-else-names_copy-clause-lost c =
    let within : c.args.tenant < length c.self.inside.channels.items = within_channels c.self.inside.copies.slots c.self.inside.channels.items c.args.self.now c.args.tenant c.self.view_is c.requires in
    ap (map (channel_of c.self.inside.copies.slots)) c.in-Some.ensures.some
    ∙ lost_unnamed_view c.self.inside.copies c.self.inside.copies c.self.inside.channels.items c.args.tenant c.args.number c.in-Some.envelope within (sym c.in-Some.ensures.envelope) c.self.invariant c.args.self.now c.self.view_is
