-- The post keeps its number of tenants.
use Rattle.std.proofs.Common.{◌≡◌, ℕ, List, Option, None, Some, Result, Ok, Err, length, refl}
use Rattle.std.specs.Prelude.{IsSome, OnOk, OnErr, slice_set}
use Rattle.std.proofs.lemmas.List.{length-set}
use Rattle.gq_tag.specs.declared.Message.{Message}
use Rattle.gq_post.specs.Channels.{Channel, channel_at, message_at}
use Rattle.gq_world.proofs.replies.answer.Goals as goal

keeps : {T E : Type 0} (result : Result T E) (old new : List Channel) (t : ℕ) (channel : Message → Channel) (found : Option Message) → IsSome found →
    OnOk result ((message : Message) → found ≡ Some message → new ≡ slice_set old t (channel message)) → OnErr result (new ≡ old) → length new ≡ length old
keeps (Ok value) old new t channel None there sent same = absurd (cc)
keeps (Ok value) old new t channel (Some message) there sent same = rw (sent message refl) (length-set old t (channel message))
keeps (Err error) old new t channel found there sent same = rw same refl

pub returns-after-eq-clause-tenants : goal.returns-after-eq-clause-tenants
returns-after-eq-clause-tenants c =
    keeps c.reply_stored.result c.args.post.now c.reply_stored.new.self c.args.tenant _ (message_at (channel_at c.args.post.now c.args.tenant) c.args.number) c.requires.message c.reply_stored.ensures.sent c.reply_stored.ensures.same

pub returns-in_ok-sent-in-Copy-clause-tenants : goal.returns-in_ok-sent-in-Copy-clause-tenants
returns-in_ok-sent-in-Copy-clause-tenants c =
    keeps c.reply_copy.result c.args.post.now c.reply_copy.new.self c.args.tenant _ (message_at (channel_at c.args.post.now c.args.tenant) c.args.number) c.requires.message c.reply_copy.ensures.sent c.reply_copy.ensures.same
