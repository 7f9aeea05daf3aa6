-- The channel loses what the model loses.
use Rattle.std.proofs.Common.{◌≡◌, ◌∙◌, ℕ, ◌<◌, length, ap, sym, subst, is_some}
use Rattle.std.specs.Prelude.{List}
use Rattle.gq_model.specs.declared.events.Line.TheVariants.{Lose}
use Rattle.gq_post.specs.Channels.{Channel, channel_at, message_at}
use Rattle.gq_world.specs.Tables.{Tables, IsShaped}
use Rattle.gq_world.specs.Machine.{Acts}
use Rattle.gq_world.proofs.Losing.{lost, lose_acts}
use Rattle.gq_world.proofs.tables.Core.lose.Goals as goal

pub returns-clause-acts : goal.returns-clause-acts
returns-clause-acts c =
    let w : Tables = c.args.self.now in
    let t : ℕ = c.args.tenant in
    let n : ℕ = c.args.number in
    let shaped : IsShaped w = subst IsShaped c.self.view_is c.self.invariant.1 in
    let within : t < length w.channels = rw shaped.channels c.requires in
    let channels : c.self.inside.post ≡ w.channels = ap (λ (x : Tables). x.channels) c.self.view_is in
    let was : c.lose.result ≡ is_some (message_at (channel_at w.channels t) n) =
    c.lose.ensures.was ∙ ap (λ k. is_some (message_at (channel_at c.self.inside.post t) k)) c.from.ensures ∙ ap (λ (all : List Channel). is_some (message_at (channel_at all t) n)) channels in
    let new : c.lose.new.self ≡ lost w.channels t n = c.lose.ensures.lost ∙ ap (λ k. lost c.self.inside.post t k) c.from.ensures ∙ ap (λ all. lost all t n) channels in
    subst (λ x. Acts w t (Lose n) x) (sym (ap (λ (x : Tables). record x { channels = c.lose.new.self }) c.self.view_is))
    (lose_acts w t n c.lose.result c.lose.new.self within was new (λ none. c.lose.ensures.none none ∙ channels))
