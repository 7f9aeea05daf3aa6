-- What is told and sent where an operation says this to a message, over the code's types.
use Rattle.std.specs.Prelude.{ℕ, ◌++◌, List, Some, map, slice_set, length}
use Rattle.gq_tag.specs.declared.Message.{Message}
use Rattle.gq_phase.specs.declared.Heard.{Heard}
use Rattle.gq_phase.specs.declared.Heard.TheVariants.{Stale, Noted, Next, Done}
use Rattle.gq_post.specs.Channels.{Channel, channel_at}
use Rattle.gq_model.specs.Told.{Told, Stale as IsStale, Noted as IsNoted, Round, Done as IsDone}

-- the channels with messages of the tenant sent
abbrev pub with_sent : List Channel → ℕ → List Message → List Channel
with_sent channels t messages = slice_set channels t (channel_at channels t ++ map Some messages)

-- what is told, so many messages having been sent before
abbrev pub heard_told : ℕ → Heard → Told
heard_told first Stale = IsStale
heard_told first Noted = IsNoted
heard_told first (Next round tag messages) = Round round tag first (length messages)
heard_told first (Done outcome) = IsDone outcome
