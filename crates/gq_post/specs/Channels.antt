-- Channels: what a contract sees of the post.
use Rattle.std.specs.Prelude.{ℕ, List, [], Option, None, slice_index_or}
use Rattle.gq_tag.specs.declared.Message.{Message}

-- the messages of a tenant in order of sending, none where one is lost
abbrev pub Channel : Type 0
Channel = List (Option Message)

-- the channel of the tenant at place t
abbrev pub channel_at : List Channel → ℕ → Channel
channel_at channels t = slice_index_or channels t []

-- message n of a channel, none where it was never sent or is lost
abbrev pub message_at : Channel → ℕ → Option Message
message_at channel n = slice_index_or channel n None
