-- Copies: which messages envelopes are with the copies of one slab, and how many envelopes use each copy.
use Rattle.std.specs.Prelude.{◌≡◌, ℕ, ◌-◌, ◌<◌, List, Bool, ◌&&◌, ◌==◌, nat_lt, cond, Option, Some, None, map, option_map, slice_index_or}
use Rattle.std.specs.List.{sum_by, count_by}
use Rattle.gq_tag.specs.declared.StoredCopy.{StoredCopy}
use Rattle.gq_tag.specs.declared.Message.{Message}
use Rattle.gq_post.specs.declared.copies.SharedCopy.{SharedCopy}
use Rattle.gq_post.specs.declared.envelopes.Envelope.{Envelope}
use Rattle.gq_post.specs.Channels.{Channel}
use Rattle.gq_post.specs.Envelopes.{said_body, names_copy, with_body}

-- the slots of a slab: a copy with the number of its users, or nothing
abbrev pub Slots : Type 0
Slots = List (Option SharedCopy)

abbrev pub slot_at : Slots → ℕ → Option SharedCopy
slot_at slots place = slice_index_or slots place None

abbrev pub copy_of : Option SharedCopy → Option StoredCopy
copy_of slot = option_map (λ shared. shared.copy) slot

abbrev pub slot_copy : Slots → ℕ → Option StoredCopy
slot_copy slots place = copy_of (slot_at slots place)

-- ---- messages

-- the message that the envelope is, and the channel that the envelopes are
abbrev pub envelope_message : Slots → Envelope → Option Message
envelope_message slots envelope = option_map (with_body envelope) (said_body envelope.says (slot_copy slots envelope.place))

abbrev pub channel_of : Slots → List Envelope → Channel
channel_of slots envelopes = map (envelope_message slots) envelopes

-- ---- users

-- whether the envelope names the place; how many envelopes of a channel do, and of all channels
abbrev pub names : ℕ → Envelope → Bool
names place envelope = names_copy envelope.says && envelope.place == place

abbrev pub uses : ℕ → List Envelope → ℕ
uses place envelopes = count_by (names place) envelopes

abbrev pub uses_in : ℕ → List (List Envelope) → ℕ
uses_in place channels = sum_by (uses place) channels

-- the slot has as many users as that, and something only where it has a user
abbrev pub IsUsed : Option SharedCopy → ℕ → Type 0
IsUsed None uses = uses ≡ 0
IsUsed (Some shared) uses = (shared.users ≡ uses) × (0 < uses)

-- each copy has as many users as envelopes name its place. So each place that an envelope names has a copy, and each copy
-- is named by an envelope
abbrev pub Counted : Slots → List (List Envelope) → Type 0
Counted slots channels = (place : ℕ) → IsUsed (slot_at slots place) (uses_in place channels)

-- ---- a slot that changes

-- the slot with so many users
abbrev pub with_users : ℕ → Option SharedCopy → Option SharedCopy
with_users users None = None
with_users users (Some shared) = Some (record shared { users = users })

-- the slot with one user less; nothing after the last
abbrev pub one_less : Option SharedCopy → Option SharedCopy
one_less None = None
one_less (Some shared) = cond (nat_lt 1 shared.users) (Some (record shared { users = shared.users - 1 })) None
