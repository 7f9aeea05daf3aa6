-- Channels of envelopes as they are read: the message of an envelope, and channels that read alike with other slots.
use Rattle.std.proofs.Common.{◌≡◌, ◌∙◌, ◌<◌, ◌+◌, ℕ, zero, suc, List, [], ◌∷◌, length, get_or, Bool, true, false, cond, Option, Some, None, refl, sym, ap, ap₂, subst, arith, map, slice_get}
use Rattle.std.specs.Prelude.{option_map, is_some, IsSome}
use Rattle.std.proofs.lemmas.List.{length-map}
use Rattle.std.proofs.lemmas.Bool.Decides.{nat_tests}
use Rattle.std.proofs.lemmas.List.Sums.{sum_by-cons}
use Rattle.std.proofs.Math.ListN.{get_or-map}
use Rattle.gq_tag.specs.declared.StoredCopy.{StoredCopy}
use Rattle.gq_tag.specs.declared.Message.{Message}
use Rattle.gq_post.specs.declared.envelopes.Envelope.{Envelope}
use Rattle.gq_post.specs.declared.envelopes.Says.{Says}
use Rattle.gq_post.specs.declared.envelopes.Says.TheVariants.{Lost, Ask, Copy, Store, Stored}
use Rattle.gq_post.specs.Channels.{Channel, channel_at, message_at}
use Rattle.gq_post.specs.Envelopes.{said_body, names_copy, says_lost, with_body, envelopes_at, unless_lost, envelope_at}
use Rattle.gq_post.specs.Copies.{Slots, slot_copy, envelope_message, channel_of, names, uses, uses_in}

-- the message that an envelope is, if there is one
abbrev pub found : Slots → Option Envelope → Option Message
found slots None = None
found slots (Some envelope) = envelope_message slots envelope

-- ---- what is read

-- the channel at place t is that of the envelopes there
pub channel_there : (slots : Slots) (channels : List (List Envelope)) (t : ℕ) → channel_at (map (channel_of slots) channels) t ≡ channel_of slots (envelopes_at channels t)
channel_there slots channels t = get_or-map (channel_of slots) channels t []

read_channel : (slots : Slots) (envelopes : List Envelope) (n : ℕ) → message_at (channel_of slots envelopes) n ≡ found slots (slice_get envelopes n)
read_channel slots [] n = refl
read_channel slots (envelope ∷ envelopes) zero = refl
read_channel slots (envelope ∷ envelopes) (suc n) = read_channel slots envelopes n

-- a lost envelope is no message
lost_or_not : (slots : Slots) (envelope : Envelope) → option_map (with_body envelope) (said_body envelope.says (slot_copy slots envelope.place)) ≡ found slots (cond (says_lost envelope.says) None (Some envelope))
lost_or_not slots envelope = by_says envelope.says refl
  where
    by_says : (says : Says) → envelope.says ≡ says → option_map (with_body envelope) (said_body envelope.says (slot_copy slots envelope.place)) ≡ found slots (cond (says_lost envelope.says) None (Some envelope))
    by_says Lost is = rw is refl
    by_says Ask is = rw is refl
    by_says Copy is = rw is refl
    by_says Store is = rw is refl
    by_says Stored is = rw is refl

found_kept : (slots : Slots) (envelope : Option Envelope) → found slots envelope ≡ found slots (unless_lost envelope)
found_kept slots None = refl
found_kept slots (Some envelope) = lost_or_not slots envelope

pub message_there : (slots : Slots) (channels : List (List Envelope)) (t n : ℕ) → message_at (channel_at (map (channel_of slots) channels) t) n ≡ found slots (envelope_at (envelopes_at channels t) n)
message_there slots channels t n = ap (λ channel. message_at channel n) (channel_there slots channels t) ∙ read_channel slots (envelopes_at channels t) n ∙ found_kept slots (slice_get (envelopes_at channels t) n)

-- the same in a view
pub message_in : (slots : Slots) (channels : List (List Envelope)) (view : List Channel) (t n : ℕ) (envelope : Option Envelope) → map (channel_of slots) channels ≡ view → envelope_at (envelopes_at channels t) n ≡ envelope →
    message_at (channel_at view t) n ≡ found slots envelope
message_in slots channels view t n envelope is at = ap (λ v. message_at (channel_at v t) n) (sym is) ∙ message_there slots channels t n ∙ ap (found slots) at

-- a message that is there is an envelope's
pub envelope_of_message : (slots : Slots) (channels : List (List Envelope)) (view : List Channel) (t n : ℕ) → map (channel_of slots) channels ≡ view → IsSome (message_at (channel_at view t) n) → (asked : Envelope) × (envelope_at (envelopes_at channels t) n ≡ Some asked)
envelope_of_message slots channels view t n is there = by_envelope (envelope_at (envelopes_at channels t) n) refl
  where
    by_envelope : (o : Option Envelope) → envelope_at (envelopes_at channels t) n ≡ o → (asked : Envelope) × (envelope_at (envelopes_at channels t) n ≡ Some asked)
    by_envelope None at = absurd (let no : is_some {T = Message} None ≡ true = subst IsSome (message_in slots channels view t n None is at) there in cc)
    by_envelope (Some asked) at = (asked, at)

-- the view has as many channels as there are lists of envelopes
pub within_channels : (slots : Slots) (channels : List (List Envelope)) (view : List Channel) (t : ℕ) → map (channel_of slots) channels ≡ view → t < length view → t < length channels
within_channels slots channels view t is within = omega (arith, length-map channels (channel_of slots), ap length is)

pub within_view : (slots : Slots) (channels : List (List Envelope)) (view : List Channel) (t : ℕ) → map (channel_of slots) channels ≡ view → t < length channels → t < length view
within_view slots channels view t is within = omega (arith, length-map channels (channel_of slots), ap length is)

-- envelopes that are read at place t
pub envelopes_read : (channels : List (List Envelope)) (t : ℕ) (envelopes : List Envelope) → t < length channels → envelopes ≡ get_or channels t envelopes → envelopes ≡ envelopes_at channels t
envelopes_read [] t envelopes within is = absurd (omega arith)
envelopes_read (x ∷ channels) zero envelopes within is = is
envelopes_read (x ∷ channels) (suc t) envelopes within is = envelopes_read channels t envelopes (omega arith) is

pub envelope_read : (channels : List (List Envelope)) (t n : ℕ) (envelopes : List Envelope) (envelope : Option Envelope) → t < length channels → envelopes ≡ get_or channels t envelopes → envelope ≡ envelope_at envelopes n → envelope_at (envelopes_at channels t) n ≡ envelope
envelope_read channels t n envelopes envelope within is at = ap (λ l. envelope_at l n) (sym (envelopes_read channels t envelopes within is)) ∙ sym at

-- an envelope that is there, as the list has it
pub envelope_there : (envelopes : List Envelope) (n : ℕ) (envelope : Envelope) → envelope_at envelopes n ≡ Some envelope → slice_get envelopes n ≡ Some envelope
envelope_there envelopes n envelope is = there (slice_get envelopes n) refl
  where
    not_lost : (b : Bool) (x : Envelope) → cond b None (Some x) ≡ Some envelope → Some x ≡ Some envelope
    not_lost true x h = absurd (cc)
    not_lost false x h = h

    there : (o : Option Envelope) → slice_get envelopes n ≡ o → o ≡ Some envelope
    there None at = absurd (let no : unless_lost None ≡ Some envelope = sym (ap unless_lost at) ∙ is in cc)
    there (Some x) at = not_lost (says_lost x.says) x (sym (ap unless_lost at) ∙ is)

-- ---- channels that read alike

-- an envelope that names a place
said_alike : (says : Says) (a b : Option StoredCopy) → (names_copy says ≡ true → a ≡ b) → said_body says a ≡ said_body says b
said_alike Lost a b same = refl
said_alike Ask a b same = refl
said_alike Copy a b same = ap (said_body Copy) (same refl)
said_alike Store a b same = ap (said_body Store) (same refl)
said_alike Stored a b same = refl

abbrev pub once : Bool → ℕ
once named = cond named 1 0

pub uses_first : (place : ℕ) (envelope : Envelope) (envelopes : List Envelope) → uses place (envelope ∷ envelopes) ≡ once (names place envelope) + uses place envelopes
uses_first place envelope envelopes = sum_by-cons (λ l. once (names place l)) envelope envelopes

pub uses_in_first : (place : ℕ) (envelopes : List Envelope) (channels : List (List Envelope)) → uses_in place (envelopes ∷ channels) ≡ uses place envelopes + uses_in place channels
uses_in_first place envelopes channels = sum_by-cons (uses place) envelopes channels

pub names_own : (envelope : Envelope) → names_copy envelope.says ≡ true → names envelope.place envelope ≡ true
names_own envelope is = rw is (grind (arith, nat_tests))

pub alike_message : (old new : Slots) (envelope : Envelope) → (names_copy envelope.says ≡ true → slot_copy new envelope.place ≡ slot_copy old envelope.place) → envelope_message new envelope ≡ envelope_message old envelope
alike_message old new envelope same = ap (option_map (with_body envelope)) (said_alike envelope.says (slot_copy new envelope.place) (slot_copy old envelope.place) same)

pub alike_channel : (old new : Slots) (envelopes : List Envelope) → ((place : ℕ) → 0 < uses place envelopes → slot_copy new place ≡ slot_copy old place) → channel_of new envelopes ≡ channel_of old envelopes
alike_channel old new [] same = refl
alike_channel old new (envelope ∷ envelopes) same =
    ap₂ (λ m channel. m ∷ channel)
    (alike_message old new envelope (λ named. same envelope.place (let one : once (names envelope.place envelope) ≡ 1 = ap once (names_own envelope named) in omega (arith, uses_first envelope.place envelope envelopes, one))))
    (alike_channel old new envelopes (λ place used. same place (omega (arith, uses_first place envelope envelopes, used))))

pub alike_channels : (old new : Slots) (channels : List (List Envelope)) → ((place : ℕ) → 0 < uses_in place channels → slot_copy new place ≡ slot_copy old place) → map (channel_of new) channels ≡ map (channel_of old) channels
alike_channels old new [] same = refl
alike_channels old new (envelopes ∷ channels) same =
    ap₂ (λ channel rest. channel ∷ rest)
    (alike_channel old new envelopes (λ place used. same place (omega (arith, uses_in_first place envelopes channels, used))))
    (alike_channels old new channels (λ place used. same place (omega (arith, uses_in_first place envelopes channels, used))))
