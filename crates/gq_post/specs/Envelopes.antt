-- Envelopes: how a message lies in its tenant's channel, its copy apart.
use Rattle.std.specs.Prelude.{ℕ, List, [], Bool, true, false, Option, Some, None, cond, slice_get, slice_index_or}
use Rattle.gq_tag.specs.declared.StoredCopy.{StoredCopy}
use Rattle.gq_tag.specs.declared.Body.{Body}
use Rattle.gq_tag.specs.declared.Body.TheVariants as body
use Rattle.gq_tag.specs.declared.Message.{Message}
use Rattle.gq_post.specs.declared.envelopes.Envelope.{Envelope}
use Rattle.gq_post.specs.declared.envelopes.Says.{Says}
use Rattle.gq_post.specs.declared.envelopes.Says.TheVariants.{Lost, Ask, Copy, Store, Stored}

-- what a body says without its copy, and the copy
abbrev pub says_of : Body → Says
says_of body.Ask = Ask
says_of (body.Copy copy) = Copy
says_of (body.Store copy) = Store
says_of body.Stored = Stored

abbrev pub body_copy : Body → Option StoredCopy
body_copy body.Ask = None
body_copy (body.Copy copy) = Some copy
body_copy (body.Store copy) = Some copy
body_copy body.Stored = None

-- what an envelope says with this copy; nothing where it is lost, or names a copy that is not there
abbrev pub said_body : Says → Option StoredCopy → Option Body
said_body Lost copy = None
said_body Ask copy = Some body.Ask
said_body Copy None = None
said_body Copy (Some copy) = Some (body.Copy copy)
said_body Store None = None
said_body Store (Some copy) = Some (body.Store copy)
said_body Stored copy = Some body.Stored

abbrev pub says_lost : Says → Bool
says_lost Lost = true
says_lost Ask = false
says_lost Copy = false
says_lost Store = false
says_lost Stored = false

-- whether an envelope that says this names the place of a copy
abbrev pub names_copy : Says → Bool
names_copy Lost = false
names_copy Ask = false
names_copy Copy = true
names_copy Store = true
names_copy Stored = false

-- the message that an envelope is with this body
abbrev pub with_body : Envelope → Body → Message
with_body envelope body =
    record { tenant = envelope.tenant; session = envelope.session; op = envelope.op; round = envelope.round; server = envelope.server; file = record { tenant = envelope.file_tenant; volume = envelope.volume; file = envelope.file }; body = body }

-- the message's envelope, its copy at the place
abbrev pub envelope_of : Message → ℕ → Envelope
envelope_of m place =
    record { op = m.op; round = m.round; volume = m.file.volume; file = m.file.file; place = place; tenant = m.tenant; file_tenant = m.file.tenant; session = m.session; server = m.server; says = says_of m.body }

-- the same envelope to another server; the envelope lost
abbrev pub to_other : Envelope → ℕ → Envelope
to_other envelope server = record envelope { server = server }

abbrev pub lost : Envelope → Envelope
lost envelope = record envelope { says = Lost }

-- an answer to an envelope, its copy at the place
abbrev pub answering : Envelope → Says → ℕ → Envelope
answering envelope says place = record envelope { place = place; says = says }

-- the envelopes of the tenant at place t
abbrev pub envelopes_at : List (List Envelope) → ℕ → List Envelope
envelopes_at channels t = slice_index_or channels t []

-- envelope n of a channel, none where it was never sent or is lost
abbrev pub unless_lost : Option Envelope → Option Envelope
unless_lost None = None
unless_lost (Some envelope) = cond (says_lost envelope.says) None (Some envelope)

abbrev pub envelope_at : List Envelope → ℕ → Option Envelope
envelope_at envelopes n = unless_lost (slice_get envelopes n)
