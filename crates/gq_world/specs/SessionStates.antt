-- What a message does in the session that it comes to, whatever is known of the session.
use Rattle.std.specs.Prelude.{◌≡◌, ℕ, ◌<◌, ◌&&◌, ◌||◌, ◌==◌, Bool, List, false, Option, Some, None, is_some, if◌then◌else◌}
use Rattle.gq_grid.specs.Grid.{Grid, Servers}
use Rattle.gq_tag.specs.declared.Message.{Message}
use Rattle.gq_tag.specs.Tag.{OwnMessage, own_message}
use Rattle.gq_grid.specs.Sets.{no_set, servers}
use Rattle.gq_grid.specs.declared.ServerSet.{ServerSet}
use Rattle.gq_phase.specs.declared.Heard.{Heard}
use Rattle.gq_phase.specs.declared.Heard.TheVariants.{Stale, Noted, Next, Done}
use Rattle.gq_phase.specs.declared.ResendRefused.{ResendRefused}
use Rattle.gq_phase.specs.declared.operation.Operation.{Operation as Code}
use Rattle.gq_phase.specs.Phase.{Operation, Heard as Saying, HeardStale, HeardNoted, HeardNext, HeardDone, hear, with_reply, moved}
use Rattle.gq_phase.specs.Standing.{heard_as, floor_of, IsGoing, ResendsAs, RefusesAs, is_current_as}
use Rattle.gq_world.specs.declared.sessions.SessionState.{SessionState}
use Rattle.gq_world.specs.Tables.{Sits}
use Rattle.gq_world.specs.Asking.{rested_session_state}

-- what a session with this operation, or with none, says to the message
abbrev pub said_by : Grid → Servers → Option Operation → OwnMessage → Saying
said_by grid up None message = HeardStale
said_by grid up (Some o) message = hear grid up o message

-- the operation that it then has
abbrev pub operation_after : Option Operation → OwnMessage → Saying → Option Operation
operation_after None message saying = None
operation_after (Some o) message HeardStale = Some o
operation_after (Some o) message HeardNoted = Some (with_reply o message)
operation_after (Some o) message (HeardNext round tag messages) = Some (moved o message round tag)
operation_after (Some o) message (HeardDone outcome) = None

-- the session's own last number, once it has none
abbrev pub last_of : ℕ → Option Operation → ℕ
last_of last None = last
last_of last (Some o) = o.floor

-- the servers that sent replies of the operation and round: none once another round begins
abbrev pub answered_after : Heard → ServerSet → ServerSet
answered_after (Next round tag messages) answered = no_set
answered_after Stale answered = answered
answered_after Noted answered = answered
answered_after (Done outcome) answered = answered

-- whatever operation the session state stands for, this is what it says, and the session state stands for it afterwards
pub record SessionStateHears (old new : SessionState) (up : Servers) (message : Message) (heard : Heard) : Type 0 where
  pub op : new.op ≡ old.op
  pub answered : new.answered ≡ answered_after heard old.answered
  pub says : (grid : Grid) (t last : ℕ) (o : Option Operation) → Sits grid t old.floor old.operation last o → heard ≡ heard_as t (said_by grid up o (own_message message))
  pub sits : (grid : Grid) (t last : ℕ) (o : Option Operation) → Sits grid t old.floor old.operation last o →
      Sits grid t new.floor new.operation (last_of last o) (operation_after o (own_message message) (said_by grid up o (own_message message)))

-- the session has an operation, which is not done
abbrev pub IsAtWork : Option Code → Type 0
IsAtWork None = ⊥
IsAtWork (Some code) = IsGoing code

-- whatever operation the session state stands for, there is a quorum for its round, and these messages go out to it
abbrev pub SessionStateResends : SessionState → Servers → List Message → Type 0
SessionStateResends session_state up messages = by session_state.operation
  where
    by : Option Code → Type 0
    by None = ⊥
    by (Some code) = ResendsAs code up messages

-- whatever operation the session state stands for, this is why its message is not sent once more
abbrev pub SessionStateRefuses : SessionState → Servers → ResendRefused → Type 0
SessionStateRefuses session_state up fault = by session_state.operation
  where
    by : Option Code → Type 0
    by None = ⊥
    by (Some code) = RefusesAs code up fault

-- the number of a session's operation leaves a greater one
abbrev pub FloorIsBelow : Option Code → Type 0
FloorIsBelow None = Unit {0}
FloorIsBelow (Some code) = floor_of code < 18446744073709551615

-- the message is of the round of the session's operation
abbrev pub is_of : Option Code → Message → Bool
is_of None message = false
is_of (Some code) message = is_current_as code message

-- a server sends a reply to the message: it is one that sent replies, where the message is of the operation's round
pub record SessionStateAnswers (old new : SessionState) (message : Message) : Type 0 where
  pub op : new.op ≡ old.op
  pub floor : new.floor ≡ old.floor
  pub operation : new.operation ≡ old.operation
  pub answered : (server : ℕ) → servers new.answered server ≡ (servers old.answered server || (is_of old.operation message && message.server == server))

-- the session's operation counts on the server
abbrev pub session_state_counts_on : SessionState → ℕ → Bool
session_state_counts_on session_state server = is_some session_state.operation && servers session_state.answered server

-- it is given up where it does, for the server is lost
abbrev pub left_session_state : ℕ → SessionState → SessionState
left_session_state server session_state = if session_state_counts_on session_state server then rested_session_state session_state else session_state
