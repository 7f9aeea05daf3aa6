-- What a letter and a tick do in a session, whatever is known of it.
use Rattle.std.specs.Prelude.{◌≡◌, ℕ, ◌+◌, ◌<◌, ◌&&◌, ◌==◌, if◌then◌else◌, List, [], Bool, true, false, Option, Some, None, unwrap_or}
use Rattle.gq_grid.specs.Grid.{Grid, Servers}
use Rattle.gq_grid.specs.Sets.{servers}
use Rattle.gq_phase.specs.Best.{givers_with}
use Rattle.gq_tag.specs.declared.Message.{Message}
use Rattle.gq_tag.specs.Tag.{File, file_place, is_file, OwnMessage, own_message}
use Rattle.gq_phase.specs.declared.Heard.{Heard}
use Rattle.gq_phase.specs.declared.ResendRefused.TheVariants.{NoQuorum}
use Rattle.gq_phase.specs.declared.operation.Operation.{Operation as Code}
use Rattle.gq_phase.specs.Phase.{Operation, Heard as Saying, HeardStale, HeardNoted, HeardNext, HeardDone, hear, with_reply, moved}
use Rattle.gq_phase.specs.Standing.{heard_as, floor_of, heard_of, is_collecting, its_file, IsGoing, ResendsAs, RefusesAs, DifferInContent, is_current_as, last_number, reads}
use Rattle.gq_node.specs.declared.session_states.SessionState.{SessionState}
use Rattle.gq_node.specs.Sites.{aim, next_of}
use Rattle.gq_node.specs.Tables.{Sits}
use Rattle.gq_node.specs.declared.output.Output.{Output}
use Rattle.gq_node.specs.Local.{has_above}
use Rattle.gq_node.specs.Columns.{column_among, rounds_stayed}
use Rattle.gq_node.specs.Heard.{new_run, heard_run, heard_outcome, heard_waits, heard_stays, HeardGives}
use Rattle.gq_cluster.specs.Facts.{greatest_op}

-- the session's own last number
abbrev pub last_in : SessionState → ℕ
last_in session_state = last_number session_state.floor session_state.operation

-- the session state with one operation more
abbrev pub busy_session_state : SessionState → Code → SessionState
busy_session_state session_state code = record session_state { op = session_state.op + 1; reserved_op = unwrap_or (new_run greatest_op (session_state.op + 1) session_state.reserved_op) session_state.reserved_op; operation = Some code; outcome = None; waited = false }

-- the session state without its operation, whose last number it keeps
abbrev pub rested_session_state : SessionState → SessionState
rested_session_state session_state = record session_state { floor = last_in session_state; operation = None; outcome = None }

-- a session state of a start, for which these numbers are reserved
abbrev pub recalled_session_state : SessionState → ℕ → ℕ → SessionState
recalled_session_state session_state op floor = record session_state { op = op; floor = floor; reserved_op = op; reserved_floor = floor; operation = None; outcome = None; waited = false; stays = 0 }

-- whom the session state asks
abbrev pub session_state_aim : Grid → SessionState → Servers
session_state_aim grid session_state = aim grid session_state.row session_state.column

-- whether others are asked to confirm the copy that its operation stores
abbrev pub confirms_by : (stays : ℕ) → Option Code → Bool
confirms_by stays None = false
confirms_by stays (Some code) = reads code.task && stays == 0

abbrev pub confirms_in : SessionState → Bool
confirms_in session_state = confirms_by session_state.stays session_state.operation

-- the servers that told the greatest copy, with what the message says where it is of the round
abbrev pub givers_behind : Code → Message → Servers
givers_behind code m = if is_current_as code m then givers_with code.best (servers code.givers) m.server m.body else servers code.givers

-- the column that it stores in behind the message, and whom it asks, and sends to, then
abbrev pub column_by : Grid → (stays column : ℕ) → Option Code → Message → ℕ
column_by grid stays column None m = column
column_by grid stays column (Some code) m = if reads code.task && stays == 0 then column_among grid (givers_behind code m) column else column

abbrev pub session_state_column : Grid → SessionState → Message → ℕ
session_state_column grid session_state m = column_by grid session_state.stays session_state.column session_state.operation m

abbrev pub session_state_aim_behind : Grid → SessionState → Message → Servers
session_state_aim_behind grid session_state m = aim grid session_state.row (session_state_column grid session_state m)

-- whether the server was heard in the round of this operation
abbrev pub has_heard : Option Code → ℕ → Bool
has_heard None server = false
has_heard (Some code) server = heard_of code server

-- whether the file is that of its round
abbrev pub is_of_round : Option Code → File → Bool
is_of_round None file = true
is_of_round (Some code) file = is_file file (file_place (its_file code))

-- whether its round collects
abbrev pub collects_in : Option Code → Bool
collects_in None = true
collects_in (Some code) = is_collecting code

-- what a session with this operation, or with none, says to the message
abbrev pub said_by : Grid → Servers → Option Operation → OwnMessage → Saying
said_by grid up None message = HeardStale
said_by grid up (Some o) message = hear grid up o message

-- the operation that it then has
abbrev pub operation_after : Option Operation → OwnMessage → Saying → Option Operation
operation_after None message saying = None
operation_after (Some o) message HeardStale = Some o
operation_after (Some o) message HeardNoted = Some (with_reply o message)
operation_after (Some o) message (HeardNext round tag messages) = Some (moved o message round tag)
operation_after (Some o) message (HeardDone outcome) = None

-- the session's own last number, once it has none
abbrev pub last_of : ℕ → Option Operation → ℕ
last_of last None = last
last_of last (Some o) = o.floor

-- whatever operation the session state stands for, this is what it says, and the session state stands for it afterwards
pub record SessionStateHears (old new : SessionState) (up : Servers) (message : Message) (heard : Heard) : Type 0 where
  pub op : new.op ≡ old.op
  pub reserved_op : new.reserved_op ≡ old.reserved_op
  pub row : new.row ≡ old.row
  pub column : new.column ≡ old.column
  pub outcome : new.outcome ≡ heard_outcome heard old.outcome
  pub waited : new.waited ≡ heard_waits heard (has_heard old.operation message.server) old.waited
  pub stays : new.stays ≡ heard_stays heard old.stays
  pub says : (grid : Grid) (t last : ℕ) (o : Option Operation) → Sits grid t old.floor old.operation last o → heard ≡ heard_as t (said_by grid up o (own_message message))
  pub sits : (grid : Grid) (t last : ℕ) (o : Option Operation) → Sits grid t old.floor old.operation last o →
      Sits grid t new.floor new.operation (last_of last o) (operation_after o (own_message message) (said_by grid up o (own_message message)))

-- the session has an operation, and the two messages are of the same file and differ in the content of a copy at most, whose tag the operation takes
abbrev pub TakenIn : Option Code → Message → Message → Type 0
TakenIn None a b = ⊥
TakenIn (Some code) a b = (file_place b.file ≡ file_place a.file) × DifferInContent code a b

-- the operation of the session, if it has one, is not done
abbrev pub Goes : Option Code → Type 0
Goes None = Unit {0}
Goes (Some code) = IsGoing code

-- the number of a session's operation leaves a greater one
abbrev pub FloorIsBelow : Option Code → Type 0
FloorIsBelow None = Unit {0}
FloorIsBelow (Some code) = floor_of code < 18446744073709551615

-- what a session with this operation, or with none, sends once more: the round's message, or nothing where no quorum is up
abbrev pub ResendsIn : Option Code → Servers → Option (List Message) → Type 0
ResendsIn None up None = Unit {0}
ResendsIn None up (Some messages) = ⊥
ResendsIn (Some code) up (Some messages) = ResendsAs code up messages
ResendsIn (Some code) up None = RefusesAs code up NoQuorum

-- the session state tries the next row where its round collects, else the next column, where it stays for some rounds
abbrev pub session_state_tries : Grid → Bool → SessionState → SessionState
session_state_tries grid true session_state = record session_state { row = next_of grid.rows session_state.row }
session_state_tries grid false session_state = record session_state { column = next_of grid.cols session_state.column; stays = rounds_stayed }

-- what a tick does to a session state that has waited, or has not, and what is sent
abbrev pub TicksIn : Grid → Bool → SessionState → SessionState → Option (List Message) → Type 0
TicksIn grid true old new messages =
    (new ≡ session_state_tries grid (collects_in old.operation) old) × ResendsIn old.operation (session_state_aim grid (session_state_tries grid (collects_in old.operation) old)) messages
TicksIn grid false old new messages = (new ≡ record old { waited = true }) × (messages ≡ None)

abbrev pub TicksWith : Option Code → Grid → SessionState → SessionState → Option (List Message) → Type 0
TicksWith None grid old new messages = (new ≡ old) × (messages ≡ None)
TicksWith (Some code) grid old new messages = TicksIn grid old.waited old new messages

abbrev pub SessionStateTicks : Grid → SessionState → SessionState → Option (List Message) → Type 0
SessionStateTicks grid old new messages = TicksWith old.operation grid old new messages

-- nothing is given
pub record GivesNothing (out : Output) : Type 0 where
  pub answer : out.answer ≡ None
  pub letters : out.letters.items ≡ []
  pub transfer : out.transfer ≡ None
  pub fact : out.fact ≡ None

-- the operation of session k says this to the message, a run of numbers of tags is reserved for it where one has to be, and this is given
pub record SaysAndGives (t k : ℕ) (up : Servers) (old new : SessionState) (message : Message) (out : Output) : Type 0 where
  pub heard : Heard
  pub hears : SessionStateHears old new up message heard
  pub reserved : new.reserved_floor ≡ unwrap_or (heard_run old.reserved_floor (last_in new) heard) old.reserved_floor
  pub gives : HeardGives t k (heard_run old.reserved_floor (last_in new) heard) heard out

-- session k hears the message where a number is above its own last one, and the message is of the round's file
abbrev pub SessionStateAttends : ℕ → ℕ → Grid → SessionState → SessionState → Message → Output → Type 0
SessionStateAttends t k grid old new message out = by (has_above (last_in old) && is_of_round old.operation (file_place message.file))
  where
    by : Bool → Type 0
    by false = (new ≡ old) × GivesNothing out
    by true = SaysAndGives t k (session_state_aim_behind grid old message) old new message out
