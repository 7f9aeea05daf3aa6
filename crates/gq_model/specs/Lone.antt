-- One tenant's run by itself: what is told to each of its lines, and what is sent.
--
-- The words, from one line to a whole run: `line_step` is what is told to a line that is not spent, with the messages that
-- it sends, from the answers to the questions; `step` is the same of a turn, from what is known; `told` is its first part;
-- `said` is what is told, from the past; `lone` is what is said to all turns in order.
use Rattle.std.specs.Prelude.{ℕ, ◌+◌, ◌*◌, List, [], ◌∷◌, Bool, true, false, not, ◌==◌, ◌&&◌, nat_lt, nat_le, Option, Some, None, is_some, is_none, unwrap_or, length, find, fold, if◌then◌else◌}
use Rattle.std.specs.List.{list_any}
use Rattle.std.specs.Str.{bytes_eq}
use Rattle.gq_grid.specs.Grid.{Grid, Servers, Choice, below, choose, choice_servers}
use Rattle.gq_tag.specs.declared.StoredCopy.{StoredCopy}
use Rattle.gq_tag.specs.Tag.{OwnMessage, File, equal_tags, to_server, answer_body}
use Rattle.gq_desk.specs.Plans.{is_in}
use Rattle.gq_desk.specs.declared.plans.TenantRow.{TenantRow}
use Rattle.gq_desk.specs.Volumes.{OpenFault, WrongSize, NoVolumeLeft, OverShare, free_of, open_fault}
use Rattle.gq_phase.specs.Phase.{Task, Operation, Heard, HeardStale, HeardNoted, HeardNext, HeardDone, begun, round_quorum, round_messages, resent, hear}
use Rattle.gq_phase.specs.Quorums.{are_peers}
use Rattle.gq_model.specs.declared.events.Line.{Line}
use Rattle.gq_model.specs.declared.events.Line.TheVariants.{Bad, Quorum, NewVolume, Volumes, Write, Read, List as ListFiles, Deliver, Lose, Retry, Abandon}
use Rattle.gq_model.specs.declared.events.ServerLine.{ServerLine}
use Rattle.gq_model.specs.declared.events.ServerLine.TheVariants.{Bad as BadServer, Down, Up, Lost as ServerLost, Repaired as ServerRepaired}
use Rattle.gq_model.specs.declared.events.Refusal.{Refusal}
use Rattle.gq_model.specs.declared.events.Refusal.TheVariants.{Spent, Bad as BadLine, NoSession, Busy, Idle, NoVolume, NoFile, TooLong, NoQuorum, NoMessage, Size, Volumes as TooMany, Share}
use Rattle.gq_model.specs.declared.events.ServerRefusal.{ServerRefusal}
use Rattle.gq_model.specs.declared.events.ServerRefusal.TheVariants.{Bad as ServerBad, NoServer, Lost as IsGone, Same, Last, NoPeer}
use Rattle.gq_model.specs.Told.{Told, Chosen, Opened, VolumesAre, Began, Replied, IsDown, Stale, Noted, Round, Done, Lost, Resent, Abandoned, Refused, ServerOk, Repaired, ServerRefused}
use Rattle.gq_model.specs.Trace.{Turn, Own, Serving, Leaping, Losing, Returning, Entry, Trace, State, Known, Past, start, asked, is_loss, is_awaited, serves, questions, own_message_at, held, operation, account_of, limit_at, task_of}

-- ---- server lines

-- whether the server is as a line says by which it comes up, or goes down
abbrev pub is_so : Servers → ℕ → Bool → Bool
is_so up n true = up n
is_so up n false = not (up n)

-- why such a line is refused, where these servers are up and these lost
abbrev pub change_refusal : Grid → Servers → Servers → ℕ → Bool → Option ServerRefusal
change_refusal grid up gone n comes =
    if not (nat_lt n (grid.rows * grid.cols)) then Some NoServer
    else if gone n then Some IsGone
    else if is_so up n comes then Some Same
    else None

-- the least of these servers that can give this one its copies back, itself left out
abbrev pub peer_among : Grid → Servers → ℕ → Option ℕ
peer_among grid set n = find (λ peer. set peer && (not (peer == n) && are_peers grid n peer)) (below (grid.rows * grid.cols))

-- the servers that are not in the set
abbrev pub outside : Servers → Servers
outside set server = not (set server)

-- why a line is refused by which the server is lost
abbrev pub loss_refusal : Grid → Servers → ℕ → Option ServerRefusal
loss_refusal grid gone n =
    if not (nat_lt n (grid.rows * grid.cols)) then Some NoServer
    else if gone n then Some Same
    else if is_none (peer_among grid (outside gone) n) then Some Last
    else None

-- why a line is refused by which it is repaired
abbrev pub repair_refusal : Grid → Servers → Servers → ℕ → Option ServerRefusal
repair_refusal grid up gone n =
    if not (nat_lt n (grid.rows * grid.cols)) then Some NoServer
    else if not (gone n) then Some Same
    else if is_none (peer_among grid up n) then Some NoPeer
    else None

-- why a server line is refused
abbrev pub server_refusal : Grid → Servers → Servers → ServerLine → Option ServerRefusal
server_refusal grid up gone BadServer = Some ServerBad
server_refusal grid up gone (Down n) = change_refusal grid up gone n false
server_refusal grid up gone (Up n) = change_refusal grid up gone n true
server_refusal grid up gone (ServerLost n) = loss_refusal grid gone n
server_refusal grid up gone (ServerRepaired n) = repair_refusal grid up gone n

-- what is told to a server line that is not refused; a repair that is not refused has a peer (`repair_refusal`)
abbrev pub server_done : Grid → Servers → ServerLine → Told
server_done grid up (ServerRepaired n) = Repaired (unwrap_or (peer_among grid up n) n)
server_done grid up (ServerLost n) = ServerOk
server_done grid up (Down n) = ServerOk
server_done grid up (Up n) = ServerOk
server_done grid up BadServer = ServerOk

-- what is told to a server line
abbrev pub server_told : Grid → Servers → Servers → ServerLine → Told
server_told grid up gone line = unless (server_refusal grid up gone line)
  where
    unless : Option ServerRefusal → Told
    unless (Some word) = ServerRefused word
    unless None = server_done grid up line

-- ---- why a session's line is refused

-- a refusal, and whether its cause holds
abbrev pub Cause : Type 0
Cause = Bool × Refusal

-- the first cause that holds
abbrev pub first_cause : List Cause → Option Refusal
first_cause [] = None
first_cause (cause ∷ causes) = if cause.0 then Some cause.1 else first_cause causes

abbrev pub no_session : TenantRow → ℕ → Cause
no_session row k = (not (is_in 1 row.sessions k), NoSession)

abbrev pub busy : State → ℕ → Cause
busy state k = (is_some (state.session k).current, Busy)

abbrev pub idle : State → ℕ → Cause
idle state k = (is_none (state.session k).current, Idle)

abbrev pub no_volume : State → ℕ → Cause
no_volume state v = (not (nat_lt v (length state.volumes)), NoVolume)

abbrev pub no_file : State → ℕ → ℕ → Cause
no_file state v f = (is_none (limit_at state v f), NoFile)

abbrev pub too_long : State → ℕ → ℕ → List ℕ → Cause
too_long state v f bytes = (nat_lt (unwrap_or (limit_at state v f) 0) (length bytes), TooLong)

abbrev pub no_quorum : Grid → State → ℕ → Cause
no_quorum grid state round = (is_none (round_quorum grid state.up round), NoQuorum)

-- the causes in their order
abbrev pub session_causes : Grid → TenantRow → State → Line → List Cause
session_causes grid row state (Write k v f bytes) = no_session row k ∷ busy state k ∷ no_volume state v ∷ no_file state v f ∷ too_long state v f bytes ∷ no_quorum grid state 1 ∷ []
session_causes grid row state (Read k v f) = no_session row k ∷ busy state k ∷ no_volume state v ∷ no_file state v f ∷ no_quorum grid state 1 ∷ []
session_causes grid row state (ListFiles k v) = no_session row k ∷ busy state k ∷ no_volume state v ∷ no_quorum grid state 1 ∷ []
session_causes grid row state (Retry k) = no_session row k ∷ idle state k ∷ no_quorum grid state (state.session k).round ∷ []
session_causes grid row state (Abandon k) = no_session row k ∷ idle state k ∷ []
session_causes grid row state _ = []

-- ---- what is told and sent

-- what is told to a turn, with the messages that it sends
pub record Step : Type 0 where
  pub told : Told
  pub new : List OwnMessage

-- nothing is sent
abbrev pub quiet : Told → Step
quiet told = record { told = told; new = [] }

-- which quorum is chosen
abbrev pub choice_told : Grid → Option Choice → Told
choice_told grid None = Refused NoQuorum
choice_told grid (Some choice) = Chosen choice (choice_servers grid choice)

-- what is told to a line that opens a volume, which is the one of this number
abbrev pub open_told : ℕ → Option OpenFault → Told
open_told number None = Opened number
open_told number (Some WrongSize) = Refused Size
open_told number (Some NoVolumeLeft) = Refused TooMany
open_told number (Some (OverShare free)) = Refused (Share free)

-- what is told to a line that loses a message
abbrev pub lose_told : Option OwnMessage → Told
lose_told None = Refused NoMessage
lose_told (Some message) = Lost

-- the operation that a request of session k begins
abbrev pub first_operation : State → ℕ → Task → Operation
first_operation state k task = begun k ((state.session k).op + 1) task (state.session k).floor

-- a request begins an operation, whose first round asks. Every request has a task: the first row is never reached, and only makes the
-- function total
abbrev pub begin_step : Grid → State → ℕ → Option Task → Step
begin_step grid state k None = quiet (Refused BadLine)
begin_step grid state k (Some task) = began (round_messages grid state.up (first_operation state k task))
  where
    began : List OwnMessage → Step
    began messages = record { told = Began ((state.session k).op + 1) (length state.sent) (length messages); new = messages }

-- the message that a server which holds the copy sends back
abbrev pub reply_to : StoredCopy → OwnMessage → OwnMessage
reply_to copy message =
    record { session = message.session; op = message.op; round = message.round; server = message.server; file = message.file; body = answer_body copy message.body }

-- a message comes to its server
abbrev pub serve_step : State → OwnMessage → Step
serve_step state message = by (serves state.up state.lacks message.server message.file)
  where
    by : Bool → Step
    by false = quiet IsDown
    by true = record { told = Replied (length state.sent); new = reply_to (held state message.server message.file) message ∷ [] }

-- what is told and sent where the operation says this; so many messages were sent before
abbrev pub heard_step : ℕ → Heard → Step
heard_step first HeardStale = quiet Stale
heard_step first HeardNoted = quiet Noted
heard_step first (HeardNext round tag messages) = record { told = Round round tag first (length messages); new = messages }
heard_step first (HeardDone outcome) = quiet (Done outcome)

-- a message comes to its session, which has this operation or none
abbrev pub hear_step : Grid → State → OwnMessage → Option Operation → Step
hear_step grid state message None = quiet Stale
hear_step grid state message (Some o) = heard_step (length state.sent) (hear grid state.up o message)

-- a message is delivered
abbrev pub deliver_step : Grid → State → Option OwnMessage → Step
deliver_step grid state None = quiet (Refused NoMessage)
deliver_step grid state (Some message) = by (to_server message.body)
  where
    by : Bool → Step
    by true = serve_step state message
    by false = hear_step grid state message (operation state message.session)

-- the round's message goes out once more. A retry that is not refused has an operation and a quorum (`session_causes`); what is said
-- without one is never reached, and only makes the function total
abbrev pub retry_step : Grid → State → Option Operation → Step
retry_step grid state None = quiet (Refused Idle)
retry_step grid state (Some o) = by (round_quorum grid state.up o.round)
  where
    again : List OwnMessage → Step
    again messages = record { told = Resent (length state.sent) (length messages); new = messages }

    by : Option Servers → Step
    by None = quiet (Refused NoQuorum)
    by (Some quorum) = again (resent grid o quorum)

-- the step, unless there is a cause why not
abbrev pub unless : Option Refusal → Step → Step
unless (Some word) step = quiet (Refused word)
unless None step = step

-- what is told and sent to a session's line that is not refused. No other line comes here: the last row only makes the function total
abbrev pub session_step : Grid → State → Line → Step
session_step grid state (Write k v f bytes) = begin_step grid state k (task_of state.volumes (Write k v f bytes))
session_step grid state (Read k v f) = begin_step grid state k (task_of state.volumes (Read k v f))
session_step grid state (ListFiles k v) = begin_step grid state k (task_of state.volumes (ListFiles k v))
session_step grid state (Retry k) = retry_step grid state (operation state k)
session_step grid state (Abandon k) = quiet Abandoned
session_step grid state _ = quiet (Refused BadLine)

-- what is told and sent to a session's line
abbrev pub asked_step : Grid → TenantRow → State → Line → Step
asked_step grid row state line = unless (first_cause (session_causes grid row state line)) (session_step grid state line)

-- what is told and sent to a line of the tenant that isn't spent
abbrev pub line_step : Grid → TenantRow → State → Line → Step
line_step grid row state Bad = quiet (Refused BadLine)
line_step grid row state Quorum = quiet (choice_told grid (choose grid state.up))
line_step grid row state (NewVolume files blocks) = quiet (open_told (length state.volumes) (open_fault (account_of row state) (record { files = files; blocks = blocks })))
line_step grid row state Volumes = quiet (VolumesAre (free_of (account_of row state)) state.volumes)
line_step grid row state (Write k v f bytes) = asked_step grid row state (Write k v f bytes)
line_step grid row state (Read k v f) = asked_step grid row state (Read k v f)
line_step grid row state (ListFiles k v) = asked_step grid row state (ListFiles k v)
line_step grid row state (Deliver number) = deliver_step grid state (own_message_at state number)
line_step grid row state (Lose number) = quiet (lose_told (own_message_at state number))
line_step grid row state (Retry k) = asked_step grid row state (Retry k)
line_step grid row state (Abandon k) = asked_step grid row state (Abandon k)

abbrev pub line_told : Grid → TenantRow → State → Line → Told
line_told grid row state line = (line_step grid row state line).told

-- a session with an operation passes over no number. Nobody is told of it where it may, so it is answered as a server line is
abbrev pub leap_told : State → ℕ → Told
leap_told state k = if is_some (state.session k).current then Refused Busy else ServerOk

-- an operation that goes on counts on the message, a reply of a server whose copy is gone by the turn
abbrev pub is_counted : State → Turn → OwnMessage → Bool
is_counted state turn message = not (to_server message.body) && is_loss turn message.server message.file && is_awaited (state.session message.session) message

-- no copy is lost on which an operation that goes on counts
abbrev pub loss_told : State → Turn → Told
loss_told state turn = if list_any (is_counted state turn) state.sent then Refused Busy else ServerOk

abbrev pub equal_copies : StoredCopy → StoredCopy → Bool
equal_copies a b = equal_tags a.tag b.tag && bytes_eq a.bytes b.bytes

-- a server that lacks the file is given it by a peer, which had it and held this copy at some time since the loss
abbrev pub return_told : Grid → State → ℕ → File → ℕ → StoredCopy → Told
return_told grid state server file peer copy =
    if not (state.lacks server file) then ServerRefused Same
    else if are_peers grid server peer && list_any (equal_copies copy) (state.offered server file peer) then ServerOk
    else Refused NoMessage

-- what is told and sent to a turn
abbrev pub step : Grid → TenantRow → Known → Turn → Step
step grid row known (Own line) = if nat_le row.steps known.lines then quiet (Refused Spent) else line_step grid row known.state line
step grid row known (Serving line) = quiet (server_told grid known.state.up known.state.gone line)
step grid row known (Leaping k op number) = quiet (leap_told known.state k)
step grid row known (Losing s volumes) = quiet (loss_told known.state (Losing s volumes))
step grid row known (Returning s f peer copy) = quiet (return_told grid known.state s f peer copy)

abbrev pub told : Grid → TenantRow → Known → Turn → Told
told grid row known turn = (step grid row known turn).told

-- ---- whole runs

abbrev pub is_refusal : Told → Bool
is_refusal (Refused word) = true
is_refusal (ServerRefused word) = true
is_refusal _ = false

abbrev pub lines_after : ℕ → Turn → ℕ
lines_after lines (Own line) = lines + 1
lines_after lines (Serving line) = lines
lines_after lines (Leaping k op number) = lines
lines_after lines (Losing s volumes) = lines
lines_after lines (Returning s f peer copy) = lines

-- what is told to a turn, and what it sends
abbrev pub step_at : Grid → TenantRow → Past → Turn → Step
step_at grid row past turn = step grid row (asked row past) turn

abbrev pub said : Grid → TenantRow → Past → Turn → Told
said grid row past turn = told grid row (asked row past) turn

-- the message that a turn delivers
abbrev pub message_of_turn : State → Turn → Option OwnMessage
message_of_turn state (Own (Deliver number)) = own_message_at state number
message_of_turn state _ = None

-- the entry of an accepted turn
abbrev pub entry_of : State → Turn → Step → Entry
entry_of state turn step = record { turn = turn; message = message_of_turn state turn; told = step.told; new = step.new }

-- the trace after a turn
abbrev pub trace_after : Trace → Turn → Step → Trace
trace_after t turn step = if is_refusal step.told then t else entry_of (questions t) turn step ∷ t

-- the past after a turn
abbrev pub after : Grid → TenantRow → Past → Turn → Past
after grid row past turn = record { lines = lines_after past.lines turn; trace = trace_after past.trace turn (step_at grid row past turn) }

-- the past after the turns, which stand in order
abbrev pub past_of : Grid → TenantRow → List Turn → Past
past_of grid row turns = fold (after grid row) start turns

-- what is told to the turns, from a past on
abbrev pub told_from : Grid → TenantRow → Past → List Turn → List Told
told_from grid row past [] = []
told_from grid row past (turn ∷ turns) = said grid row past turn ∷ told_from grid row (after grid row past turn) turns

-- what is told in the tenant's run by itself
abbrev pub lone : Grid → TenantRow → List Turn → List Told
lone grid row turns = told_from grid row start turns
