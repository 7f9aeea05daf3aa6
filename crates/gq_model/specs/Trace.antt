-- What one tenant's run by itself has accepted, and the questions to it.
--
-- The words, from what came to what is told: a *turn* is a line as the tenant sees it; a turn that is accepted makes an
-- *entry* of the *trace*; each question (`up`, `volumes`, ..) asks something of a trace, and its step (`up_by`, ..) says what
-- the answer is after one more entry; in a session an entry does a *deed*, and what is asked of the session goes on by the
-- deed. `State` has the answers to all questions. `Past` is what was before a turn: the number of lines and the trace;
-- `Known` is what the next answer depends on: the steps taken and the state.
use Rattle.std.specs.Prelude.{ℕ, ◌+◌, List, [], ◌∷◌, ◌++◌, Bool, true, false, ◌==◌, ◌||◌, ◌&&◌, not, Option, Some, None, is_some, nat_lt, option_map, slice_get, min, max, if◌then◌else◌}
use Rattle.std.specs.List.{list_any}
use Rattle.std.specs.Option.{option_and_then}
use Rattle.gq_grid.specs.Grid.{Servers}
use Rattle.gq_tag.specs.declared.Tag.{Tag}
use Rattle.gq_tag.specs.declared.StoredCopy.{StoredCopy}
use Rattle.gq_tag.specs.declared.Body.{Body}
use Rattle.gq_tag.specs.declared.Body.TheVariants.{Store}
use Rattle.gq_tag.specs.Tag.{File, is_file, OwnMessage, first_copy, greatest, to_server}
use Rattle.gq_desk.specs.declared.plans.TenantRow.{TenantRow}
use Rattle.gq_desk.specs.declared.volumes.VolumeRow.{VolumeRow}
use Rattle.gq_desk.specs.Volumes.{Account, account_with, limit_in}
use Rattle.gq_phase.specs.Phase.{Task, Writing, Reading, Listing, Reply, Operation, hear_reply, reply_of, collected_after, floor_after}
use Rattle.gq_model.specs.declared.events.Line.{Line}
use Rattle.gq_model.specs.declared.events.Line.TheVariants.{NewVolume, Write, Read, List as ListFiles, Deliver, Lose, Abandon}
use Rattle.gq_model.specs.declared.events.ServerLine.{ServerLine}
use Rattle.gq_model.specs.declared.events.ServerLine.TheVariants.{Bad as BadServer, Down, Up, Lost as ServerLost, Repaired as ServerRepaired}
use Rattle.gq_model.specs.Told.{Told, Noted, Round, Done, Repaired}

-- what a tenant sees of an event: a line of its own, or a server line. No line makes the other three; they are what happens where
-- servers and sessions are at nodes.
pub data Turn : Type 0 where
  Own : (line : Line) → Turn
  Serving : (line : ServerLine) → Turn
  -- a session that has no operation passes over the numbers of operations and of tags up to these, as it has to where it begins anew
  -- from numbers that were reserved for it
  Leaping : (session op number : ℕ) → Turn
  -- the server's disk is lost: its copies of the files of the first volumes, so many, are gone, and it lacks these files
  Losing : (server volumes : ℕ) → Turn
  -- the server has the file again, with a copy that a peer gave it
  Returning : (server : ℕ) (file : File) (peer : ℕ) (copy : StoredCopy) → Turn

-- ---- the trace

-- an accepted turn, the message that it delivers if it delivers one, what was told, and the messages that it sent
pub record Entry : Type 0 where
  pub turn : Turn
  pub message : Option OwnMessage
  pub told : Told
  pub new : List OwnMessage

-- the accepted turns of a tenant's run, the newest first
abbrev pub Trace : Type 0
Trace = List Entry

-- ---- questions to the trace, each with its step: the answer after one more entry, from the answers before

-- a server is up until a line by which it goes down or is lost; of its lines the last one decides
abbrev pub up_by : Turn → Servers → Servers
up_by (Serving (Down n)) before server = if n == server then false else before server
up_by (Serving (Up n)) before server = if n == server then true else before server
up_by (Serving (ServerLost n)) before server = if n == server then false else before server
up_by (Serving (ServerRepaired n)) before server = if n == server then true else before server
up_by (Serving BadServer) before server = before server
up_by (Own line) before server = before server
up_by (Leaping k op number) before server = before server
up_by (Losing s volumes) before server = before server
up_by (Returning s f peer copy) before server = before server

abbrev pub up : Trace → Servers
up [] = λ server. true
up (e ∷ t) = up_by e.turn (up t)

-- a server that was lost is gone until it is repaired
abbrev pub gone_by : Turn → Servers → Servers
gone_by (Serving (ServerLost n)) before server = if n == server then true else before server
gone_by (Serving (ServerRepaired n)) before server = if n == server then false else before server
gone_by (Serving (Down n)) before server = before server
gone_by (Serving (Up n)) before server = before server
gone_by (Serving BadServer) before server = before server
gone_by (Own line) before server = before server
gone_by (Leaping k op number) before server = before server
gone_by (Losing s volumes) before server = before server
gone_by (Returning s f peer copy) before server = before server

abbrev pub gone : Trace → Servers
gone [] = λ server. false
gone (e ∷ t) = gone_by e.turn (gone t)

-- the volumes that were opened, in order
abbrev pub volumes_by : Turn → List VolumeRow → List VolumeRow
volumes_by (Own (NewVolume files blocks)) before = before ++ record { files = files; blocks = blocks } ∷ []
volumes_by _ before = before

abbrev pub volumes : Trace → List VolumeRow
volumes [] = []
volumes (e ∷ t) = volumes_by e.turn (volumes t)

-- all messages that were sent, in order: message n is at place n
abbrev pub sent : Trace → List OwnMessage
sent [] = []
sent (e ∷ t) = sent t ++ e.new

-- whether message n was lost
abbrev pub lost_by : Turn → (ℕ → Bool) → ℕ → Bool
lost_by (Own (Lose number)) before n = number == n || before n
lost_by _ before n = before n

abbrev pub is_lost : Trace → ℕ → Bool
is_lost [] = λ n. false
is_lost (e ∷ t) = lost_by e.turn (is_lost t)

-- the copy of the file that a server holds to which these came
abbrev pub copy_of : List StoredCopy → StoredCopy
copy_of copies = greatest (first_copy ∷ copies)

-- whether by the turn the server's copy of the file is lost
abbrev pub is_loss : Turn → ℕ → File → Bool
is_loss (Losing s volumes) server file = s == server && nat_lt file.volume volumes
is_loss (Returning s f peer copy) server file = false
is_loss (Own line) server file = false
is_loss (Serving (ServerLost n)) server file = n == server
is_loss (Serving (ServerRepaired n)) server file = false
is_loss (Serving (Down n)) server file = false
is_loss (Serving (Up n)) server file = false
is_loss (Serving BadServer) server file = false
is_loss (Leaping k op number) server file = false

-- whether server n, of whose repair this is told, is that server, and is given the file: it lacks it, and the peer that is told has it
abbrev pub is_given : Told → ℕ → (ℕ → File → Bool) → ℕ → File → Bool
is_given (Repaired peer) n lacking server file = (n == server) && (lacking server file && not (lacking peer file))
is_given _ n lacking server file = false

-- the copy that it is given, where these came to servers; where no peer is told nothing is given
abbrev pub given_copy : Told → (ℕ → File → List StoredCopy) → File → StoredCopy
given_copy (Repaired peer) copies file = copy_of (copies peer file)
given_copy _ copies file = first_copy

-- whether the server lacks the file: it lost its copy, and was given none again
abbrev pub lacks_by : Turn → Told → (ℕ → File → Bool) → ℕ → File → Bool
lacks_by (Losing s volumes) told before server file = is_loss (Losing s volumes) server file || before server file
lacks_by (Returning s f peer copy) told before server file = before server file && not ((s == server) && is_file f file)
lacks_by (Serving (ServerLost n)) told before server file = n == server || before server file
lacks_by (Serving (ServerRepaired n)) told before server file = before server file && not (is_given told n before server file)
lacks_by (Serving (Down n)) told before server file = before server file
lacks_by (Serving (Up n)) told before server file = before server file
lacks_by (Serving BadServer) told before server file = before server file
lacks_by (Own line) told before server file = before server file
lacks_by (Leaping k op number) told before server file = before server file

abbrev pub lacks : Trace → ℕ → File → Bool
lacks [] = λ server file. false
lacks (e ∷ t) = lacks_by e.turn e.told (lacks t)

-- a server takes what stores bring it for the file, and answers what is asked of it, where it has the file and is up
abbrev pub serves : Servers → (ℕ → File → Bool) → ℕ → File → Bool
serves up lacks server file = not (lacks server file) && up server

-- the copies of the file that stores brought to the server while it served it, in order
abbrev pub stored_by : (ℕ → File → Bool) → Option OwnMessage → (ℕ → File → List StoredCopy) → ℕ → File → List StoredCopy
stored_by serving None before server file = before server file
stored_by serving (Some message) before server file = by message.body
  where
    by : Body → List StoredCopy
    by (Store copy) = if (message.server == server) && is_file message.file file && serving server file then before server file ++ copy ∷ [] else before server file
    by _ = before server file

-- what a loss and a return leave of them, where servers lack these files: none, and the copy given
abbrev pub left_by : (ℕ → File → Bool) → Turn → Told → (ℕ → File → List StoredCopy) → ℕ → File → List StoredCopy
left_by lacking (Losing s volumes) told before server file = if is_loss (Losing s volumes) server file then [] else before server file
left_by lacking (Returning s f peer copy) told before server file = if (s == server) && is_file f file then copy ∷ [] else before server file
left_by lacking (Serving (ServerLost n)) told before server file = if n == server then [] else before server file
left_by lacking (Serving (ServerRepaired n)) told before server file = if is_given told n lacking server file then given_copy told before file ∷ [] else before server file
left_by lacking (Serving (Down n)) told before server file = before server file
left_by lacking (Serving (Up n)) told before server file = before server file
left_by lacking (Serving BadServer) told before server file = before server file
left_by lacking (Own line) told before server file = before server file
left_by lacking (Leaping k op number) told before server file = before server file

-- the copies of the file that came to the server and are not lost, in order, where these are up and lack these files
abbrev pub brought_by : Servers → (ℕ → File → Bool) → Turn → Option OwnMessage → Told → (ℕ → File → List StoredCopy) → ℕ → File → List StoredCopy
brought_by up lacking turn message told before = left_by lacking turn told (stored_by (serves up lacking) message before)

abbrev pub brought : Trace → ℕ → File → List StoredCopy
brought [] = λ server file. []
brought (e ∷ t) = brought_by (up t) (lacks t) e.turn e.message e.told (brought t)

-- the copies of the file that the peer has held since the server lost its own, while the peer had the file
abbrev pub offered_by : Turn → (ℕ → File → Bool) → (ℕ → File → List StoredCopy) → (ℕ → File → ℕ → List StoredCopy) → ℕ → File → ℕ → List StoredCopy
offered_by turn lacking copies before server file peer =
    (if is_loss turn server file then [] else before server file peer) ++ (if lacking peer file then [] else copy_of (copies peer file) ∷ [])

abbrev pub offered : Trace → ℕ → File → ℕ → List StoredCopy
offered [] = λ server file peer. []
offered (e ∷ t) = offered_by e.turn (lacks (e ∷ t)) (brought (e ∷ t)) (offered t)

-- ---- questions about one session

-- what an entry does in a session
pub data Deed : Type 0 where
  Elsewhere : Deed
  -- an operation begins
  Begins : (line : Line) → Deed
  -- a reply is noted
  Hears : (message : OwnMessage) → Deed
  -- a reply ends the round, and another begins, of this tag where it stores
  Moves : (message : OwnMessage) (round : ℕ) (tag : Option Tag) → Deed
  -- the operation is done, abandoned or given up
  Ends : Deed
  -- the numbers of operations up to this, and those of tags up to that, are passed over; there is no operation
  Leaps : (op number : ℕ) → Deed

-- what a message to a session does there, where this was told
abbrev pub heard_deed : OwnMessage → Told → Deed
heard_deed message Noted = Hears message
heard_deed message (Round round tag first count) = Moves message round tag
heard_deed message (Done outcome) = Ends
heard_deed message _ = Elsewhere

-- what the delivery of the message does in session k
abbrev pub delivered_deed : ℕ → Option OwnMessage → Told → Deed
delivered_deed k None told = Elsewhere
delivered_deed k (Some message) told = if not (to_server message.body) && (message.session == k) then heard_deed message told else Elsewhere

-- what the entry does in session k, but that an operation is given up which counts on a server that is lost
abbrev pub deed : ℕ → Entry → Deed
deed k e = by e.turn
  where
    by : Turn → Deed
    by (Own (Write s v f bytes)) = if s == k then Begins (Write s v f bytes) else Elsewhere
    by (Own (Read s v f)) = if s == k then Begins (Read s v f) else Elsewhere
    by (Own (ListFiles s v)) = if s == k then Begins (ListFiles s v) else Elsewhere
    by (Own (Abandon s)) = if s == k then Ends else Elsewhere
    by (Own (Deliver n)) = delivered_deed k e.message e.told
    by (Leaping s op number) = if s == k then Leaps op number else Elsewhere
    by _ = Elsewhere

-- how many files the volume has, none where there is no such volume
abbrev pub files_of : List VolumeRow → ℕ → ℕ
files_of volumes v = count (slice_get volumes v)
  where
    count : Option VolumeRow → ℕ
    count None = 0
    count (Some volume) = volume.files

-- what a line asks its session to do, if it begins an operation
abbrev pub task_of : List VolumeRow → Line → Option Task
task_of volumes (Write s v f bytes) = Some (Writing (record { volume = v; place = f }) bytes)
task_of volumes (Read s v f) = Some (Reading (record { volume = v; place = f }))
task_of volumes (ListFiles s v) = Some (Listing v (files_of volumes v))
task_of volumes _ = None

-- one session, as what its tenant was told leaves it (`session_by`)
pub record Session : Type 0 where
  -- the number of its last operation, or the last one that it passed over; 0 before the first
  pub op : ℕ
  -- what the operation that it has is to do, none where it has none
  pub current : Option Task
  -- the round of its last operation, as it stood before that ended, and what was heard in the round
  pub round : ℕ
  pub heard : List Reply
  -- the copy that each collect round of that operation decided, in order; of a write, the copy that it stores
  pub collected : List StoredCopy
  -- the number of the tag in the last Round answer of a write, or the last one that it passed over, or 0
  pub floor : ℕ

abbrev pub new_session : Session
new_session = record { op = 0; current = None; round = 1; heard = []; collected = []; floor = 0 }

-- the reply is of the session's operation and round
abbrev pub is_awaited : Session → OwnMessage → Bool
is_awaited s message = is_some s.current && (message.op == s.op) && (message.round == s.round)

-- the operation of session k, which stands so, counts on the server: among these messages is a reply of it of the operation and round,
-- whether it was heard or not
abbrev pub counts_on : List OwnMessage → ℕ → Session → ℕ → Bool
counts_on sent k s server = list_any (λ message. not (to_server message.body) && ((message.session == k) && ((server == message.server) && is_awaited s message))) sent

-- what the entry does in session k, which stood so before, where these messages were sent before
abbrev pub deed_in : List OwnMessage → ℕ → Session → Entry → Deed
deed_in sent k s e = by e.turn
  where
    by : Turn → Deed
    by (Serving (ServerLost n)) = if counts_on sent k s n then Ends else Elsewhere
    by _ = deed k e

-- session k's operation in its round
abbrev pub operation_with : ℕ → Session → Task → Operation
operation_with k s task =
    record { session = k; op = s.op; task = task; round = s.round; heard = s.heard; collected = s.collected; floor = s.floor }

-- the copies decided after a message that ends a round; the session's last number after a round of that tag began
abbrev pub collected_by : ℕ → OwnMessage → Session → Option Task → List StoredCopy
collected_by k message s None = s.collected
collected_by k message s (Some task) = collected_after (operation_with k s task) message

abbrev pub floor_by : Option Tag → ℕ → Option Task → ℕ
floor_by tag floor None = floor
floor_by tag floor (Some task) = floor_after task tag floor

abbrev pub session_by : List VolumeRow → ℕ → Deed → Session → Session
session_by volumes k Elsewhere s = s
session_by volumes k (Begins line) s =
    record { op = s.op + 1; current = task_of volumes line; round = 1; heard = []; collected = []; floor = s.floor }
session_by volumes k (Hears message) s =
    record { op = s.op; current = s.current; round = s.round; heard = hear_reply s.heard (reply_of message); collected = s.collected; floor = s.floor }
session_by volumes k (Moves message next tag) s =
    record { op = s.op; current = s.current; round = next; heard = []; collected = collected_by k message s s.current; floor = floor_by tag s.floor s.current }
session_by volumes k Ends s =
    record { op = s.op; current = None; round = s.round; heard = s.heard; collected = s.collected; floor = s.floor }
session_by volumes k (Leaps op number) s =
    record { op = max s.op op; current = None; round = s.round; heard = s.heard; collected = s.collected; floor = max s.floor number }

abbrev pub session : Trace → ℕ → Session
session [] = λ k. new_session
session (e ∷ t) = λ k. session_by (volumes t) k (deed_in (sent t) k (session t k) e) (session t k)

-- ---- the answers to all questions, on which all that is told depends

pub record State : Type 0 where
  pub up : Servers
  pub gone : Servers
  pub volumes : List VolumeRow
  pub sent : List OwnMessage
  pub is_lost : ℕ → Bool
  pub lacks : ℕ → File → Bool
  pub brought : ℕ → File → List StoredCopy
  pub offered : ℕ → File → ℕ → List StoredCopy
  pub session : ℕ → Session

abbrev pub questions : Trace → State
questions t = record { up = up t; gone = gone t; volumes = volumes t; sent = sent t; is_lost = is_lost t; lacks = lacks t; brought = brought t; offered = offered t; session = session t }

-- the answers after one more entry
abbrev pub changed : Entry → State → State
changed e state = record {
  up = up_by e.turn state.up;
  gone = gone_by e.turn state.gone;
  volumes = volumes_by e.turn state.volumes;
  sent = state.sent ++ e.new;
  is_lost = lost_by e.turn state.is_lost;
  lacks = lacks_by e.turn e.told state.lacks;
  brought = brought_by state.up state.lacks e.turn e.message e.told state.brought;
  offered = offered_by e.turn (lacks_by e.turn e.told state.lacks) (brought_by state.up state.lacks e.turn e.message e.told state.brought) state.offered;
  session = λ k. session_by state.volumes k (deed_in state.sent k (state.session k) e) (state.session k);
}

-- message n, none where it was never sent or is lost
abbrev pub own_message_at : State → ℕ → Option OwnMessage
own_message_at state n = if state.is_lost n then None else slice_get state.sent n

-- the copy of the file that the server holds
abbrev pub held : State → ℕ → File → StoredCopy
held state server file = copy_of (state.brought server file)

-- session k's operation as it stands, none where it has none
abbrev pub operation : State → ℕ → Option Operation
operation state k = option_map (operation_with k (state.session k)) (state.session k).current

-- what the tenant's row gives it, with its volumes
abbrev pub account_of : TenantRow → State → Account
account_of row state = account_with row state.volumes

-- how many bytes the file of the volume may hold, where it is there
abbrev pub limit_at : State → ℕ → ℕ → Option ℕ
limit_at state v f = option_and_then (limit_in f) (slice_get state.volumes v)

-- ---- what is known of a run

-- what was before: how many lines the tenant had, and what of them and of the server lines was accepted
pub record Past : Type 0 where
  pub lines : ℕ
  pub trace : Trace

abbrev pub start : Past
start = record { lines = 0; trace = [] }

-- what is known of a tenant's run so far: how many of its steps are taken, and the answers to the questions
pub record Known : Type 0 where
  pub lines : ℕ
  pub state : State

abbrev pub asked : TenantRow → Past → Known
asked row past = record { lines = min row.steps past.lines; state = questions past.trace }
