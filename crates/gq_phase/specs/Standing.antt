-- Which of the model's operations a value of the code stands for, and what its calls do to them.
use Rattle.std.specs.Prelude.{ℕ, ◌≡◌, ◌+◌, ◌*◌, ◌<◌, List, [], ◌∷◌, ◌++◌, Bool, true, false, Option, Some, None, map, length, max, IsSome, ◌&&◌, ◌==◌, not, if◌then◌else◌}
use Rattle.gq_grid.specs.Grid.{Grid, Servers, no_servers}
use Rattle.gq_grid.specs.Sets.{servers}
use Rattle.gq_tag.specs.declared.Tag.{Tag}
use Rattle.gq_tag.specs.declared.StoredCopy.{StoredCopy}
use Rattle.gq_tag.specs.declared.FileId.{FileId}
use Rattle.gq_tag.specs.declared.Body.{Body}
use Rattle.gq_tag.specs.declared.Body.TheVariants.{Ask, Copy, Store}
use Rattle.gq_tag.specs.declared.Message.{Message}
use Rattle.gq_tag.specs.Tag.{is_less, first_copy, latest, greatest, OwnMessage, file_place, file_of, message_of, own_message}
use Rattle.gq_round.specs.declared.Who.{Who}
use Rattle.gq_round.specs.declared.RoundMessage.{RoundMessage}
use Rattle.gq_phase.specs.declared.Row.{Row}
use Rattle.gq_phase.specs.declared.Outcome.{Outcome}
use Rattle.gq_phase.specs.declared.Outcome.TheVariants.{Wrote, Gave, Listed}
use Rattle.gq_phase.specs.declared.Heard.{Heard}
use Rattle.gq_phase.specs.declared.Heard.TheVariants.{Stale, Noted, Next, Done}
use Rattle.gq_phase.specs.declared.operation.Operation.{Operation as Code}
use Rattle.gq_phase.specs.declared.operation.Task.{Task as CodeTask}
use Rattle.gq_phase.specs.declared.operation.Task.TheVariants.{Write, Read, List as ListFiles}
use Rattle.gq_phase.specs.declared.ResendRefused.{ResendRefused}
use Rattle.gq_phase.specs.declared.ResendRefused.TheVariants.{NoQuorum, Memory}
use Rattle.gq_phase.specs.Quorums.{collect_quorum, store_quorum, ends_collect, ends_store}
use Rattle.gq_phase.specs.Best.{tag_in}
use Rattle.gq_phase.specs.Course.{round_of}
use Rattle.gq_phase.specs.Phase.{Task, Writing, Reading, Listing, Operation, round_body, Heard as Saying, HeardStale, HeardNoted, HeardNext, HeardDone, heard_servers, heard_copies, givers, stored_copy, round_file, round_messages, round_quorum, ends_round, resent, hear, with_reply, moved, begun, listed_row}

-- ---- what is sent and said, with the tenant in its messages

abbrev pub heard_as : ℕ → Saying → Heard
heard_as tenant HeardStale = Stale
heard_as tenant HeardNoted = Noted
heard_as tenant (HeardNext round tag messages) = Next round tag (map (message_of tenant) messages)
heard_as tenant (HeardDone outcome) = Done outcome

-- the messages that are sent
abbrev pub messages_of : Heard → List Message
messages_of (Next round tag messages) = messages
messages_of _ = []

-- ---- what a value stands for

-- what the session was asked to do with the file
abbrev pub task_for : CodeTask → FileId → ℕ → Task
task_for (Write bytes) file files = Writing (file_place file) bytes
task_for Read file files = Reading (file_place file)
task_for ListFiles file files = Listing file.volume files

-- of a listing, the files whose copies were collected
abbrev pub rows_of : CodeTask → List StoredCopy → List Row
rows_of ListFiles copies = map listed_row copies
rows_of _ copies = []

-- to what the session was asked to do the greatest copy is the same: to a write, which uses its tag alone, one of the same tag
abbrev pub SameFor : CodeTask → Option StoredCopy → Option StoredCopy → Type 0
SameFor (Write bytes) a b = tag_in a ≡ tag_in b
SameFor Read a b = a ≡ b
SameFor ListFiles a b = a ≡ b

-- a value that is not done stands for an operation of the tenant in the grid: the servers heard, the
-- greatest copy and the servers that told its tag are those of the list heard, the last copy is that
-- of the list collected; the grid has a server, and the round goes on, which the servers heard do not end
pub record StandsFor (grid : Grid) (tenant : ℕ) (code : Code) (o : Operation) : Type 0 where
  pub going : code.done ≡ false
  pub its_grid : code.grid ≡ grid
  pub some : 0 < grid.rows * grid.cols
  pub its_tenant : code.who.tenant ≡ tenant
  pub session : code.who.session ≡ o.session
  pub op : code.who.op ≡ o.op
  pub task : task_for code.task code.file code.course.files ≡ o.task
  pub file : code.file ≡ file_of tenant (round_file o.task o.round)
  pub round : round_of code.course ≡ o.round
  pub collected : code.course.collected ≡ length o.collected
  pub heard : servers code.heard ≡ heard_servers o.heard
  pub goes_on : ends_round grid o.round o.heard ≡ false
  pub best : SameFor code.task code.best (latest (heard_copies o.heard))
  pub givers : servers code.givers ≡ givers (greatest (heard_copies o.heard)).tag o.heard
  pub stored : code.stored ≡ stored_copy o.collected
  pub rows : code.rows ≡ rows_of code.task o.collected
  pub floor : code.floor ≡ o.floor

-- the session's own last number
abbrev pub floor_of : Code → ℕ
floor_of code = code.floor

-- that of a session with this operation, or with this last number and none
abbrev pub last_number : ℕ → Option Code → ℕ
last_number floor None = floor
last_number floor (Some code) = floor_of code

-- of its round: whether it collects, the servers heard in it, and its file
abbrev pub is_collecting : Code → Bool
is_collecting code = code.course.collecting

abbrev pub heard_of : Code → Servers
heard_of code = servers code.heard

abbrev pub its_file : Code → FileId
its_file code = code.file

abbrev pub IsGoing : Code → Type 0
IsGoing code = code.done ≡ false

abbrev pub IsDone : Code → Type 0
IsDone code = code.done ≡ true

-- the operation begins with these messages
abbrev pub Begins : Grid → Who → Task → ℕ → Servers → Code → List Message → Type 0
Begins grid who task floor up code messages =
    let o : Operation = begun who.session who.op task floor in
    StandsFor grid who.tenant code o × (messages ≡ map (message_of who.tenant) (round_messages grid up o))

-- what the value stands for after this was said to the message
abbrev pub StandsAfter : Grid → ℕ → Code → Operation → OwnMessage → Saying → Type 0
StandsAfter grid tenant code o m HeardStale = StandsFor grid tenant code o
StandsAfter grid tenant code o m HeardNoted = StandsFor grid tenant code (with_reply o m)
StandsAfter grid tenant code o m (HeardNext round tag messages) = StandsFor grid tenant code (moved o m round tag)
StandsAfter grid tenant code o m (HeardDone outcome) = IsDone code × (code.floor ≡ o.floor)

-- whatever operation the value stood for, this is what it says to the message, and the value stands for it afterwards
abbrev pub HearsAs : Code → Code → Servers → Message → Heard → Type 0
HearsAs old new up message heard =
    (grid : Grid) (tenant : ℕ) (o : Operation) → StandsFor grid tenant old o →
    (heard ≡ heard_as tenant (hear grid up o (own_message message))) × StandsAfter grid tenant new o (own_message message) (hear grid up o (own_message message))

-- whether a copy's tag says as much as the copy to what the session was asked to do, where this is the greatest copy heard: to a write always, else
-- where it has this tag or a greater one
abbrev pub takes_by : CodeTask → Option StoredCopy → Tag → Bool
takes_by (Write bytes) best tag = true
takes_by Read None tag = false
takes_by Read (Some best) tag = not (is_less best.tag tag)
takes_by ListFiles None tag = false
takes_by ListFiles (Some best) tag = not (is_less best.tag tag)

abbrev pub takes_as : Code → Tag → Bool
takes_as code tag = code.course.collecting && takes_by code.task code.best tag

-- the one body is a copy whose tag the operation takes, and the other is a copy of the same tag
abbrev pub IsTaken : Code → Body → Body → Type 0
IsTaken code (Copy a) (Copy b) = (a.tag ≡ b.tag) × (takes_as code a.tag ≡ true)
IsTaken code _ _ = ⊥

-- the two messages differ in the content of a copy at most, whose tag the operation takes
pub record DifferInContent (code : Code) (a b : Message) : Type 0 where
  pub op : b.op ≡ a.op
  pub round : b.round ≡ a.round
  pub server : b.server ≡ a.server
  pub body : IsTaken code a.body b.body

-- what the value does by this message it does whatever the content of its copy is, where it takes the copy's tag
abbrev pub HearsTag : Code → Code → Servers → Message → Heard → Type 0
HearsTag old new up message heard = (m : Message) → DifferInContent old message m → HearsAs old new up m heard

-- whatever operation the value stands for, its round is that of this number of this operation, and of this file, and stores the copy
abbrev pub StoresNow : Code → (op round : ℕ) → FileId → StoredCopy → Type 0
StoresNow code op round file copy =
    (grid : Grid) (tenant : ℕ) (o : Operation) → StandsFor grid tenant code o →
    (op ≡ o.op) × (round ≡ o.round) × (file_place file ≡ round_file o.task o.round) × (round_body o.round o.collected ≡ Store copy)

-- the copy that the value's round stores, where that is the round
abbrev pub stored_as : Code → (op round : ℕ) → FileId → Option StoredCopy
stored_as code op round file =
    if not code.done && (not code.course.collecting && ((op == code.who.op) && ((round == round_of code.course) && ((file.volume == code.file.volume) && (file.file == code.file.file))))) then Some code.stored else None

-- the operation is done where it says so, else it is done or not as before
abbrev pub EndsAs : Code → Code → Heard → Type 0
EndsAs old new (Done outcome) = IsDone new
EndsAs old new _ = new.done ≡ old.done

-- a write that begins a store round does it under a tag of its session, whose number is above the
-- session's last one and then is the last one; else the last number stays
abbrev pub RaisesFloor : Code → Code → Heard → Type 0
RaisesFloor old new heard = by old.task heard
  where
    by : CodeTask → Heard → Type 0
    by (Write bytes) (Next round (Some tag) messages) = (old.floor < tag.number) × (new.floor ≡ tag.number) × (tag.session ≡ old.who.session)
    by _ _ = new.floor ≡ old.floor

-- whatever operation the value stands for, there is a quorum for its round, and these messages, one at least, go out to it
abbrev pub ResendsAs : Code → Servers → List Message → Type 0
ResendsAs code up messages =
    (grid : Grid) (tenant : ℕ) (o : Operation) → StandsFor grid tenant code o →
    (quorum : Servers) × (round_quorum grid up o.round ≡ Some quorum) × (messages ≡ map (message_of tenant) (resent grid o quorum)) × (0 < length messages)

-- whatever operation the value stands for, there is no quorum for its round, or there is one and memory is missing
abbrev pub RefusesAs : Code → Servers → ResendRefused → Type 0
RefusesAs code up NoQuorum = (grid : Grid) (tenant : ℕ) (o : Operation) → StandsFor grid tenant code o → round_quorum grid up o.round ≡ None
RefusesAs code up (Memory _) = (grid : Grid) (tenant : ℕ) (o : Operation) → StandsFor grid tenant code o → IsSome (round_quorum grid up o.round)

-- ---- steps inside the crate

-- an operation in its first round
pub record IsFresh (code : Code) (grid : Grid) (who : Who) (task : CodeTask) (files : ℕ) (file : FileId) (floor : ℕ) : Type 0 where
  pub its_grid : code.grid ≡ grid
  pub some : 0 < grid.rows * grid.cols
  pub its_who : code.who ≡ who
  pub its_task : code.task ≡ task
  pub its_file : code.file ≡ file
  pub course : code.course ≡ record { files = files; collected = 0; collecting = true }
  pub heard : servers code.heard ≡ no_servers
  pub best : code.best ≡ None
  pub givers : servers code.givers ≡ no_servers
  pub stored : code.stored ≡ first_copy
  pub rows : code.rows ≡ []
  pub its_floor : code.floor ≡ floor
  pub going : code.done ≡ false

-- the ask of a first round
abbrev pub first_ask : Who → FileId → RoundMessage
first_ask who file = record { who = who; round = 1; file = file; body = Ask }

-- whether the message is of the operation's round, and the operation is not done
abbrev pub is_current_as : Code → Message → Bool
is_current_as code m = not code.done && (m.op == code.who.op && m.round == round_of code.course)

-- the servers that the round asks or sends to, and whether these end it
abbrev pub quorum_as : Code → Servers → Option Servers
quorum_as code up = if code.course.collecting then collect_quorum code.grid up else store_quorum code.grid up

abbrev pub ends_as : Code → Servers → Bool
ends_as code heard = if code.course.collecting then ends_collect code.grid heard else ends_store code.grid heard

-- the round's message
abbrev pub message_as : Code → RoundMessage
message_as code =
    record { who = code.who; round = round_of code.course; file = code.file; body = if code.course.collecting then Ask else Store code.stored }

-- the copy with which a collect round ends
abbrev pub decided_as : CodeTask → ℕ → ℕ → StoredCopy → StoredCopy
decided_as (Write bytes) session floor best = record { tag = record { number = max best.tag.number floor + 1; session = session }; bytes = bytes }
decided_as _ session floor best = best

abbrev pub floor_with : CodeTask → Tag → ℕ → ℕ
floor_with (Write bytes) tag floor = tag.number
floor_with _ tag floor = floor

abbrev pub rows_with : CodeTask → Row → List Row → List Row
rows_with ListFiles row rows = rows ++ row ∷ []
rows_with _ row rows = rows

abbrev pub is_list : CodeTask → Bool
is_list ListFiles = true
is_list _ = false

abbrev pub reads : CodeTask → Bool
reads (Write bytes) = false
reads _ = true

-- whether the file's store round is left out where these servers told the greatest tag
abbrev pub skips_as : Code → Servers → Bool
skips_as code givers = reads code.task && ends_store code.grid givers

abbrev pub outcome_as : CodeTask → Who → StoredCopy → List Row → Outcome
outcome_as (Write bytes) who copy rows = Wrote who.session who.op copy.tag
outcome_as Read who copy rows = Gave who.session who.op copy
outcome_as ListFiles who copy rows = Listed who.session who.op rows

-- the file that a listing reads next; the one that it reads after that of its collect round
abbrev pub next_file : Code → FileId
next_file code = record { tenant = code.file.tenant; volume = code.file.volume; file = code.course.collected }

abbrev pub file_after : Code → FileId
file_after code = record { tenant = code.file.tenant; volume = code.file.volume; file = code.course.collected + 1 }

-- the messages of the store round of the copy, of the collect round of a listing's next file, and of
-- that of the file after
abbrev pub store_message : Code → StoredCopy → RoundMessage
store_message code copy =
    record { who = code.who; round = 2 * (code.course.collected + 1); file = code.file; body = Store copy }

abbrev pub next_ask : Code → RoundMessage
next_ask code =
    record { who = code.who; round = 2 * code.course.collected + 1; file = next_file code; body = Ask }

abbrev pub ask_after : Code → RoundMessage
ask_after code =
    record { who = code.who; round = 2 * (code.course.collected + 1) + 1; file = file_after code; body = Ask }

-- the store round of the copy begins
pub record BeginsStore (old new : Code) (copy : StoredCopy) : Type 0 where
  pub going : new.done ≡ old.done
  pub grid : new.grid ≡ old.grid
  pub who : new.who ≡ old.who
  pub task : new.task ≡ old.task
  pub file : new.file ≡ old.file
  pub course : new.course ≡ record { files = old.course.files; collected = old.course.collected + 1; collecting = false }
  pub heard : servers new.heard ≡ no_servers
  pub best : new.best ≡ None
  pub givers : servers new.givers ≡ no_servers
  pub stored : new.stored ≡ copy
  pub rows : new.rows ≡ rows_with old.task (listed_row copy) old.rows
  pub floor : new.floor ≡ floor_with old.task copy.tag old.floor

-- the collect round of the next file begins
pub record BeginsCollect (old new : Code) : Type 0 where
  pub going : new.done ≡ old.done
  pub grid : new.grid ≡ old.grid
  pub who : new.who ≡ old.who
  pub task : new.task ≡ old.task
  pub file : new.file ≡ next_file old
  pub course : new.course ≡ record { files = old.course.files; collected = old.course.collected; collecting = true }
  pub heard : servers new.heard ≡ no_servers
  pub best : new.best ≡ None
  pub givers : servers new.givers ≡ no_servers
  pub stored : new.stored ≡ old.stored
  pub rows : new.rows ≡ old.rows
  pub floor : new.floor ≡ old.floor

-- the collect round of the file after begins, where the copy is the one collected
pub record SkipsOn (old new : Code) (copy : StoredCopy) : Type 0 where
  pub going : new.done ≡ old.done
  pub grid : new.grid ≡ old.grid
  pub who : new.who ≡ old.who
  pub task : new.task ≡ old.task
  pub file : new.file ≡ file_after old
  pub course : new.course ≡ record { files = old.course.files; collected = old.course.collected + 1; collecting = true }
  pub heard : servers new.heard ≡ no_servers
  pub best : new.best ≡ None
  pub givers : servers new.givers ≡ no_servers
  pub stored : new.stored ≡ copy
  pub rows : new.rows ≡ rows_with old.task (listed_row copy) old.rows
  pub floor : new.floor ≡ old.floor
