-- One session's operation: its rounds, what it has heard, when a round ends, and what is then said and sent.
-- (The two phases of Attiya, Bar-Noy and Dolev, with several writers.)
--
-- A read collects in round 1, and stores the copy of the greatest tag in round 2. Where those that told this copy hold a full
-- column already, round 2 is left out: a fast read. On a grid of one row each read is fast. On others one is only where other
-- servers were heard before a full row was, as after a retry. Where there is a single column none is.
use Rattle.std.specs.Prelude.{ℕ, ◌+◌, ◌-◌, ◌*◌, ◌/◌, ◌%◌, List, [], ◌∷◌, ◌++◌, Bool, true, false, ◌&&◌, ◌==◌, not, nat_lt, Option, Some, None, filter, filter_map, map, max, length, unwrap_or, if◌then◌else◌}
use Rattle.std.specs.List.{list_any, last_or}
use Rattle.std.specs.Str.{bytes_eq}
use Rattle.gq_grid.specs.Grid.{Grid, Servers, rising}
use Rattle.gq_tag.specs.declared.Tag.{Tag}
use Rattle.gq_tag.specs.declared.StoredCopy.{StoredCopy}
use Rattle.gq_tag.specs.declared.Body.{Body}
use Rattle.gq_tag.specs.declared.Body.TheVariants.{Ask, Copy, Store, Stored}
use Rattle.gq_tag.specs.Tag.{first_copy, greatest, equal_tags, File, OwnMessage}
use Rattle.gq_phase.specs.declared.Row.{Row}
use Rattle.gq_phase.specs.declared.Outcome.{Outcome}
use Rattle.gq_phase.specs.declared.Outcome.TheVariants.{Wrote, Gave, Listed}
use Rattle.gq_phase.specs.Quorums.{collect_quorum, store_quorum, ends_collect, ends_store}

-- ---- operations and their rounds

-- what a session was asked to do; a listing reads so many files of its volume
pub data Task : Type 0 where
  Writing : (file : File) (bytes : List ℕ) → Task
  Reading : (file : File) → Task
  Listing : (volume files : ℕ) → Task

-- what a server answered
pub record Reply : Type 0 where
  pub server : ℕ
  pub body : Body

-- an operation in its round. What was heard in the round, and the copy of each file that was
-- collected since the operation began, stand in order; floor is the session's own last number
pub record Operation : Type 0 where
  pub session : ℕ
  pub op : ℕ
  pub task : Task
  pub round : ℕ
  pub heard : List Reply
  pub collected : List StoredCopy
  pub floor : ℕ

-- an operation of a session as it begins
abbrev pub begun : (session op : ℕ) → Task → ℕ → Operation
begun session op task floor = record { session = session; op = op; task = task; round = 1; heard = []; collected = []; floor = floor }

-- odd rounds collect, even rounds store
abbrev pub is_collect : ℕ → Bool
is_collect round = round % 2 == 1

-- the file of the round
abbrev pub round_file : Task → ℕ → File
round_file (Writing file bytes) round = file
round_file (Reading file) round = file
round_file (Listing volume files) round = record { volume = volume; place = (round - 1) / 2 }

-- the copy that a store round stores: the last one collected
abbrev pub stored_copy : List StoredCopy → StoredCopy
stored_copy collected = unwrap_or (last_or None collected) first_copy

-- what the round's message says
abbrev pub round_body : ℕ → List StoredCopy → Body
round_body round collected = if is_collect round then Ask else Store (stored_copy collected)

-- the servers of the round's quorum
abbrev pub round_quorum : Grid → Servers → ℕ → Option Servers
round_quorum grid up round = if is_collect round then collect_quorum grid up else store_quorum grid up

-- the round's message to each server of the set, rising
abbrev pub messages_to : Grid → Operation → Servers → List OwnMessage
messages_to grid o set =
    map (λ server. record { session = o.session; op = o.op; round = o.round; server = server; file = round_file o.task o.round; body = round_body o.round o.collected }) (rising grid set)

-- to the servers of the round's quorum, none where no quorum is up
abbrev pub round_messages : Grid → Servers → Operation → List OwnMessage
round_messages grid up o = sent (round_quorum grid up o.round)
  where
    sent : Option Servers → List OwnMessage
    sent None = []
    sent (Some set) = messages_to grid o set

-- ---- what was heard

abbrev pub heard_servers : List Reply → Servers
heard_servers heard server = list_any (λ reply. reply.server == server) heard

abbrev pub heard_copies : List Reply → List StoredCopy
heard_copies heard = filter_map (λ reply. copy reply.body) heard
  where
    copy : Body → Option StoredCopy
    copy Ask = None
    copy (Copy c) = Some c
    copy (Store c) = None
    copy Stored = None

-- two copies, two bodies, two replies are the same
abbrev pub equal_copies : StoredCopy → StoredCopy → Bool
equal_copies a b = equal_tags a.tag b.tag && bytes_eq a.bytes b.bytes

abbrev pub equal_bodies : Body → Body → Bool
equal_bodies Ask Ask = true
equal_bodies (Copy a) (Copy b) = equal_copies a b
equal_bodies (Store a) (Store b) = equal_copies a b
equal_bodies Stored Stored = true
equal_bodies _ _ = false

abbrev pub equal_replies : Reply → Reply → Bool
equal_replies a b = (a.server == b.server) && equal_bodies a.body b.body

-- what was heard, without repeats, after one more reply
abbrev pub hear_reply : List Reply → Reply → List Reply
hear_reply heard reply = if list_any (equal_replies reply) heard then heard else heard ++ reply ∷ []

-- whether the servers heard end the round
abbrev pub ends_round : Grid → ℕ → List Reply → Bool
ends_round grid round heard =
    if is_collect round then ends_collect grid (heard_servers heard) else ends_store grid (heard_servers heard)

-- the copy that a collect round ends with: of a read or a listing the greatest that was heard,
-- of a write its content under a number above all that were heard and above the session's last
abbrev pub decided_copy : Operation → StoredCopy
decided_copy o = by o.task
  where
    by : Task → StoredCopy
    by (Reading file) = greatest (heard_copies o.heard)
    by (Listing volume files) = greatest (heard_copies o.heard)
    by (Writing file bytes) =
        record { tag = record { number = max (greatest (heard_copies o.heard)).tag.number o.floor + 1; session = o.session }; bytes = bytes }

-- ---- what is said to a reply

pub data Heard : Type 0 where
  -- it is not of the operation's round
  HeardStale : Heard
  -- it was noted, and the round goes on
  HeardNoted : Heard
  -- this round begins, of this tag where it stores, and sends these messages
  HeardNext : (round : ℕ) (tag : Option Tag) (messages : List OwnMessage) → Heard
  HeardDone : (outcome : Outcome) → Heard

-- a new round of the operation
abbrev pub in_round : Operation → ℕ → Operation
in_round o round = record { session = o.session; op = o.op; task = o.task; round = round; heard = []; collected = o.collected; floor = o.floor }

-- the store round of the last copy collected
abbrev pub begin_store : Grid → Servers → Operation → Heard
begin_store grid up o =
    let next : Operation = in_round o (2 * length o.collected) in
    HeardNext next.round (Some (stored_copy o.collected).tag) (round_messages grid up next)

-- the collect round of the first file that was not collected yet
abbrev pub begin_collect : Grid → Servers → Operation → Heard
begin_collect grid up o =
    let next : Operation = in_round o (2 * length o.collected + 1) in
    HeardNext next.round None (round_messages grid up next)

-- a file of a listing: its length in bytes, and its tag
abbrev pub listed_row : StoredCopy → Row
listed_row copy = record { length = length copy.bytes; tag = copy.tag }

-- after the last round of a file: the operation is done, or a listing goes on with its next file
abbrev pub file_done : Grid → Servers → Operation → Heard
file_done grid up o = by o.task
  where
    more : Bool → Heard
    more true = begin_collect grid up o
    more false = HeardDone (Listed o.session o.op (map listed_row o.collected))

    by : Task → Heard
    by (Writing file bytes) = HeardDone (Wrote o.session o.op (stored_copy o.collected).tag)
    by (Reading file) = HeardDone (Gave o.session o.op (stored_copy o.collected))
    by (Listing volume files) = more (nat_lt (length o.collected) files)

-- the operation with the copy that its collect round ends with
abbrev pub with_decided : Operation → Operation
with_decided o =
    record { session = o.session; op = o.op; task = o.task; round = o.round; heard = o.heard; collected = o.collected ++ decided_copy o ∷ []; floor = o.floor }

-- whether a body tells a copy of the tag
abbrev pub has_tag : Tag → Body → Bool
has_tag tag (Copy copy) = equal_tags copy.tag tag
has_tag tag _ = false

-- the servers that told a copy of the tag
abbrev pub givers : Tag → List Reply → Servers
givers tag heard = heard_servers (filter (λ reply. has_tag tag reply.body) heard)

-- whether the file's store round is left out, where a collect round ended with the last copy collected: a read or a
-- listing needs none where the servers that told this copy's tag would end it
abbrev pub skips_store : Grid → Operation → Bool
skips_store grid o = by o.task
  where
    by : Task → Bool
    by (Writing file bytes) = false
    by (Reading file) = ends_store grid (givers (stored_copy o.collected).tag o.heard)
    by (Listing volume files) = ends_store grid (givers (stored_copy o.collected).tag o.heard)

-- a collect round has ended, and its copy is the last one collected
abbrev pub collect_done : Grid → Servers → Operation → Heard
collect_done grid up o = by (skips_store grid o)
  where
    by : Bool → Heard
    by true = file_done grid up o
    by false = begin_store grid up o

-- the round ends
abbrev pub round_done : Grid → Servers → Operation → Heard
round_done grid up o = by (is_collect o.round)
  where
    by : Bool → Heard
    by true = collect_done grid up (with_decided o)
    by false = file_done grid up o

-- whether a message to the session is of its operation and round
abbrev pub is_current : Operation → OwnMessage → Bool
is_current o message = (message.op == o.op) && (message.round == o.round)

abbrev pub reply_of : OwnMessage → Reply
reply_of message = record { server = message.server; body = message.body }

-- the operation with one more reply
abbrev pub with_reply : Operation → OwnMessage → Operation
with_reply o message =
    record { session = o.session; op = o.op; task = o.task; round = o.round; heard = hear_reply o.heard (reply_of message); collected = o.collected; floor = o.floor }

-- what the operation says to a reply that it has just noted
abbrev pub hear_current : Grid → Servers → Operation → Heard
hear_current grid up o = by (ends_round grid o.round o.heard)
  where
    by : Bool → Heard
    by false = HeardNoted
    by true = round_done grid up o

-- what the operation says to a message of its session
abbrev pub hear : Grid → Servers → Operation → OwnMessage → Heard
hear grid up o message = by (is_current o message)
  where
    by : Bool → Heard
    by false = HeardStale
    by true = hear_current grid up (with_reply o message)

-- the round's message once more, to each server of a new quorum that was not heard
abbrev pub resent : Grid → Operation → Servers → List OwnMessage
resent grid o quorum = messages_to grid o (λ server. quorum server && not (heard_servers o.heard server))

-- ---- where the operation then stands

-- the copies decided after a message that ends a round
abbrev pub collected_after : Operation → OwnMessage → List StoredCopy
collected_after o m = if is_collect o.round then o.collected ++ decided_copy (with_reply o m) ∷ [] else o.collected

-- the session's last number after a round of that tag began: a write's is its new tag's
abbrev pub floor_after : Task → Option Tag → ℕ → ℕ
floor_after (Writing file bytes) (Some tag) floor = tag.number
floor_after _ _ floor = floor

-- the operation in the round that a message began
abbrev pub moved : Operation → OwnMessage → ℕ → Option Tag → Operation
moved o m round tag =
    record { session = o.session; op = o.op; task = o.task; round = round; heard = []; collected = collected_after o m; floor = floor_after o.task tag o.floor }
