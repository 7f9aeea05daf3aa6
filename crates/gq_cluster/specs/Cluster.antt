-- One tenant at many nodes. A *node* is one server of the grid, and the *home* of some of the tenant's sessions. What it has
-- of the tenant is its *part*. It knows nothing else, so what it tells and sends is what the model says of the part alone.
--
-- The words: a *letter* is a message that a node wrote, on its way to another node or to itself. An *act* is one thing that a
-- node does, by a line of a session or by a letter that comes; its *aim* is whom the node then takes to be up, whoever is. A
-- *cluster* is the parts of all nodes with the letters that they wrote. A *node step* is an act, or a restart of a node, or a node reserves
-- numbers of tags for its sessions, or what becomes of a server's disk: it is lost, with the copies of some files, which the server then
-- *lacks*; and for a file it is given a copy again by another server of its column, a *peer*. An *exchange* is what came to a session or to a
-- server, with what was told and sent.
use Rattle.std.specs.Prelude.{◌≡◌, ℕ, List, [], ◌∷◌, ◌++◌, Bool, true, false, ◌==◌, ◌&&◌, ◌||◌, not, nat_lt, max, Option, Some, None, is_some, Contains, ⊤, map, filter, fold, if◌then◌else◌}
use Rattle.std.specs.List.{range_with_len}
use Rattle.gq_grid.specs.Grid.{Grid, Servers}
use Rattle.gq_tag.specs.declared.StoredCopy.{StoredCopy}
use Rattle.gq_tag.specs.Tag.{File, is_file, OwnMessage, first_copy, greatest, to_server}
use Rattle.gq_desk.specs.declared.plans.TenantRow.{TenantRow}
use Rattle.gq_desk.specs.declared.volumes.VolumeRow.{VolumeRow}
use Rattle.gq_phase.specs.Quorums.{are_peers}
use Rattle.gq_model.specs.declared.events.Line.{Line}
use Rattle.gq_model.specs.declared.events.Line.TheVariants.{Write, Read, List as ListFiles, Deliver, Retry, Abandon}
use Rattle.gq_model.specs.declared.said.Said.{Said}
use Rattle.gq_model.specs.Said.{said_in}
use Rattle.gq_model.specs.Trace.{Own, Entry, State, Session, Leaps, new_session, session_by, changed, is_awaited}
use Rattle.gq_model.specs.Lone.{Step, asked_step, deliver_step, is_refusal}
use Rattle.gq_desk.specs.Plans.{is_in}
use Rattle.gq_cluster.specs.Facts.{OwnFact, Reserved, none_reserved, reserving, with_reserved, replaced_in}

-- ---- one node

-- what a node has of the tenant: of each file the copies that came to its server, in order, and whether the server lacks it; the sessions
-- whose home the node is; and the numbers that are reserved for each of these
pub record Part : Type 0 where
  pub brought : File → List StoredCopy
  pub lacks : File → Bool
  pub session : ℕ → Session
  pub reserved : ℕ → Reserved

abbrev pub new_part : Part
new_part = record { brought = λ file. []; lacks = λ file. false; session = λ k. new_session; reserved = λ k. none_reserved }

-- the copy of the file that the node's server holds
abbrev pub copy_in : Part → File → StoredCopy
copy_in part file = greatest (first_copy ∷ part.brought file)

-- the part as the model's state: those of the aim are up, no message was sent, and each server has the node's copies, and lacks the files
-- that the node's lacks; of these an act looks at its own server's alone
abbrev pub state_of : List VolumeRow → Servers → Part → State
state_of volumes aim part =
    record { up = aim; gone = λ server. false; volumes = volumes; sent = []; is_lost = λ n. false; lacks = λ server. part.lacks; brought = λ server. part.brought; offered = λ server file peer. []; session = part.session }

-- node n's part of a state, with what is reserved for its sessions
abbrev pub part_of : ℕ → (ℕ → Reserved) → State → Part
part_of n reserved state = record { brought = state.brought n; lacks = state.lacks n; session = state.session; reserved = reserved }

-- one thing that a node does
pub data Act : Type 0 where
  -- a line of a session comes to its home, or the home lets the session retry
  Asks : (line : Line) (aim : Servers) → Act
  -- a letter comes to the node of its server, or to the home of its session
  Comes : (letter : OwnMessage) (aim : Servers) → Act

-- all servers
abbrev pub everyone : Servers
everyone server = true

-- whom the node takes to be up; a server that serves a letter looks at nobody else, and is up itself
abbrev pub aim_of : Act → Servers
aim_of (Asks line aim) = aim
aim_of (Comes letter aim) = if to_server letter.body then everyone else aim

-- what is told and sent by an act, in this state; as none was sent before, the first message that an act sends has the number 0
abbrev pub act_step : Grid → TenantRow → State → Act → Step
act_step grid row state (Asks line aim) = asked_step grid row state line
act_step grid row state (Comes letter aim) = deliver_step grid state (Some letter)

-- the act as an entry of the model's trace; nothing looks at the number of a letter there
abbrev pub act_entry : Act → Step → Entry
act_entry (Asks line aim) step = record { turn = Own line; message = None; told = step.told; new = step.new }
act_entry (Comes letter aim) step = record { turn = Own (Deliver 0); message = Some letter; told = step.told; new = step.new }

-- whose run it is: the grid, the tenant's row, the home of each session, and the volumes
pub record Setting : Type 0 where
  pub grid : Grid
  pub row : TenantRow
  pub home : ℕ → ℕ
  pub volumes : List VolumeRow

-- a node's step: what a node that has this part tells and sends by the act
abbrev pub step_of : Setting → Part → Act → Step
step_of s part act = act_step s.grid s.row (state_of s.volumes (aim_of act) part) act

-- the session that a line of a session names
abbrev pub session_named : Line → ℕ
session_named (Write k v f bytes) = k
session_named (Read k v f) = k
session_named (ListFiles k v) = k
session_named (Retry k) = k
session_named (Abandon k) = k
session_named _ = 0

-- the answers to the model's questions behind the act, where it is not refused
abbrev pub state_after : Setting → Part → Act → State
state_after s part act = changed (act_entry act (step_of s part act)) (state_of s.volumes (aim_of act) part)

-- the fact that session k gives by the act
abbrev pub fact_in : Setting → Part → Act → ℕ → Option OwnFact
fact_in s part act k = reserving k (part.reserved k) (step_of s part act).told ((state_after s part act).session k).floor

-- the fact of an act, if it has one: a number is used that was not reserved, or a copy is replaced, at a server that has the file
abbrev pub fact_of : Setting → Part → Act → Option OwnFact
fact_of s part (Asks line aim) = fact_in s part (Asks line aim) (session_named line)
fact_of s part (Comes letter aim) =
    if to_server letter.body then (if part.lacks letter.file then None else replaced_in (copy_in part letter.file) letter.file letter.body)
    else fact_in s part (Comes letter aim) letter.session

-- node n's part after the act; a refusal changes nothing
abbrev pub part_after : Setting → ℕ → Part → Act → Part
part_after s n part act =
    if is_refusal (step_of s part act).told then part
    else part_of n (with_reserved (fact_of s part act) part.reserved) (state_after s part act)

-- ---- all nodes

-- the parts of all nodes, and the letters that they wrote, in order; and what servers could give to others: of a file the copies that
-- the peer has held since the server lost its own, while the peer had the file
pub record Cluster : Type 0 where
  pub part : ℕ → Part
  pub written : List OwnMessage
  pub offered : (server : ℕ) → File → (peer : ℕ) → List StoredCopy

-- all nodes as they start first
abbrev pub new_cluster : Cluster
new_cluster = record { part = λ n. new_part; written = []; offered = λ server file peer. [] }

-- what could be given before, and what these parts hold now
abbrev pub with_held : (ℕ → Part) → (ℕ → File → ℕ → List StoredCopy) → ℕ → File → ℕ → List StoredCopy
with_held parts before server file peer = before server file peer ++ (if (parts peer).lacks file then [] else copy_in (parts peer) file ∷ [])

-- the node at which the act is done
abbrev pub node_of : (ℕ → ℕ) → Act → ℕ
node_of home (Asks line aim) = home (session_named line)
node_of home (Comes letter aim) = if to_server letter.body then letter.server else home letter.session

-- what that node tells, and the letters that it writes
abbrev pub step_in : Setting → Cluster → Act → Step
step_in s c act = step_of s (c.part (node_of s.home act)) act

-- the parts after the act: that of its node goes on, all others stay
abbrev pub parts_after : Setting → Cluster → Act → ℕ → Part
parts_after s c act n = if n == node_of s.home act then part_after s n (c.part n) act else c.part n

-- the cluster after an act; by a refusal nobody has anything more to give
abbrev pub after_act : Setting → Cluster → Act → Cluster
after_act s c act = record { part = parts_after s c act; written = c.written ++ (step_in s c act).new; offered = if is_refusal (step_in s c act).told then c.offered else with_held (parts_after s c act) c.offered }

abbrev pub after_acts : Setting → Cluster → List Act → Cluster
after_acts s c acts = fold (after_act s) c acts

-- ---- node steps

pub data NodeStep : Type 0 where
  Acts : (act : Act) → NodeStep
  -- the node starts again: what its sessions did not do is given up, and they go on behind the numbers that are reserved for them
  Restarts : (node : ℕ) → NodeStep
  -- for each session of the node the numbers of tags up to this one are reserved, as a new node does before it restarts for the first time
  Reserves : (node number : ℕ) → NodeStep
  -- the server's disk is lost: it lacks the files of the first volumes, so many, from then on
  Loses : (server volumes : ℕ) → NodeStep
  -- the server is given this copy of the file by the peer, and has the file again
  Returns : (server : ℕ) (file : File) (peer : ℕ) (copy : StoredCopy) → NodeStep

-- the node's sessions that have an operation
abbrev pub going_at : Setting → Cluster → ℕ → List ℕ
going_at s c node = filter (λ k. (s.home k == node) && is_some ((c.part node).session k).current) (range_with_len 1 s.row.sessions)

abbrev pub gives_up : ℕ → Act
gives_up k = Asks (Abandon k) everyone

-- the acts of a node step; a restart is first an abandonment of each operation that the node's sessions have
abbrev pub acts_of : Setting → Cluster → NodeStep → List Act
acts_of s c (Acts act) = act ∷ []
acts_of s c (Restarts node) = map gives_up (going_at s c node)
acts_of s c (Reserves node number) = []
acts_of s c (Loses server volumes) = []
acts_of s c (Returns server file peer copy) = []

-- session k at the node, as the model has it, passes over all numbers that are reserved for it
abbrev pub leapt_session : Setting → (node : ℕ) → Part → ℕ → Session
leapt_session s node part k =
    if (s.home k == node) && is_in 1 s.row.sessions k then session_by s.volumes k (Leaps (part.reserved k).op (part.reserved k).floor) (part.session k)
    else part.session k

abbrev pub leapt_part : Setting → (node : ℕ) → Part → Part
leapt_part s node part = record part { session = leapt_session s node part }

-- so do all sessions of the node
abbrev pub leapt : Setting → (node : ℕ) → Cluster → Cluster
leapt s node c = record c { part = λ n. if n == node then leapt_part s node (c.part n) else c.part n }

-- for session k at the node so many numbers of tags are reserved, or more; what is reserved for others stays
abbrev pub reserved_to : Setting → (node number : ℕ) → Part → ℕ → Reserved
reserved_to s node number part k =
    if (s.home k == node) && is_in 1 s.row.sessions k then record (part.reserved k) { floor = max (part.reserved k).floor number } else part.reserved k

abbrev pub reserving_part : Setting → (node number : ℕ) → Part → Part
reserving_part s node number part = record part { reserved = reserved_to s node number part }

abbrev pub with_numbers : Setting → (node number : ℕ) → Cluster → Cluster
with_numbers s node number c = record c { part = λ n. if n == node then reserving_part s node number (c.part n) else c.part n }

-- the file is one of the first volumes
abbrev pub is_within : (volumes : ℕ) → File → Bool
is_within volumes file = nat_lt file.volume volumes

-- the part whose server's copies of these files are lost; and the part whose server is given the copy of the file
abbrev pub lost_part : (volumes : ℕ) → Part → Part
lost_part volumes part =
    record part { brought = λ f. if is_within volumes f then [] else part.brought f; lacks = λ f. is_within volumes f || part.lacks f }

abbrev pub given_part : File → StoredCopy → Part → Part
given_part file copy part =
    record part { brought = λ f. if is_file file f then copy ∷ [] else part.brought f; lacks = λ f. part.lacks f && not (is_file file f) }

-- the parts in which that of the server is changed so
abbrev pub parts_with : (server : ℕ) → (Part → Part) → (ℕ → Part) → ℕ → Part
parts_with server change parts n = if server == n then change (parts n) else parts n

-- what could be given to others, but no more to the server of these files
abbrev pub forgetting : (server volumes : ℕ) → (ℕ → File → ℕ → List StoredCopy) → ℕ → File → ℕ → List StoredCopy
forgetting server volumes before to file peer = if server == to && is_within volumes file then [] else before to file peer

abbrev pub with_loss : (server volumes : ℕ) → Cluster → Cluster
with_loss server volumes c =
    let parts : ℕ → Part = parts_with server (lost_part volumes) c.part in
    record { part = parts; written = c.written; offered = with_held parts (forgetting server volumes c.offered) }

abbrev pub with_return : (server : ℕ) → File → StoredCopy → Cluster → Cluster
with_return server file copy c =
    let parts : ℕ → Part = parts_with server (given_part file copy) c.part in
    record { part = parts; written = c.written; offered = with_held parts c.offered }

-- what a node step does behind its acts
abbrev pub behind_acts : Setting → NodeStep → Cluster → Cluster
behind_acts s (Acts act) c = c
behind_acts s (Restarts node) c = leapt s node c
behind_acts s (Reserves node number) c = with_numbers s node number c
behind_acts s (Loses server volumes) c = with_loss server volumes c
behind_acts s (Returns server file peer copy) c = with_return server file copy c

abbrev pub after_step : Setting → Cluster → NodeStep → Cluster
after_step s c step = behind_acts s step (after_acts s c (acts_of s c step))

abbrev pub cluster_after : Setting → List NodeStep → Cluster
cluster_after s steps = fold (after_step s) new_cluster steps

-- ---- what may happen

-- a write, a read, a listing, a retry or an abandonment
abbrev pub IsOfSession : Line → Type 0
IsOfSession (Write k v f bytes) = ⊤
IsOfSession (Read k v f) = ⊤
IsOfSession (ListFiles k v) = ⊤
IsOfSession (Retry k) = ⊤
IsOfSession (Abandon k) = ⊤
IsOfSession _ = ⊥

-- a line of a session may come at any time, and so may each letter that was written before, as often as it likes
abbrev pub CanAct : Cluster → Act → Type 0
CanAct c (Asks line aim) = IsOfSession line
CanAct c (Comes letter aim) = Contains c.written letter

-- no operation that goes on counts on a letter of the server about one of these files: such a letter of its round was not written
abbrev pub NoneCounts : Setting → Cluster → (server volumes : ℕ) → Type 0
NoneCounts s c server volumes =
    (letter : OwnMessage) → Contains c.written letter → to_server letter.body ≡ false → letter.server ≡ server → is_within volumes letter.file ≡ true →
    is_awaited ((c.part (s.home letter.session)).session letter.session) letter ≡ false

-- what a peer gives to a server that lacks the file is a copy that it held since the loss, while it had the file
abbrev pub CanHappen : Setting → Cluster → NodeStep → Type 0
CanHappen s c (Acts act) = CanAct c act
CanHappen s c (Restarts node) = ⊤
CanHappen s c (Reserves node number) = ⊤
CanHappen s c (Loses server volumes) = NoneCounts s c server volumes
CanHappen s c (Returns server file peer copy) = ((c.part server).lacks file ≡ true) × (are_peers s.grid server peer ≡ true) × Contains (c.offered server file peer) copy

-- each of the steps may happen when it does, the first of them in this cluster
abbrev pub CanFollow : Setting → Cluster → List NodeStep → Type 0
CanFollow s c [] = ⊤
CanFollow s c (step ∷ steps) = CanHappen s c step × CanFollow s (after_step s c step) steps

-- ---- what was done

-- what came to a session or to a server
pub data Arrival : Type 0 where
  LineCame : (line : Line) → Arrival
  LetterCame : (letter : OwnMessage) → Arrival

-- what came, what was told, the numbers of messages apart, and what was sent
pub record Exchange : Type 0 where
  pub came : Arrival
  pub said : Option Said
  pub new : List OwnMessage

abbrev pub arrival_of : Act → Arrival
arrival_of (Asks line aim) = LineCame line
arrival_of (Comes letter aim) = LetterCame letter

abbrev pub exchange_of : Act → Step → Exchange
exchange_of act step = record { came = arrival_of act; said = said_in step.told; new = step.new }

-- the exchanges of acts, in order
abbrev pub exchanges_of : Setting → Cluster → List Act → List Exchange
exchanges_of s c [] = []
exchanges_of s c (act ∷ acts) = exchange_of act (step_in s c act) ∷ exchanges_of s (after_act s c act) acts

-- and of node steps; what is said at a restart, nobody is told
abbrev pub exchanges : Setting → Cluster → List NodeStep → List Exchange
exchanges s c [] = []
exchanges s c (step ∷ steps) = exchanges_of s c (acts_of s c step) ++ exchanges s (after_step s c step) steps
