-- One tenant at nodes of which some are lost, and replaced by new ones.
--
-- What a node does with a line or a letter is as in a cluster, by its own part. Here is what is more: each node has a plan, and writes asks and
-- stores to the nodes of its plan. A new node has none of the files of the volumes that its first plan has. All other nodes of its plan have to
-- tell it that theirs has it; once all of them did, it is *ready*, and the nodes that its plan says are replaced are *gone*. Then, file by file,
-- a node of its column gives it a copy.
--
-- Nothing here keeps a node that is gone from acting, and no node looks at who sends it a letter: that one which is gone takes no step is a premise
-- (*MayHappen*). Requests that a node refuses by itself, as of a volume that its plan does not have, and letters that it passes over, are no steps.
use Rattle.std.specs.Prelude.{◌≡◌, ℕ, ◌*◌, ◌<◌, ◌≤◌, List, [], ◌∷◌, ◌++◌, length, Bool, true, false, ◌==◌, ◌&&◌, ◌||◌, not, nat_lt, Contains, ⊤, map, filter, fold, if◌then◌else◌}
use Rattle.std.specs.List.{range_with_len, list_all}
use Rattle.gq_tag.specs.declared.StoredCopy.{StoredCopy}
use Rattle.gq_tag.specs.Tag.{File, OwnMessage, to_server}
use Rattle.gq_desk.specs.Plans.{is_in}
use Rattle.gq_phase.specs.Quorums.{are_peers}
use Rattle.gq_model.specs.Trace.{Session, new_session}
use Rattle.gq_cluster.specs.Facts.{Reserved}
use Rattle.gq_cluster.specs.Restarts.{begun_anew}
use Rattle.gq_cluster.specs.Cluster.{Setting, Part, Act, Asks, Comes, NodeStep, Acts, Restarts, Reserves, Loses, Returns, new_part, copy_in, is_within, given_part, session_named, IsOfSession, step_of, part_after}
use Rattle.gq_replace.specs.Plans.{Plan, place_of, generation, node_at, has_node, is_replaced, base}

-- ---- the state

-- whose run it is, where the home of a session is a node; and the plans of its grid
pub record World : Type 0 where
  pub setting : Setting
  pub plans : ℕ → Plan

-- a letter, and the nodes that it goes from and to
pub record Posted : Type 0 where
  pub from : ℕ
  pub to : ℕ
  pub letter : OwnMessage

-- a node's answer to a new one: its plan has it
pub record Joined : Type 0 where
  pub from : ℕ
  pub to : ℕ

-- an answer to a fetch: the peer's copy of the file
pub record Fetched : Type 0 where
  pub peer : ℕ
  pub node : ℕ
  pub file : File
  pub copy : StoredCopy

-- all nodes that ever were, and what they wrote
pub record Fleet : Type 0 where
  -- the node was started; the number of the plan that it was started with first, and of the one that it was started with last
  pub begun : (node : ℕ) → Bool
  pub first_plan : (node : ℕ) → ℕ
  pub last_plan : (node : ℕ) → ℕ
  pub part : (node : ℕ) → Part
  -- whom a new node heard since its start, and whether these were ever all others of its plan. It need not know that they were: one that hears
  -- them all again behind a start does less than it may
  pub heard : (node other : ℕ) → Bool
  pub ready : (node : ℕ) → Bool
  pub gone : (node : ℕ) → Bool
  pub posted : List Posted
  pub joined : List Joined
  pub fetched : List Fetched

abbrev pub new_fleet : Fleet
new_fleet = record {
  begun = λ node. false;
  first_plan = λ node. 0;
  last_plan = λ node. 0;
  part = λ node. new_part;
  heard = λ node other. false;
  ready = λ node. false;
  gone = λ node. false;
  posted = [];
  joined = [];
  fetched = [];
}

-- the plan that the node has
abbrev pub plan_of : World → Fleet → (node : ℕ) → Plan
plan_of w u node = w.plans (u.last_plan node)

-- the node was started, and is not gone
abbrev pub IsActing : Fleet → (node : ℕ) → Type 0
IsActing u node = (u.begun node ≡ true) × (u.gone node ≡ false)

-- the node's plan has the file's volume, and the node the file
abbrev pub has_file : World → Fleet → (node : ℕ) → File → Bool
has_file w u node file = u.begun node && nat_lt file.volume (plan_of w u node).volumes && not ((u.part node).lacks file)

-- ---- steps

pub data FleetStep : Type 0 where
  -- the node is started for the first time, with that plan
  Begins : (node plan : ℕ) → FleetStep
  -- it is started again, with that plan
  StartsAgain : (node plan : ℕ) → FleetStep
  -- a line or a letter comes to the node
  Does : (node : ℕ) (act : Act) → FleetStep
  -- the node tells the new one that its plan has it
  Answers : (node new : ℕ) → FleetStep
  -- that comes to the new one
  Hears : (node other : ℕ) → FleetStep
  -- the peer tells the new node its copy of the file
  Gives : (peer node : ℕ) (file : File) → FleetStep
  -- that comes to the new one
  Takes : (node peer : ℕ) (file : File) (copy : StoredCopy) → FleetStep

-- ---- starts

-- a session whose home is the node goes on behind the numbers that are reserved for it, without an operation
abbrev pub session_again : World → (node : ℕ) → Part → ℕ → Session
session_again w node part k =
    if (w.setting.home k == node) && is_in 1 w.setting.row.sessions k then begun_anew (part.reserved k) (part.session k) else part.session k

abbrev pub part_again : World → (node : ℕ) → Part → Part
part_again w node part = record part { session = session_again w node part }

-- where the tags of the node's sessions begin, by its first plan; so much is reserved for each of them, and for no other
abbrev pub first_number : World → (node plan : ℕ) → ℕ
first_number w node plan = base node (length (w.plans plan).lost)

abbrev pub first_floor : World → (node plan : ℕ) → ℕ → ℕ
first_floor w node plan k = if (w.setting.home k == node) && is_in 1 w.setting.row.sessions k then first_number w node plan else 0

abbrev pub first_reserved : World → (node plan : ℕ) → ℕ → Reserved
first_reserved w node plan k = record { op = 0; floor = first_floor w node plan k }

-- of the files of its first plan a new node has none; its sessions begin behind what is reserved for them
abbrev pub first_part : World → (node plan : ℕ) → Part
first_part w node plan = record {
  brought = λ file. [];
  lacks = λ file. nat_lt 0 (generation node) && is_within (w.plans plan).volumes file;
  session = λ k. begun_anew (first_reserved w node plan k) new_session;
  reserved = first_reserved w node plan;
}

abbrev pub starts_with : World → (node plan : ℕ) → Part → Fleet → Fleet
starts_with w node plan part u = record u {
  begun = λ n. if n == node then true else u.begun n;
  last_plan = λ n. if n == node then plan else u.last_plan n;
  part = λ n. if n == node then part else u.part n;
  heard = λ n other. not (n == node) && u.heard n other;
}

abbrev pub begins : World → (node plan : ℕ) → Fleet → Fleet
begins w node plan u = record (starts_with w node plan (first_part w node plan) u) { first_plan = λ n. if n == node then plan else u.first_plan n }

abbrev pub starts_again : World → (node plan : ℕ) → Fleet → Fleet
starts_again w node plan u = starts_with w node plan (part_again w node (u.part node)) u

-- ---- lines and letters

-- where the node writes a letter to
abbrev pub address : World → Fleet → (node : ℕ) → OwnMessage → ℕ
address w u node letter = if to_server letter.body then node_at (plan_of w u node) letter.server else w.setting.home letter.session

abbrev pub posts : World → Fleet → (node : ℕ) → List OwnMessage → List Posted
posts w u node letters = map (λ letter. record { from = node; to = address w u node letter; letter = letter }) letters

abbrev pub does : World → (node : ℕ) → Act → Fleet → Fleet
does w node act u = record u {
  part = λ n. if n == node then part_after w.setting (place_of node) (u.part node) act else u.part n;
  posted = u.posted ++ posts w u node (step_of w.setting (u.part node) act).new;
}

-- ---- what a new node hears

abbrev pub with_heard : (node other : ℕ) → Fleet → Fleet
with_heard node other u = record u { heard = λ n m. ((n == node) && (m == other)) || u.heard n m }

-- the node heard all others of its plan
abbrev pub heard_all : World → Fleet → (node : ℕ) → Bool
heard_all w u node = list_all (λ place. (place == place_of node) || u.heard node (node_at (plan_of w u node) place)) (range_with_len 0 (w.setting.grid.rows * w.setting.grid.cols))

-- with this one it has heard all, for the first time
abbrev pub is_ready_by : World → (node other : ℕ) → Fleet → Bool
is_ready_by w node other u = not (u.ready node) && heard_all w (with_heard node other u) node

abbrev pub with_ready : World → (node : ℕ) → Fleet → Fleet
with_ready w node u = record u {
  ready = λ n. (n == node) || u.ready n;
  gone = λ n. is_replaced (plan_of w u node) n || u.gone n;
}

abbrev pub hears : World → (node other : ℕ) → Fleet → Fleet
hears w node other u = if is_ready_by w node other u then with_ready w node (with_heard node other u) else with_heard node other u

-- ---- and is given

abbrev pub gives : (peer node : ℕ) → File → Fleet → Fleet
gives peer node file u = record u { fetched = u.fetched ++ record { peer = peer; node = node; file = file; copy = copy_in (u.part peer) file } ∷ [] }

abbrev pub takes : (node : ℕ) → File → StoredCopy → Fleet → Fleet
takes node file copy u = record u { part = λ n. if n == node then given_part file copy (u.part node) else u.part n }

-- ---- after a step

abbrev pub after_fleet_step : World → Fleet → FleetStep → Fleet
after_fleet_step w u (Begins node plan) = begins w node plan u
after_fleet_step w u (StartsAgain node plan) = starts_again w node plan u
after_fleet_step w u (Does node act) = does w node act u
after_fleet_step w u (Answers node new) = record u { joined = u.joined ++ record { from = node; to = new } ∷ [] }
after_fleet_step w u (Hears node other) = hears w node other u
after_fleet_step w u (Gives peer node file) = gives peer node file u
after_fleet_step w u (Takes node peer file copy) = takes node file copy u

abbrev pub fleet_after : World → List FleetStep → Fleet
fleet_after w steps = fold (after_fleet_step w) new_fleet steps

-- ---- what may happen

-- a letter to a server comes from the home of its session, to a node at the server's place that has the file
pub record MayServe (w : World) (u : Fleet) (from node : ℕ) (letter : OwnMessage) : Type 0 where
  pub place : place_of node ≡ letter.server
  pub home : w.setting.home letter.session ≡ from
  pub has : has_file w u node letter.file ≡ true

abbrev pub MayCome : World → Fleet → (from node : ℕ) → OwnMessage → Type 0
MayCome w u from node letter = by (to_server letter.body)
  where
    by : Bool → Type 0
    by true = MayServe w u from node letter
    by false = w.setting.home letter.session ≡ node

-- a line of a session comes to its home; a letter that was posted comes where it goes to, as often as it likes
abbrev pub MayDo : World → Fleet → (node : ℕ) → Act → Type 0
MayDo w u node (Asks line aim) = IsOfSession line × (w.setting.home (session_named line) ≡ node)
MayDo w u node (Comes letter aim) = (from : ℕ) × Contains u.posted (record { from = from; to = node; letter = letter }) × MayCome w u from node letter

-- A node that is gone does nothing any more. Any other may be started once for the first time, and again with the same plan or a later one, if the
-- plan has it; may answer a new node that its plan has; and give its copy of a file to a node of its column which is ready. Each may come late, and
-- again.
abbrev pub MayHappen : World → Fleet → FleetStep → Type 0
MayHappen w u (Begins node plan) = (u.begun node ≡ false) × (u.gone node ≡ false) × (has_node (w.plans plan) node ≡ true)
MayHappen w u (StartsAgain node plan) = IsActing u node × (u.last_plan node ≤ plan) × (has_node (w.plans plan) node ≡ true)
MayHappen w u (Does node act) = IsActing u node × MayDo w u node act
MayHappen w u (Answers node new) = IsActing u node × (has_node (plan_of w u node) new ≡ true)
MayHappen w u (Hears node other) = IsActing u node × (0 < generation node) × Contains u.joined (record { from = other; to = node })
MayHappen w u (Gives peer node file) = IsActing u peer × (has_file w u peer file ≡ true) × (are_peers w.setting.grid (place_of node) (place_of peer) ≡ true) × (u.ready node ≡ true)
MayHappen w u (Takes node peer file copy) = IsActing u node × ((u.part node).lacks file ≡ true) × Contains u.fetched (record { peer = peer; node = node; file = file; copy = copy })

abbrev pub AllMayHappen : World → Fleet → List FleetStep → Type 0
AllMayHappen w u [] = ⊤
AllMayHappen w u (step ∷ steps) = MayHappen w u step × AllMayHappen w (after_fleet_step w u step) steps

-- ---- the steps of the law of clusters

-- What sessions of nodes that are replaced were doing is given up, as by a start of their home: such a node is gone, and does nothing with it any
-- more. A home is named once for each of its sessions.
abbrev pub ends_of_gone : World → Plan → List NodeStep
ends_of_gone w plan = map Restarts (filter (is_replaced plan) (map w.setting.home (range_with_len 1 w.setting.row.sessions)))

-- In the cluster a place has the copies of one node at a time. A new node takes the place over once it is ready: that is the loss. Each copy that
-- it takes is a return. What a node begins with is reserved first, and then its sessions go behind it, as at any start.
abbrev pub node_steps : World → Fleet → FleetStep → List NodeStep
node_steps w u (Begins node plan) = Reserves node (first_number w node plan) ∷ Restarts node ∷ []
node_steps w u (StartsAgain node plan) = Restarts node ∷ []
node_steps w u (Does node act) = Acts act ∷ []
node_steps w u (Answers node new) = []
node_steps w u (Hears node other) = if is_ready_by w node other u then ends_of_gone w (plan_of w u node) ++ Loses (place_of node) (w.plans (u.first_plan node)).volumes ∷ [] else []
node_steps w u (Gives peer node file) = []
node_steps w u (Takes node peer file copy) = Returns (place_of node) file (place_of peer) copy ∷ []

abbrev pub all_node_steps : World → Fleet → List FleetStep → List NodeStep
all_node_steps w u [] = []
all_node_steps w u (step ∷ steps) = node_steps w u step ++ all_node_steps w (after_fleet_step w u step) steps
