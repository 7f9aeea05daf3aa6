-- One tenant at all nodes, of which some are lost and replaced, as their steps have it; and that this is a run of the law of such nodes.
use Rattle.std.specs.Prelude.{◌≡◌, ℕ, ◌*◌, ◌<◌, ◌≤◌, length, List, [], ◌∷◌, ◌++◌, Bool, true, false, ◌==◌, ◌&&◌, ◌||◌, not, Option, Some, None, is_some, Contains, ⊤, map, take, fold, if◌then◌else◌}
use Rattle.gq_tag.specs.Tag.{File, OwnMessage, to_server}
use Rattle.gq_grid.specs.Grid.{Grid}
use Rattle.gq_desk.specs.declared.plans.TenantRow.{TenantRow}
use Rattle.gq_desk.specs.declared.volumes.VolumeRow.{VolumeRow}
use Rattle.gq_desk.specs.Volumes.{open_fault, account_with}
use Rattle.gq_model.specs.Told.{Told}
use Rattle.gq_model.specs.Lone.{is_refusal}
use Rattle.gq_model.specs.Trace.{Session, limit_at}
use Rattle.gq_cluster.specs.Cluster.{Setting, Part, Act, everyone, copy_in, step_of, session_named}
use Rattle.gq_cluster.specs.Facts.{OwnFact}
use Rattle.gq_replace.specs.Fleet.{World, Fleet, Posted, Fetched as HasFetched, FleetStep, Begins, StartsAgain, Does, Answers, Hears, Gives, Takes, new_fleet, after_fleet_step, AllMayHappen, all_node_steps}
use Rattle.gq_replace.specs.Laws.{world_of, HomesStand, IsRight, Follows as FleetFollows}
use Rattle.gq_cluster.specs.Laws.{setting_of, StepsEnough}
use Rattle.gq_replace.specs.Keeping.{files_of_part}
use Rattle.gq_replace.specs.Plans.{Plan, IsChain, place_of, node_at, has_node as plan_has, is_replaced, most_places}
use Rattle.gq_node.specs.declared.output.Answer.{Answer}
use Rattle.gq_node.specs.declared.output.Answer.TheVariants.{Has}
use Rattle.gq_node.specs.declared.shorts.ShortBody.{ShortBody}
use Rattle.gq_node.specs.declared.shorts.ShortBody.TheVariants.{Want}
use Rattle.gq_node.specs.Bridge.{setting_in, request_act, request_answer, letter_act, short_act, short_tell, tick_act}
use Rattle.gq_node.specs.Inputs.{Input, Asked, AskedPlan, AskedLook, Brought, Shortened, Ticked, Joined, Fetching, Fetched, does}
use Rattle.gq_node.specs.Joining.{tells_joined, all_joined, is_peer, has_file}
use Rattle.gq_node.specs.Looked.{look_answer}
use Rattle.gq_node.specs.Local.{Local, Doing, Transfer, Wants, Brings, new_local, part_in, state_of, file_fits, silently, answer_of, holding}
use Rattle.gq_node.specs.Resting.{FirstPlan, begun_local, recall_all}
use Rattle.gq_node.specs.Shorts.{letter_with}
use Rattle.gq_node.specs.Sites.{Site, is_new, has_node}
use Rattle.gq_tag.specs.declared.Body.TheVariants.{Store}

-- ---- the nodes

-- the tenant's run at the nodes of a grid with its plans; and what each plan says to the tenant beside: how many sessions it has, which these are, and
-- the place of the first one's home
pub record NodeWorld : Type 0 where
  pub world : World
  pub sessions : (plan : ℕ) → ℕ
  pub is_of_plan : (plan k : ℕ) → Bool
  pub first_home : (plan : ℕ) → ℕ

-- the node with that plan, as the tenant sees it
abbrev pub site_in : NodeWorld → (plan node : ℕ) → Site
site_in w plan n = record {
  grid = w.world.setting.grid;
  here = n;
  place = place_of n;
  row = w.world.setting.row;
  sessions = w.sessions plan;
  is_of_plan = w.is_of_plan plan;
  home = w.world.setting.home;
  first_home = w.first_home plan;
  node_at = node_at (w.world.plans plan);
  losses = length (w.world.plans plan).lost;
}

-- the volumes that the plan opens: the first ones of the run
abbrev pub plan_volumes : NodeWorld → (plan : ℕ) → List VolumeRow
plan_volumes w plan = take (w.world.plans plan).volumes w.world.setting.volumes

-- a node's answer to a new one, that its plan has it, and so many losses; and a question for a node's copy of a file
pub record Word : Type 0 where
  pub from : ℕ
  pub to : ℕ
  pub losses : ℕ

pub record Question : Type 0 where
  pub from : ℕ
  pub to : ℕ
  pub file : File

-- of each node whether it was started, with which plan first and last, what it has of the tenant, and the facts that it gave; which new nodes were ever told
-- by all others of their plan that these have it, and which nodes are gone since; and what was written, in order
pub record Nodes : Type 0 where
  pub begun : ℕ → Bool
  pub first_plan : ℕ → ℕ
  pub last_plan : ℕ → ℕ
  pub local : ℕ → Local
  pub facts : ℕ → List OwnFact
  pub ready : ℕ → Bool
  pub gone : ℕ → Bool
  pub posted : List Posted
  pub joined : List Word
  pub wanted : List Question
  pub fetched : List HasFetched

abbrev pub new_nodes : NodeWorld → Nodes
new_nodes w = record {
  begun = λ n. false;
  first_plan = λ n. 0;
  last_plan = λ n. 0;
  local = λ n. new_local w.world.setting.grid (place_of n) [];
  facts = λ n. [];
  ready = λ n. false;
  gone = λ n. false;
  posted = [];
  joined = [];
  wanted = [];
  fetched = [];
}

-- the node's site, by the plan that it was started with last
abbrev pub site_at : NodeWorld → Nodes → ℕ → Site
site_at w nodes n = site_in w (nodes.last_plan n) n

-- ---- what comes to a node

pub data Event : Type 0 where
  -- it is started, for the first time or again, with that plan
  Started : (node plan : ℕ) → Event
  -- that comes for the tenant
  Came : (node : ℕ) (input : Input) → Event
  -- a new node asks whether its plan has that one, and so many losses or more
  AskedToJoin : (node from losses : ℕ) → Event

abbrev pub node_in : Event → ℕ
node_in (Started n plan) = n
node_in (Came n input) = n
node_in (AskedToJoin n from losses) = n

-- what a new node takes from a plan
abbrev pub first_plan_in : Plan → FirstPlan
first_plan_in plan = record { volumes = plan.volumes; losses = length plan.lost }

-- a start: the part of a node with the plan that it was started with first reads these facts, in order
abbrev pub started : NodeWorld → (first plan n : ℕ) → List OwnFact → Local
started w first plan n facts = recall_all (site_in w plan n) (begun_local (site_in w plan n) (plan_volumes w plan) (first_plan_in (w.world.plans first))) facts

-- what the node has done so far is the first plan's, if it was started before
abbrev pub first_of : Nodes → (n plan : ℕ) → ℕ
first_of nodes n plan = if nodes.begun n then nodes.first_plan n else plan

abbrev pub after_start : NodeWorld → Nodes → (n plan : ℕ) → Nodes
after_start w nodes n plan = record nodes {
  begun = λ m. if m == n then true else nodes.begun m;
  first_plan = λ m. if m == n then first_of nodes n plan else nodes.first_plan m;
  last_plan = λ m. if m == n then plan else nodes.last_plan m;
  local = λ m. if m == n then started w (first_of nodes n plan) plan n (nodes.facts n) else nodes.local m;
}

-- where a letter that the node writes goes to
abbrev pub address : NodeWorld → Nodes → ℕ → OwnMessage → ℕ
address w nodes n letter = if to_server letter.body then (site_at w nodes n).node_at letter.server else w.world.setting.home letter.session

abbrev pub posts : NodeWorld → Nodes → ℕ → List OwnMessage → List Posted
posts w nodes n letters = map (λ letter. record { from = n; to = address w nodes n letter; letter = letter }) letters

abbrev pub fact_list : Option OwnFact → List OwnFact
fact_list None = []
fact_list (Some fact) = fact ∷ []

abbrev pub questions_in : ℕ → Option Transfer → List Question
questions_in n (Some (Wants to file)) = record { from = n; to = to; file = file } ∷ []
questions_in n _ = []

abbrev pub copies_in : ℕ → Option Transfer → List HasFetched
copies_in n (Some (Brings to file copy)) = record { peer = n; node = to; file = file; copy = copy } ∷ []
copies_in n _ = []

abbrev pub after_doing : NodeWorld → Nodes → ℕ → Doing → Nodes
after_doing w nodes n doing = record nodes {
  local = λ m. if m == n then doing.local else nodes.local m;
  facts = λ m. if m == n then nodes.facts m ++ fact_list doing.fact else nodes.facts m;
  posted = nodes.posted ++ posts w nodes n doing.letters;
  wanted = nodes.wanted ++ questions_in n doing.transfer;
  fetched = nodes.fetched ++ copies_in n doing.transfer;
}

-- whether the node takes the word of that one
abbrev pub takes_word : Site → (from losses : ℕ) → Bool
takes_word site from losses = is_new site && has_node site from && losses == site.losses

-- a new node was told by all others of its plan: it is ready from then on, and the nodes that its plan says are replaced are gone
abbrev pub with_ready : NodeWorld → Nodes → ℕ → Nodes
with_ready w nodes n = record nodes {
  ready = λ m. (m == n) || nodes.ready m;
  gone = λ m. is_replaced (w.world.plans (nodes.last_plan n)) m || nodes.gone m;
}

abbrev pub after_word : NodeWorld → Nodes → (n from losses : ℕ) → Nodes → Nodes
after_word w nodes n from losses after =
    if takes_word (site_at w nodes n) from losses && (not (nodes.ready n) && all_joined (site_at w nodes n) (after.local n).joined) then with_ready w after n else after

-- what the node does by it; at a start it tells and sends nothing, and so where it is asked whether its plan has a node
abbrev pub doing_of : NodeWorld → Nodes → Event → Doing
doing_of w nodes (Started n plan) = silently (started w (first_of nodes n plan) plan n (nodes.facts n))
doing_of w nodes (Came n input) = does input (site_at w nodes n) (nodes.local n)
doing_of w nodes (AskedToJoin n from losses) = silently (nodes.local n)

abbrev pub after_input : NodeWorld → Nodes → ℕ → Input → Nodes
after_input w nodes n (Joined from losses) = after_word w nodes n from losses (after_doing w nodes n (does (Joined from losses) (site_at w nodes n) (nodes.local n)))
after_input w nodes n input = after_doing w nodes n (does input (site_at w nodes n) (nodes.local n))

abbrev pub after_event : NodeWorld → Nodes → Event → Nodes
after_event w nodes (Started n plan) = after_start w nodes n plan
after_event w nodes (Came n input) = after_input w nodes n input
after_event w nodes (AskedToJoin n from losses) =
    if tells_joined from losses (site_at w nodes n) then record nodes { joined = nodes.joined ++ record { from = n; to = from; losses = losses } ∷ [] } else nodes

abbrev pub nodes_after : NodeWorld → Nodes → List Event → Nodes
nodes_after w nodes events = fold (after_event w) nodes events

-- ---- what may come

-- the letter that a short one stands for was written, whole or short; that a server wants a store stands for none
abbrev pub StoodFor : Nodes → (n from : ℕ) → ShortBody → OwnMessage → Type 0
StoodFor nodes n from Want letter = ⊤
StoodFor nodes n from _ letter = Contains nodes.posted (record { from = from; to = n; letter = letter })

-- what comes from another node was written to this one
abbrev pub WasWritten : Nodes → (n : ℕ) → Input → Type 0
WasWritten nodes n (Shortened from short bytes) = StoodFor nodes n from short.body (letter_with bytes short)
WasWritten nodes n (Brought from letter) = Contains nodes.posted (record { from = from; to = n; letter = letter })
WasWritten nodes n (Joined from losses) = Contains nodes.joined (record { from = from; to = n; losses = losses })
WasWritten nodes n (Fetching from file) = Contains nodes.wanted (record { from = from; to = n; file = file })
WasWritten nodes n (Fetched from file copy) = Contains nodes.fetched (record { peer = from; node = n; file = file; copy = copy })
WasWritten nodes n _ = ⊤

-- A node that is gone takes no step. Any other may be started with a plan that has it, again with the same one or a later one; what comes to it was
-- written before, and it was started. Each may come late, and again.
abbrev pub CanCome : NodeWorld → Nodes → Event → Type 0
CanCome w nodes (Started n plan) = (nodes.gone n ≡ false) × (plan_has (w.world.plans plan) n ≡ true) × (nodes.begun n ≡ true → nodes.last_plan n ≤ plan)
CanCome w nodes (Came n input) = (nodes.begun n ≡ true) × (nodes.gone n ≡ false) × WasWritten nodes n input
CanCome w nodes (AskedToJoin n from losses) = (nodes.begun n ≡ true) × (nodes.gone n ≡ false)

abbrev pub AllCanCome : NodeWorld → Nodes → List Event → Type 0
AllCanCome w nodes [] = ⊤
AllCanCome w nodes (event ∷ events) = CanCome w nodes event × AllCanCome w (after_event w nodes event) events

-- a session that a plan has each later plan has that has its home
abbrev pub SessionsStay : NodeWorld → Type 0
SessionsStay w = (p q k : ℕ) → p ≤ q → plan_has (w.world.plans q) (w.world.setting.home k) ≡ true → w.is_of_plan p k ≡ true → w.is_of_plan q k ≡ true

-- ---- the steps of the law

-- the act is one of the law where the node does not refuse it; what it refuses, as of a volume that its plan does not have, is no step
abbrev pub accepted : Site → Local → Option Act → Option Act
accepted site local None = None
accepted site local (Some act) = if is_refusal (step_of (setting_in site local) (part_in local) act).told then None else Some act

-- the act of what comes, if it is one
abbrev pub act_of : Input → Site → Local → Option Act
act_of (Asked op line) site local = accepted site local (request_act op line site local)
act_of (Brought from letter) site local = letter_act from letter site local
act_of (Shortened from short bytes) site local = accepted site local (short_act from short bytes site local)
act_of (Ticked session) site local = accepted site local (tick_act session site local)
act_of _ site local = None

abbrev pub does_step : ℕ → Option Act → List FleetStep
does_step n None = []
does_step n (Some act) = Does n act ∷ []

abbrev pub input_steps : Site → Local → ℕ → Input → List FleetStep
input_steps site local n (Joined from losses) = if takes_word site from losses then Hears n from ∷ [] else []
input_steps site local n (Fetching from file) = if is_peer site from && has_file local file then Gives n from file ∷ [] else []
input_steps site local n (Fetched from file copy) =
    if is_peer site from && local.lacks file && file_fits (limit_at (state_of everyone local) file.volume file.place) (Store copy) then Takes n from file copy ∷ [] else []
input_steps site local n input = does_step n (act_of input site local)

abbrev pub steps_of : NodeWorld → Nodes → Event → List FleetStep
steps_of w nodes (Started n plan) = (if nodes.begun n then StartsAgain n plan else Begins n plan) ∷ []
steps_of w nodes (Came n input) = input_steps (site_at w nodes n) (nodes.local n) n input
steps_of w nodes (AskedToJoin n from losses) = if tells_joined from losses (site_at w nodes n) then Answers n from ∷ [] else []

abbrev pub all_steps : NodeWorld → Nodes → List Event → List FleetStep
all_steps w nodes [] = []
all_steps w nodes (event ∷ events) = steps_of w nodes event ++ all_steps w (after_event w nodes event) events

abbrev pub fleet_behind : NodeWorld → Fleet → List FleetStep → Fleet
fleet_behind w u steps = fold (after_fleet_step w.world) u steps

-- ---- the nodes and the law's

-- the two sessions have the same last number of an operation, and the same own last number; they have the same operation, or none has one
pub record SessionAlike (a b : Session) : Type 0 where
  pub op : a.op ≡ b.op
  pub floor : a.floor ≡ b.floor
  pub current : a.current ≡ b.current
  pub going : is_some b.current ≡ true → a ≡ b

-- the two parts of node n have the same copies, and lack the same files, and are alike in the sessions whose home it is, for which the same numbers are
-- reserved
pub record PartAlike (home : ℕ → ℕ) (n : ℕ) (p q : Part) : Type 0 where
  pub copies : (file : File) → copy_in p file ≡ copy_in q file
  pub lacks : (file : File) → p.lacks file ≡ q.lacks file
  pub reserved : (k : ℕ) → home k ≡ n → p.reserved k ≡ q.reserved k
  pub sessions : (k : ℕ) → home k ≡ n → SessionAlike (p.session k) (q.session k)

-- the law has of each node what the node has, and the same was written; whom a node was told of, it has at their places
pub record IsAlike (w : NodeWorld) (nodes : Nodes) (u : Fleet) : Type 0 where
  pub begun : (n : ℕ) → nodes.begun n ≡ u.begun n
  pub first_plan : (n : ℕ) → nodes.begun n ≡ true → nodes.first_plan n ≡ u.first_plan n
  pub last_plan : (n : ℕ) → nodes.begun n ≡ true → nodes.last_plan n ≡ u.last_plan n
  pub parts : (n : ℕ) → nodes.begun n ≡ true → PartAlike w.world.setting.home n (part_in (nodes.local n)) (u.part n)
  pub told : (n place : ℕ) → nodes.begun n ≡ true → place < w.world.setting.grid.rows * w.world.setting.grid.cols →
      (nodes.local n).joined place ≡ u.heard n ((site_at w nodes n).node_at place)
  pub ready : (n : ℕ) → nodes.ready n ≡ u.ready n
  pub gone : (n : ℕ) → nodes.gone n ≡ u.gone n
  pub posted : nodes.posted ≡ u.posted
  pub joined : map (λ (word : Word). record { from = word.from; to = word.to }) nodes.joined ≡ u.joined
  pub fetched : nodes.fetched ≡ u.fetched

-- what the tenant is told where the law tells its session this
abbrev pub answer_in : Local → Input → Told → Option Answer
answer_in local (Asked op line) told = answer_of (session_named line) op (local.residents (session_named line)).session.op told
answer_in local (Brought from m) told = answer_of m.session (local.residents m.session).session.op (local.residents m.session).session.op told
answer_in local (Shortened from short bytes) told = short_tell short.body short.session (local.residents short.session).session.op told
answer_in local _ told = None

-- what a node tells by itself: by the number of a request alone, or what refuses it; what the tenant has, or what the server has of a volume
abbrev pub refusal_answer : Site → Local → Option Act → Option Answer → (Told → Option Answer) → Option Answer
refusal_answer site local None own tell = own
refusal_answer site local (Some act) own tell = tell (step_of (setting_in site local) (part_in local) act).told

abbrev pub own_answer : Site → Local → Input → Option Answer
own_answer site local (Asked op line) = refusal_answer site local (request_act op line site local) (request_answer op line site local) (answer_in local (Asked op line))
own_answer site local (Ticked session) = refusal_answer site local (tick_act session site local) None (λ told. None)
own_answer site local (Shortened from short bytes) = refusal_answer site local (short_act from short bytes site local) None (answer_in local (Shortened from short bytes))
own_answer site local AskedPlan = Some (Has (holding site local.volumes))
own_answer site local (AskedLook mark volume) = Some (look_answer mark volume site local)
own_answer site local _ = None

-- an act: what is told is the law's answer to it, made the node's by `tell`, and what is sent is the law's
pub record IsSaid (u : Fleet) (s : Setting) (n : ℕ) (tell : Told → Option Answer) (doing : Doing) (act : Act) : Type 0 where
  pub told : doing.answer ≡ tell (step_of s (u.part n) act).told
  pub letters : doing.letters ≡ (step_of s (u.part n) act).new

-- what is no act: the node tells this by itself, and sends nothing
pub record IsOwn (own : Option Answer) (doing : Doing) : Type 0 where
  pub told : doing.answer ≡ own
  pub letters : doing.letters ≡ []

abbrev pub SaidBy : Setting → Fleet → (n : ℕ) → Option Act → Option Answer → (Told → Option Answer) → Doing → Type 0
SaidBy s u n None own tell doing = IsOwn own doing
SaidBy s u n (Some act) own tell doing = IsSaid u s n tell doing act

abbrev pub EventSaid : NodeWorld → Nodes → Fleet → Event → Type 0
EventSaid w nodes u (Started n plan) = IsOwn None (doing_of w nodes (Started n plan))
EventSaid w nodes u (Came n input) =
    SaidBy w.world.setting u n (act_of input (site_at w nodes n) (nodes.local n)) (own_answer (site_at w nodes n) (nodes.local n) input) (answer_in (nodes.local n) input) (doing_of w nodes (Came n input))
EventSaid w nodes u (AskedToJoin n from losses) = IsOwn None (doing_of w nodes (AskedToJoin n from losses))

abbrev pub AllSaid : NodeWorld → Nodes → Fleet → List Event → Type 0
AllSaid w nodes u [] = ⊤
AllSaid w nodes u (event ∷ events) = EventSaid w nodes u event × AllSaid w (after_event w nodes event) (fleet_behind w u (steps_of w nodes event)) events

-- a node that starts has the same copies, and lacks the same files; the same numbers are reserved; each session goes on behind these; and none has an
-- operation
pub record KnowsAgain (start local : Local) : Type 0 where
  pub files : files_of_part (part_in start) ≡ files_of_part (part_in local)
  pub ops : (k : ℕ) → (start.residents k).session.op ≡ (local.residents k).reserved.op
  pub floors : (k : ℕ) → (start.residents k).session.floor ≡ (local.residents k).reserved.floor
  pub idle : (k : ℕ) → (start.residents k).session.current ≡ None

-- so it is at each node that was started, if it starts with this plan, which has it, or a later one, by the facts that it gave
abbrev pub AllKnowAgain : NodeWorld → Nodes → Type 0
AllKnowAgain w nodes = (n plan : ℕ) → nodes.begun n ≡ true → nodes.last_plan n ≤ plan → plan_has (w.world.plans plan) n ≡ true →
    KnowsAgain (started w (nodes.first_plan n) plan n (nodes.facts n)) (nodes.local n)

-- the events are steps of the law, which may happen one behind the other; the same is told and sent; and in the end all is alike
pub record Follows (w : NodeWorld) (nodes : Nodes) (u : Fleet) (events : List Event) : Type 0 where
  pub may : AllMayHappen w.world u (all_steps w nodes events)
  pub said : AllSaid w nodes u events
  pub alike : IsAlike w (nodes_after w nodes events) (fleet_behind w u (all_steps w nodes events))
  pub again : AllKnowAgain w (nodes_after w nodes events)

-- so it is whatever comes to nodes that were never started
abbrev pub AllNodesFollow : Type 0
AllNodesFollow = (w : NodeWorld) (events : List Event) → IsChain w.world.plans → SessionsStay w → 1 < w.world.setting.grid.rows * w.world.setting.grid.cols →
    w.world.setting.grid.rows * w.world.setting.grid.cols ≤ most_places → AllCanCome w (new_nodes w) events → Follows w (new_nodes w) new_fleet events

-- ---- a run of the service

-- the tenant's run at the nodes of these plans
abbrev pub nodes_of : Grid → TenantRow → (home : ℕ → ℕ) → (opens : List VolumeRow) → (plans : ℕ → Plan) → (sessions : ℕ → ℕ) → (is_of_plan : ℕ → ℕ → Bool) → (first_home : ℕ → ℕ) → NodeWorld
nodes_of grid row home opens plans sessions is_of_plan first_home = record { world = world_of grid row home opens plans; sessions = sessions; is_of_plan = is_of_plan; first_home = first_home }

-- whatever comes to the nodes is served in the model, where it gives the tenant steps enough: what is told and sent is what is told and sent in the cluster, and each file is one register
abbrev pub AllNodesServe : Type 0
AllNodesServe = (grid : Grid) (row : TenantRow) (home : ℕ → ℕ) (opens : List VolumeRow) (plans : ℕ → Plan) (sessions : ℕ → ℕ) (is_of_plan : ℕ → ℕ → Bool) (first_home : ℕ → ℕ) (events : List Event) →
    let w : NodeWorld = nodes_of grid row home opens plans sessions is_of_plan first_home in
    let steps : List FleetStep = all_steps w (new_nodes w) events in
    HomesStand grid home → IsChain plans → SessionsStay w → 1 < grid.rows * grid.cols → grid.rows * grid.cols ≤ most_places → AllCanCome w (new_nodes w) events →
    StepsEnough row opens (all_node_steps w.world new_fleet steps) → FleetFollows w.world steps × IsRight grid row home opens (all_node_steps w.world new_fleet steps)

-- each of the volumes may be opened behind those before it
abbrev pub AllOpen : TenantRow → (before opens : List VolumeRow) → Type 0
AllOpen row before [] = ⊤
AllOpen row before (v ∷ opens) = (open_fault (account_with row before) v ≡ None) × AllOpen row (before ++ v ∷ []) opens

-- then these are the volumes of the run
abbrev pub AllVolumesOpen : Type 0
AllVolumesOpen = (grid : Grid) (row : TenantRow) (home : ℕ → ℕ) (opens : List VolumeRow) → AllOpen row [] opens → length opens ≤ row.steps → (setting_of grid row home opens).volumes ≡ opens
