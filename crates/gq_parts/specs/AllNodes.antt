-- All nodes of a grid, as lines come to them and as they start, with plans by which nodes are lost and replaced and volumes are opened.
use Rattle.std.specs.Prelude.{◌≡◌, ◌≢◌, ℕ, ◌+◌, ◌*◌, ◌<◌, ◌≤◌, List, [], ◌∷◌, ◌++◌, Bool, true, false, length, map, take, ⊤, All, if◌then◌else◌}
use Rattle.gq_desk.specs.CheckedPlan.{CheckedPlan, row_at}
use Rattle.gq_desk.specs.declared.plans.TenantRow.{TenantRow}
use Rattle.gq_desk.specs.declared.volumes.VolumeRow.{VolumeRow}
use Rattle.gq_text.specs.Canonical.{IsPlan}
use Rattle.gq_keeper.specs.Runs.{Did}
use Rattle.gq_keeper.specs.Starting.{RecallsAll}
use Rattle.gq_cluster.specs.Cluster.{NodeStep}
use Rattle.gq_replace.specs.Fleet.{FleetStep, new_fleet, all_node_steps}
use Rattle.gq_replace.specs.Laws.{IsRight, Follows as FleetFollows}
use Rattle.gq_replace.specs.Plans.{Plan, IsChain, has_node as plan_has}
use Rattle.gq_node.specs.declared.lost.TheConstants.{MOST_NUMBERS}
use Rattle.gq_node.specs.Nodes.{NodeWorld, Nodes, Event, Came, AskedToJoin, Started, site_at, new_nodes, nodes_after, all_steps, CanCome, Follows, AllOpen}
use Rattle.gq_cluster.specs.Facts.{OwnFact}
use Rattle.gq_facts.specs.Laws.{FitsFact}
use Rattle.gq_node.specs.declared.output.Fact.{Fact}
use Rattle.gq_node.specs.Local.{Local}
use Rattle.gq_node.specs.Resting.{FirstPlan, those_of, recall_all, begun_local, Needed}
use Rattle.gq_node.specs.Inputs.{Input}
use Rattle.gq_node.specs.Sites.{Here, Site, site_of, plan_in, numbered, home_of, home_place, is_of_plan}
use Rattle.gq_parts.specs.Alike.{AreAlike}
use Rattle.gq_node.specs.Tables.{Tables, Agrees}
use Rattle.gq_wire.specs.declared.incoming.Incoming.{Incoming}
use Rattle.gq_wire.specs.declared.incoming.Incoming.TheVariants.{Joins}
use Rattle.gq_wire.specs.Incoming.{incoming_of}
use Rattle.gq_parts.specs.Within.{within, taken}
use Rattle.gq_parts.specs.Inputs.{inputs_with, line_inputs_with}
use Rattle.gq_parts.specs.Texts.{written_by, parts_after, line_text_of}
use Rattle.gq_parts.specs.Recalls.{RecallsTo, facts_said}
use Rattle.gq_parts.specs.Resting.{IsNewNode}
use Rattle.gq_parts.specs.Steps.{StepsTo, fact_lines}

-- ---- the plans of a grid

-- The plans, from the first on: the grid and its tenants are those of all, and so are the volumes that a tenant ever has, in order. Each plan says which
-- nodes were lost, and how many of a tenant's volumes it opens.
pub record GridPlans : Type 0 where
  pub plan : CheckedPlan
  pub opens : (t : ℕ) → List VolumeRow
  pub lost : (p : ℕ) → List ℕ
  pub count : (p t : ℕ) → ℕ

-- the node of this number with plan p; the tenant's volumes in that plan
abbrev pub here_in : GridPlans → (p n : ℕ) → Here
here_in g p n = record { node = n; lost = g.lost p }

abbrev pub volumes_in : GridPlans → (p t : ℕ) → List VolumeRow
volumes_in g p t = take (g.count p t) (g.opens t)

-- what a new node takes from plan p, for the tenant at place t
abbrev pub first_in : GridPlans → (p t : ℕ) → FirstPlan
first_in g p t = record { volumes = g.count p t; losses = length (g.lost p) }

-- what the plans say, as the law of nodes has it
abbrev pub plans_of : GridPlans → (t : ℕ) → ℕ → Plan
plans_of g t p = record { lost = g.lost p; volumes = g.count p t }

-- the tenant at place t, as the law has it, with this row and these volumes; and with its own
abbrev pub world_with : GridPlans → (t : ℕ) → TenantRow → List VolumeRow → NodeWorld
world_with g t row volumes = record {
  world = record { setting = record { grid = g.plan.grid; row = row; home = home_of g.plan t; volumes = volumes }; plans = plans_of g t };
  sessions = λ p. (row_at g.plan t).sessions;
  is_of_plan = λ p k. is_of_plan g.plan (here_in g p 0) t k;
  first_home = λ p. home_place g.plan t 0;
}

abbrev pub world_at : GridPlans → (t : ℕ) → NodeWorld
world_at g t = world_with g t (numbered (row_at g.plan t)) (g.opens t)

-- the plan has the node
abbrev pub HasNode : GridPlans → (p n : ℕ) → Type 0
HasNode g p n = plan_has (plan_in (g.lost p)) n ≡ true

-- The plan is sound, and of a grid of two servers or more, since nobody could give a copy to the only one. No plan takes back what an earlier one says,
-- and each opens volumes that there are.
pub record AreSound (g : GridPlans) : Type 0 where
  pub plan : IsPlan g.plan
  pub servers : 1 < g.plan.grid.rows * g.plan.grid.cols
  pub chain : (t : ℕ) → IsChain (plans_of g t)
  pub opened : (p t : ℕ) → g.count p t ≤ length (g.opens t)

-- ---- the nodes

-- of each node whether it was started, the plan with which its journal begins and the one that it was started with last, its tables, and the lines of the
-- facts in its journal, in order
pub record AllNodes : Type 0 where
  pub begun : ℕ → Bool
  pub first_plan : ℕ → ℕ
  pub last_plan : ℕ → ℕ
  pub tables : ℕ → Tables
  pub kept : ℕ → List (List ℕ)

-- none was ever started
abbrev pub AllNew : AllNodes → Type 0
AllNew nodes = (n : ℕ) → (nodes.begun n ≡ false) × (nodes.kept n ≡ [])

-- ---- what happens

pub data Happening : Type 0 where
  -- A line came to the node, which was started with plan p, gave these lines of facts and told this. If it brought a letter in a short form, the copy
  -- that this stands for has this content.
  Took : (node p : ℕ) (bytes : List ℕ) (did : Did) → Happening
  -- the node is started, for the first time or again, with plan p
  Starts : (node p : ℕ) → Happening
  -- the node's journal is written anew: with the plan that it was started with last, and these facts
  Renews : (node : ℕ) (facts : List Fact) → Happening

-- the node
abbrev pub node_in : Happening → ℕ
node_in (Took n p bytes did) = n
node_in (Starts n p) = n
node_in (Renews n facts) = n

-- A start: a node that was never started reads these lines. If it is a new one, it lacks the volumes of the plan with which its journal begins, and its
-- sessions begin where this says.
pub record StartsBy (g : GridPlans) (first p n : ℕ) (kept : List (List ℕ)) (new : Tables) : Type 0 where
  pub blank : Tables
  pub is_new : IsNewNode g.plan (here_in g p n) (volumes_in g p) (first_in g first) blank
  pub reads : RecallsAll RecallsTo blank kept new

-- the plan with which its journal begins
abbrev pub first_of : AllNodes → (n p : ℕ) → ℕ
first_of nodes n p = if nodes.begun n then nodes.first_plan n else p

-- the node is started from then on, with these plans
pub record IsStarted (n first p : ℕ) (new : AllNodes) : Type 0 where
  pub begun : new.begun n ≡ true
  pub first_plan : new.first_plan n ≡ first
  pub last_plan : new.last_plan n ≡ p

-- what the node does: it takes a step, and its facts are kept; or it starts by what it kept, with a plan that has it, and with no earlier one than before;
-- or its journal is written anew, with the facts that a start needs
pub record TakesStep (n p : ℕ) (did : Did) (old new : AllNodes) : Type 0 where
  pub begun : old.begun n ≡ true
  pub plan : old.last_plan n ≡ p
  pub step : StepsTo (old.tables n) did.line did.facts did.told (new.tables n)
  pub kept : new.kept n ≡ old.kept n ++ did.facts
  pub still : IsStarted n (old.first_plan n) p new

pub record TakesStart (g : GridPlans) (n p : ℕ) (old new : AllNodes) : Type 0 where
  pub has : HasNode g p n
  pub later : old.begun n ≡ true → old.last_plan n ≤ p
  pub starts : StartsBy g (first_of old n p) p n (old.kept n) (new.tables n)
  pub kept : new.kept n ≡ old.kept n
  pub started : IsStarted n (first_of old n p) p new

pub record TakesNewJournal (n : ℕ) (facts : List Fact) (old new : AllNodes) : Type 0 where
  pub begun : old.begun n ≡ true
  pub needed : Needed (old.tables n) facts
  pub fit : All (FitsFact (old.tables n).plan) facts
  pub kept : new.kept n ≡ fact_lines (old.tables n).plan facts
  pub tables : new.tables n ≡ old.tables n
  pub still : IsStarted n (old.last_plan n) (old.last_plan n) new

abbrev pub GoesBy : GridPlans → Happening → (old new : AllNodes) → Type 0
GoesBy g (Took n p bytes did) old new = TakesStep n p did old new
GoesBy g (Starts n p) old new = TakesStart g n p old new
GoesBy g (Renews n facts) old new = TakesNewJournal n facts old new

-- a node stays as it is
pub record Stays (m : ℕ) (old new : AllNodes) : Type 0 where
  pub begun : new.begun m ≡ old.begun m
  pub first_plan : new.first_plan m ≡ old.first_plan m
  pub last_plan : new.last_plan m ≡ old.last_plan m
  pub tables : new.tables m ≡ old.tables m
  pub kept : new.kept m ≡ old.kept m

-- the node goes on; all others stay
pub record Happens (g : GridPlans) (old : AllNodes) (h : Happening) (new : AllNodes) : Type 0 where
  pub others : (m : ℕ) → m ≢ node_in h → Stays m old new
  pub goes : GoesBy g h old new

abbrev pub AllHappen : GridPlans → AllNodes → List Happening → AllNodes → Type 0
AllHappen g first [] last = first ≡ last
AllHappen g first (h ∷ hs) last = (next : AllNodes) × Happens g first h next × AllHappen g next hs last

-- ---- of one tenant

-- What comes to the node, as events of the tenant at place t, where the nodes are these: what comes from outside, each with what is taken within
-- behind it.
abbrev pub came_events : GridPlans → (p n : ℕ) → (bytes : List ℕ) → (t : ℕ) → Nodes → Incoming → List Event
came_events g p n bytes t nodes (Joins from losses) = AskedToJoin n from losses ∷ []
came_events g p n bytes t nodes incoming = map (λ input. Came n input) (taken (site_at (world_at g t) nodes n) (nodes.local n) (inputs_with bytes g.plan (here_in g p n) incoming t))

abbrev pub events_of : GridPlans → (t : ℕ) → Nodes → Happening → List Event
events_of g t nodes (Took n p bytes did) = came_events g p n bytes t nodes (incoming_of g.plan n did.line)
events_of g t nodes (Starts n p) = Started n p ∷ []
events_of g t nodes (Renews n facts) = []

-- of all happenings, from these nodes on, as the law has them
abbrev pub events_from : GridPlans → (t : ℕ) → Nodes → List Happening → List Event
events_from g t nodes [] = []
events_from g t nodes (h ∷ hs) = events_of g t nodes h ++ events_from g t (nodes_after (world_at g t) nodes (events_of g t nodes h)) hs

abbrev pub all_events : GridPlans → (t : ℕ) → List Happening → List Event
all_events g t hs = events_from g t (new_nodes (world_at g t)) hs

-- what all nodes have of it after that, by the law of nodes
abbrev pub nodes_at : GridPlans → List Happening → (t : ℕ) → Nodes
nodes_at g hs t = nodes_after (world_at g t) (new_nodes (world_at g t)) (all_events g t hs)

-- ---- what may come by lines

-- Of what comes to the node from outside each may come, where what is taken within behind it was taken. Nothing is asked of that: the node itself wrote
-- it, in the same step. So a letter in a short form can come where it was written, whole or in that form, with the content that its copy then had.
abbrev pub InputsCanCome : NodeWorld → (n : ℕ) → Nodes → List Input → Type 0
InputsCanCome w n nodes [] = ⊤
InputsCanCome w n nodes (input ∷ rest) =
    CanCome w nodes (Came n input) × InputsCanCome w n (nodes_after w nodes (map (λ a. Came n a) (within (site_at w nodes n) (nodes.local n) input))) rest

abbrev pub IncomingCanCome : GridPlans → (p n : ℕ) → (bytes : List ℕ) → (t : ℕ) → Nodes → Incoming → Type 0
IncomingCanCome g p n bytes t nodes (Joins from losses) = CanCome (world_at g t) nodes (AskedToJoin n from losses)
IncomingCanCome g p n bytes t nodes incoming = InputsCanCome (world_at g t) n nodes (inputs_with bytes g.plan (here_in g p n) incoming t)

abbrev pub HappeningCanCome : GridPlans → (t : ℕ) → Nodes → Happening → Type 0
HappeningCanCome g t nodes (Took n p bytes did) = IncomingCanCome g p n bytes t nodes (incoming_of g.plan n did.line)
HappeningCanCome g t nodes (Starts n p) = CanCome (world_at g t) nodes (Started n p)
HappeningCanCome g t nodes (Renews n facts) = ⊤

abbrev pub LinesCanCome : GridPlans → (t : ℕ) → Nodes → List Happening → Type 0
LinesCanCome g t nodes [] = ⊤
LinesCanCome g t nodes (h ∷ hs) = HappeningCanCome g t nodes h × LinesCanCome g t (nodes_after (world_at g t) nodes (events_of g t nodes h)) hs

-- ---- what all that comes to

-- what a start with plan p makes of the tenant's part, where the journal begins with the plan `first` and has these facts of the tenant
abbrev pub start_in : GridPlans → (t n first p : ℕ) → List OwnFact → Local
start_in g t n first p facts = recall_all (site_of g.plan (here_in g p n) t) (begun_local (site_of g.plan (here_in g p n) t) (volumes_in g p t) (first_in g first t)) facts

-- the tables have for the tenant a part that does the same as this one
pub record HasAlike (site : Site) (w : Tables) (t : ℕ) (part : Local) : Type 0 where
  pub local : Local
  pub agrees : Agrees w t local
  pub alike : AreAlike site local part

-- Each node that was started has of the tenant a part that does the same as the law's. Whenever it starts again, with this plan or a later one that has
-- it, its journal makes a part that does the same as the one that the law makes of all facts that it ever gave.
pub record AreNodes (g : GridPlans) (nodes : AllNodes) (t : ℕ) (by_law : Nodes) : Type 0 where
  pub begun : (n : ℕ) → nodes.begun n ≡ by_law.begun n
  pub last_plan : (n : ℕ) → nodes.begun n ≡ true → nodes.last_plan n ≡ by_law.last_plan n
  pub parts : (n : ℕ) → nodes.begun n ≡ true → HasAlike (site_of g.plan (here_in g (nodes.last_plan n) n) t) (nodes.tables n) t (by_law.local n)
  pub starts : (n p : ℕ) → nodes.begun n ≡ true → nodes.last_plan n ≤ p → HasNode g p n →
      AreAlike (site_of g.plan (here_in g p n) t) (start_in g t n (nodes.first_plan n) p (those_of t (facts_said g.plan (nodes.kept n)))) (start_in g t n (by_law.first_plan n) p (by_law.facts n))

-- What a line tells, after these happenings, is what is written for the tenants by the parts that its node then has by the law, and behind it what the
-- node itself writes to other nodes.
abbrev pub TellsAt : GridPlans → List Happening → Happening → Type 0
TellsAt g before (Took n p bytes did) =
    did.told
    ≡ written_by g.plan (here_in g p n) (λ t. (nodes_at g before t).local n) (line_inputs_with bytes g.plan (here_in g p n) did.line)
    ++ line_text_of g.plan (here_in g p n) did.line (parts_after g.plan (here_in g p n) (λ t. (nodes_at g before t).local n) (line_inputs_with bytes g.plan (here_in g p n) did.line))
TellsAt g before (Starts n p) = Unit {0}
TellsAt g before (Renews n facts) = Unit {0}

abbrev pub TellsAll : GridPlans → (before hs : List Happening) → Type 0
TellsAll g before [] = Unit {0}
TellsAll g before (h ∷ hs) = TellsAt g before h × TellsAll g (before ++ h ∷ []) hs

-- the steps that the law of nodes makes of the tenant's events, and those that the law of clusters makes of these
abbrev pub fleet_steps : GridPlans → (t : ℕ) → List Event → List FleetStep
fleet_steps g t events = all_steps (world_at g t) (new_nodes (world_at g t)) events

abbrev pub cluster_steps : GridPlans → (t : ℕ) → List Event → List NodeStep
cluster_steps g t events = all_node_steps (world_at g t).world new_fleet (fleet_steps g t events)

-- Nodes count no steps, but the service does. So there the tenant has as many as this run can take: one for each of its volumes, and for each step of
-- the cluster as many as it has sessions, and one more.
abbrev pub row_for : GridPlans → (t : ℕ) → List Event → TenantRow
row_for g t events = record (numbered (row_at g.plan t)) { steps = length (g.opens t) + length (cluster_steps g t events) * (MOST_NUMBERS + 1) }

-- what is told and sent is what is told and sent in the cluster; and that is a run of the service, in which each file is one register
pub record IsOneRegister (g : GridPlans) (t : ℕ) (events : List Event) : Type 0 where
  pub follows : FleetFollows (world_with g t (row_for g t events) (g.opens t)).world (fleet_steps g t events)
  pub right : IsRight g.plan.grid (row_for g t events) (home_of g.plan t) (g.opens t) (cluster_steps g t events)

-- The events of a tenant, where each letter that came by a line was written before and no node that is gone takes a step, are steps of the law of nodes that are lost and
-- replaced; and each file is one register, where each of the tenant's volumes may be opened behind those before it.
pub record FollowsLaw (g : GridPlans) (hs : List Happening) (t : ℕ) : Type 0 where
  pub follows : Follows (world_at g t) (new_nodes (world_at g t)) new_fleet (all_events g t hs)
  pub right : AllOpen (row_at g.plan t) [] (g.opens t) → IsOneRegister g t (all_events g t hs)

-- Whatever lines come to the nodes of a grid, and whenever one is lost and replaced, starts again, or has its journal written anew: where what came for a
-- tenant was written before, and no node that is gone takes a step, its events follow the law.
abbrev pub AllFollowLaw : Type 0
AllFollowLaw = (g : GridPlans) (hs : List Happening) (t : ℕ) → AreSound g → LinesCanCome g t (new_nodes (world_at g t)) hs → FollowsLaw g hs t

-- all lines told what the law says, and all nodes are left as it says
pub record IsByLaw (g : GridPlans) (hs : List Happening) (last : AllNodes) : Type 0 where
  pub told : TellsAll g [] hs
  pub nodes : (t : ℕ) → t < length g.plan.rows → AreNodes g last t (nodes_at g hs t)

-- the program's nodes are such nodes, of which none was ever started
abbrev pub AllByLaw : Type 0
AllByLaw = (g : GridPlans) (first last : AllNodes) (hs : List Happening) → AreSound g → AllNew first → AllHappen g first hs last → IsByLaw g hs last

-- What the calls of a node promise of one node, here of node n, is what happens to all: of a step, whatever content a letter in a short form has, of a
-- start, and of a journal that is written anew.
pub record CanHappen (g : GridPlans) (old : AllNodes) (h : Happening) (tables : Tables) : Type 0 where
  pub new : AllNodes
  pub happens : Happens g old h new
  pub tables_are : new.tables (node_in h) ≡ tables

abbrev pub AllStepsHappen : Type 0
AllStepsHappen = (g : GridPlans) (old : AllNodes) (n : ℕ) (bytes : List ℕ) (did : Did) (tables : Tables) → old.begun n ≡ true → StepsTo (old.tables n) did.line did.facts did.told tables →
    CanHappen g old (Took n (old.last_plan n) bytes did) tables

abbrev pub AllStartsHappen : Type 0
AllStartsHappen = (g : GridPlans) (old : AllNodes) (n p : ℕ) (tables : Tables) → HasNode g p n → (old.begun n ≡ true → old.last_plan n ≤ p) →
    StartsBy g (first_of old n p) p n (old.kept n) tables → CanHappen g old (Starts n p) tables

abbrev pub AllRenewalsHappen : Type 0
AllRenewalsHappen = (g : GridPlans) (old : AllNodes) (n : ℕ) (facts : List Fact) → old.begun n ≡ true → Needed (old.tables n) facts → All (FitsFact (old.tables n).plan) facts →
    CanHappen g old (Renews n facts) (old.tables n)
