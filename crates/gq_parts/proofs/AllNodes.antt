-- Each tenant's parts of all nodes are those of the law of nodes.
use Rattle.std.proofs.Common.{◌≡◌, ◌≢◌, ◌∙◌, ℕ, ◌<◌, ◌≤◌, Bool, true, false, List, [], ◌∷◌, ◌++◌, length, map, cond, arith, refl, sym, ap, subst, inl, inr, append_assoc, append-nil, Some, None}
use Rattle.std.specs.Prelude.{◌&&◌, ◌==◌, not, nat_lt, All, if◌then◌else◌}
use Rattle.std.specs.Option.{option_to_list}
use Rattle.std.proofs.lemmas.Bool.{cases_Bool, cases_eq, eq-eqb, ne_eqb}
use Rattle.std.proofs.lemmas.List.{length-take-le}
use Rattle.gq_desk.specs.CheckedPlan.{CheckedPlan, row_at}
use Rattle.gq_desk.specs.declared.plans.TenantRow.{TenantRow}
use Rattle.gq_desk.specs.declared.volumes.VolumeRow.{VolumeRow}
use Rattle.gq_cluster.specs.Facts.{OwnFact}
use Rattle.gq_cluster.specs.Laws.{setting_of, StepsEnough}
use Rattle.gq_facts.specs.Laws.{FitsFact}
use Rattle.gq_replace.specs.Fleet.{new_fleet, all_node_steps}
use Rattle.gq_replace.specs.Laws.{IsRight, Follows as FleetFollows}
use Rattle.gq_node.specs.declared.lost.TheConstants.{MOST_NUMBERS}
use Rattle.gq_node.specs.Inputs.{Input, Asked, AskedPlan, AskedLook, Brought, Shortened, Ticked, Looked, Joined as HeardJoined, Fetching, Fetched as WasFetched, does, after_all}
use Rattle.gq_node.specs.Joining.{all_joined, tells_joined}
use Rattle.gq_node.specs.Local.{Local, Doing}
use Rattle.gq_node.specs.Nodes.{NodeWorld, Nodes, Event, Came, Started, site_in, site_at, new_nodes, takes_word, with_ready, after_word, after_doing, after_start, after_event, nodes_after, first_of as law_first, fact_list, all_steps, AllCanCome, AllOpen}
use Rattle.gq_node.specs.Resting.{IsAtRest, IsBare, recall_all, those_of, begun_local}
use Rattle.gq_node.specs.Sites.{Here, Site, site_of, home_of, is_of_plan, home_place}
use Rattle.gq_node.specs.Tables.{Tables, Agrees}
use Rattle.gq_node.proofs.Events.{all_nodes_follow, all_nodes_serve}
use Rattle.gq_node.proofs.Recalling.{all_behind}
use Rattle.gq_node.proofs.Using.{recall_volumes}
use Rattle.gq_node.proofs.Volumes.{all_volumes_open}
use Rattle.gq_wire.specs.declared.incoming.Incoming.{Incoming}
use Rattle.gq_wire.specs.declared.incoming.Incoming.TheVariants.{Request, Plan as AsksPlan, Look as AsksLook, Bad, Letter, ShortLetter, Joins, Joined, Speaks, Fetch, Fetched, Tick, Greet, Nothing}
use Rattle.gq_wire.specs.Incoming.{incoming_of}
use Rattle.gq_parts.specs.Alike.{AreAlike}
use Rattle.gq_parts.specs.AllNodes.{first_in, GridPlans, here_in, volumes_in, plans_of, world_with, world_at, HasNode, AreSound, AllNodes, AllNew, Happening, Took, Starts, Renews, StartsBy, first_of, IsStarted, TakesStep, TakesStart, TakesNewJournal, Stays, Happens, AllHappen, came_events, events_of, events_from, all_events, nodes_at, InputsCanCome, IncomingCanCome, HappeningCanCome, LinesCanCome, start_in, HasAlike, TellsAt, TellsAll, fleet_steps, cluster_steps, row_for, IsOneRegister, AllByLaw, AllFollowLaw, AllStepsHappen, AllStartsHappen, AllRenewalsHappen}
use Rattle.gq_parts.specs.Inputs.{inputs_with, line_inputs_with}
use Rattle.gq_parts.specs.Recalls.{facts_said}
use Rattle.gq_parts.specs.Resting.{IsNodeOf}
use Rattle.gq_parts.specs.Steps.{AllAgree, StepsTo, fact_lines}
use Rattle.gq_parts.specs.Texts.{own_facts, facts_by, written_by, parts_after, line_text_of}
use Rattle.gq_parts.specs.Within.{taken, after_taken}
use Rattle.gq_parts.proofs.AlikeStarts.{AllThere, recalls_same, there_append, there_later}
use Rattle.gq_parts.proofs.AlikeTexts.{AllAlike, facts_same, taken_same, behind_taken, all_written_same, node_text_same}
use Rattle.gq_parts.proofs.Apart.{StepByParts, step_by_parts}
use Rattle.gq_parts.proofs.Homes.{few_places, some_servers, homes_stand, sessions_stay}
use Rattle.gq_parts.proofs.Knowing.{all_bare, all_idle, all_recalled_bare, all_rest, recall_more, rests_itself}
use Rattle.gq_parts.proofs.LaterPlans.{limit_by, limits, there_still, later_alike, rest_alike, begun_alike}
use Rattle.gq_parts.proofs.Reading.{those-append, said-append, said_back, those-by, same_node, all_recalled}
use Rattle.gq_parts.proofs.Resting.{of_case, of_case_has}
use Rattle.gq_parts.proofs.There.{none_there, own_facts_there, needed_there}
use Rattle.gq_parts.proofs.Uncounted.{same_can, same_steps, same_node_steps, same_open}
use Rattle.gq_parts.proofs.Within.{can_more, taken_can}

-- ---- the nodes of the law

-- what is the same of a node: whether it was started, and with which plans
record SamePlans (m : ℕ) (nodes after : Nodes) : Type 0 where
  begun : after.begun m ≡ nodes.begun m
  first_plan : after.first_plan m ≡ nodes.first_plan m
  last_plan : after.last_plan m ≡ nodes.last_plan m

-- what the node has, and gave, after one doing; the others stay
record AfterOne (n : ℕ) (nodes after : Nodes) (doing : Doing) : Type 0 where
  local : after.local n ≡ doing.local
  facts : after.facts n ≡ nodes.facts n ++ fact_list doing.fact
  others : (m : ℕ) → m ≢ n → (after.local m ≡ nodes.local m) × (after.facts m ≡ nodes.facts m)
  plans : (m : ℕ) → SamePlans m nodes after

doing_one : (w : NodeWorld) (nodes : Nodes) (n : ℕ) (doing : Doing) → AfterOne n nodes (after_doing w nodes n doing) doing
doing_one w nodes n doing = record {
  local = rw (eq-eqb n n refl) refl;
  facts = rw (eq-eqb n n refl) refl;
  others = λ m other. (rw (ne_eqb m n other) refl, rw (ne_eqb m n other) refl);
  plans = λ m. record { begun = refl; first_plan = refl; last_plan = refl };
}

-- that a new node is ready changes none of that
word_one : (w : NodeWorld) (nodes after : Nodes) (n from losses : ℕ) (doing : Doing) → AfterOne n nodes after doing → AfterOne n nodes (after_word w nodes n from losses after) doing
word_one w nodes after n from losses doing one = by (takes_word (site_at w nodes n) from losses && (not (nodes.ready n) && all_joined (site_at w nodes n) (after.local n).joined))
  where
    by : (b : Bool) → AfterOne n nodes (cond b (with_ready w after n) after) doing
    by true = record { local = one.local; facts = one.facts; others = one.others; plans = λ m. record { begun = (one.plans m).begun; first_plan = (one.plans m).first_plan; last_plan = (one.plans m).last_plan } }
    by false = one

one_event : (w : NodeWorld) (nodes : Nodes) (n : ℕ) (a : Input) → AfterOne n nodes (after_event w nodes (Came n a)) (does a (site_at w nodes n) (nodes.local n))
one_event w nodes n (Asked op line) = doing_one w nodes n (does (Asked op line) (site_at w nodes n) (nodes.local n))
one_event w nodes n AskedPlan = doing_one w nodes n (does AskedPlan (site_at w nodes n) (nodes.local n))
one_event w nodes n (AskedLook mark volume) = doing_one w nodes n (does (AskedLook mark volume) (site_at w nodes n) (nodes.local n))
one_event w nodes n (Brought from letter) = doing_one w nodes n (does (Brought from letter) (site_at w nodes n) (nodes.local n))
one_event w nodes n (Shortened from short bytes) = doing_one w nodes n (does (Shortened from short bytes) (site_at w nodes n) (nodes.local n))
one_event w nodes n (Ticked session) = doing_one w nodes n (does (Ticked session) (site_at w nodes n) (nodes.local n))
one_event w nodes n (Looked lane) = doing_one w nodes n (does (Looked lane) (site_at w nodes n) (nodes.local n))
one_event w nodes n (HeardJoined from losses) =
    let doing : Doing = does (HeardJoined from losses) (site_at w nodes n) (nodes.local n) in
    word_one w nodes (after_doing w nodes n doing) n from losses doing (doing_one w nodes n doing)
one_event w nodes n (Fetching from file) = doing_one w nodes n (does (Fetching from file) (site_at w nodes n) (nodes.local n))
one_event w nodes n (WasFetched from file copy) = doing_one w nodes n (does (WasFetched from file copy) (site_at w nodes n) (nodes.local n))

-- what the node, with plan p, has, and gave, after these inputs; the others stay
record AfterAll (w : NodeWorld) (p n : ℕ) (nodes after : Nodes) (inputs : List Input) : Type 0 where
  local : after.local n ≡ after_all (site_in w p n) (nodes.local n) inputs
  facts : after.facts n ≡ nodes.facts n ++ own_facts (site_in w p n) (nodes.local n) inputs
  others : (m : ℕ) → m ≢ n → (after.local m ≡ nodes.local m) × (after.facts m ≡ nodes.facts m)
  plans : (m : ℕ) → SamePlans m nodes after

same_list : (doing : Doing) → fact_list doing.fact ≡ option_to_list doing.fact
same_list doing = elim doing.fact as (λ o. fact_list o ≡ option_to_list o) [ None ↦ refl | Some fact ↦ refl ]

after_inputs : (w : NodeWorld) (p n : ℕ) (nodes : Nodes) (inputs : List Input) → nodes.last_plan n ≡ p → AfterAll w p n nodes (nodes_after w nodes (map (λ input. Came n input) inputs)) inputs
after_inputs w p n nodes [] plan = record { local = refl; facts = sym (append-nil (nodes.facts n)); others = λ m other. (refl, refl); plans = λ m. record { begun = refl; first_plan = refl; last_plan = refl } }
after_inputs w p n nodes (a ∷ inputs) plan =
    let doing : Doing = does a (site_in w p n) (nodes.local n) in
    let next : Nodes = after_event w nodes (Came n a) in
    let one : AfterOne n nodes next doing = subst (λ q. AfterOne n nodes next (does a (site_in w q n) (nodes.local n))) plan (one_event w nodes n a) in
    let rest : AfterAll w p n next (nodes_after w next (map (λ input. Came n input) inputs)) inputs = after_inputs w p n next inputs ((one.plans n).last_plan ∙ plan) in
    record {
      local = rest.local ∙ ap (λ l. after_all (site_in w p n) l inputs) one.local;
      facts = rest.facts ∙ ap (λ l. next.facts n ++ own_facts (site_in w p n) l inputs) one.local ∙ ap (λ fs. fs ++ own_facts (site_in w p n) doing.local inputs) one.facts
          ∙ append_assoc (nodes.facts n) (fact_list doing.fact) (own_facts (site_in w p n) doing.local inputs) ∙ ap (λ fs. nodes.facts n ++ (fs ++ own_facts (site_in w p n) doing.local inputs)) (same_list doing);
      others = λ m other. ((rest.others m other).0 ∙ (one.others m other).0, (rest.others m other).1 ∙ (one.others m other).1);
      plans = λ m. record {
        begun = (rest.plans m).begun ∙ (one.plans m).begun;
        first_plan = (rest.plans m).first_plan ∙ (one.plans m).first_plan;
        last_plan = (rest.plans m).last_plan ∙ (one.plans m).last_plan;
      };
    }

-- all that the node takes by a line that brings this
abbrev all_taken : GridPlans → (p n : ℕ) → (bytes : List ℕ) → (t : ℕ) → Nodes → Incoming → List Input
all_taken g p n bytes t nodes incoming = taken (site_at (world_at g t) nodes n) (nodes.local n) (inputs_with bytes g.plan (here_in g p n) incoming t)

-- a line to the node that brings this
after_came : (g : GridPlans) (p n : ℕ) (bytes : List ℕ) (t : ℕ) (nodes : Nodes) (incoming : Incoming) → nodes.last_plan n ≡ p →
    AfterAll (world_at g t) p n nodes (nodes_after (world_at g t) nodes (came_events g p n bytes t nodes incoming)) (all_taken g p n bytes t nodes incoming)
after_came g p n bytes t nodes (Request tenant op line) plan = after_inputs (world_at g t) p n nodes (all_taken g p n bytes t nodes (Request tenant op line)) plan
after_came g p n bytes t nodes (AsksPlan tenant) plan = after_inputs (world_at g t) p n nodes (all_taken g p n bytes t nodes (AsksPlan tenant)) plan
after_came g p n bytes t nodes (AsksLook tenant mark volume) plan = after_inputs (world_at g t) p n nodes (all_taken g p n bytes t nodes (AsksLook tenant mark volume)) plan
after_came g p n bytes t nodes (Bad tenant) plan = after_inputs (world_at g t) p n nodes (all_taken g p n bytes t nodes (Bad tenant)) plan
after_came g p n bytes t nodes (Letter from m) plan = after_inputs (world_at g t) p n nodes (all_taken g p n bytes t nodes (Letter from m)) plan
after_came g p n bytes t nodes (ShortLetter from short) plan = after_inputs (world_at g t) p n nodes (all_taken g p n bytes t nodes (ShortLetter from short)) plan
after_came g p n bytes t nodes (Joins from losses) plan = by (tells_joined from losses (site_at (world_at g t) nodes n))
  where
    by : (b : Bool) → AfterAll (world_at g t) p n nodes (cond b (record nodes { joined = nodes.joined ++ record { from = n; to = from; losses = losses } ∷ [] }) nodes) []
    by true = record { local = refl; facts = sym (append-nil (nodes.facts n)); others = λ m other. (refl, refl); plans = λ m. record { begun = refl; first_plan = refl; last_plan = refl } }
    by false = record { local = refl; facts = sym (append-nil (nodes.facts n)); others = λ m other. (refl, refl); plans = λ m. record { begun = refl; first_plan = refl; last_plan = refl } }
after_came g p n bytes t nodes (Joined from losses) plan = after_inputs (world_at g t) p n nodes (all_taken g p n bytes t nodes (Joined from losses)) plan
after_came g p n bytes t nodes (Speaks from form) plan = after_inputs (world_at g t) p n nodes (all_taken g p n bytes t nodes (Speaks from form)) plan
after_came g p n bytes t nodes (Fetch from file) plan = after_inputs (world_at g t) p n nodes (all_taken g p n bytes t nodes (Fetch from file)) plan
after_came g p n bytes t nodes (Fetched from file copy) plan = after_inputs (world_at g t) p n nodes (all_taken g p n bytes t nodes (Fetched from file copy)) plan
after_came g p n bytes t nodes Tick plan = after_inputs (world_at g t) p n nodes (all_taken g p n bytes t nodes Tick) plan
after_came g p n bytes t nodes Greet plan = after_inputs (world_at g t) p n nodes (all_taken g p n bytes t nodes Greet) plan
after_came g p n bytes t nodes Nothing plan = after_inputs (world_at g t) p n nodes (all_taken g p n bytes t nodes Nothing) plan

-- ---- more happenings

pub fold_more : (w : NodeWorld) (nodes : Nodes) (xs ys : List Event) → nodes_after w nodes (xs ++ ys) ≡ nodes_after w (nodes_after w nodes xs) ys
fold_more w nodes [] ys = refl
fold_more w nodes (x ∷ xs) ys = fold_more w (after_event w nodes x) xs ys

more_events : (g : GridPlans) (t : ℕ) (nodes : Nodes) (before : List Happening) (h : Happening) →
    events_from g t nodes (before ++ h ∷ []) ≡ events_from g t nodes before ++ events_of g t (nodes_after (world_at g t) nodes (events_from g t nodes before)) h
more_events g t nodes [] h = append-nil (events_of g t nodes h)
more_events g t nodes (b ∷ before) h =
    let w : NodeWorld = world_at g t in
    let one : List Event = events_of g t nodes b in
    let next : Nodes = nodes_after w nodes one in
    let rest : List Event = events_from g t next before in
    ap (λ z. one ++ z) (more_events g t next before h)
    ∙ sym (append_assoc one rest (events_of g t (nodes_after w next rest) h))
    ∙ ap (λ ns. (one ++ rest) ++ events_of g t ns h) (sym (fold_more w nodes one rest))

more_nodes : (g : GridPlans) (before : List Happening) (h : Happening) (t : ℕ) → nodes_at g (before ++ h ∷ []) t ≡ nodes_after (world_at g t) (nodes_at g before t) (events_of g t (nodes_at g before t) h)
more_nodes g before h t =
    ap (nodes_after (world_at g t) (new_nodes (world_at g t))) (more_events g t (new_nodes (world_at g t)) before h)
    ∙ fold_more (world_at g t) (new_nodes (world_at g t)) (all_events g t before) (events_of g t (nodes_at g before t) h)

-- ---- what holds behind some happenings

-- what a node has, and what the law has of it for the tenant: the plan that it was started with last, that with which its journal begins and that with
-- which it was started first, its tables, the facts in its journal and all that it ever gave, and the law's part
pub record AtNode : Type 0 where
  pub last : ℕ
  pub first : ℕ
  pub first_ever : ℕ
  pub tables : Tables
  pub kept : List (List ℕ)
  pub local : Local
  pub facts : List OwnFact

abbrev pub at_node : AllNodes → Nodes → ℕ → AtNode
at_node m nodes n = record {
  last = m.last_plan n;
  first = m.first_plan n;
  first_ever = nodes.first_plan n;
  tables = m.tables n;
  kept = m.kept n;
  local = nodes.local n;
  facts = nodes.facts n;
}

-- the facts of the tenant in a journal
abbrev pub its_facts : GridPlans → (t : ℕ) → List (List ℕ) → List OwnFact
its_facts g t kept = those_of t (facts_said g.plan kept)

pub record IsKnown (g : GridPlans) (t n : ℕ) (x : AtNode) : Type 0 where
  pub has : HasNode g x.last n
  pub part : HasAlike (site_of g.plan (here_in g x.last n) t) x.tables t x.local
  pub bare : IsBare x.local
  pub rests : IsAtRest (site_of g.plan (here_in g x.last n) t) (start_in g t n x.first_ever x.last x.facts) x.local
  pub starts : AreAlike (site_of g.plan (here_in g x.last n) t) (start_in g t n x.first x.last (its_facts g t x.kept)) (start_in g t n x.first_ever x.last x.facts)
  pub there : AllThere (limits g t x.last) (its_facts g t x.kept)
  pub there_ever : AllThere (limits g t x.last) x.facts
  pub low : x.first ≤ x.last
  pub low_ever : x.first_ever ≤ x.last

pub record AreKnown (g : GridPlans) (m : AllNodes) (t : ℕ) (nodes : Nodes) : Type 0 where
  pub begun : (n : ℕ) → m.begun n ≡ nodes.begun n
  pub last_plan : (n : ℕ) → m.begun n ≡ true → m.last_plan n ≡ nodes.last_plan n
  pub fresh : (n : ℕ) → m.begun n ≡ false → (m.kept n ≡ []) × (nodes.facts n ≡ [])
  pub known : (n : ℕ) → m.begun n ≡ true → IsKnown g t n (at_node m nodes n)

pub record Holds (g : GridPlans) (before : List Happening) (m : AllNodes) : Type 0 where
  pub node : (n : ℕ) → m.begun n ≡ true → IsNodeOf g.plan (here_in g (m.last_plan n) n) (m.tables n)
  pub are : (t : ℕ) → t < length g.plan.rows → AreKnown g m t (nodes_at g before t)

-- what the node of the happening has in each tenant's part, by the law
record ItHas (g : GridPlans) (n t : ℕ) (new : AllNodes) (after : Nodes) : Type 0 where
  begun : new.begun n ≡ true
  law_begun : after.begun n ≡ true
  last_plan : new.last_plan n ≡ after.last_plan n
  known : IsKnown g t n (at_node new after n)

-- and the others stay
record TheyStay (m : ℕ) (nodes after : Nodes) : Type 0 where
  local : after.local m ≡ nodes.local m
  facts : after.facts m ≡ nodes.facts m
  plans : SamePlans m nodes after

step_are : (g : GridPlans) (old new : AllNodes) (n t : ℕ) (nodes after : Nodes) → AreKnown g old t nodes → ((m : ℕ) → m ≢ n → Stays m old new) → ((m : ℕ) → m ≢ n → TheyStay m nodes after) → ItHas g n t new after → AreKnown g new t after
step_are g old new n t nodes after are stay same has = record {
  begun = λ m. elim (cases_eq m n) [
    | inl is ↦ (subst (λ x. new.begun x ≡ after.begun x) (sym is) (has.begun ∙ sym has.law_begun))
    | inr other ↦ ((stay m other).begun ∙ are.begun m ∙ sym (same m other).plans.begun)
  ];
  last_plan = λ m begun. elim (cases_eq m n) [
    | inl is ↦ (subst (λ x. new.last_plan x ≡ after.last_plan x) (sym is) has.last_plan)
    | inr other ↦ ((stay m other).last_plan ∙ are.last_plan m (sym (stay m other).begun ∙ begun) ∙ sym (same m other).plans.last_plan)
  ];
  fresh = λ m none. elim (cases_eq m n) [
    | inl is ↦ (absurd (let no : new.begun n ≡ false = ap new.begun (sym is) ∙ none in let yes = has.begun in cc))
    | inr other ↦ (
        let before = are.fresh m (sym (stay m other).begun ∙ none) in
        ((stay m other).kept ∙ before.0, (same m other).facts ∙ before.1))
  ];
  known = λ m begun. elim (cases_eq m n) [
    | inl is ↦ (subst (λ x. IsKnown g t x (at_node new after x)) (sym is) has.known)
    | inr other ↦ (
        let s : Stays m old new = stay m other in
        let they : TheyStay m nodes after = same m other in
        let path : at_node old nodes m ≡ at_node new after m = λ i. record {
          last = sym s.last_plan i;
          first = sym s.first_plan i;
          first_ever = sym they.plans.first_plan i;
          tables = sym s.tables i;
          kept = sym s.kept i;
          local = sym they.local i;
          facts = sym they.facts i;
        } in
        subst (IsKnown g t m) path (are.known m (sym s.begun ∙ begun)))
  ];
}

pub record OneHolds (g : GridPlans) (before : List Happening) (h : Happening) (new : AllNodes) : Type 0 where
  pub holds : Holds g (before ++ h ∷ []) new
  pub told : TellsAt g before h

other_nodes : (g : GridPlans) (n : ℕ) (old new : AllNodes) → ((m : ℕ) → old.begun m ≡ true → IsNodeOf g.plan (here_in g (old.last_plan m) m) (old.tables m)) → ((m : ℕ) → m ≢ n → Stays m old new) →
    IsNodeOf g.plan (here_in g (new.last_plan n) n) (new.tables n) → (m : ℕ) → new.begun m ≡ true → IsNodeOf g.plan (here_in g (new.last_plan m) m) (new.tables m)
other_nodes g n old new was stay here m begun = elim (cases_eq m n) [
  | inl is ↦ (subst (λ x. IsNodeOf g.plan (here_in g (new.last_plan x) x) (new.tables x)) (sym is) here)
  | inr other ↦ (
      let s : Stays m old new = stay m other in
      subst (λ p. IsNodeOf g.plan (here_in g p m) (new.tables m)) (sym s.last_plan) (subst (IsNodeOf g.plan (here_in g (old.last_plan m) m)) (sym s.tables) (was m (sym s.begun ∙ begun))))
]

-- the volumes of the law's part are those of the plan
pub its_volumes : (g : GridPlans) (t n : ℕ) (x : AtNode) → IsKnown g t n x → x.local.volumes ≡ volumes_in g x.last t
its_volumes g t n x known =
    let site : Site = site_of g.plan (here_in g x.last n) t in
    sym known.rests.volumes ∙ recall_volumes site x.facts (begun_local site (volumes_in g x.last t) (first_in g x.first_ever t))

-- two starts with this plan, from nothing or with facts
record StartsAlike (g : GridPlans) (t n p first ever : ℕ) (facts all : List OwnFact) : Type 0 where
  alike : AreAlike (site_of g.plan (here_in g p n) t) (start_in g t n first p facts) (start_in g t n ever p all)
  there : AllThere (limits g t p) facts
  there_ever : AllThere (limits g t p) all
  low : first ≤ p
  low_ever : ever ≤ p

pub one_holds : (g : GridPlans) (before : List Happening) (h : Happening) (old new : AllNodes) → AreSound g → Holds g before old → Happens g old h new → OneHolds g before h new
one_holds g before (Took n p bytes did) old new sound holds happens = record {
  holds = record {
    node = other_nodes g n old new holds.node happens.others (subst (λ q. IsNodeOf g.plan (here_in g q n) (new.tables n)) (sym goes.still.last_plan) one.node);
    are = λ t within. subst (AreKnown g new t) (sym (more_nodes g before (Took n p bytes did) t)) (at t within);
  };
  told = one.told_is
      ∙ ap (λ z. z ++ line_text_of g.plan here did.line (parts_after g.plan here ones inputs)) (all_written_same g.plan here ones parts inputs alike)
      ∙ ap (λ z. written_by g.plan here parts inputs ++ z) (node_text_same g.plan here (incoming_of g.plan n did.line) (parts_after g.plan here ones inputs) (parts_after g.plan here parts inputs)
      (λ t within. behind_taken (site_of g.plan here t) (ones t) (parts t) (inputs t) (alike t within)));
}
  where
    goes : TakesStep n p did old new
    goes = happens.goes

    here : Here
    here = here_in g p n

    inputs : ℕ → List Input
    inputs = line_inputs_with bytes g.plan here did.line

    parts : ℕ → Local
    parts t = (nodes_at g before t).local n

    -- what is known of the node's part of the tenant, with the plan of the line
    before_it : (t : ℕ) → t < length g.plan.rows → IsKnown g t n (record (at_node old (nodes_at g before t) n) { last = p })
    before_it t within = subst (λ q. IsKnown g t n (record (at_node old (nodes_at g before t) n) { last = q })) goes.plan ((holds.are t within).known n goes.begun)

    -- the parts that the tables have
    ones : ℕ → Local
    ones t = of_case t (length g.plan.rows) (λ within. (before_it t within).part.local) (parts t) (cases_Bool (nat_lt t (length g.plan.rows)))

    has : (t : ℕ) → t < length g.plan.rows → Agrees (old.tables n) t (ones t) × AreAlike (site_of g.plan here t) (ones t) (parts t)
    has t within = of_case_has (λ x. Agrees (old.tables n) t x × AreAlike (site_of g.plan here t) x (parts t)) t (length g.plan.rows) (λ h. (before_it t h).part.local) (parts t)
        (λ h. ((before_it t h).part.agrees, (before_it t h).part.alike)) within (cases_Bool (nat_lt t (length g.plan.rows)))

    alike : AllAlike g.plan here ones parts
    alike t within = (has t within).1

    was : IsNodeOf g.plan here (old.tables n)
    was = subst (λ q. IsNodeOf g.plan (here_in g q n) (old.tables n)) goes.plan (holds.node n goes.begun)

    agree : AllAgree (old.tables n) ones
    agree t within = (has t (subst (λ (plan : CheckedPlan). t < length plan.rows) was.plan_is within)).0

    one : StepByParts g.plan here bytes ones did.line did.facts did.told (new.tables n)
    one = step_by_parts g.plan here (old.tables n) (new.tables n) bytes ones did.line did.facts did.told was agree goes.step

    at : (t : ℕ) → t < length g.plan.rows → AreKnown g new t (nodes_after (world_at g t) (nodes_at g before t) (events_of g t (nodes_at g before t) (Took n p bytes did)))
    at t within =
        let w : NodeWorld = world_at g t in
        let nodes : Nodes = nodes_at g before t in
        let are : AreKnown g old t nodes = holds.are t within in
        let x : IsKnown g t n (record (at_node old nodes n) { last = p }) = before_it t within in
        let after : Nodes = nodes_after w nodes (events_of g t nodes (Took n p bytes did)) in
        let site : Site = site_of g.plan here t in
        let last : nodes.last_plan n ≡ p = sym (are.last_plan n goes.begun) ∙ goes.plan in
        let same : site_at w nodes n ≡ site = ap (λ q. site_in w q n) last in
        let by_law : List Input = taken (site_at w nodes n) (parts t) (inputs t) in
        let all : List Input = taken site (parts t) (inputs t) in
        let a : AfterAll w p n nodes after by_law = after_came g p n bytes t nodes (incoming_of g.plan n did.line) last in
        let gave : List OwnFact = own_facts site (parts t) all in
        let now : Agrees (new.tables n) t (after_taken site (ones t) (inputs t)) = one.agree t (subst (λ (plan : CheckedPlan). t < length plan.rows) (sym one.node.plan_is) within) in
        let own : its_facts g t did.facts ≡ gave =
        ap (its_facts g t) one.lines_are ∙ ap (those_of t) (said_back g.plan sound.plan (facts_by g.plan here ones inputs) one.fit) ∙ those-by g.plan here t ones inputs within
        ∙ facts_same site (ones t) (parts t) (taken site (ones t) (inputs t)) (alike t within) ∙ ap (own_facts site (parts t)) (taken_same site (ones t) (parts t) (inputs t) (alike t within)) in
        let local : after.local n ≡ after_all site (parts t) all = a.local ∙ ap (λ s. after_all site (parts t) (taken s (parts t) (inputs t))) same in
        let given : after.facts n ≡ nodes.facts n ++ gave = a.facts ∙ ap (λ s. nodes.facts n ++ own_facts site (parts t) (taken s (parts t) (inputs t))) same in
        let kept : its_facts g t (old.kept n ++ did.facts) ≡ its_facts g t (old.kept n) ++ gave =
        ap (those_of t) (said-append g.plan (old.kept n) did.facts) ∙ those-append t (facts_said g.plan (old.kept n)) (facts_said g.plan did.facts) ∙ ap (λ z. its_facts g t (old.kept n) ++ z) own in
        let started_from : (from : ℕ) (fs : List OwnFact) → start_in g t n from p (fs ++ gave) ≡ recall_all site (start_in g t n from p fs) gave =
        λ from fs. recall_more site (begun_local site (volumes_in g p t) (first_in g from t)) fs gave in
        let there : AllThere (limits g t p) gave =
        subst (λ vs. AllThere (limit_by vs) gave) (its_volumes g t n (record (at_node old nodes n) { last = p }) x) (own_facts_there site (parts t) all x.bare) in
        let y : IsKnown g t n (record { last = p; first = old.first_plan n; first_ever = nodes.first_plan n; tables = new.tables n; kept = old.kept n ++ did.facts; local = after_all site (parts t) all; facts = nodes.facts n ++ gave }) = record {
          has = x.has;
          part = record { local = after_taken site (ones t) (inputs t); agrees = now; alike = behind_taken site (ones t) (parts t) (inputs t) (alike t within) };
          bare = all_bare site (parts t) all x.bare;
          rests = subst (λ z. IsAtRest site z (after_all site (parts t) all)) (sym (started_from (nodes.first_plan n) (nodes.facts n))) (all_rest site (start_in g t n (nodes.first_plan n) p (nodes.facts n)) (parts t) all x.bare x.rests);
          starts =
              subst (λ fs. AreAlike site (start_in g t n (old.first_plan n) p fs) (start_in g t n (nodes.first_plan n) p (nodes.facts n ++ gave))) (sym kept)
              (subst (λ z. AreAlike site z (start_in g t n (nodes.first_plan n) p (nodes.facts n ++ gave))) (sym (started_from (old.first_plan n) (its_facts g t (old.kept n))))
              (subst (AreAlike site (recall_all site (start_in g t n (old.first_plan n) p (its_facts g t (old.kept n))) gave)) (sym (started_from (nodes.first_plan n) (nodes.facts n)))
              (recalls_same site (start_in g t n (old.first_plan n) p (its_facts g t (old.kept n))) (start_in g t n (nodes.first_plan n) p (nodes.facts n)) gave x.starts)));
          there = subst (AllThere (limits g t p)) (sym kept) (there_append (limits g t p) (its_facts g t (old.kept n)) gave x.there there);
          there_ever = there_append (limits g t p) (nodes.facts n) gave x.there_ever there;
          low = x.low;
          low_ever = x.low_ever;
        } in
        let path : record { last = p; first = old.first_plan n; first_ever = nodes.first_plan n; tables = new.tables n; kept = old.kept n ++ did.facts; local = after_all site (parts t) all; facts = nodes.facts n ++ gave } ≡ at_node new after n = λ i. record {
          last = sym goes.still.last_plan i;
          first = sym goes.still.first_plan i;
          first_ever = sym (a.plans n).first_plan i;
          tables = new.tables n;
          kept = sym goes.kept i;
          local = sym local i;
          facts = sym given i;
        } in
        step_are g old new n t nodes after are happens.others (λ m other. record { local = (a.others m other).0; facts = (a.others m other).1; plans = a.plans m }) (record {
          begun = goes.still.begun;
          law_begun = (a.plans n).begun ∙ sym (are.begun n) ∙ goes.begun;
          last_plan = goes.still.last_plan ∙ sym last ∙ sym (a.plans n).last_plan;
          known = subst (IsKnown g t n) path y;
        })
one_holds g before (Renews n facts) old new sound holds happens = record {
  holds = record {
    node = other_nodes g n old new holds.node happens.others (subst (λ q. IsNodeOf g.plan (here_in g q n) (new.tables n)) (sym goes.still.last_plan) (subst (IsNodeOf g.plan here) (sym goes.tables) was));
    are = λ t within. subst (AreKnown g new t) (sym (more_nodes g before (Renews n facts) t)) (at t within);
  };
  told = tt;
}
  where
    goes : TakesNewJournal n facts old new
    goes = happens.goes

    q : ℕ
    q = old.last_plan n

    here : Here
    here = here_in g q n

    was : IsNodeOf g.plan here (old.tables n)
    was = holds.node n goes.begun

    at : (t : ℕ) → t < length g.plan.rows → AreKnown g new t (nodes_at g before t)
    at t within =
        let nodes : Nodes = nodes_at g before t in
        let are : AreKnown g old t nodes = holds.are t within in
        let x : IsKnown g t n (at_node old nodes n) = are.known n goes.begun in
        let site : Site = site_of g.plan here t in
        let a : Local = x.part.local in
        let own : List OwnFact = those_of t facts in
        let inside : t < length (old.tables n).plan.rows = subst (λ (plan : CheckedPlan). t < length plan.rows) (sym was.plan_is) within in
        let volumes : a.volumes ≡ volumes_in g q t = x.part.alike.volumes ∙ its_volumes g t n (at_node old nodes n) x in
        let R : CheckedPlan → Here → Type 0 =
        λ plan h. IsAtRest (site_of plan h t) (recall_all (site_of plan h t) (begun_local (site_of plan h t) a.volumes (record { volumes = length a.volumes; losses = length h.lost })) own) a in
        let made : R g.plan here = subst (λ plan. R plan here) was.plan_is (subst (λ h. R (old.tables n).plan h) was.here_is (goes.needed.makes t inside a x.part.agrees)) in
        let many : length (volumes_in g q t) ≡ g.count q t = length-take-le (g.count q t) (g.opens t) (sound.opened q t) in
        let rests : IsAtRest site (start_in g t n q q own) a =
        subst (λ c. IsAtRest site (recall_all site (begun_local site (volumes_in g q t) (record { volumes = c; losses = length (g.lost q) })) own) a) many
        (subst (λ vs. IsAtRest site (recall_all site (begun_local site vs (record { volumes = length vs; losses = length (g.lost q) })) own) a) volumes made) in
        let kept : its_facts g t (fact_lines (old.tables n).plan facts) ≡ own =
        ap (λ (plan : CheckedPlan). its_facts g t (fact_lines plan facts)) was.plan_is ∙ ap (those_of t) (said_back g.plan sound.plan facts (subst (λ (plan : CheckedPlan). All (FitsFact plan) facts) was.plan_is goes.fit)) in
        let there : AllThere (limits g t q) own = subst (λ vs. AllThere (limit_by vs) own) volumes (needed_there (old.tables n) t a facts x.part.agrees goes.needed.fit) in
        let y : IsKnown g t n (record (at_node old nodes n) { first = q; kept = fact_lines (old.tables n).plan facts }) = record {
          has = x.has;
          part = x.part;
          bare = x.bare;
          rests = x.rests;
          starts = subst (λ fs. AreAlike site (start_in g t n q q fs) (start_in g t n (nodes.first_plan n) q (nodes.facts n))) (sym kept)
              (rest_alike g t n q q (nodes.first_plan n) own (nodes.facts n) a (nodes.local n) rests x.rests x.part.alike);
          there = subst (AllThere (limits g t q)) (sym kept) there;
          there_ever = x.there_ever;
          low = omega arith;
          low_ever = x.low_ever;
        } in
        let path : record (at_node old nodes n) { first = q; kept = fact_lines (old.tables n).plan facts } ≡ at_node new nodes n = λ i. record (at_node old nodes n) {
          last = sym goes.still.last_plan i;
          first = sym goes.still.first_plan i;
          tables = sym goes.tables i;
          kept = sym goes.kept i;
        } in
        step_are g old new n t nodes nodes are happens.others (λ m other. record { local = refl; facts = refl; plans = record { begun = refl; first_plan = refl; last_plan = refl } }) (record {
          begun = goes.still.begun;
          law_begun = sym (are.begun n) ∙ goes.begun;
          last_plan = goes.still.last_plan ∙ are.last_plan n goes.begun;
          known = subst (IsKnown g t n) path y;
        })
one_holds g before (Starts n p) old new sound holds happens = record {
  holds = record {
    node = other_nodes g n old new holds.node happens.others (subst (λ q. IsNodeOf g.plan (here_in g q n) (new.tables n)) (sym goes.started.last_plan)
        (record { plan_is = stays.plan_is ∙ r.is_new.node.plan_is; here_is = stays.here_is ∙ r.is_new.node.here_is }));
    are = λ t within. subst (AreKnown g new t) (sym (more_nodes g before (Starts n p) t)) (at t within);
  };
  told = tt;
}
  where
    goes : TakesStart g n p old new
    goes = happens.goes

    first : ℕ
    first = first_of old n p

    r : StartsBy g first p n (old.kept n) (new.tables n)
    r = goes.starts

    stays : IsNodeOf r.blank.plan r.blank.here (new.tables n)
    stays = same_node (old.kept n) r.blank (new.tables n) r.reads

    at : (t : ℕ) → t < length g.plan.rows → AreKnown g new t (nodes_after (world_at g t) (nodes_at g before t) (Started n p ∷ []))
    at t within =
        let w : NodeWorld = world_at g t in
        let nodes : Nodes = nodes_at g before t in
        let are : AreKnown g old t nodes = holds.are t within in
        let after : Nodes = after_start w nodes n p in
        let site : Site = site_of g.plan (here_in g p n) t in
        let ever : ℕ = law_first nodes n p in
        let facts : List OwnFact = its_facts g t (old.kept n) in
        let read : Agrees (new.tables n) t (start_in g t n first p facts) =
        (all_recalled g.plan (here_in g p n) t (begun_local site (volumes_in g p t) (first_in g first t)) (old.kept n) r.blank (new.tables n) r.is_new.node (r.is_new.parts t within) r.reads).agrees in
        let begun : Local = begun_local site (volumes_in g p t) (first_in g ever t) in
        let z : StartsAlike g t n p first ever facts (nodes.facts n) = by nodes are (old.begun n) refl in
        let y : IsKnown g t n (record { last = p; first = first; first_ever = ever; tables = new.tables n; kept = old.kept n; local = start_in g t n ever p (nodes.facts n); facts = nodes.facts n }) = record {
          has = goes.has;
          part = record { local = start_in g t n first p facts; agrees = read; alike = z.alike };
          bare = all_recalled_bare site begun (nodes.facts n) (λ f lacks. refl);
          rests = rests_itself site (start_in g t n ever p (nodes.facts n)) (all_behind site begun (nodes.facts n) (λ k. record { op = refl; floor = refl })) (all_idle site begun (nodes.facts n) (λ k. refl));
          starts = z.alike;
          there = z.there;
          there_ever = z.there_ever;
          low = z.low;
          low_ever = z.low_ever;
        } in
        let path : record { last = p; first = first; first_ever = ever; tables = new.tables n; kept = old.kept n; local = start_in g t n ever p (nodes.facts n); facts = nodes.facts n } ≡ at_node new after n = λ i. record {
          last = sym goes.started.last_plan i;
          first = sym goes.started.first_plan i;
          first_ever = sym it.0 i;
          tables = new.tables n;
          kept = sym goes.kept i;
          local = sym it.1 i;
          facts = nodes.facts n;
        } in
        step_are g old new n t nodes after are happens.others (λ m other. record {
          local = rw (ne_eqb m n other) refl;
          facts = refl;
          plans = record { begun = rw (ne_eqb m n other) refl; first_plan = rw (ne_eqb m n other) refl; last_plan = rw (ne_eqb m n other) refl };
        }) (record {
          begun = goes.started.begun;
          law_begun = rw (eq-eqb n n refl) refl;
          last_plan = goes.started.last_plan ∙ (rw (eq-eqb n n refl) refl);
          known = subst (IsKnown g t n) path y;
        })
      where
        -- what the law leaves of the node itself
        it : ((after_start (world_at g t) (nodes_at g before t) n p).first_plan n ≡ law_first (nodes_at g before t) n p)
            × ((after_start (world_at g t) (nodes_at g before t) n p).local n ≡ start_in g t n (law_first (nodes_at g before t) n p) p ((nodes_at g before t).facts n))
        it = (rw (eq-eqb n n refl) refl, rw (eq-eqb n n refl) refl)

        by : (nodes : Nodes) → AreKnown g old t nodes → (b : Bool) → old.begun n ≡ b → StartsAlike g t n p (first_of old n p) (law_first nodes n p) (its_facts g t (old.kept n)) (nodes.facts n)
        by nodes are true is =
            let law : nodes.begun n ≡ true = sym (are.begun n) ∙ is in
            let x : IsKnown g t n (at_node old nodes n) = are.known n is in
            let later : old.last_plan n ≤ p = goes.later is in
            let low = x.low in
            let low_ever = x.low_ever in
            let all : StartsAlike g t n p (old.first_plan n) (nodes.first_plan n) (its_facts g t (old.kept n)) (nodes.facts n) = record {
              alike = later_alike g t n (old.last_plan n) p (old.first_plan n) (nodes.first_plan n) (its_facts g t (old.kept n)) (nodes.facts n) sound later x.has goes.has low low_ever x.there x.there_ever x.starts;
              there = there_later (limits g t (old.last_plan n)) (limits g t p) (its_facts g t (old.kept n)) (there_still g t (old.last_plan n) p sound later) x.there;
              there_ever = there_later (limits g t (old.last_plan n)) (limits g t p) (nodes.facts n) (there_still g t (old.last_plan n) p sound later) x.there_ever;
              low = omega (arith, low, later);
              low_ever = omega (arith, low_ever, later);
            } in
            rw (is, law) all
        by nodes are false is =
            let law : nodes.begun n ≡ false = sym (are.begun n) ∙ is in
            let none = are.fresh n is in
            let P : List (List ℕ) → List OwnFact → Type 0 = λ kept facts. StartsAlike g t n p p p (its_facts g t kept) facts in
            let all : P (old.kept n) (nodes.facts n) = subst (λ k. P k (nodes.facts n)) (sym none.0) (subst (P []) (sym none.1)
            (record { alike = begun_alike g t n p p; there = none_there (limits g t p); there_ever = none_there (limits g t p); low = omega arith; low_ever = omega arith })) in
            rw (is, law) all

-- ---- all happenings

pub record AllHold (g : GridPlans) (before hs : List Happening) (last : AllNodes) : Type 0 where
  pub holds : Holds g (before ++ hs) last
  pub told : TellsAll g before hs

pub all_hold : (g : GridPlans) (hs before : List Happening) (first last : AllNodes) → AreSound g → Holds g before first → AllHappen g first hs last → AllHold g before hs last
all_hold g [] before first last sound holds same = record {
  holds = subst (Holds g (before ++ [])) same (subst (λ b. Holds g b first) (sym (append-nil before)) holds);
  told = tt;
}
all_hold g (h ∷ hs) before first last sound holds happen =
    let one : OneHolds g before h happen.0 = one_holds g before h first happen.0 sound holds happen.1 in
    let rest : AllHold g (before ++ h ∷ []) hs last = all_hold g hs (before ++ h ∷ []) happen.0 last sound one.holds happen.2 in
    record {
      holds = subst (λ b. Holds g b last) (append_assoc before (h ∷ []) hs) rest.holds;
      told = (one.told, rest.told);
    }

-- ---- registers

-- each file is one register, in a service that gives the tenant as many steps as the run can take
one_register : (g : GridPlans) (t : ℕ) (events : List Event) → AreSound g → AllCanCome (world_at g t) (new_nodes (world_at g t)) events → AllOpen (row_at g.plan t) [] (g.opens t) → IsOneRegister g t events
one_register g t events sound can opens =
    let w : NodeWorld = world_at g t in
    let may : AllCanCome its (new_nodes its) events = same_can many w (new_nodes w) events can in
    let all : FleetFollows its.world (all_steps its (new_nodes its) events) × IsRight g.plan.grid row (home_of g.plan t) (g.opens t) (all_node_steps its.world new_fleet (all_steps its (new_nodes its) events)) =
    subst P volumes served may (subst (StepsEnough row (g.opens t)) (sym same) (omega arith)) in
    record {
      follows = subst (FleetFollows its.world) (same_steps many w (new_nodes w) events) all.0;
      right = subst (IsRight g.plan.grid row (home_of g.plan t) (g.opens t)) same all.1;
    }
  where
    row : TenantRow
    row = row_for g t events

    many : ℕ
    many = row.steps

    its : NodeWorld
    its = world_with g t row (g.opens t)

    same : all_node_steps its.world new_fleet (all_steps its (new_nodes its) events) ≡ cluster_steps g t events
    same =
        ap (all_node_steps its.world new_fleet) (same_steps many (world_at g t) (new_nodes (world_at g t)) events)
        ∙ same_node_steps many (world_at g t).world new_fleet (fleet_steps g t events)

    P : List VolumeRow → Type 0
    P vs =
        let v : NodeWorld = world_with g t row vs in
        AllCanCome v (new_nodes v) events → StepsEnough row (g.opens t) (all_node_steps v.world new_fleet (all_steps v (new_nodes v) events)) →
        FleetFollows v.world (all_steps v (new_nodes v) events) × IsRight g.plan.grid row (home_of g.plan t) (g.opens t) (all_node_steps v.world new_fleet (all_steps v (new_nodes v) events))

    volumes : (setting_of g.plan.grid row (home_of g.plan t) (g.opens t)).volumes ≡ g.opens t
    volumes = all_volumes_open g.plan.grid row (home_of g.plan t) (g.opens t) (same_open many (row_at g.plan t) [] (g.opens t) MOST_NUMBERS opens) (omega arith)

    served : P (setting_of g.plan.grid row (home_of g.plan t) (g.opens t)).volumes
    served may enough =
        all_nodes_serve g.plan.grid row (home_of g.plan t) (g.opens t) (plans_of g t) (λ p. (row_at g.plan t).sessions) (λ p k. is_of_plan g.plan (here_in g p 0) t k) (λ p. home_place g.plan t 0) events
        (homes_stand g t sound) (sound.chain t) (sessions_stay g t sound) (some_servers g sound) (few_places g.plan sound.plan) may enough

-- ---- where what comes by lines can come, all can

goes_on : (w : NodeWorld) (n : ℕ) (nodes : Nodes) (xs : List Input) →
    ((nodes_after w nodes (map (λ a. Came n a) xs)).local n ≡ after_all (site_at w nodes n) (nodes.local n) xs) × (site_at w (nodes_after w nodes (map (λ a. Came n a) xs)) n ≡ site_at w nodes n)
goes_on w n nodes xs =
    let a : AfterAll w (nodes.last_plan n) n nodes (nodes_after w nodes (map (λ a. Came n a) xs)) xs = after_inputs w (nodes.last_plan n) n nodes xs refl in
    (a.local, ap (λ q. site_in w q n) (a.plans n).last_plan)

some_can : (g : GridPlans) (p n : ℕ) (bytes : List ℕ) (t : ℕ) (nodes : Nodes) (incoming : Incoming) → InputsCanCome (world_at g t) n nodes (inputs_with bytes g.plan (here_in g p n) incoming t) →
    AllCanCome (world_at g t) nodes (map (λ a. Came n a) (all_taken g p n bytes t nodes incoming))
some_can g p n bytes t nodes incoming can =
    taken_can (world_at g t) n nodes (site_at (world_at g t) nodes n) (inputs_with bytes g.plan (here_in g p n) incoming t) refl can (λ ns xs. goes_on (world_at g t) n ns xs)

came_can : (g : GridPlans) (p n : ℕ) (bytes : List ℕ) (t : ℕ) (nodes : Nodes) (incoming : Incoming) → IncomingCanCome g p n bytes t nodes incoming → AllCanCome (world_at g t) nodes (came_events g p n bytes t nodes incoming)
came_can g p n bytes t nodes (Request tenant op line) can = some_can g p n bytes t nodes (Request tenant op line) can
came_can g p n bytes t nodes (AsksPlan tenant) can = some_can g p n bytes t nodes (AsksPlan tenant) can
came_can g p n bytes t nodes (AsksLook tenant mark volume) can = some_can g p n bytes t nodes (AsksLook tenant mark volume) can
came_can g p n bytes t nodes (Bad tenant) can = some_can g p n bytes t nodes (Bad tenant) can
came_can g p n bytes t nodes (Letter from m) can = some_can g p n bytes t nodes (Letter from m) can
came_can g p n bytes t nodes (ShortLetter from short) can = some_can g p n bytes t nodes (ShortLetter from short) can
came_can g p n bytes t nodes (Joins from losses) can = (can, tt)
came_can g p n bytes t nodes (Joined from losses) can = some_can g p n bytes t nodes (Joined from losses) can
came_can g p n bytes t nodes (Speaks from form) can = some_can g p n bytes t nodes (Speaks from form) can
came_can g p n bytes t nodes (Fetch from file) can = some_can g p n bytes t nodes (Fetch from file) can
came_can g p n bytes t nodes (Fetched from file copy) can = some_can g p n bytes t nodes (Fetched from file copy) can
came_can g p n bytes t nodes Tick can = some_can g p n bytes t nodes Tick can
came_can g p n bytes t nodes Greet can = some_can g p n bytes t nodes Greet can
came_can g p n bytes t nodes Nothing can = some_can g p n bytes t nodes Nothing can

of_happening : (g : GridPlans) (t : ℕ) (nodes : Nodes) (h : Happening) → HappeningCanCome g t nodes h → AllCanCome (world_at g t) nodes (events_of g t nodes h)
of_happening g t nodes (Took n p bytes did) can = came_can g p n bytes t nodes (incoming_of g.plan n did.line) can
of_happening g t nodes (Starts n p) can = (can, tt)
of_happening g t nodes (Renews n facts) can = tt

all_can : (g : GridPlans) (t : ℕ) (nodes : Nodes) (hs : List Happening) → LinesCanCome g t nodes hs → AllCanCome (world_at g t) nodes (events_from g t nodes hs)
all_can g t nodes [] can = tt
all_can g t nodes (h ∷ hs) can =
    let w : NodeWorld = world_at g t in
    let one : List Event = events_of g t nodes h in
    can_more w nodes one (events_from g t (nodes_after w nodes one) hs) (of_happening g t nodes h can.0) (all_can g t (nodes_after w nodes one) hs can.1)

-- ---- the whole

-- of a tenant to which what comes by lines can come
pub follows_law : AllFollowLaw
follows_law g hs t sound can = record {
  follows = all_nodes_follow (world_at g t) (all_events g t hs) (sound.chain t) (sessions_stay g t sound) (some_servers g sound) (few_places g.plan sound.plan) (all_can g t (new_nodes (world_at g t)) hs can);
  right = λ opens. one_register g t (all_events g t hs) sound (all_can g t (new_nodes (world_at g t)) hs can) opens;
}

pub none_hold : (g : GridPlans) (first : AllNodes) → AllNew first → Holds g [] first
none_hold g first new = record {
  node = λ n begun. absurd (let none = (new n).0 in cc);
  are = λ t within. record {
    begun = λ n. (new n).0;
    last_plan = λ n begun. absurd (let none = (new n).0 in cc);
    fresh = λ n none. ((new n).1, refl);
    known = λ n begun. absurd (let none = (new n).0 in cc);
  };
}

pub all_by_law : AllByLaw
all_by_law g first last hs sound new happen =
    let all : AllHold g [] hs last = all_hold g hs [] first last sound (none_hold g first new) happen in
    record {
      told = all.told;
      nodes = λ t within. (
          let are : AreKnown g last t (nodes_at g hs t) = all.holds.are t within in
          record {
            begun = are.begun;
            last_plan = are.last_plan;
            parts = λ n begun. (are.known n begun).part;
            starts = λ n p begun later has. (
                let x : IsKnown g t n (at_node last (nodes_at g hs t) n) = are.known n begun in
                later_alike g t n (last.last_plan n) p (last.first_plan n) ((nodes_at g hs t).first_plan n) (its_facts g t (last.kept n)) ((nodes_at g hs t).facts n) sound later x.has has x.low x.low_ever x.there x.there_ever x.starts);
          });
    }

-- ---- what calls promise of one node

-- node n goes on, and the others stay
abbrev with_node : AllNodes → (n first p : ℕ) → Tables → List (List ℕ) → AllNodes
with_node old n first p tables kept = record {
  begun = λ m. if m == n then true else old.begun m;
  first_plan = λ m. if m == n then first else old.first_plan m;
  last_plan = λ m. if m == n then p else old.last_plan m;
  tables = λ m. if m == n then tables else old.tables m;
  kept = λ m. if m == n then kept else old.kept m;
}

others_stay : (old : AllNodes) (n first p : ℕ) (tables : Tables) (kept : List (List ℕ)) (m : ℕ) → m ≢ n → Stays m old (with_node old n first p tables kept)
others_stay old n first p tables kept m other =
    let not' : (m == n) ≡ false = ne_eqb m n other in
    record { begun = rw not' refl; first_plan = rw not' refl; last_plan = rw not' refl; tables = rw not' refl; kept = rw not' refl }

is_started : (old : AllNodes) (n first p : ℕ) (tables : Tables) (kept : List (List ℕ)) → IsStarted n first p (with_node old n first p tables kept)
is_started old n first p tables kept = let its : (n == n) ≡ true = eq-eqb n n refl in record { begun = rw its refl; first_plan = rw its refl; last_plan = rw its refl }

has_these : (old : AllNodes) (n first p : ℕ) (tables : Tables) (kept : List (List ℕ)) → ((with_node old n first p tables kept).tables n ≡ tables) × ((with_node old n first p tables kept).kept n ≡ kept)
has_these old n first p tables kept = let its : (n == n) ≡ true = eq-eqb n n refl in (rw its refl, rw its refl)

pub all_steps_happen : AllStepsHappen
all_steps_happen g old n bytes did tables begun step =
    let kept : List (List ℕ) = old.kept n ++ did.facts in
    let has = has_these old n (old.first_plan n) (old.last_plan n) tables kept in
    record {
      new = with_node old n (old.first_plan n) (old.last_plan n) tables kept;
      happens = record {
        others = others_stay old n (old.first_plan n) (old.last_plan n) tables kept;
        goes = record {
          begun = begun;
          plan = refl;
          step = subst (StepsTo (old.tables n) did.line did.facts did.told) (sym has.0) step;
          kept = has.1;
          still = is_started old n (old.first_plan n) (old.last_plan n) tables kept;
        };
      };
      tables_are = has.0;
    }

pub all_starts_happen : AllStartsHappen
all_starts_happen g old n p tables has_node later starts =
    let first : ℕ = first_of old n p in
    let has = has_these old n first p tables (old.kept n) in
    record {
      new = with_node old n first p tables (old.kept n);
      happens = record {
        others = others_stay old n first p tables (old.kept n);
        goes = record {
          has = has_node;
          later = later;
          starts = subst (StartsBy g first p n (old.kept n)) (sym has.0) starts;
          kept = has.1;
          started = is_started old n first p tables (old.kept n);
        };
      };
      tables_are = has.0;
    }

pub all_renewals_happen : AllRenewalsHappen
all_renewals_happen g old n facts begun needed fit =
    let kept : List (List ℕ) = fact_lines (old.tables n).plan facts in
    let has = has_these old n (old.last_plan n) (old.last_plan n) (old.tables n) kept in
    record {
      new = with_node old n (old.last_plan n) (old.last_plan n) (old.tables n) kept;
      happens = record {
        others = others_stay old n (old.last_plan n) (old.last_plan n) (old.tables n) kept;
        goes = record { begun = begun; needed = needed; fit = fit; kept = has.1; tables = has.0; still = is_started old n (old.last_plan n) (old.last_plan n) (old.tables n) kept };
      };
      tables_are = has.0;
    }
