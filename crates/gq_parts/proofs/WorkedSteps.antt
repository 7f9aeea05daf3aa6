-- The worked case in tables: what the lines of the losses do to them.
use Rattle.std.proofs.Common.{◌≡◌, ◌∙◌, ℕ, zero, suc, ◌<◌, Bool, true, false, List, [], ◌∷◌, ◌++◌, map, refl, sym, ap, subst, arith, append-nil, Option, Some, None}
use Rattle.std.specs.Prelude.{◌==◌, ◌&&◌, ◌||◌, not, nat_lt, is_some, option_map, slice_index_or, All, ⊤}
use Rattle.std.specs.List.{list_all, flat_map}
use Rattle.std.specs.Option.{option_to_list}
use Rattle.std.proofs.lemmas.List.Elements.{All-nil, All-append}
use Rattle.gq_grid.specs.Grid.{no_servers, with_server}
use Rattle.gq_grid.specs.Sets.{servers}
use Rattle.gq_tag.specs.declared.Body.TheVariants.{Store}
use Rattle.gq_tag.specs.Tag.{is_file, first_copy, greatest, newer_of}
use Rattle.gq_desk.specs.CheckedPlan.{CheckedPlan}
use Rattle.gq_desk.specs.declared.volumes.VolumeRow.{VolumeRow}
use Rattle.gq_phase.specs.Phase.{Task}
use Rattle.gq_model.specs.Trace.{Session, limit_at, operation_with}
use Rattle.gq_cluster.specs.Cluster.{everyone, copy_in}
use Rattle.gq_cluster.specs.Facts.{OwnFact, Begun, Numbered, Kept, Had}
use Rattle.gq_facts.specs.Laws.{FitsFact, FitsOwn}
use Rattle.gq_laws.proofs.Holding.{greatest-push}
use Rattle.gq_replace.specs.Plans.{place_of}
use Rattle.gq_node.specs.declared.output.Fact.{Fact}
use Rattle.gq_node.specs.declared.output.Transfer.TheVariants.{Wants as CodeWants, Brings as CodeBrings}
use Rattle.gq_node.specs.declared.session_states.SessionState.{SessionState}
use Rattle.gq_node.specs.Inputs.{Input, Ticked, Looked, Joined as HeardJoined, Fetching, Fetched as WasFetched}
use Rattle.gq_node.specs.Joining.{all_joined, awaited, first_in_lane, first_lacked, lacked_files, next_peer, has_file, is_peer, hears_joined, looks, gives, takes}
use Rattle.gq_node.specs.Lacks.{lacks_in}
use Rattle.gq_node.specs.Lanes.{lane_of}
use Rattle.gq_node.specs.Local.{Local, Resident, Doing, Wants, Brings, part_in, state_of, silently, given, file_fits, ticks}
use Rattle.gq_node.specs.Sites.{Here, Site, site_of, is_new, has_node}
use Rattle.gq_node.specs.Tables.{Agrees, AllStand, SessionStateAgrees, Sits, fact_of}
use Rattle.gq_wire.specs.declared.incoming.Incoming.{Incoming}
use Rattle.gq_wire.specs.declared.incoming.Incoming.TheVariants.{Joins, Joined, Fetch, Fetched, Tick}
use Rattle.gq_wire.specs.Incoming.{incoming_of}
use Rattle.gq_wire.specs.Texts.{transfer_line}
use Rattle.gq_parts.specs.AllNodes.{here_in}
use Rattle.gq_parts.specs.Inputs.{inputs_with, line_inputs_with}
use Rattle.gq_parts.specs.Steps.{fact_lines, StepsTo}
use Rattle.gq_parts.specs.Texts.{facts_for, written_for, joins_text, joined_text, node_text, lacks_some}
use Rattle.gq_parts.specs.Within.{after_taken}
use Rattle.gq_parts.specs.Worked.{grid_worked, file_worked}
use Rattle.gq_parts.proofs.Chains.{Move, inputs_in, last_local, facts_in, text_in, Comes, comes_alone}
use Rattle.gq_parts.proofs.Replacing.{is_plan}
use Rattle.gq_parts.proofs.WorkedTables.{file, site, session, View, tables_of, Sees, agrees_of, sees_of, no_set_is, first_set_is, not_first}

-- ---- a line to a node

-- the part with these tables then is one with those, gives these facts, and this is written for it
pub record Leads (n p : ℕ) (v w : View) (inputs : List Input) (facts : List Fact) (told : List ℕ) (local : Local) : Type 0 where
  pub after : Sees n p w (after_taken (site n p) local inputs)
  pub facts_are : facts_for grid_worked.plan (here_in grid_worked p n) 0 local inputs ≡ facts
  pub told_is : written_for grid_worked.plan (here_in grid_worked p n) 0 local inputs ≡ told

-- so it is where these moves are known
pub leads_by : (n p : ℕ) (v w : View) (local : Local) (moves : List Move) (facts : List Fact) (told : List ℕ) → Comes grid_worked.plan (here_in grid_worked p n) 0 local (inputs_in moves) moves →
    map (fact_of 0) (facts_in moves) ≡ facts → text_in grid_worked.plan (here_in grid_worked p n) 0 moves ≡ told → Sees n p w (last_local local moves) → Leads n p v w (inputs_in moves) facts told local
leads_by n p v w local moves facts told comes gave wrote sees = record {
  after = subst (Sees n p w) (sym comes.after) sees;
  facts_are = comes.facts ∙ gave;
  told_is = comes.text ∙ wrote;
}

-- a step of the node, whatever part the tables have
pub record Steps (n p : ℕ) (v w : View) (incoming : Incoming) (facts : List Fact) : Type 0 where
  pub told : List ℕ
  pub own : List ℕ
  pub leads : (bytes : List ℕ) (local : Local) → Sees n p v local → Leads n p v w (inputs_with bytes grid_worked.plan (here_in grid_worked p n) incoming 0) facts told local
  pub own_is : (parts : ℕ → Local) → Sees n p w (parts 0) → node_text grid_worked.plan (here_in grid_worked p n) incoming parts ≡ own
  pub fit : All (FitsFact grid_worked.plan) facts

pub stand_by : (n p : ℕ) (v : View) (some : Local) → Sees n p v some → AllStand (tables_of n p v)
stand_by n p v some sees zero within = record { local = some; agrees = agrees_of n p v some sees }
stand_by n p v some sees (suc t) within = absurd (omega arith)

pub steps_to : (n p : ℕ) (v w : View) (line : List ℕ) (incoming : Incoming) (facts : List Fact) (some : Local) → incoming_of grid_worked.plan n line ≡ incoming → Sees n p v some → (s : Steps n p v w incoming facts) →
    StepsTo (tables_of n p v) line (fact_lines grid_worked.plan facts) (s.told ++ s.own) (tables_of n p w)
steps_to n p v w line incoming facts some read sees s = record {
  sound = is_plan;
  stand = stand_by n p v some sees;
  facts = facts;
  tenants = s.told;
  takes = λ bytes. record {
    plan = refl;
    here = refl;
    parts = each bytes;
    gives = λ parts agree. (
        let one : Leads n p v w (inputs bytes) facts s.told (parts 0) = s.leads bytes (parts 0) (sees_of n p v (parts 0) (agree 0 (omega arith))) in
        sym (append-nil _ ∙ ap (facts_for plan here 0 (parts 0)) (reads bytes) ∙ one.facts_are));
    tells = λ parts agree. (
        let one : Leads n p v w (inputs bytes) facts s.told (parts 0) = s.leads bytes (parts 0) (sees_of n p v (parts 0) (agree 0 (omega arith))) in
        sym (append-nil _ ∙ ap (written_for plan here 0 (parts 0)) (reads bytes) ∙ one.told_is));
    fit = s.fit;
  };
  lines_are = refl;
  told_is = λ parts agree. ap (λ z. s.told ++ z) (sym (ap (λ x. node_text plan here x parts) read ∙ s.own_is parts (sees_of n p w (parts 0) (agree 0 (omega arith)))));
}
  where
    plan : CheckedPlan
    plan = grid_worked.plan

    here : Here
    here = here_in grid_worked p n

    inputs : List ℕ → List Input
    inputs bytes = inputs_with bytes plan here incoming 0

    reads : (bytes : List ℕ) → line_inputs_with bytes plan here line 0 ≡ inputs bytes
    reads bytes = ap (λ x. inputs_with bytes plan here x 0) read

    each : (bytes : List ℕ) (t : ℕ) → t < 1 → (local : Local) → Agrees (tables_of n p v) t local → Agrees (tables_of n p w) t (after_taken (site_of plan here t) local (line_inputs_with bytes plan here line t))
    each bytes zero within local agrees =
        let one : Leads n p v w (inputs bytes) facts s.told local = s.leads bytes local (sees_of n p v local agrees) in
        agrees_of n p w _ (subst (λ xs. Sees n p w (after_taken (site n p) local xs)) (sym (reads bytes)) one.after)
    each bytes (suc t) within local agrees = absurd (omega arith)

-- ---- facts that fit

-- a fact of the tenant
pub is_of_plan : (own : OwnFact) → FitsOwn own → FitsFact grid_worked.plan (fact_of 0 own)
is_of_plan (Begun k op) fits = record { tenant = omega arith; own = fits }
is_of_plan (Numbered k number) fits = record { tenant = omega arith; own = fits }
is_of_plan (Kept file copy) fits = record { tenant = omega arith; own = fits }
is_of_plan (Had file copy) fits = record { tenant = omega arith; own = fits }

pub fits_one : (own : OwnFact) → FitsOwn own → All (FitsFact grid_worked.plan) (fact_of 0 own ∷ [])
fits_one own fits k d low = subst (λ fact. FitsFact grid_worked.plan fact) (sym (one k low)) (is_of_plan own fits)
  where
    one : (k : ℕ) → k < 1 → slice_index_or (fact_of 0 own ∷ []) k d ≡ fact_of 0 own
    one zero low = refl
    one (suc k) low = absurd (omega arith)

-- facts of which each fits, where it is there
abbrev pub OptionFits : Option OwnFact → Type 0
OptionFits None = ⊤
OptionFits (Some own) = FitsOwn own

abbrev pub AllOptionsFit : List (Option OwnFact) → Type 0
AllOptionsFit [] = ⊤
AllOptionsFit (o ∷ os) = OptionFits o × AllOptionsFit os

pub fits_options : (os : List (Option OwnFact)) → AllOptionsFit os → All (FitsFact grid_worked.plan) (map (fact_of 0) (flat_map option_to_list os))
fits_options [] fits = All-nil (FitsFact grid_worked.plan)
fits_options (None ∷ os) fits = fits_options os fits.1
fits_options (Some own ∷ os) fits = All-append (FitsFact grid_worked.plan) (fact_of 0 own ∷ []) (map (fact_of 0) (flat_map option_to_list os)) (fits_one own fits.0) (fits_options os fits.1)

-- ---- a session without an operation

idle_task : (k floor : ℕ) (s : Session) (c : Option Task) → Sits grid_worked.plan.grid 0 floor None s.floor (option_map (operation_with k s) c) → (c ≡ None) × (floor ≡ s.floor)
idle_task k floor s None sits = (refl, sits)
idle_task k floor s (Some task) sits = absurd sits

pub is_idle : (k : ℕ) (state : SessionState) (r : Resident) → state.operation ≡ None → SessionStateAgrees grid_worked.plan.grid 0 k state r → (r.session.current ≡ None) × (state.floor ≡ r.session.floor)
is_idle k state r none agrees =
    idle_task k state.floor r.session r.session.current
    (subst (λ o. Sits grid_worked.plan.grid 0 state.floor o r.session.floor (option_map (operation_with k r.session) r.session.current)) none agrees.sits)

-- ---- a new node and the other one

-- what is so of the new nodes of the case, and of the plans that have them
pub record IsTurn (new losses : ℕ) : Type 0 where
  pub joins : (is_new (site new losses) && has_node (site new losses) 0 && losses == (site new losses).losses) ≡ true
  pub place : place_of new ≡ 1
  pub other : (site new losses).node_at 0 ≡ 0
  pub peer : is_peer (site new losses) 0 ≡ true
  pub peer_there : is_peer (site 0 losses) new ≡ true

-- the question whether the plan has the new node is answered
pub joins_steps : (new losses : ℕ) (v : View) → Steps 0 losses v v (Joins new losses) []
joins_steps new losses v = record {
  told = [];
  own = joined_text grid_worked.plan (here_in grid_worked losses 0) new losses;
  leads = λ bytes local sees. record { after = sees; facts_are = refl; told_is = refl };
  own_is = λ parts sees. refl;
  fit = All-nil (FitsFact grid_worked.plan);
}

-- the answer is heard
pub joined_steps : (new losses : ℕ) (v : View) → v.joined ≡ record { bits = 0 } → IsTurn new losses → Steps new losses v (record v { joined = record { bits = 1 } }) (Joined 0 losses) []
joined_steps new losses v none turn = record {
  told = [];
  own = [];
  leads = λ bytes. leads;
  own_is = λ parts sees. refl;
  fit = All-nil (FitsFact grid_worked.plan);
}
  where
    at : Site
    at = site new losses

    after : Local → Local
    after local = record local { joined = with_server (place_of 0) local.joined }

    leads : (local : Local) → Sees new losses v local → Leads new losses v (record v { joined = record { bits = 1 } }) (HeardJoined 0 losses ∷ []) [] [] local
    leads local sees =
        let moves : List Move = record { input = HeardJoined 0 losses; plain = λ site local. (refl, refl); doing = silently (after local) } ∷ [] in
        let is : hears_joined 0 losses at local ≡ silently (after local) = rw turn.joins refl in
        leads_by new losses v (record v { joined = record { bits = 1 } }) local moves [] [] (comes_alone grid_worked.plan (here_in grid_worked losses new) 0 local moves (is, tt) (refl, tt)) refl refl
        (record {
          volumes = sees.volumes;
          copy = sees.copy;
          others = sees.others;
          lacks = sees.lacks;
          joined = first_set_is ∙ ap (with_server 0) (sym no_set_is ∙ ap servers (sym none) ∙ sees.joined);
          peer = sees.peer;
          one = sees.one;
          two = sees.two;
        })

-- at a tick it asks for the file
pub tick_steps : (new losses : ℕ) (v : View) → v.joined ≡ record { bits = 1 } → v.given ≡ [] ∷ [] → v.peer ≡ 1 → v.one.operation ≡ None → v.two.operation ≡ None → IsTurn new losses → Steps new losses v (record v { peer = 0 }) Tick []
tick_steps new losses v joined lacks peer one two turn = record {
  told = transfer_line grid_worked.plan new (CodeWants 0 file_worked) ++ [];
  own = joins_text grid_worked.plan (here_in grid_worked losses new) (awaited at (with_server 0 no_servers));
  leads = λ bytes. leads;
  own_is = own;
  fit = All-nil (FitsFact grid_worked.plan);
}
  where
    at : Site
    at = site new losses

    w : View
    w = record v { peer = 0 }

    lacked : (x : View) (local : Local) → x.given ≡ [] ∷ [] → Sees new losses x local → local.lacks file ≡ true
    lacked x local is sees = sym (sees.lacks file) ∙ ap (λ g. lacks_in g file) is

    own : (parts : ℕ → Local) → Sees new losses w (parts 0) → node_text grid_worked.plan (here_in grid_worked losses new) Tick parts ≡ joins_text grid_worked.plan (here_in grid_worked losses new) (awaited at (with_server 0 no_servers))
    own parts sees =
        let some : lacks_some grid_worked.plan parts ≡ true =
        ap (λ (vs : List VolumeRow). nat_lt 0 (lacked_files (parts 0).lacks vs) || false) (sym sees.volumes) ∙ (rw (lacked w (parts 0) lacks sees) refl) in
        rw some (ap (λ j. joins_text grid_worked.plan (here_in grid_worked losses new) (awaited at j)) (sym sees.joined ∙ ap servers joined ∙ first_set_is))

    asks : Local → Doing
    asks local = record (silently (record local { peer = 0 })) { transfer = Some (Wants (at.node_at 0) file) }

    looks_is : (local : Local) → Sees new losses v local → looks 0 at local ≡ asks local
    looks_is local sees =
        let all : all_joined at local.joined ≡ true =
        (λ i. list_all (λ place. place == turn.place i || (sym sees.joined ∙ ap servers joined ∙ first_set_is) i place) (0 ∷ 1 ∷ [])) in
        let next : next_peer at local.peer ≡ 0 = ap (next_peer at) (sym sees.peer ∙ peer) ∙ ap (λ p. next_peer (record at { place = p }) 1) turn.place in
        let first : first_lacked local 0 ≡ Some file = ap (λ (vs : List VolumeRow). first_in_lane local.lacks vs 0) (sym sees.volumes) ∙ (rw (lacked v local lacks sees) refl) in
        rw (all, next, first) refl

    leads : (local : Local) → Sees new losses v local →
        Leads new losses v w (Ticked (session new losses 0) ∷ Ticked (session new losses 1) ∷ Looked 0 ∷ []) [] (transfer_line grid_worked.plan new (CodeWants 0 file_worked) ++ []) local
    leads local sees =
        let first : (local.residents (session new losses 0)).session.current ≡ None = (is_idle (session new losses 0) v.one (local.residents (session new losses 0)) one sees.one).0 in
        let second : (local.residents (session new losses 1)).session.current ≡ None = (is_idle (session new losses 1) v.two (local.residents (session new losses 1)) two sees.two).0 in
        let moves : List Move =
        record { input = Ticked (session new losses 0); plain = λ site local. (refl, refl); doing = silently local }
        ∷ record { input = Ticked (session new losses 1); plain = λ site local. (refl, refl); doing = silently local }
        ∷ record { input = Looked 0; plain = λ site local. (refl, refl); doing = asks local }
        ∷ [] in
        let a : ticks (session new losses 0) at local ≡ silently local = rw first refl in
        let b : ticks (session new losses 1) at local ≡ silently local = rw second refl in
        leads_by new losses v w local moves [] (transfer_line grid_worked.plan new (CodeWants 0 file_worked) ++ [])
        (comes_alone grid_worked.plan (here_in grid_worked losses new) 0 local moves (a, (b, (looks_is local sees, tt))) (refl, (refl, (refl, tt)))) refl
        (ap (λ m. transfer_line grid_worked.plan new (CodeWants m file_worked) ++ []) turn.other)
        (record {
          volumes = sees.volumes;
          copy = sees.copy;
          others = sees.others;
          lacks = sees.lacks;
          joined = sees.joined;
          peer = refl;
          one = sees.one;
          two = sees.two;
        })

-- the other node gives its copy
pub fetch_steps : (new losses : ℕ) (v : View) → v.given ≡ [] → IsTurn new losses → Steps 0 losses v v (Fetch new file_worked) []
fetch_steps new losses v has turn = record {
  told = transfer_line grid_worked.plan 0 (CodeBrings new file_worked v.copy) ++ [];
  own = [];
  leads = λ bytes. leads;
  own_is = λ parts sees. refl;
  fit = All-nil (FitsFact grid_worked.plan);
}
  where
    at : Site
    at = site 0 losses

    gave : Local → Doing
    gave local = record (silently local) { transfer = Some (Brings new file (copy_in (part_in local) file)) }

    leads : (local : Local) → Sees 0 losses v local → Leads 0 losses v v (Fetching new file ∷ []) [] (transfer_line grid_worked.plan 0 (CodeBrings new file_worked v.copy) ++ []) local
    leads local sees =
        let there : has_file local file ≡ true =
        ap (λ (vs : List VolumeRow). is_some (limit_at (state_of everyone (record local { volumes = vs })) 0 0) && not (local.lacks file)) (sym sees.volumes)
        ∙ ap not (sym (sees.lacks file) ∙ ap (λ g. lacks_in g file) has) in
        let moves : List Move = record { input = Fetching new file; plain = λ site local. (refl, refl); doing = gave local } ∷ [] in
        let is : gives new file at local ≡ gave local = rw (turn.peer_there, there) refl in
        leads_by 0 losses v v local moves [] (transfer_line grid_worked.plan 0 (CodeBrings new file_worked v.copy) ++ [])
        (comes_alone grid_worked.plan (here_in grid_worked losses 0) 0 local moves (is, tt) (refl, tt)) refl
        (ap (λ c. transfer_line grid_worked.plan 0 (CodeBrings new file_worked c) ++ []) (sym sees.copy)) sees

-- and the new one has it from then on
pub given_all : (v place : ℕ) → lacks_in ((true ∷ []) ∷ []) (record { volume = v; place = place }) ≡ (lacks_in ([] ∷ []) (record { volume = v; place = place }) && not (is_file file (record { volume = v; place = place })))
given_all zero zero = refl
given_all zero (suc place) = rw (not_first place) refl
given_all (suc v) place = rw (not_first v) (sym (plain (nat_lt (suc v) 1 && true)))
  where
    plain : (b : Bool) → (b && true) ≡ b
    plain true = refl
    plain false = refl

pub fetched_steps : (new losses : ℕ) (v : View) → v.copy ≡ first_copy → v.given ≡ [] ∷ [] → v.peer ≡ 0 → IsTurn new losses → Steps new losses v (record v { given = (true ∷ []) ∷ [] }) (Fetched 0 file_worked first_copy) (fact_of 0 (Had file first_copy) ∷ [])
fetched_steps new losses v first lacks peer turn = record {
  told = [];
  own = [];
  leads = λ bytes. leads;
  own_is = λ parts sees. refl;
  fit = fits_one (Had file first_copy) (omega arith, omega arith, (omega arith, omega arith, λ i. omega arith));
}
  where
    at : Site
    at = site new losses

    w : View
    w = record v { given = (true ∷ []) ∷ [] }

    took : Local → Doing
    took local = record (silently (record (given file first_copy local) { peer = 0 })) { fact = Some (Had file first_copy) }

    leads : (local : Local) → Sees new losses v local → Leads new losses v w (WasFetched 0 file first_copy ∷ []) (fact_of 0 (Had file first_copy) ∷ []) [] local
    leads local sees =
        let lacked : local.lacks file ≡ true = sym (sees.lacks file) ∙ ap (λ g. lacks_in g file) lacks in
        let fits : file_fits (limit_at (state_of everyone local) 0 0) (Store first_copy) ≡ true =
        ap (λ (vs : List VolumeRow). file_fits (limit_at (state_of everyone (record local { volumes = vs })) 0 0) (Store first_copy)) (sym sees.volumes) in
        let lane : lane_of local.volumes 0 ≡ 0 = ap (λ (vs : List VolumeRow). lane_of vs 0) (sym sees.volumes) in
        let none : first_lacked (given file first_copy local) 0 ≡ None = ap (λ (vs : List VolumeRow). first_in_lane (given file first_copy local).lacks vs 0) (sym sees.volumes) ∙ (rw lacked refl) in
        let moves : List Move = record { input = WasFetched 0 file first_copy; plain = λ site local. (refl, refl); doing = took local } ∷ [] in
        let is : takes 0 file first_copy at local ≡ took local = rw (turn.peer, lacked, fits, lane, none) refl in
        leads_by new losses v w local moves (fact_of 0 (Had file first_copy) ∷ []) [] (comes_alone grid_worked.plan (here_in grid_worked losses new) 0 local moves (is, tt) (refl, tt)) refl refl
        (record {
          volumes = sees.volumes;
          copy = first ∙ sym (greatest-push first_copy first_copy (local.brought file) ∙ ap (λ c. newer_of c first_copy) (sym sees.copy ∙ first));
          others = λ f is. (let same : (given file first_copy local).brought f ≡ local.brought f = rw is refl in sees.others f is ∙ ap (λ cs. greatest (first_copy ∷ cs)) (sym same));
          lacks = λ f. given_all f.volume f.place ∙ ap (λ l. l && not (is_file file f)) (ap (λ g. lacks_in g f) (sym lacks) ∙ sees.lacks f);
          joined = sees.joined;
          peer = peer;
          one = sees.one;
          two = sees.two;
        })
