-- How an operation ended is told again, at any nodes.
use Rattle.std.proofs.Common.{◌≡◌, ◌∙◌, ◌⊎◌, ℕ, ◌+◌, ◌≤◌, Bool, true, false, List, [], ◌∷◌, ◌++◌, refl, sym, ap, subst, append-nil, Option, Some, None, arith, inl, inr}
use Rattle.std.specs.Prelude.{◌&&◌, ◌||◌, ◌==◌, not, is_some, fold, if◌then◌else◌}
use Rattle.std.specs.List.{list_any}
use Rattle.std.proofs.lemmas.Bool.{cases_Bool, and_parts, eqb-true, eq-eqb, ne_eqb, true≢false}
use Rattle.std.proofs.lemmas.List.Sums.{fold-append}
use Rattle.gq_tag.specs.declared.StoredCopy.{StoredCopy}
use Rattle.gq_tag.specs.Tag.{File, is_file, first_copy, greatest}
use Rattle.gq_laws.proofs.OperationMoments.{same_file}
use Rattle.gq_tag.specs.declared.Body.TheVariants.{Store}
use Rattle.gq_model.specs.Trace.{limit_at}
use Rattle.gq_cluster.specs.Cluster.{Part, everyone, copy_in}
use Rattle.gq_cluster.specs.Facts.{OwnFact, Begun, Numbered, Kept, Had}
use Rattle.gq_replace.specs.Keeping.{KeptFiles, files_of_part, with_fleet_fact}
use Rattle.gq_replace.specs.Plans.{place_of}
use Rattle.gq_node.specs.declared.output.Answer.{Answer}
use Rattle.gq_node.specs.Again.{TellsEnd, is_start, begun_at, NoneBegins, forgotten, end_after, AllEndsToldAgain, AllBeginLater}
use Rattle.gq_node.specs.Bridge.{AtHome}
use Rattle.gq_node.specs.Inputs.{Input, Asked, AskedPlan, AskedLook, Brought, Shortened, Ticked, Looked, Joined, Fetching, Fetched, does}
use Rattle.gq_node.specs.Joining.{tells_joined, hears_joined, all_joined, peer_for, asks_peer, looks, is_peer, has_file, gives, takes}
use Rattle.gq_node.specs.Lanes.{lane_of}
use Rattle.gq_node.specs.Local.{Local, Resident, Doing, new_local, part_in, state_of, given, file_fits, recalled, fits_local}
use Rattle.gq_node.specs.Nodes.{first_plan_in, NodeWorld, site_in, site_at, plan_volumes, Nodes, new_nodes, Event, Started, Came, AskedToJoin, node_in, started, first_of, fact_list, doing_of, takes_word, with_ready, after_doing, after_word, after_input, after_event, nodes_after}
use Rattle.gq_node.specs.Once.{begun_by}
use Rattle.gq_node.specs.Resting.{IsBare, begun_local, recall_one, recall_all}
use Rattle.gq_node.specs.Sites.{Site, has_session}
use Rattle.gq_node.proofs.Beginning.{Steps, moved_steps, none_begins, begun_next, begun_is}
use Rattle.gq_node.proofs.Beginnings.{idle_is, ops_are, floors_are}
use Rattle.gq_node.proofs.Bridging.{all_requests_act, all_letters_act, shorts_act, all_ticks_act}
use Rattle.gq_node.proofs.Journal.{FactIn, KeepsBy, Keeps, does_keep, stays_bare}
use Rattle.gq_node.proofs.Moves.{AllNamed, end_of, HasEnded, ended_tells, Moves, moved_named, moved_ended, begun_here, moved_reserved, moved_tells, asks_quiet, all_move}
use Rattle.gq_node.proofs.Recalling.{recalls_fits, recalls_not}
use Rattle.gq_node.proofs.Using.{AllUsed, bridged_used, rests_used, all_of, AllIdle, idle_home}

-- ---- what the facts reserve

-- the last number that the facts reserve for the session's operations
abbrev begun_behind : (k last : ℕ) → OwnFact → ℕ
begun_behind k last (Begun j op) = if j == k then op else last
begun_behind k last _ = last

abbrev last_begun : (k : ℕ) → List OwnFact → ℕ
last_begun k facts = fold (begun_behind k) 0 facts

begun_more : (k : ℕ) (facts : List OwnFact) (fact : OwnFact) → last_begun k (facts ++ fact ∷ []) ≡ begun_behind k (last_begun k facts) fact
begun_more k facts fact = fold-append (begun_behind k) 0 facts (fact ∷ [])

-- ---- a start

-- nothing is known of how an operation ended
abbrev NoOutcome : Local → Type 0
NoOutcome local = (k : ℕ) → (local.residents k).outcome ≡ None

recalled_none : (fact : OwnFact) (local : Local) → NoOutcome local → NoOutcome (recalled fact local)
recalled_none (Begun k op) local none j = by (k == j) refl
  where
    by : (b : Bool) → (k == j) ≡ b → ((recalled (Begun k op) local).residents j).outcome ≡ None
    by true is = rw is refl
    by false is = rw is (none j)
recalled_none (Numbered k number) local none j = by (k == j) refl
  where
    by : (b : Bool) → (k == j) ≡ b → ((recalled (Numbered k number) local).residents j).outcome ≡ None
    by true is = rw is refl
    by false is = rw is (none j)
recalled_none (Kept file copy) local none j = none j
recalled_none (Had file copy) local none j = none j

-- of a file that is lacked there is still the first copy
recalled_bare : (fact : OwnFact) (site : Site) (local : Local) → fits_local fact site local ≡ true → IsBare local → IsBare (recalled fact local)
recalled_bare (Begun k op) site local fits bare f lacks = bare f lacks
recalled_bare (Numbered k number) site local fits bare f lacks = bare f lacks
recalled_bare (Kept file copy) site local fits bare f lacks = elim (cases_Bool (is_file file f)) [
  | inl same ↦ (
      let has : not (local.lacks file) ≡ true = (and_parts (not (local.lacks file)) _ fits).0 in
      let e : local.lacks f ≡ local.lacks file = ap local.lacks (sym (same_file file f same)) in
      absurd (true≢false (sym has ∙ ap not (sym e ∙ lacks))))
  | inr other ↦ (
      let e : (recalled (Kept file copy) local).brought f ≡ local.brought f = rw other refl in
      ap (λ copies. greatest (first_copy ∷ copies)) e ∙ bare f lacks)
]
recalled_bare (Had file copy) site local fits bare f lacks =
    by (is_file file f) refl (and_parts (local.lacks f) (not (is_file file f)) lacks).1
  where
    by : (b : Bool) → is_file file f ≡ b → not (is_file file f) ≡ true → copy_in (part_in (recalled (Had file copy) local)) f ≡ first_copy
    by true is other = absurd (true≢false (sym other ∙ ap not is))
    by false is other =
        let e : (recalled (Had file copy) local).brought f ≡ local.brought f = rw is refl in
        ap (λ copies. greatest (first_copy ∷ copies)) e ∙ bare f (and_parts (local.lacks f) (not (is_file file f)) lacks).0

-- and what is reserved is what the facts reserve, of a session that the plan has
recalled_op : (k : ℕ) (fact : OwnFact) (local : Local) → ((recalled fact local).residents k).reserved.op ≡ begun_behind k (local.residents k).reserved.op fact
recalled_op k (Begun j op) local = by (j == k) refl
  where
    by : (b : Bool) → (j == k) ≡ b → ((recalled (Begun j op) local).residents k).reserved.op ≡ (if j == k then op else (local.residents k).reserved.op)
    by true is = rw is refl
    by false is = rw is refl
recalled_op k (Numbered j number) local = by (j == k) refl
  where
    by : (b : Bool) → (j == k) ≡ b → ((recalled (Numbered j number) local).residents k).reserved.op ≡ (local.residents k).reserved.op
    by true is = rw is (ap (λ x. (local.residents x).reserved.op) (eqb-true j k is))
    by false is = rw is refl
recalled_op k (Kept file copy) local = refl
recalled_op k (Had file copy) local = refl

-- one that does not fit reserves nothing for it
passed_op : (k : ℕ) (fact : OwnFact) (site : Site) (local : Local) (last : ℕ) → has_session site k ≡ true → fits_local fact site local ≡ false → begun_behind k last fact ≡ last
passed_op k (Begun j op) site local last inside not' = elim (cases_Bool (j == k)) [
  | inl same ↦ (absurd (true≢false (sym inside ∙ ap (has_session site) (sym (eqb-true j k same)) ∙ not')))
  | inr other ↦ (rw other refl)
]
passed_op k (Numbered j number) site local last inside not' = refl
passed_op k (Kept file copy) site local last inside not' = refl
passed_op k (Had file copy) site local last inside not' = refl

recall_op : (k : ℕ) (fact : OwnFact) (site : Site) (local : Local) → has_session site k ≡ true → ((recall_one site local fact).residents k).reserved.op ≡ begun_behind k (local.residents k).reserved.op fact
recall_op k fact site local inside = elim (cases_Bool (fits_local fact site local)) [
  | inl fits ↦ (ap (λ (d : Doing). (d.local.residents k).reserved.op) (recalls_fits fact site local fits) ∙ recalled_op k fact local)
  | inr not' ↦ (ap (λ (d : Doing). (d.local.residents k).reserved.op) (recalls_not fact site local not') ∙ sym (passed_op k fact site local (local.residents k).reserved.op inside not'))
]

recall_ops : (k : ℕ) (facts : List OwnFact) (site : Site) (local : Local) → has_session site k ≡ true → ((recall_all site local facts).residents k).reserved.op ≡ fold (begun_behind k) (local.residents k).reserved.op facts
recall_ops k [] site local inside = refl
recall_ops k (fact ∷ facts) site local inside = recall_ops k facts site (recall_one site local fact) inside ∙ ap (λ n. fold (begun_behind k) n facts) (recall_op k fact site local inside)

recall_bare : (site : Site) (facts : List OwnFact) (local : Local) → IsBare local → IsBare (recall_all site local facts)
recall_bare site [] local bare = bare
recall_bare site (fact ∷ facts) local bare = recall_bare site facts (recall_one site local fact) (one (cases_Bool (fits_local fact site local)))
  where
    one : (fits_local fact site local ≡ true) ⊎ (fits_local fact site local ≡ false) → IsBare (recall_one site local fact)
    one (inl fits) = subst (λ (d : Doing). IsBare d.local) (sym (recalls_fits fact site local fits)) (recalled_bare fact site local fits bare)
    one (inr not') = subst (λ (d : Doing). IsBare d.local) (sym (recalls_not fact site local not')) bare

-- ---- what holds of a node

-- what is said here looks at this alone
record View : Type 0 where
  last_plan : ℕ → ℕ
  local : ℕ → Local
  facts : ℕ → List OwnFact

abbrev view : Nodes → View
view nodes = record { last_plan = nodes.last_plan; local = nodes.local; facts = nodes.facts }

-- its sessions are sound, no session used a number that is not reserved, and of those that its plan has its facts tell what is reserved
record IsSound (site : Site) (local : Local) (facts : List OwnFact) : Type 0 where
  home : AtHome site local
  used : AllUsed local
  named : AllNamed local
  bare : IsBare local
  ops : (k : ℕ) → has_session site k ≡ true → (local.residents k).reserved.op ≡ last_begun k facts

abbrev AllSound : NodeWorld → View → Type 0
AllSound w v = (n : ℕ) → IsSound (site_in w (v.last_plan n) n) (v.local n) (v.facts n)

idle_named : (local : Local) → AllIdle local → NoOutcome local → AllNamed local
idle_named local idle none k = record {
  some = λ busy. let e = sym (ap is_some (idle k)) ∙ busy in absurd (cc);
  own = λ o is. let e = sym (none k) ∙ is in absurd (cc);
}

new_all_sound : (w : NodeWorld) → AllSound w (view (new_nodes w))
new_all_sound w n =
    let local : Local = new_local w.world.setting.grid (place_of n) [] in
    record {
      home = idle_home (site_in w 0 n) local (λ k. refl);
      used = rests_used local (λ k. record { op = refl; floor = refl });
      named = idle_named local (λ k. refl) (λ k. refl);
      bare = λ f lacks. refl;
      ops = λ k inside. refl;
    }

started_sound : (w : NodeWorld) (first plan n : ℕ) (facts : List OwnFact) → IsSound (site_in w plan n) (started w first plan n facts) facts
started_sound w first plan n facts =
    let site : Site = site_in w plan n in
    let new : Local = begun_local site (plan_volumes w plan) (first_plan_in (w.world.plans first)) in
    let local : Local = started w first plan n facts in
    record {
      home = idle_home site local (idle_is w first plan n facts);
      used = rests_used local (λ k. record { op = ops_are w first plan n facts k; floor = floors_are w first plan n facts k });
      named = idle_named local (idle_is w first plan n facts) (all_of NoOutcome recalled_none site facts new (λ k. refl));
      bare = recall_bare site facts new (λ f lacks. refl);
      ops = λ k inside. recall_ops k facts site new inside;
    }

-- ---- what comes

-- what a new node asks for and is given leaves all sessions
looks_residents : (lane : ℕ) (site : Site) (local : Local) → (looks lane site local).local.residents ≡ local.residents
looks_residents lane site local = by (all_joined site local.joined) refl
  where
    by : (b : Bool) → all_joined site local.joined ≡ b → (looks lane site local).local.residents ≡ local.residents
    by true is = let e : looks lane site local ≡ asks_peer site local lane (peer_for site lane local.peer) = rw is refl in ap (λ (d : Doing). d.local.residents) e ∙ (asks_quiet site local lane (peer_for site lane local.peer)).0
    by false is = rw is refl

joined_residents : (from losses : ℕ) (site : Site) (local : Local) → (hears_joined from losses site local).local.residents ≡ local.residents
joined_residents from losses site local = by (takes_word site from losses) refl
  where
    by : (b : Bool) → takes_word site from losses ≡ b → (hears_joined from losses site local).local.residents ≡ local.residents
    by true is = rw is refl
    by false is = rw is refl

gives_residents : (from : ℕ) (file : File) (site : Site) (local : Local) → (gives from file site local).local.residents ≡ local.residents
gives_residents from file site local = by (is_peer site from && has_file local file) refl
  where
    by : (b : Bool) → (is_peer site from && has_file local file) ≡ b → (gives from file site local).local.residents ≡ local.residents
    by true is = rw is refl
    by false is = rw is refl

abbrev taking : (from : ℕ) → File → StoredCopy → Site → Local → Bool
taking from file copy site local = is_peer site from && local.lacks file && file_fits (limit_at (state_of everyone local) file.volume file.place) (Store copy)

takes_residents : (from : ℕ) (file : File) (copy : StoredCopy) (site : Site) (local : Local) → (takes from file copy site local).local.residents ≡ local.residents
takes_residents from file copy site local = by (taking from file copy site local) refl
  where
    asked : Doing
    asked = asks_peer site (given file copy local) (lane_of local.volumes file.volume) (place_of from)

    by : (b : Bool) → taking from file copy site local ≡ b → (takes from file copy site local).local.residents ≡ local.residents
    by true is = let e : takes from file copy site local ≡ record asked { fact = Some (Had file copy) } = rw is refl in ap (λ (d : Doing). d.local.residents) e ∙ (asks_quiet site (given file copy local) (lane_of local.volumes file.volume) (place_of from)).0
    by false is = rw is refl

-- where the sessions stay, so does what holds of them
abbrev Holds : Site → Local → Type 0
Holds site local = AtHome site local × AllUsed local

same_holds : (site : Site) (local new : Local) → new.residents ≡ local.residents → Holds site local → Holds site new
same_holds site local new same holds = (
  λ k busy. holds.0 k (ap (λ rs. is_some (rs k).session.current) (sym same) ∙ busy),
  λ k. record {
    op = subst (λ (rs : ℕ → Resident). (rs k).session.op ≤ (rs k).reserved.op) (sym same) (holds.1 k).op;
    floor = subst (λ (rs : ℕ → Resident). (rs k).session.floor ≤ (rs k).reserved.floor) (sym same) (holds.1 k).floor;
  },
)

does_hold : (input : Input) (site : Site) (local : Local) → Holds site local → Holds site (does input site local).local
does_hold (Asked op line) site local holds = let b = all_requests_act op line site local holds.0 in (b.home, bridged_used site local _ _ _ _ b holds.1)
does_hold AskedPlan site local holds = holds
does_hold (AskedLook mark volume) site local holds = holds
does_hold (Brought from letter) site local holds = let b = all_letters_act from letter site local holds.0 in (b.home, bridged_used site local _ _ _ _ b holds.1)
does_hold (Shortened from short bytes) site local holds = let b = shorts_act from short bytes site local holds.0 in (b.home, bridged_used site local _ _ _ _ b holds.1)
does_hold (Ticked session) site local holds = let b = all_ticks_act session site local holds.0 in (b.home, bridged_used site local _ _ _ _ b holds.1)
does_hold (Looked lane) site local holds = same_holds site local (looks lane site local).local (looks_residents lane site local) holds
does_hold (Joined from losses) site local holds = same_holds site local (hears_joined from losses site local).local (joined_residents from losses site local) holds
does_hold (Fetching from file) site local holds = same_holds site local (gives from file site local).local (gives_residents from file site local) holds
does_hold (Fetched from file copy) site local holds = same_holds site local (takes from file copy site local).local (takes_residents from file copy site local) holds

-- the fact of a step tells what it reserves
fleet_op : (k : ℕ) (files : KeptFiles) (fact : OwnFact) → (with_fleet_fact files (Some fact)).kept.op k ≡ begun_behind k (files.kept.op k) fact
fleet_op k files (Begun j op) = refl
fleet_op k files (Numbered j number) = refl
fleet_op k files (Kept file copy) = refl
fleet_op k files (Had file copy) = refl

keeps_op : (site : Site) (local : Local) (fact : Option OwnFact) (part : Part) (facts : List OwnFact) (k : ℕ) → KeepsBy site local fact part → (local.residents k).reserved.op ≡ last_begun k facts → (part.reserved k).op ≡ last_begun k (facts ++ fact_list fact)
keeps_op site local None part facts k keeps was = ap (λ (z : KeptFiles). z.kept.op k) keeps ∙ was ∙ ap (last_begun k) (sym (append-nil facts))
keeps_op site local (Some fact) part facts k keeps was =
    ap (λ (z : KeptFiles). z.kept.op k) keeps.0
    ∙ fleet_op k (files_of_part (part_in local)) fact
    ∙ ap (λ n. begun_behind k n fact) was
    ∙ sym (begun_more k facts fact)

-- for a session that the plan does not have it reserves nothing
keeps_outside : (site : Site) (local : Local) (fact : Option OwnFact) (part : Part) (facts : List OwnFact) (k : ℕ) → has_session site k ≡ false → KeepsBy site local fact part → last_begun k (facts ++ fact_list fact) ≡ last_begun k facts
keeps_outside site local None part facts k outside keeps = ap (last_begun k) (append-nil facts)
keeps_outside site local (Some fact) part facts k outside keeps = begun_more k facts fact ∙ by fact keeps.1
  where
    by : (fact : OwnFact) → FactIn site local fact → begun_behind k (last_begun k facts) fact ≡ last_begun k facts
    by (Begun j op) inside = elim (cases_Bool (j == k)) [
      | inl same ↦ (absurd (true≢false (sym inside.0 ∙ ap (has_session site) (eqb-true j k same) ∙ outside)))
      | inr other ↦ (rw other refl)
    ]
    by (Numbered j number) inside = refl
    by (Kept file copy) fits = refl
    by (Had file copy) fits = refl

does_sound : (site : Site) (input : Input) (local : Local) (facts : List OwnFact) → IsSound site local facts → IsSound site (does input site local).local (facts ++ fact_list (does input site local).fact)
does_sound site input local facts sound =
    let doing : Doing = does input site local in
    let keeps : Keeps site local doing = does_keep input site local sound.bare in
    let holds = does_hold input site local (sound.home, sound.used) in
    record {
      home = holds.0;
      used = holds.1;
      named = moved_named site local doing (all_move input site local) sound.named;
      bare = stays_bare site local doing keeps sound.bare;
      ops = λ k inside. keeps_op site local doing.fact (part_in doing.local) facts k keeps (sound.ops k inside);
    }

-- ---- all nodes

-- what a node's view is behind an event
word_view : (w : NodeWorld) (nodes : Nodes) (n from losses : ℕ) (after : Nodes) → view (after_word w nodes n from losses after) ≡ view after
word_view w nodes n from losses after = by (takes_word (site_at w nodes n) from losses && (not (nodes.ready n) && all_joined (site_at w nodes n) (after.local n).joined))
  where
    by : (b : Bool) → view (if b then with_ready w after n else after) ≡ view after
    by true = refl
    by false = refl

input_view : (w : NodeWorld) (nodes : Nodes) (n : ℕ) (input : Input) → view (after_input w nodes n input) ≡ view (after_doing w nodes n (does input (site_at w nodes n) (nodes.local n)))
input_view w nodes n (Asked op line) = refl
input_view w nodes n AskedPlan = refl
input_view w nodes n (AskedLook mark volume) = refl
input_view w nodes n (Brought from letter) = refl
input_view w nodes n (Shortened from short bytes) = refl
input_view w nodes n (Ticked session) = refl
input_view w nodes n (Looked lane) = refl
input_view w nodes n (Joined from losses) = word_view w nodes n from losses (after_doing w nodes n (does (Joined from losses) (site_at w nodes n) (nodes.local n)))
input_view w nodes n (Fetching from file) = refl
input_view w nodes n (Fetched from file copy) = refl

join_view : (w : NodeWorld) (nodes : Nodes) (n from losses : ℕ) → view (after_event w nodes (AskedToJoin n from losses)) ≡ view nodes
join_view w nodes n from losses = by (tells_joined from losses (site_at w nodes n))
  where
    by : (b : Bool) → view (if b then record nodes { joined = nodes.joined ++ record { from = n; to = from; losses = losses } ∷ [] } else nodes) ≡ view nodes
    by true = refl
    by false = refl

input_sound : (w : NodeWorld) (nodes : Nodes) (n : ℕ) (input : Input) → AllSound w (view nodes) → AllSound w (view (after_doing w nodes n (does input (site_at w nodes n) (nodes.local n))))
input_sound w nodes n input sound m = by (m == n) refl
  where
    doing : Doing
    doing = does input (site_at w nodes n) (nodes.local n)

    by : (b : Bool) → (m == n) ≡ b → IsSound (site_in w (nodes.last_plan m) m) ((after_doing w nodes n doing).local m) ((after_doing w nodes n doing).facts m)
    by false is = rw is (sound m)
    by true is = rw is (subst (λ x. IsSound (site_in w (nodes.last_plan x) x) doing.local (nodes.facts x ++ fact_list doing.fact)) (sym (eqb-true m n is)) (does_sound (site_at w nodes n) input (nodes.local n) (nodes.facts n) (sound n)))

start_sound : (w : NodeWorld) (nodes : Nodes) (n plan : ℕ) → AllSound w (view nodes) → AllSound w (view (after_event w nodes (Started n plan)))
start_sound w nodes n plan sound m = by (m == n) refl
  where
    by : (b : Bool) → (m == n) ≡ b → IsSound (site_in w ((after_event w nodes (Started n plan)).last_plan m) m) ((after_event w nodes (Started n plan)).local m) (nodes.facts m)
    by false is = rw is (sound m)
    by true is = rw is (subst (λ x. IsSound (site_in w plan x) (started w (first_of nodes n plan) plan n (nodes.facts n)) (nodes.facts x)) (sym (eqb-true m n is)) (started_sound w (first_of nodes n plan) plan n (nodes.facts n)))

event_sound : (w : NodeWorld) (nodes : Nodes) (event : Event) → AllSound w (view nodes) → AllSound w (view (after_event w nodes event))
event_sound w nodes (Started n plan) sound = start_sound w nodes n plan sound
event_sound w nodes (Came n input) sound = subst (AllSound w) (sym (input_view w nodes n input)) (input_sound w nodes n input sound)
event_sound w nodes (AskedToJoin n from losses) sound = subst (AllSound w) (sym (join_view w nodes n from losses)) sound

all_sound : (w : NodeWorld) (events : List Event) (nodes : Nodes) → AllSound w (view nodes) → AllSound w (view (nodes_after w nodes events))
all_sound w [] nodes sound = sound
all_sound w (event ∷ events) nodes sound = all_sound w events (after_event w nodes event) (event_sound w nodes event sound)

-- ---- one event

-- the facts reserve this number as the last one for the session's operations; and where the plan has the session, this is told of operation op
record EndedAt (w : NodeWorld) (v : View) (n k op last : ℕ) (answer : Answer) : Type 0 where
  some : 1 ≤ op
  low : op ≤ last
  facts : last_begun k (v.facts n) ≡ last
  ended : has_session (site_in w (v.last_plan n) n) k ≡ true → HasEnded k op answer ((v.local n).residents k)

does_ended : (w : NodeWorld) (nodes : Nodes) (m : ℕ) (input : Input) (n k op last : ℕ) (answer : Answer) → AllSound w (view nodes) → begun_by k (nodes.local n) ((after_doing w nodes m (does input (site_at w nodes m) (nodes.local m))).local n) ≡ None →
    EndedAt w (view nodes) n k op last answer → EndedAt w (view (after_doing w nodes m (does input (site_at w nodes m) (nodes.local m)))) n k op last answer
does_ended w nodes m input n k op last answer sound none at = elim (cases_Bool (n == m)) [
  | inr other ↦ (record { some = at.some; low = at.low; facts = rw other at.facts; ended = rw other at.ended })
  | inl same ↦ (
      let e : n ≡ m = eqb-true n m same in
      let here : begun_by k (nodes.local n) doing.local ≡ None = rw same at none in
      let begun : begun_by k (nodes.local m) doing.local ≡ None = subst (λ x. begun_by k (nodes.local x) doing.local ≡ None) e here in
      let its : EndedAt w (view nodes) m k op last answer = subst (λ x. EndedAt w (view nodes) x k op last answer) e at in
      record {
        some = at.some;
        low = at.low;
        facts = rw same (subst (λ x. last_begun k (nodes.facts x ++ fact_list doing.fact) ≡ last) (sym e) (facts_say begun its (has_session site k) refl));
        ended = rw same (subst (λ x. has_session (site_in w (nodes.last_plan x) x) k ≡ true → HasEnded k op answer (doing.local.residents k)) (sym e) (λ inside. moved_ended site (nodes.local m) doing k op answer moves begun (its.ended inside)));
      })
]
  where
    site : Site
    site = site_at w nodes m

    doing : Doing
    doing = does input site (nodes.local m)

    moves : Moves site (nodes.local m) doing
    moves = all_move input site (nodes.local m)

    keeps : Keeps site (nodes.local m) doing
    keeps = does_keep input site (nodes.local m) (sound m).bare

    facts_say : begun_by k (nodes.local m) doing.local ≡ None → EndedAt w (view nodes) m k op last answer → (b : Bool) → has_session site k ≡ b → last_begun k (nodes.facts m ++ fact_list doing.fact) ≡ last
    facts_say begun its true inside =
        sym (keeps_op site (nodes.local m) doing.fact (part_in doing.local) (nodes.facts m) k keeps ((sound m).ops k inside))
        ∙ moved_reserved site (nodes.local m) doing k moves begun
        ∙ (sound m).ops k inside
        ∙ its.facts
    facts_say begun its false outside = keeps_outside site (nodes.local m) doing.fact (part_in doing.local) (nodes.facts m) k outside keeps ∙ its.facts

-- what is told of it then
abbrev end_by : (n k op last : ℕ) → Event → Answer → Answer
end_by n k op last event answer = if is_start n event then forgotten k op last else answer

start_ended : (w : NodeWorld) (nodes : Nodes) (m plan n k op last : ℕ) (answer : Answer) → EndedAt w (view nodes) n k op last answer → EndedAt w (view (after_event w nodes (Started m plan))) n k op last (if m == n then forgotten k op last else answer)
start_ended w nodes m plan n k op last answer at = elim (cases_Bool (n == m)) [
  | inr other ↦ (record { some = at.some; low = at.low; facts = at.facts; ended = rw (other, not_same m n other) at.ended })
  | inl same ↦ (
      let e : n ≡ m = eqb-true n m same in
      record {
        some = at.some;
        low = at.low;
        facts = at.facts;
        ended = rw (same, eq-eqb m n (sym e)) (subst (λ x. has_session (site_in w plan x) k ≡ true → HasEnded k op (forgotten k op last) ((started w (first_of nodes m plan) plan m (nodes.facts m)).residents k)) (sym e) (here (subst (λ x. last_begun k (nodes.facts x) ≡ last) e at.facts)));
      })
]
  where
    not_same : (m n : ℕ) → (n == m) ≡ false → (m == n) ≡ false
    not_same m n other = ne_eqb m n (λ e. let f = sym other ∙ eq-eqb n m (sym e) in absurd (cc))

    first : ℕ
    first = first_of nodes m plan

    r : Resident
    r = (started w first plan m (nodes.facts m)).residents k

    new : Local
    new = begun_local (site_in w plan m) (plan_volumes w plan) (first_plan_in (w.world.plans first))

    none : r.outcome ≡ None
    none = all_of NoOutcome recalled_none (site_in w plan m) (nodes.facts m) new (λ k. refl) k

    here : last_begun k (nodes.facts m) ≡ last → has_session (site_in w plan m) k ≡ true → HasEnded k op (forgotten k op last) r
    here reserved inside =
        let number : r.session.op ≡ last = ops_are w first plan m (nodes.facts m) k ∙ (started_sound w first plan m (nodes.facts m)).ops k inside ∙ reserved in
        record {
          some = at.some;
          low = subst (λ x. op ≤ x) (sym number) at.low;
          idle = idle_is w first plan m (nodes.facts m) k;
          ends = λ i. end_of k op (number i) (none i);
        }

input_ended : (w : NodeWorld) (nodes : Nodes) (m : ℕ) (input : Input) (n k op last : ℕ) (answer : Answer) → AllSound w (view nodes) → begun_by k (nodes.local n) ((view (after_input w nodes m input)).local n) ≡ None →
    EndedAt w (view nodes) n k op last answer → EndedAt w (view (after_input w nodes m input)) n k op last answer
input_ended w nodes m input n k op last answer sound none at =
    let same = input_view w nodes m input in
    subst (λ v. EndedAt w v n k op last answer) (sym same) (does_ended w nodes m input n k op last answer sound (subst (λ (v : View). begun_by k (nodes.local n) (v.local n) ≡ None) same none) at)

event_ended : (w : NodeWorld) (nodes : Nodes) (event : Event) (n k op last : ℕ) (answer : Answer) → AllSound w (view nodes) → begun_at w nodes n k event ≡ None → EndedAt w (view nodes) n k op last answer →
    EndedAt w (view (after_event w nodes event)) n k op last (end_by n k op last event answer)
event_ended w nodes (Started m plan) n k op last answer sound none at = start_ended w nodes m plan n k op last answer at
event_ended w nodes (Came m input) n k op last answer sound none at = input_ended w nodes m input n k op last answer sound none at
event_ended w nodes (AskedToJoin m from losses) n k op last answer sound none at = subst (λ v. EndedAt w v n k op last answer) (sym (join_view w nodes m from losses)) at

end_more : (n k op last : ℕ) (event : Event) (events : List Event) (answer : Answer) → end_after n k op last events (end_by n k op last event answer) ≡ end_after n k op last (event ∷ events) answer
end_more n k op last event events answer = by (is_start n event) (list_any (is_start n) events)
  where
    by : (a b : Bool) → (if b then forgotten k op last else if a then forgotten k op last else answer) ≡ (if (a || b) then forgotten k op last else answer)
    by true true = refl
    by true false = refl
    by false true = refl
    by false false = refl

events_ended : (w : NodeWorld) (events : List Event) (nodes : Nodes) (n k op last : ℕ) (answer : Answer) → AllSound w (view nodes) → NoneBegins w nodes n k events → EndedAt w (view nodes) n k op last answer →
    EndedAt w (view (nodes_after w nodes events)) n k op last (end_after n k op last events answer)
events_ended w [] nodes n k op last answer sound none at = at
events_ended w (event ∷ events) nodes n k op last answer sound none at =
    let new : Nodes = after_event w nodes event in
    subst (EndedAt w (view (nodes_after w new events)) n k op last) (end_more n k op last event events answer)
    (events_ended w events new n k op last (end_by n k op last event answer) (event_sound w nodes event sound) none.1 (event_ended w nodes event n k op last answer sound none.0 at))

-- ---- the end that is told

-- the node is the session's home, and this is told there
record IsTold (w : NodeWorld) (v : View) (n k op : ℕ) (answer : Answer) : Type 0 where
  home : (w.world.setting.home k == n) ≡ true
  has : has_session (site_in w (v.last_plan n) n) k ≡ true
  ended : HasEnded k op answer ((v.local n).residents k)

input_tells : (w : NodeWorld) (nodes : Nodes) (n : ℕ) (input : Input) (k op : ℕ) (answer : Answer) → AllSound w (view nodes) → (does input (site_at w nodes n) (nodes.local n)).answer ≡ Some answer → TellsEnd k op answer → IsTold w (view (after_input w nodes n input)) n k op answer
input_tells w nodes n input k op answer sound is tells =
    let site : Site = site_at w nodes n in
    let doing : Doing = does input site (nodes.local n) in
    let h = moved_tells site (nodes.local n) doing k op answer (sound n).named (all_move input site (nodes.local n)) is tells in
    subst (λ v. IsTold w v n k op answer) (sym (input_view w nodes n input)) (record { home = h.0.home; has = h.0.inside; ended = rw (eq-eqb n n refl) h.1 })

event_tells : (w : NodeWorld) (nodes : Nodes) (event : Event) (k op : ℕ) (answer : Answer) → AllSound w (view nodes) → (doing_of w nodes event).answer ≡ Some answer → TellsEnd k op answer → IsTold w (view (after_event w nodes event)) (node_in event) k op answer
event_tells w nodes (Started n plan) k op answer sound is tells = absurd (cc)
event_tells w nodes (Came n input) k op answer sound is tells = input_tells w nodes n input k op answer sound is tells
event_tells w nodes (AskedToJoin n from losses) k op answer sound is tells = absurd (cc)

pub all_ends_told_again : AllEndsToldAgain
all_ends_told_again w before event between k op answer line is tells none has its =
    let nodes : Nodes = nodes_after w (new_nodes w) before in
    let told : Nodes = after_event w nodes event in
    let n : ℕ = node_in event in
    let later : Nodes = nodes_after w told between in
    let sound : AllSound w (view nodes) = all_sound w before (new_nodes w) (new_all_sound w) in
    let also : AllSound w (view told) = event_sound w nodes event sound in
    let h : IsTold w (view told) n k op answer = event_tells w nodes event k op answer sound is tells in
    let last : ℕ = ((told.local n).residents k).reserved.op in
    let low = h.ended.low in
    let used = ((also n).used k).op in
    let at : EndedAt w (view told) n k op last answer = record { some = h.ended.some; low = omega (arith, low, used); facts = sym ((also n).ops k h.has); ended = λ inside. h.ended } in
    let end : EndedAt w (view later) n k op last (end_after n k op last between answer) = events_ended w between told n k op last answer also none at in
    ended_tells (site_at w later n) (later.local n) op line k (end_after n k op last between answer) (record { inside = has; home = h.home }) (end.ended has) its

-- ---- what begins later

-- operation op of session k is behind the node: its facts reserve that number; and where the plan has the session, its last number is no lower
record IsPast (w : NodeWorld) (v : View) (n k op : ℕ) : Type 0 where
  facts : op ≤ last_begun k (v.facts n)
  session : has_session (site_in w (v.last_plan n) n) k ≡ true → op ≤ ((v.local n).residents k).session.op

grows : (op last after : ℕ) → op ≤ last → Steps last after → op ≤ after
grows op last after low (inl same) = omega arith
grows op last after low (inr next) = omega arith

does_past : (w : NodeWorld) (nodes : Nodes) (m : ℕ) (input : Input) (n k op : ℕ) → AllSound w (view nodes) → IsPast w (view nodes) n k op → IsPast w (view (after_doing w nodes m (does input (site_at w nodes m) (nodes.local m)))) n k op
does_past w nodes m input n k op sound past = elim (cases_Bool (n == m)) [
  | inr other ↦ (record { facts = rw other past.facts; session = rw other past.session })
  | inl same ↦ (subst (λ x. IsPast w (view (after_doing w nodes m doing)) x k op) (sym (eqb-true n m same)) (at (subst (λ x. IsPast w (view nodes) x k op) (eqb-true n m same) past)))
]
  where
    site : Site
    site = site_at w nodes m

    doing : Doing
    doing = does input site (nodes.local m)

    goes_up : has_session site k ≡ true → IsPast w (view nodes) m k op → op ≤ (doing.local.residents k).session.op
    goes_up inside its = grows op ((nodes.local m).residents k).session.op (doing.local.residents k).session.op (its.session inside) (moved_steps site (nodes.local m) doing k (all_move input site (nodes.local m)))

    reserves : IsPast w (view nodes) m k op → (b : Bool) → has_session site k ≡ b → op ≤ last_begun k (nodes.facts m ++ fact_list doing.fact)
    reserves its true inside =
        let new : IsSound site doing.local (nodes.facts m ++ fact_list doing.fact) = does_sound site input (nodes.local m) (nodes.facts m) (sound m) in
        let low = goes_up inside its in
        let used = (new.used k).op in
        let is = new.ops k inside in
        omega (arith, low, used, is)
    reserves its false outside =
        subst (λ x. op ≤ x) (sym (keeps_outside site (nodes.local m) doing.fact (part_in doing.local) (nodes.facts m) k outside (does_keep input site (nodes.local m) (sound m).bare))) its.facts

    at : IsPast w (view nodes) m k op → IsPast w (view (after_doing w nodes m doing)) m k op
    at its =
        let here : (m == m) ≡ true = eq-eqb m m refl in
        record { facts = rw here (reserves its (has_session site k) refl); session = rw here (λ inside. goes_up inside its) }

start_past : (w : NodeWorld) (nodes : Nodes) (m plan n k op : ℕ) → IsPast w (view nodes) n k op → IsPast w (view (after_event w nodes (Started m plan))) n k op
start_past w nodes m plan n k op past = elim (cases_Bool (n == m)) [
  | inr other ↦ (record { facts = past.facts; session = rw other past.session })
  | inl same ↦ (
      let e : n ≡ m = eqb-true n m same in
      let low : op ≤ last_begun k (nodes.facts m) = subst (λ x. op ≤ last_begun k (nodes.facts x)) e past.facts in
      record {
        facts = past.facts;
        session = rw same (subst (λ x. has_session (site_in w plan x) k ≡ true → op ≤ ((started w (first_of nodes m plan) plan m (nodes.facts m)).residents k).session.op) (sym e) (here low));
      })
]
  where
    first : ℕ
    first = first_of nodes m plan

    here : op ≤ last_begun k (nodes.facts m) → has_session (site_in w plan m) k ≡ true → op ≤ ((started w first plan m (nodes.facts m)).residents k).session.op
    here low inside =
        let number : ((started w first plan m (nodes.facts m)).residents k).session.op ≡ last_begun k (nodes.facts m) = ops_are w first plan m (nodes.facts m) k ∙ (started_sound w first plan m (nodes.facts m)).ops k inside in
        omega (arith, low, number)

event_past : (w : NodeWorld) (nodes : Nodes) (event : Event) (n k op : ℕ) → AllSound w (view nodes) → IsPast w (view nodes) n k op → IsPast w (view (after_event w nodes event)) n k op
event_past w nodes (Started m plan) n k op sound past = start_past w nodes m plan n k op past
event_past w nodes (Came m input) n k op sound past = subst (λ v. IsPast w v n k op) (sym (input_view w nodes m input)) (does_past w nodes m input n k op sound past)
event_past w nodes (AskedToJoin m from losses) n k op sound past = subst (λ v. IsPast w v n k op) (sym (join_view w nodes m from losses)) past

events_past : (w : NodeWorld) (events : List Event) (nodes : Nodes) (n k op : ℕ) → AllSound w (view nodes) → IsPast w (view nodes) n k op → IsPast w (view (nodes_after w nodes events)) n k op
events_past w [] nodes n k op sound past = past
events_past w (event ∷ events) nodes n k op sound past = events_past w events (after_event w nodes event) n k op (event_sound w nodes event sound) (event_past w nodes event n k op sound past)

-- operation op begins by the step that leads to this: its session is of the node's plan, and the number is its next one
record HasBegun (w : NodeWorld) (nodes : Nodes) (v : View) (n k op : ℕ) : Type 0 where
  inside : has_session (site_at w nodes n) k ≡ true
  next : op ≡ ((nodes.local n).residents k).session.op + 1
  past : IsPast w v n k op

does_begin : (w : NodeWorld) (nodes : Nodes) (m : ℕ) (input : Input) (n k op : ℕ) → AllSound w (view nodes) → begun_by k (nodes.local n) ((after_doing w nodes m (does input (site_at w nodes m) (nodes.local m))).local n) ≡ Some op →
    HasBegun w nodes (view (after_doing w nodes m (does input (site_at w nodes m) (nodes.local m)))) n k op
does_begin w nodes m input n k op sound is = elim (cases_Bool (n == m)) [
  | inr other ↦ (absurd (none_begins k op (nodes.local n) (rw other at is)))
  | inl same ↦ (
      let e : n ≡ m = eqb-true n m same in
      let here : begun_by k (nodes.local n) doing.local ≡ Some op = rw same at is in
      subst (λ x. HasBegun w nodes (view (after_doing w nodes m doing)) x k op) (sym e) (at (subst (λ x. begun_by k (nodes.local x) doing.local ≡ Some op) e here)))
]
  where
    site : Site
    site = site_at w nodes m

    doing : Doing
    doing = does input site (nodes.local m)

    at : begun_by k (nodes.local m) doing.local ≡ Some op → HasBegun w nodes (view (after_doing w nodes m doing)) m k op
    at begun =
        let last : ℕ = ((nodes.local m).residents k).session.op in
        let after : ℕ = (doing.local.residents k).session.op in
        let own : (m == m) ≡ true = eq-eqb m m refl in
        let within : has_session site k ≡ true = begun_here site (nodes.local m) doing k op (all_move input site (nodes.local m)) begun in
        let new : IsSound site doing.local (nodes.facts m ++ fact_list doing.fact) = does_sound site input (nodes.local m) (nodes.facts m) (sound m) in
        let number : after ≡ op = begun_is last after op begun in
        let used = (new.used k).op in
        let reserved = new.ops k within in
        let low : op ≤ last_begun k (nodes.facts m ++ fact_list doing.fact) = omega (arith, number, used, reserved) in
        let up : op ≤ after = omega (arith, number) in
        record {
          inside = within;
          next = begun_next last after op (moved_steps site (nodes.local m) doing k (all_move input site (nodes.local m))) begun;
          past = record { facts = rw own low; session = rw own (λ inside. up) };
        }

start_begins_none : (w : NodeWorld) (nodes : Nodes) (m plan n k op : ℕ) → begun_at w nodes n k (Started m plan) ≡ Some op → ⊥
start_begins_none w nodes m plan n k op is = elim (cases_Bool (m == n)) [
  | inl same ↦ (let e = rw same at is in cc)
  | inr other ↦ (
      let away : (n == m) ≡ false = ne_eqb n m (λ e. let f = sym other ∙ eq-eqb m n (sym e) in absurd (cc)) in
      none_begins k op (nodes.local n) (rw (other, away) at is))
]

event_begins : (w : NodeWorld) (nodes : Nodes) (event : Event) (n k op : ℕ) → AllSound w (view nodes) → begun_at w nodes n k event ≡ Some op → HasBegun w nodes (view (after_event w nodes event)) n k op
event_begins w nodes (Started m plan) n k op sound is = absurd (start_begins_none w nodes m plan n k op is)
event_begins w nodes (Came m input) n k op sound is =
    let same = input_view w nodes m input in
    subst (λ v. HasBegun w nodes v n k op) (sym same) (does_begin w nodes m input n k op sound (subst (λ (v : View). begun_by k (nodes.local n) (v.local n) ≡ Some op) same is))
event_begins w nodes (AskedToJoin m from losses) n k op sound is =
    absurd (none_begins k op (nodes.local n) (subst (λ (v : View). begun_by k (nodes.local n) (v.local n) ≡ Some op) (join_view w nodes m from losses) is))

pub all_begin_later : AllBeginLater
all_begin_later w before event between again n k op next is later_is =
    let nodes : Nodes = nodes_after w (new_nodes w) before in
    let told : Nodes = after_event w nodes event in
    let later : Nodes = nodes_after w told between in
    let sound : AllSound w (view nodes) = all_sound w before (new_nodes w) (new_all_sound w) in
    let also : AllSound w (view told) = event_sound w nodes event sound in
    let one : HasBegun w nodes (view told) n k op = event_begins w nodes event n k op sound is in
    let at : IsPast w (view later) n k op = events_past w between told n k op also one.past in
    let two : HasBegun w later (view (after_event w later again)) n k next = event_begins w later again n k next (all_sound w between told also) later_is in
    let low = at.session two.inside in
    let up = two.next in
    omega (arith, low, up)
