-- A new node asks for a file; a node of its column gives its copy; the new one takes it.
use Rattle.std.proofs.Common.{◌≡◌, ◌≢◌, ◌∙◌, ℕ, zero, suc, ◌*◌, ◌<◌, ◌≤◌, Bool, true, false, List, [], ◌∷◌, ◌++◌, length, refl, sym, ap, subst, append-nil, Option, Some, None, inl, inr, arith}
use Rattle.std.specs.Prelude.{is_some, ◌&&◌, not, nat_lt, Contains, slice_get}
use Rattle.std.specs.List.{list_any}
use Rattle.std.specs.Option.{option_and_then}
use Rattle.std.proofs.lemmas.Bool.{cases_Bool, eq-eqb, ne_eqb, and_parts, true≢false}
use Rattle.std.proofs.lemmas.Bool.Decides.{nat_tests}
use Rattle.std.proofs.lemmas.Option.{slice_get_within}
use Rattle.gq_grid.specs.Grid.{Grid, below, column_servers}
use Rattle.gq_tag.specs.declared.StoredCopy.{StoredCopy}
use Rattle.gq_tag.specs.declared.Body.TheVariants.{Store}
use Rattle.gq_tag.specs.Tag.{File, is_file, first_copy, greatest, newer_of}
use Rattle.gq_desk.specs.declared.volumes.VolumeRow.{VolumeRow}
use Rattle.gq_desk.specs.Volumes.{limit_in}
use Rattle.gq_phase.specs.Quorums.{are_peers}
use Rattle.gq_model.specs.Trace.{limit_at}
use Rattle.gq_laws.proofs.Holding.{greatest-push}
use Rattle.gq_laws.proofs.OperationMoments.{same_file}
use Rattle.gq_cluster.specs.Cluster.{Part, everyone, copy_in, given_part}
use Rattle.gq_cluster.specs.Facts.{Had}
use Rattle.gq_cluster.specs.Keeping.{IsReserved}
use Rattle.gq_replace.specs.Fleet.{Fleet, Fetched as HasFetched, FleetStep, Gives, Takes, after_fleet_step, plan_of, has_file as fleet_has}
use Rattle.gq_replace.specs.Plans.{place_of}
use Rattle.gq_node.specs.Bridge.{AtHome, Bridges}
use Rattle.gq_node.specs.Inputs.{Fetching, Fetched}
use Rattle.gq_node.specs.Joining.{all_joined, peer_for, first_lacked, asks_peer, looks, is_peer, has_file, gives, takes}
use Rattle.gq_node.specs.Lanes.{lane_of}
use Rattle.gq_node.specs.Local.{Local, Doing, Wants, Brings, part_in, state_of, silently, file_fits, given}
use Rattle.gq_node.specs.Nodes.{NodeWorld, site_at, Nodes, Question, questions_in, copies_in, posts, after_doing, PartAlike, IsAlike, IsOwn, input_steps}
use Rattle.gq_node.specs.Sites.{Site, has_node}
use Rattle.gq_node.proofs.Arriving.{few_taken}
use Rattle.gq_node.proofs.Following.{SoundAt, Sound, OneStep, at_nodes, doing_sound, doing_at, still_alike, does_follow}
use Rattle.gq_node.proofs.Journal.{Keeps, does_keep}
use Rattle.gq_node.proofs.Later.{Grows}
use Rattle.gq_node.proofs.Staying.{SameView}
use Rattle.gq_node.proofs.Using.{AllUsed}

-- ---- lists of one

nothing_there : {X P : Type 0} {x : X} → Contains [] x → P
nothing_there c = let low = c.1 in absurd (omega (arith, low))

one_there : {X : Type 0} (x y : X) → Contains (x ∷ []) y → x ≡ y
one_there x y (zero, within, is) = is
one_there x y (suc k, within, is) = absurd (omega (arith, within))

-- ---- nothing is done

-- the node does nothing with it
pub idle_follows : (w : NodeWorld) → Grows w → (nodes : Nodes) (u : Fleet) (n : ℕ) → nodes.begun n ≡ true → nodes.gone n ≡ false → Sound w nodes → IsAlike w nodes u → OneStep w (after_doing w nodes n (silently (nodes.local n))) u [] (IsOwn None (silently (nodes.local n)))
idle_follows w g nodes u n begun stays sound alike =
    let local : Local = nodes.local n in
    let b : Bridges (site_at w nodes n) local None None (λ told. None) (silently local) = record { does = record { part = refl; letters = refl; told = refl }; volumes = refl; transfer = refl; home = (sound.each n begun).home } in
    does_follow w g nodes u n None None (λ told. None) (silently local) begun stays sound alike b refl refl tt

-- ---- a tick, behind those of the sessions

asks_alike : (w : NodeWorld) → Grows w → (nodes : Nodes) (u : Fleet) (n lane place : ℕ) → nodes.begun n ≡ true → nodes.gone n ≡ false → Sound w nodes → IsAlike w nodes u → nodes.ready n ≡ true →
    OneStep w (after_doing w nodes n (asks_peer (site_at w nodes n) (nodes.local n) lane place)) u [] (IsOwn None (asks_peer (site_at w nodes n) (nodes.local n) lane place))
asks_alike w g nodes u n lane place begun stays sound alike ready = by (first_lacked local lane) refl
  where
    site : Site
    site = site_at w nodes n

    local : Local
    local = nodes.local n

    its : SoundAt w (nodes.first_plan n) (nodes.last_plan n) n local (nodes.facts n) (nodes.ready n)
    its = sound.each n begun

    Goal : Doing → Type 0
    Goal doing = OneStep w (after_doing w nodes n doing) u [] (IsOwn None doing)

    by : (o : Option File) → first_lacked local lane ≡ o → Goal (asks_peer site local lane place)
    by None is =
        let turned : Doing = silently (record local { peer = place }) in
        let e : asks_peer site local lane place ≡ turned = rw is refl in
        subst Goal (sym e) (record {
          may = tt;
          said_is = record { told = refl; letters = refl };
          alike = still_alike w nodes u n turned alike refl refl refl refl;
          sound = doing_sound w nodes n turned sound begun (doing_at w g (nodes.first_plan n) (nodes.last_plan n) n local (nodes.facts n) (nodes.ready n) turned its its.home its.used refl refl)
              (λ q c. nothing_there c) (λ f c. nothing_there c);
        })
    by (Some file) is =
        let asked : Doing = record (silently (record local { peer = place })) { transfer = Some (Wants (site.node_at place) file) } in
        let e : asks_peer site local lane place ≡ asked = rw is refl in
        subst Goal (sym e) (record {
          may = tt;
          said_is = record { told = refl; letters = refl };
          alike = still_alike w nodes u n asked alike refl refl refl refl;
          sound = doing_sound w nodes n asked sound begun (doing_at w g (nodes.first_plan n) (nodes.last_plan n) n local (nodes.facts n) (nodes.ready n) asked its its.home its.used refl refl)
              (λ q c. subst (λ (x : Question). nodes.ready x.from ≡ true) (one_there (record { from = n; to = site.node_at place; file = file }) q c) ready) (λ f c. nothing_there c);
        })

pub looks_follow : (w : NodeWorld) → Grows w → (nodes : Nodes) (u : Fleet) (n lane : ℕ) → nodes.begun n ≡ true → nodes.gone n ≡ false → Sound w nodes → IsAlike w nodes u →
    OneStep w (after_doing w nodes n (looks lane (site_at w nodes n) (nodes.local n))) u [] (IsOwn None (looks lane (site_at w nodes n) (nodes.local n)))
looks_follow w g nodes u n lane begun stays sound alike = elim (cases_Bool (all_joined site local.joined)) [
  | inr not' ↦ (let e : looks lane site local ≡ silently local = rw not' refl in subst Goal (sym e) (idle_follows w g nodes u n begun stays sound alike))
  | inl all ↦ (let e : looks lane site local ≡ asks_peer site local lane (peer_for site lane local.peer) = rw all refl in subst Goal (sym e) (asks_alike w g nodes u n lane (peer_for site lane local.peer) begun stays sound alike ((sound.each n begun).ready_is all)))
]
  where
    site : Site
    site = site_at w nodes n

    local : Local
    local = nodes.local n

    Goal : Doing → Type 0
    Goal doing = OneStep w (after_doing w nodes n doing) u [] (IsOwn None doing)

-- ---- a peer gives its copy

peers_swap : (grid : Grid) (a b : ℕ) → are_peers grid a b ≡ are_peers grid b a
unfolding are_peers
peers_swap grid a b = λ i. list_any (λ c. and_swap (column_servers grid c a) (column_servers grid c b) i) (below grid.cols)
  where
    and_swap : (x y : Bool) → (x && y) ≡ (y && x)
    and_swap true true = refl
    and_swap true false = refl
    and_swap false true = refl
    and_swap false false = refl

some_there : (volumes : List VolumeRow) (v f : ℕ) → is_some (option_and_then (limit_in f) (slice_get volumes v)) ≡ true → v < length volumes
some_there volumes v f is = by (slice_get volumes v) refl
  where
    by : (o : Option VolumeRow) → slice_get volumes v ≡ o → v < length volumes
    by None none = let e : is_some (option_and_then (limit_in f) (slice_get volumes v)) ≡ false = rw none refl in absurd (true≢false (sym is ∙ e))
    by (Some row) some = slice_get_within volumes v row some

pub gives_follow : (w : NodeWorld) → Grows w → (nodes : Nodes) (u : Fleet) (n from : ℕ) (file : File) → nodes.begun n ≡ true → nodes.gone n ≡ false → Sound w nodes → IsAlike w nodes u → Contains nodes.wanted (record { from = from; to = n; file = file }) →
    OneStep w (after_doing w nodes n (gives from file (site_at w nodes n) (nodes.local n))) u (input_steps (site_at w nodes n) (nodes.local n) n (Fetching from file)) (IsOwn None (gives from file (site_at w nodes n) (nodes.local n)))
gives_follow w g nodes u n from file begun stays sound alike was = by (is_peer site from && has_file local file) refl
  where
    site : Site
    site = site_at w nodes n

    local : Local
    local = nodes.local n

    its : SoundAt w (nodes.first_plan n) (nodes.last_plan n) n local (nodes.facts n) (nodes.ready n)
    its = sound.each n begun

    Goal : Doing → List FleetStep → Type 0
    Goal doing steps = OneStep w (after_doing w nodes n doing) u steps (IsOwn None doing)

    by : (b : Bool) → (is_peer site from && has_file local file) ≡ b → Goal (gives from file site local) (input_steps site local n (Fetching from file))
    by false is =
        let e : gives from file site local ≡ silently local = rw is refl in
        let f : input_steps site local n (Fetching from file) ≡ [] = rw is refl in
        subst (λ d. Goal d (input_steps site local n (Fetching from file))) (sym e) (subst (Goal (silently local)) (sym f) (idle_follows w g nodes u n begun stays sound alike))
    by true is =
        let copy : StoredCopy = copy_in (part_in local) file in
        let doing : Doing = record (silently local) { transfer = Some (Brings from file copy) } in
        let e : gives from file site local ≡ doing = rw is refl in
        let f : input_steps site local n (Fetching from file) ≡ Gives n from file ∷ [] = rw is refl in
        let both = and_parts (is_peer site from) (has_file local file) is in
        let peers = (and_parts (has_node site from) (are_peers site.grid site.place (place_of from)) both.0).1 in
        let there = and_parts (is_some (limit_at (state_of everyone local) file.volume file.place)) (not (local.lacks file)) both.1 in
        let low : file.volume < length local.volumes = some_there local.volumes file.volume file.place there.0 in
        let few : length local.volumes ≤ (w.world.plans (nodes.last_plan n)).volumes = subst (λ (vs : List VolumeRow). length vs ≤ (w.world.plans (nodes.last_plan n)).volumes) (sym its.volumes) (few_taken (w.world.plans (nodes.last_plan n)).volumes w.world.setting.volumes) in
        let own : file.volume < (plan_of w.world u n).volumes = subst (λ p. file.volume < (w.world.plans p).volumes) (alike.last_plan n begun) (omega (arith, low, few)) in
        let inside : nat_lt file.volume (plan_of w.world u n).volumes ≡ true = grind (arith, nat_tests) in
        let has : not ((u.part n).lacks file) ≡ true = ap not (sym ((alike.parts n begun).lacks file)) ∙ there.1 in
        let fleet : fleet_has w.world u n file ≡ true = (rw (sym (alike.begun n) ∙ begun, inside, has) refl) in
        let ready : nodes.ready from ≡ true = sound.wanted (record { from = from; to = n; file = file }) was in
        subst (λ d. Goal d (input_steps site local n (Fetching from file))) (sym e) (subst (Goal doing) (sym f) (record {
          may = (((sym (alike.begun n) ∙ begun, sym (alike.gone n) ∙ stays), fleet, peers_swap site.grid (place_of from) (place_of n) ∙ peers, sym (alike.ready from) ∙ ready), tt);
          said_is = record { told = refl; letters = refl };
          alike = record {
            begun = alike.begun;
            first_plan = alike.first_plan;
            last_plan = alike.last_plan;
            parts = at_nodes (λ m l. nodes.begun m ≡ true → PartAlike w.world.setting.home m (part_in l) (u.part m)) w nodes n doing (alike.parts n) (λ m away. alike.parts m);
            told = λ m place. at_nodes (λ x l. nodes.begun x ≡ true → place < w.world.setting.grid.rows * w.world.setting.grid.cols → l.joined place ≡ u.heard x ((site_at w nodes x).node_at place)) w nodes n doing (alike.told n place) (λ x away. alike.told x place) m;
            ready = alike.ready;
            gone = alike.gone;
            posted = append-nil nodes.posted ∙ alike.posted;
            joined = alike.joined;
            fetched = ap (λ c. nodes.fetched ++ record { peer = n; node = from; file = file; copy = c } ∷ []) ((alike.parts n begun).copies file) ∙ ap (λ fs. fs ++ record { peer = n; node = from; file = file; copy = copy_in (u.part n) file } ∷ []) alike.fetched;
          };
          sound = doing_sound w nodes n doing sound begun (doing_at w g (nodes.first_plan n) (nodes.last_plan n) n local (nodes.facts n) (nodes.ready n) doing its its.home its.used refl refl)
              (λ q c. nothing_there c) (λ x c. subst (λ (y : HasFetched). nodes.ready y.node ≡ true) (one_there (record { peer = n; node = from; file = file; copy = copy }) x c) ready);
        }))

-- ---- the new node takes it

-- of the doing nothing but a question of node n goes out, and the part is this one
record Quiet (n : ℕ) (l : Local) (doing : Doing) : Type 0 where
  part : part_in doing.local ≡ part_in l
  residents : doing.local.residents ≡ l.residents
  view : SameView l doing
  letters : doing.letters ≡ []
  answer : doing.answer ≡ None
  copies : copies_in n doing.transfer ≡ []
  asks : (q : Question) → Contains (questions_in n doing.transfer) q → q.from ≡ n

asks_quietly : (site : Site) (l : Local) (lane place n : ℕ) → Quiet n l (asks_peer site l lane place)
asks_quietly site l lane place n = by (first_lacked l lane) refl
  where
    by : (o : Option File) → first_lacked l lane ≡ o → Quiet n l (asks_peer site l lane place)
    by None is =
        let e : asks_peer site l lane place ≡ silently (record l { peer = place }) = rw is refl in
        subst (Quiet n l) (sym e) (record { part = refl; residents = refl; view = refl; letters = refl; answer = refl; copies = refl; asks = λ q c. nothing_there c })
    by (Some file) is =
        let e : asks_peer site l lane place ≡ record (silently (record l { peer = place })) { transfer = Some (Wants (site.node_at place) file) } = rw is refl in
        subst (Quiet n l) (sym e) (record { part = refl; residents = refl; view = refl; letters = refl; answer = refl; copies = refl; asks = λ q c. ap (λ (x : Question). x.from) (sym (one_there (record { from = n; to = site.node_at place; file = file }) q c)) })

-- the copy that it is given is the one that it has
given_alike : (home : ℕ → ℕ) (n : ℕ) (local : Local) (p : Part) (file : File) (copy : StoredCopy) → local.lacks file ≡ true → copy_in (part_in local) file ≡ first_copy → PartAlike home n (part_in local) p → PartAlike home n (part_in (given file copy local)) (given_part file copy p)
given_alike home n local p file copy lacks bare alike = record {
  copies = λ f. by f (is_file file f) refl;
  lacks = λ f. ap (λ b. b && not (is_file file f)) (alike.lacks f);
  reserved = alike.reserved;
  sessions = alike.sessions;
}
  where
    by : (f : File) (b : Bool) → is_file file f ≡ b → copy_in (part_in (given file copy local)) f ≡ copy_in (given_part file copy p) f
    by f true same =
        let here : copy_in (part_in local) f ≡ first_copy = ap (copy_in (part_in local)) (sym (same_file file f same)) ∙ bare in
        let one : (given file copy local).brought f ≡ local.brought f ++ copy ∷ [] = rw same refl in
        let other : (given_part file copy p).brought f ≡ copy ∷ [] = rw same refl in
        ap (λ xs. greatest (first_copy ∷ xs)) one
        ∙ greatest-push first_copy copy (local.brought f)
        ∙ ap (λ c. newer_of c copy) here
        ∙ sym (greatest-push first_copy copy [])
        ∙ sym (ap (λ xs. greatest (first_copy ∷ xs)) other)
    by f false away =
        let one : (given file copy local).brought f ≡ local.brought f = rw away refl in
        let other : (given_part file copy p).brought f ≡ p.brought f = rw away refl in
        ap (λ xs. greatest (first_copy ∷ xs)) one ∙ alike.copies f ∙ sym (ap (λ xs. greatest (first_copy ∷ xs)) other)

pub takes_follow : (w : NodeWorld) → Grows w → (nodes : Nodes) (u : Fleet) (n from : ℕ) (file : File) (copy : StoredCopy) → nodes.begun n ≡ true → nodes.gone n ≡ false → Sound w nodes → IsAlike w nodes u →
    Contains nodes.fetched (record { peer = from; node = n; file = file; copy = copy }) →
    OneStep w (after_doing w nodes n (takes from file copy (site_at w nodes n) (nodes.local n))) u (input_steps (site_at w nodes n) (nodes.local n) n (Fetched from file copy)) (IsOwn None (takes from file copy (site_at w nodes n) (nodes.local n)))
takes_follow w g nodes u n from file copy begun stays sound alike was = by decides refl
  where
    site : Site
    site = site_at w nodes n

    local : Local
    local = nodes.local n

    its : SoundAt w (nodes.first_plan n) (nodes.last_plan n) n local (nodes.facts n) (nodes.ready n)
    its = sound.each n begun

    decides : Bool
    decides = is_peer site from && local.lacks file && file_fits (limit_at (state_of everyone local) file.volume file.place) (Store copy)

    Goal : Doing → List FleetStep → Type 0
    Goal doing steps = OneStep w (after_doing w nodes n doing) u steps (IsOwn None doing)

    by : (b : Bool) → decides ≡ b → Goal (takes from file copy site local) (input_steps site local n (Fetched from file copy))
    by false is =
        let e : takes from file copy site local ≡ silently local = rw is refl in
        let f : input_steps site local n (Fetched from file copy) ≡ [] = rw is refl in
        subst (λ d. Goal d (input_steps site local n (Fetched from file copy))) (sym e) (subst (Goal (silently local)) (sym f) (idle_follows w g nodes u n begun stays sound alike))
    by true is =
        let mid : Local = given file copy local in
        let lane : ℕ = lane_of local.volumes file.volume in
        let asked : Doing = asks_peer site mid lane (place_of from) in
        let doing : Doing = record asked { fact = Some (Had file copy) } in
        let quiet : Quiet n mid asked = asks_quietly site mid lane (place_of from) n in
        let e : takes from file copy site local ≡ doing = rw is refl in
        let f : input_steps site local n (Fetched from file copy) ≡ Takes n from file copy ∷ [] = rw is refl in
        let lacks : local.lacks file ≡ true = (and_parts (is_peer site from) (local.lacks file) (and_parts (is_peer site from && local.lacks file) (file_fits (limit_at (state_of everyone local) file.volume file.place) (Store copy)) is).0).1 in
        let told : Contains u.fetched (record { peer = from; node = n; file = file; copy = copy }) = subst (λ (all : List HasFetched). Contains all (record { peer = from; node = n; file = file; copy = copy })) alike.fetched was in
        let new : Fleet = after_fleet_step w.world u (Takes n from file copy) in
        let own : new.part n ≡ given_part file copy (u.part n) = rw (eq-eqb n n refl) refl in
        let others : (m : ℕ) → m ≢ n → new.part m ≡ u.part m = λ m away. rw (ne_eqb m n away) refl in
        let keeps : Keeps site local doing = subst (Keeps site local) e (does_keep (Fetched from file copy) site local its.bare) in
        let home : AtHome site doing.local = λ k some. its.home k (ap (λ rs. is_some (rs k).session.current) (sym quiet.residents) ∙ some) in
        let used : AllUsed doing.local = λ k. subst (λ (p : Part). IsReserved p k) (sym quiet.part) (record { op = (its.used k).op; floor = (its.used k).floor }) in
        let ready : nodes.ready n ≡ true = sound.fetched (record { peer = from; node = n; file = file; copy = copy }) was in
        subst (λ d. Goal d (input_steps site local n (Fetched from file copy))) (sym e) (subst (Goal doing) (sym f) (record {
          may = (((sym (alike.begun n) ∙ begun, sym (alike.gone n) ∙ stays), sym ((alike.parts n begun).lacks file) ∙ lacks, told), tt);
          said_is = record { told = quiet.answer; letters = quiet.letters };
          alike = record {
            begun = alike.begun;
            first_plan = alike.first_plan;
            last_plan = alike.last_plan;
            parts = at_nodes (λ m l. nodes.begun m ≡ true → PartAlike w.world.setting.home m (part_in l) (new.part m)) w nodes n doing
                (λ started. subst (λ p. PartAlike w.world.setting.home n p (new.part n)) (sym quiet.part) (subst (PartAlike w.world.setting.home n (part_in mid)) (sym own) (given_alike w.world.setting.home n local (u.part n) file copy lacks (its.bare file lacks) (alike.parts n begun))))
                (λ m away started. subst (PartAlike w.world.setting.home m (part_in (nodes.local m))) (sym (others m away)) (alike.parts m started));
            told = λ m place. at_nodes (λ x l. nodes.begun x ≡ true → place < w.world.setting.grid.rows * w.world.setting.grid.cols → l.joined place ≡ u.heard x ((site_at w nodes x).node_at place)) w nodes n doing
                (λ started within. (λ i. (quiet.view i).1 place) ∙ alike.told n place started within) (λ x away. alike.told x place) m;
            ready = alike.ready;
            gone = alike.gone;
            posted = ap (λ ls. nodes.posted ++ posts w nodes n ls) quiet.letters ∙ append-nil nodes.posted ∙ alike.posted;
            joined = alike.joined;
            fetched = ap (λ cs. nodes.fetched ++ cs) quiet.copies ∙ append-nil nodes.fetched ∙ alike.fetched;
          };
          sound = doing_sound w nodes n doing sound begun (doing_at w g (nodes.first_plan n) (nodes.last_plan n) n local (nodes.facts n) (nodes.ready n) doing its home used quiet.view keeps)
              (λ q c. ap nodes.ready (quiet.asks q c) ∙ ready) (λ x c. nothing_there (subst (λ cs. Contains cs x) quiet.copies c));
        }))
