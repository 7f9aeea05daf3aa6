-- A new node is told by another that its plan has it.
use Rattle.std.proofs.Common.{◌≡◌, ◌∙◌, ℕ, zero, suc, ◌+◌, ◌*◌, ◌<◌, Bool, true, false, List, [], ◌∷◌, ◌++◌, map, refl, sym, ap, subst, append-nil, None, inl, inr, arith}
use Rattle.std.specs.Prelude.{◌&&◌, ◌||◌, ◌==◌, not, nat_lt, nat_le, Contains, ⊤, if◌then◌else◌}
use Rattle.std.specs.List.{list_all, range_with_len}
use Rattle.std.proofs.lemmas.Bool.{cases_eq, eq-eqb, ne_eqb, eqb-true, and_parts, true≢false}
use Rattle.std.proofs.lemmas.Bool.Decides.{nat_tests}
use Rattle.std.proofs.lemmas.List.{map-append}
use Rattle.std.proofs.lemmas.List.Elements.{Contains-append_cases}
use Rattle.gq_grid.specs.Grid.{with_server}
use Rattle.gq_replace.specs.Fleet.{Fleet, Joined as HasJoined, Answers, Hears, after_fleet_step, MayHappen, plan_of, heard_all, with_heard, is_ready_by, with_ready as fleet_ready}
use Rattle.gq_replace.specs.Plans.{place_of, node_at, generation, times, has_node as plan_has, is_replaced}
use Rattle.gq_replace.specs.Keeping.{files_of_part}
use Rattle.gq_replace.proofs.Chains.{place_at, generation_at}
use Rattle.gq_node.specs.Joining.{all_joined, tells_joined}
use Rattle.gq_node.specs.Local.{Local, Doing, part_in, silently}
use Rattle.gq_node.specs.Nodes.{NodeWorld, site_in, site_at, started, Nodes, Word, AskedToJoin, fact_list, after_doing, after_word, after_event, takes_word, with_ready, PartAlike, IsAlike, steps_of}
use Rattle.gq_node.specs.Sites.{Site, is_new, has_node}
use Rattle.gq_node.proofs.Following.{SoundAt, Sound, OneStep, at_nodes}
use Rattle.gq_node.proofs.Later.{Grows}

-- ---- places and nodes

pub contains_map : {X Y : Type 0} (f : X → Y) (xs : List X) (x : X) → Contains xs x → Contains (map f xs) (f x)
contains_map f [] x (k, within, is) = absurd (omega (arith, within))
contains_map f (y ∷ xs) x (zero, within, is) = (0, omega arith, ap f is)
contains_map f (y ∷ xs) x (suc k, within, is) = let r = contains_map f xs x (k, omega (arith, within), is) in let low = r.1 in (suc r.0, omega (arith, low), r.2)

all_same : (p q : ℕ → Bool) (a n : ℕ) → ((i : ℕ) → i < a + n → p i ≡ q i) → list_all p (range_with_len a n) ≡ list_all q (range_with_len a n)
all_same p q a zero same = refl
all_same p q a (suc n) same =
    ap (λ b. b && list_all p (range_with_len (a + 1) n)) (same a (omega arith))
    ∙ ap (λ b. q a && b) (all_same p q (a + 1) n (λ i low. same i (omega (arith, low))))

-- the plan's node at a place is the one that stands there
pub place_is : (w : NodeWorld) → Grows w → (p n from place : ℕ) → has_node (site_in w p n) from ≡ true → place < w.world.setting.grid.rows * w.world.setting.grid.cols → (place_of from == place) ≡ (node_at (w.world.plans p) place == from)
place_is w g p n from place has within =
    let size : ℕ = w.world.setting.grid.rows * w.world.setting.grid.cols in
    let is : node_at (w.world.plans p) (place_of from) ≡ from = eqb-true (node_at (w.world.plans p) (place_of from)) from (and_parts (nat_lt (place_of from) size) (node_at (w.world.plans p) (place_of from) == from) has).1 in
    elim (cases_eq place (place_of from)) [
      | inl same ↦ (eq-eqb (place_of from) place (sym same) ∙ sym (eq-eqb (node_at (w.world.plans p) place) from (ap (node_at (w.world.plans p)) same ∙ is)))
      | inr other ↦ (
          let small = g.small in
          let low : place < 64 = omega (arith, within, small) in
          ne_eqb (place_of from) place (λ e. other (sym e))
          ∙ sym (ne_eqb (node_at (w.world.plans p) place) from (λ e. other (sym (place_at (w.world.plans p) place low) ∙ ap place_of e))))
    ]

or_swap : (a b : Bool) → (a || b) ≡ (b || a)
or_swap true true = refl
or_swap true false = refl
or_swap false true = refl
or_swap false false = refl

-- ---- what it was told

-- the node was told at a place where the law has it told by the node there
told_more : (w : NodeWorld) → Grows w → (nodes : Nodes) (u : Fleet) (n from place : ℕ) → IsAlike w nodes u → nodes.begun n ≡ true → has_node (site_at w nodes n) from ≡ true → place < w.world.setting.grid.rows * w.world.setting.grid.cols →
    with_server (place_of from) (nodes.local n).joined place ≡ (with_heard n from u).heard n ((site_at w nodes n).node_at place)
told_more w g nodes u n from place alike begun has within =
    let node : ℕ = (site_at w nodes n).node_at place in
    ap (λ b. b || place_of from == place) (alike.told n place begun within)
    ∙ ap (λ b. u.heard n node || b) (place_is w g (nodes.last_plan n) n from place has within)
    ∙ or_swap (u.heard n node) (node == from)
    ∙ ap (λ b. (b && node == from) || u.heard n node) (sym (eq-eqb n n refl))

-- so it is told by all at once
all_told : (w : NodeWorld) → Grows w → (nodes : Nodes) (u : Fleet) (n from : ℕ) → IsAlike w nodes u → nodes.begun n ≡ true → has_node (site_at w nodes n) from ≡ true →
    all_joined (site_at w nodes n) (with_server (place_of from) (nodes.local n).joined) ≡ heard_all w.world (with_heard n from u) n
all_told w g nodes u n from alike begun has =
    let size : ℕ = w.world.setting.grid.rows * w.world.setting.grid.cols in
    all_same (λ place. place == place_of n || with_server (place_of from) (nodes.local n).joined place) (λ place. place == place_of n || (with_heard n from u).heard n (node_at (w.world.plans (nodes.last_plan n)) place)) 0 size
    (λ place within. ap (λ b. place == place_of n || b) (told_more w g nodes u n from place alike begun has (omega (arith, within))))
    ∙ ap (λ p. list_all (λ place. place == place_of n || (with_heard n from u).heard n (node_at (w.world.plans p) place)) (range_with_len 0 size)) (alike.last_plan n begun)

-- ---- others

-- which nodes are ready, and which gone
abbrev record_ready : (ready gone : ℕ → Bool) → Nodes → Nodes
record_ready ready gone nodes = record nodes { ready = ready; gone = gone }

more_ready : (w : NodeWorld) (nodes : Nodes) (ready gone : ℕ → Bool) (n : ℕ) (local : Local) → Sound w nodes → nodes.begun n ≡ true →
    SoundAt w (nodes.first_plan n) (nodes.last_plan n) n local (nodes.facts n ++ fact_list None) (ready n) → ((m : ℕ) → nodes.ready m ≡ true → ready m ≡ true) → Sound w (record_ready ready gone (after_doing w nodes n (silently local)))
more_ready w nodes ready gone n local sound begun here more = record {
  fresh = λ m none. elim (cases_eq m n) [
    | inl same ↦ (absurd (true≢false (sym begun ∙ ap nodes.begun (sym same) ∙ none)))
    | inr away ↦ (rw (ne_eqb m n away) (sound.fresh m none))
  ];
  each = λ m started. elim (cases_eq m n) [
    | inl same ↦ (rw (eq-eqb m n same) (subst (λ x. SoundAt w (nodes.first_plan x) (nodes.last_plan x) x local (nodes.facts x ++ fact_list None) (ready x)) (sym same) here))
    | inr away ↦ (rw (ne_eqb m n away) (wider m (sound.each m started)))
  ];
  wanted = λ q c. elim (Contains-append_cases nodes.wanted [] q c) [ inl before ↦ (more q.from (sound.wanted q before)) | inr now ↦ (nothing now) ];
  fetched = λ f c. elim (Contains-append_cases nodes.fetched [] f c) [ inl before ↦ (more f.node (sound.fetched f before)) | inr now ↦ (nothing now) ];
}
  where
    nothing : {X : Type 0} {x : X} {P : Type 0} → Contains [] x → P
    nothing c = let low = c.1 in absurd (omega (arith, low))

    wider : (m : ℕ) → SoundAt w (nodes.first_plan m) (nodes.last_plan m) m (nodes.local m) (nodes.facts m) (nodes.ready m) → SoundAt w (nodes.first_plan m) (nodes.last_plan m) m (nodes.local m) (nodes.facts m) (ready m)
    wider m s = record { home = s.home; used = s.used; volumes = s.volumes; bare = s.bare; has = s.has; order = s.order; ready_is = λ all. more m (s.ready_is all); journal = s.journal }

-- ---- the node is told

told_alike : (w : NodeWorld) → Grows w → (nodes : Nodes) (u : Fleet) (n from : ℕ) (ready gone fleet_ready fleet_gone : ℕ → Bool) → IsAlike w nodes u → nodes.begun n ≡ true → has_node (site_at w nodes n) from ≡ true → ((m : ℕ) → ready m ≡ fleet_ready m) → ((m : ℕ) → gone m ≡ fleet_gone m) →
    IsAlike w (record_ready ready gone (after_doing w nodes n (silently (record (nodes.local n) { joined = with_server (place_of from) (nodes.local n).joined })))) (record (with_heard n from u) { ready = fleet_ready; gone = fleet_gone })
told_alike w g nodes u n from ready gone fleet_ready fleet_gone alike begun has readies gones = record {
  begun = alike.begun;
  first_plan = alike.first_plan;
  last_plan = alike.last_plan;
  parts = at_nodes (λ m l. nodes.begun m ≡ true → PartAlike w.world.setting.home m (part_in l) (u.part m)) w nodes n doing (alike.parts n) (λ m away. alike.parts m);
  told = λ m place. at_nodes (λ x l. nodes.begun x ≡ true → place < size → l.joined place ≡ (with_heard n from u).heard x ((site_at w nodes x).node_at place)) w nodes n doing
      (λ started within. told_more w g nodes u n from place alike started has within)
      (λ x away started within. alike.told x place started within ∙ sym (ap (λ b. (b && (site_at w nodes x).node_at place == from) || u.heard x ((site_at w nodes x).node_at place)) (ne_eqb x n away))) m;
  ready = readies;
  gone = gones;
  posted = append-nil nodes.posted ∙ alike.posted;
  joined = alike.joined;
  fetched = append-nil nodes.fetched ∙ alike.fetched;
}
  where
    size : ℕ
    size = w.world.setting.grid.rows * w.world.setting.grid.cols

    doing : Doing
    doing = silently (record (nodes.local n) { joined = with_server (place_of from) (nodes.local n).joined })

pub hears_follow : (w : NodeWorld) → Grows w → (nodes : Nodes) (u : Fleet) (n from losses : ℕ) → nodes.begun n ≡ true → nodes.gone n ≡ false → Sound w nodes → IsAlike w nodes u → Contains nodes.joined (record { from = from; to = n; losses = losses }) →
    takes_word (site_at w nodes n) from losses ≡ true →
    OneStep w (after_word w nodes n from losses (after_doing w nodes n (silently (record (nodes.local n) { joined = with_server (place_of from) (nodes.local n).joined })))) u (Hears n from ∷ []) ⊤
hears_follow w g nodes u n from losses begun stays sound alike was takes = by now refl
  where
    site : Site
    site = site_at w nodes n

    local : Local
    local = nodes.local n

    new : Local
    new = record local { joined = with_server (place_of from) local.joined }

    after : Nodes
    after = after_doing w nodes n (silently new)

    its : SoundAt w (nodes.first_plan n) (nodes.last_plan n) n local (nodes.facts n) (nodes.ready n)
    its = sound.each n begun

    is_new_here : is_new site ≡ true
    is_new_here = (and_parts (is_new site) (has_node site from) (and_parts (is_new site && has_node site from) (losses == site.losses) takes).0).0

    has : has_node site from ≡ true
    has = (and_parts (is_new site) (has_node site from) (and_parts (is_new site && has_node site from) (losses == site.losses) takes).0).1

    now : Bool
    now = not (nodes.ready n) && all_joined site new.joined

    -- the nodes behind the word, this one having this part
    word : Local → Nodes
    word l = if takes_word site from losses && (not (nodes.ready n) && all_joined site l.joined) then with_ready w after n else after

    own : after.local n ≡ new
    own = rw (eq-eqb n n refl) refl

    ready_by : is_ready_by w.world n from u ≡ now
    ready_by = ap (λ b. not b && heard_all w.world (with_heard n from u) n) (sym (alike.ready n)) ∙ ap (λ b. not (nodes.ready n) && b) (sym (all_told w g nodes u n from alike begun has))

    here : (ready : Bool) → (all_joined site new.joined ≡ true → ready ≡ true) → SoundAt w (nodes.first_plan n) (nodes.last_plan n) n new (nodes.facts n ++ fact_list None) ready
    here ready is = record {
      home = its.home;
      used = its.used;
      volumes = its.volumes;
      bare = its.bare;
      has = its.has;
      order = its.order;
      ready_is = is;
      journal = λ p later there. ap (λ fs. files_of_part (part_in (started w (nodes.first_plan n) p n fs))) (append-nil (nodes.facts n)) ∙ its.journal p later there;
    }

    heard : Contains u.joined (record { from = from; to = n })
    heard = subst (λ (all : List HasJoined). Contains all (record { from = from; to = n })) alike.joined (contains_map (λ (word : Word). record { from = word.from; to = word.to }) nodes.joined (record { from = from; to = n; losses = losses }) was)

    fresh : 0 < generation n
    fresh = grind (arith, nat_tests)

    may : MayHappen w.world u (Hears n from)
    may = ((sym (alike.begun n) ∙ begun, sym (alike.gone n) ∙ stays), fresh, heard)

    by : (b : Bool) → now ≡ b → OneStep w (after_word w nodes n from losses after) u (Hears n from ∷ []) ⊤
    by true is =
        let e : after_word w nodes n from losses after ≡ with_ready w after n = ap word own ∙ (rw (takes, is) refl) in
        let f : after_fleet_step w.world u (Hears n from) ≡ fleet_ready w.world n (with_heard n from u) = rw (ready_by ∙ is) refl in
        record {
          may = (may, tt);
          said_is = tt;
          alike = subst (λ x. IsAlike w x (after_fleet_step w.world u (Hears n from))) (sym e) (subst (IsAlike w (with_ready w after n)) (sym f)
              (told_alike w g nodes u n from (λ m. (m == n) || nodes.ready m) (λ m. is_replaced (w.world.plans (nodes.last_plan n)) m || nodes.gone m) (λ m. (m == n) || u.ready m) (λ m. is_replaced (plan_of w.world u n) m || u.gone m) alike begun has
              (λ m. ap (λ b. (m == n) || b) (alike.ready m)) (λ m. ap (λ p. is_replaced (w.world.plans p) m || nodes.gone m) (alike.last_plan n begun) ∙ ap (λ b. is_replaced (plan_of w.world u n) m || b) (alike.gone m))));
          sound = subst (Sound w) (sym e) (more_ready w nodes (λ m. (m == n) || nodes.ready m) (λ m. is_replaced (w.world.plans (nodes.last_plan n)) m || nodes.gone m) n new sound begun
              (here ((n == n) || nodes.ready n) (λ all. ap (λ b. b || nodes.ready n) (eq-eqb n n refl))) (λ m is. either m (m == n) is));
        }
      where
        either : (m : ℕ) (b : Bool) → nodes.ready m ≡ true → (b || nodes.ready m) ≡ true
        either m true is = refl
        either m false is = is
    by false is =
        let e : after_word w nodes n from losses after ≡ after = ap word own ∙ (rw (takes, is) refl) in
        let f : after_fleet_step w.world u (Hears n from) ≡ with_heard n from u = rw (ready_by ∙ is) refl in
        record {
          may = (may, tt);
          said_is = tt;
          alike = subst (λ x. IsAlike w x (after_fleet_step w.world u (Hears n from))) (sym e) (subst (IsAlike w after) (sym f) (told_alike w g nodes u n from nodes.ready nodes.gone u.ready u.gone alike begun has alike.ready alike.gone));
          sound = subst (Sound w) (sym e) (more_ready w nodes nodes.ready nodes.gone n new sound begun (here (nodes.ready n) (λ all. was_ready (nodes.ready n) (ap (λ b. not (nodes.ready n) && b) (sym all) ∙ is))) (λ m is. is));
        }
      where
        was_ready : (b : Bool) → (not b && true) ≡ false → b ≡ true
        was_ready true is = refl
        was_ready false is = absurd (cc)

-- ---- a node is asked whether its plan has another

pub answers_follow : (w : NodeWorld) → Grows w → (nodes : Nodes) (u : Fleet) (n from losses : ℕ) → nodes.begun n ≡ true → nodes.gone n ≡ false → Sound w nodes → IsAlike w nodes u →
    OneStep w (after_event w nodes (AskedToJoin n from losses)) u (steps_of w nodes (AskedToJoin n from losses)) ⊤
answers_follow w g nodes u n from losses begun stays sound alike = by (tells_joined from losses site) refl
  where
    site : Site
    site = site_at w nodes n

    told : Nodes
    told = record nodes { joined = nodes.joined ++ record { from = n; to = from; losses = losses } ∷ [] }

    by : (b : Bool) → tells_joined from losses site ≡ b → OneStep w (after_event w nodes (AskedToJoin n from losses)) u (steps_of w nodes (AskedToJoin n from losses)) ⊤
    by false is =
        let e : after_event w nodes (AskedToJoin n from losses) ≡ nodes = rw is refl in
        let f : steps_of w nodes (AskedToJoin n from losses) ≡ [] = rw is refl in
        subst (λ x. OneStep w x u (steps_of w nodes (AskedToJoin n from losses)) ⊤) (sym e) (subst (λ x. OneStep w nodes u x ⊤) (sym f) (record { may = tt; said_is = tt; alike = alike; sound = sound }))
    by true is =
        let e : after_event w nodes (AskedToJoin n from losses) ≡ told = rw is refl in
        let f : steps_of w nodes (AskedToJoin n from losses) ≡ Answers n from ∷ [] = rw is refl in
        let has : has_node site from ≡ true = (and_parts (has_node site from) (nat_le losses site.losses) is).0 in
        let both = and_parts (nat_lt (place_of from) size) (site.node_at (place_of from) == from) has in
        let stands : node_at (w.world.plans (nodes.last_plan n)) (place_of from) ≡ from = eqb-true (site.node_at (place_of from)) from both.1 in
        let small = g.small in
        let inside = both.0 in
        let low : place_of from < 64 = grind (arith, nat_tests) in
        let turn : generation from ≡ times (w.world.plans (nodes.last_plan n)) (place_of from) = ap generation (sym stands) ∙ generation_at (w.world.plans (nodes.last_plan n)) (place_of from) low in
        let own : plan_has (plan_of w.world u n) from ≡ true = ap (λ p. plan_has (w.world.plans p) from) (sym (alike.last_plan n begun)) ∙ eq-eqb (generation from) (times (w.world.plans (nodes.last_plan n)) (place_of from)) turn in
        subst (λ x. OneStep w x u (steps_of w nodes (AskedToJoin n from losses)) ⊤) (sym e) (subst (λ x. OneStep w told u x ⊤) (sym f) (record {
          may = (((sym (alike.begun n) ∙ begun, sym (alike.gone n) ∙ stays), own), tt);
          said_is = tt;
          alike = record {
            begun = alike.begun;
            first_plan = alike.first_plan;
            last_plan = alike.last_plan;
            parts = alike.parts;
            told = alike.told;
            ready = alike.ready;
            gone = alike.gone;
            posted = alike.posted;
            joined = map-append (λ (word : Word). record { from = word.from; to = word.to }) nodes.joined (record { from = n; to = from; losses = losses } ∷ []) ∙ ap (λ js. js ++ record { from = n; to = from } ∷ []) alike.joined;
            fetched = alike.fetched;
          };
          sound = record { fresh = sound.fresh; each = sound.each; wanted = sound.wanted; fetched = sound.fetched };
        }))
      where
        size : ℕ
        size = w.world.setting.grid.rows * w.world.setting.grid.cols
