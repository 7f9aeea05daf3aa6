-- A node is started, for the first time or again.
use Rattle.std.proofs.Common.{◌≡◌, ◌≢◌, ◌∙◌, ℕ, zero, suc, ◌*◌, ◌<◌, ◌≤◌, Bool, true, false, List, [], ◌∷◌, refl, sym, ap, subst, Option, Some, None, inl, inr, arith}
use Rattle.std.specs.Prelude.{is_some, ◌&&◌, ◌||◌, ◌==◌, not, if◌then◌else◌}
use Rattle.std.specs.List.{list_all, range_with_len}
use Rattle.std.proofs.lemmas.Bool.{cases_eq, eq-eqb, ne_eqb, and_parts, true≢false}
use Rattle.gq_grid.specs.Grid.{no_servers}
use Rattle.gq_desk.specs.Plans.{is_in}
use Rattle.gq_phase.specs.Phase.{Task}
use Rattle.gq_cluster.specs.Cluster.{Part}
use Rattle.gq_cluster.specs.Facts.{OwnFact, Reserved, none_reserved}
use Rattle.gq_cluster.specs.Restarts.{begun_anew}
use Rattle.gq_replace.specs.Fleet.{Fleet, Begins, StartsAgain, after_fleet_step, first_part, part_again, session_again}
use Rattle.gq_replace.specs.Keeping.{KeptFiles, files_of_part}
use Rattle.gq_replace.specs.Plans.{place_of, base, has_node as plan_has}
use Rattle.gq_node.specs.Joining.{all_joined}
use Rattle.gq_node.specs.Local.{Local, part_in, silently}
use Rattle.gq_node.specs.Nodes.{first_plan_in, NodeWorld, site_in, site_at, plan_volumes, Nodes, Started, started, first_of, after_start, SessionAlike, PartAlike, IsAlike, IsOwn, steps_of, CanCome}
use Rattle.gq_node.specs.Sites.{Site}
use Rattle.gq_node.specs.Resting.{IsBare, GoesBehind, begun_floor, begun_local}
use Rattle.gq_node.proofs.AlikeParts.{session_refl, idle_alike}
use Rattle.gq_node.proofs.Following.{SoundAt, Sound, OneStep}
use Rattle.gq_node.proofs.Later.{Grows}
use Rattle.gq_node.proofs.Recalling.{all_behind}
use Rattle.gq_node.proofs.Using.{rests_used, AllIdle, recall_idle, idle_home, recall_volumes, recall_joined, recall_outside}

-- ---- nobody has joined at first

-- of two places one is another's
never_alone : (p size : ℕ) → 1 < size → list_all (λ place. place == p || no_servers place) (range_with_len 0 size) ≡ true → ⊥
never_alone p zero many all = absurd (omega (arith, many))
never_alone p (suc zero) many all = absurd (omega (arith, many))
never_alone p (suc (suc size)) many all =
    let here = and_parts (0 == p || no_servers 0) (list_all (λ place. place == p || no_servers place) (range_with_len 1 (suc size))) all in
    let next = and_parts (1 == p || no_servers 1) (list_all (λ place. place == p || no_servers place) (range_with_len 2 size)) here.1 in
    elim (cases_eq p 0) [
      | inl zero_is ↦ (let e : (1 == p || no_servers 1) ≡ false = ap (λ n. 1 == n || no_servers 1) zero_is in absurd (true≢false (sym next.0 ∙ e)))
      | inr other ↦ (let e : (0 == p || no_servers 0) ≡ false = (rw (ne_eqb 0 p (λ e. other (sym e))) refl) in absurd (true≢false (sym here.0 ∙ e)))
    ]

-- ---- what a start makes of the facts

behind_is : (w : NodeWorld) (first plan n : ℕ) (facts : List OwnFact) → (k : ℕ) → GoesBehind ((started w first plan n facts).residents k)
behind_is w first plan n facts = all_behind (site_in w plan n) (begun_local (site_in w plan n) (plan_volumes w plan) (first_plan_in (w.world.plans first))) facts (λ k. record { op = refl; floor = refl })

pub idle_is : (w : NodeWorld) (first plan n : ℕ) (facts : List OwnFact) → AllIdle (started w first plan n facts)
idle_is w first plan n facts = recall_idle (site_in w plan n) facts (begun_local (site_in w plan n) (plan_volumes w plan) (first_plan_in (w.world.plans first))) (λ k. refl)

pub ops_are : (w : NodeWorld) (first plan n : ℕ) (facts : List OwnFact) (k : ℕ) → ((started w first plan n facts).residents k).session.op ≡ ((started w first plan n facts).residents k).reserved.op
ops_are w first plan n facts k = (behind_is w first plan n facts k).op

pub floors_are : (w : NodeWorld) (first plan n : ℕ) (facts : List OwnFact) (k : ℕ) → ((started w first plan n facts).residents k).session.floor ≡ ((started w first plan n facts).residents k).reserved.floor
floors_are w first plan n facts k = (behind_is w first plan n facts k).floor

-- the same is reserved where the same files are kept
same_reserved : (a b : Local) → files_of_part (part_in a) ≡ files_of_part (part_in b) → (k : ℕ) → (a.residents k).reserved ≡ (b.residents k).reserved
same_reserved a b same k = λ i. record { op = (same i).kept.op k; floor = (same i).kept.floor k }

-- ---- the node behind the start

-- what is sound of one that starts so
start_at : (w : NodeWorld) → Grows w → (first plan n : ℕ) (facts : List OwnFact) (ready : Bool) → plan_has (w.world.plans plan) n ≡ true → first ≤ plan → IsBare (started w first plan n facts) →
    ((p : ℕ) → plan ≤ p → plan_has (w.world.plans p) n ≡ true → files_of_part (part_in (started w first p n facts)) ≡ files_of_part (part_in (started w first plan n facts))) → SoundAt w first plan n (started w first plan n facts) facts ready
start_at w g first plan n facts ready has order bare journal = record {
  home = idle_home (site_in w plan n) l (idle_is w first plan n facts);
  used = rests_used l (behind_is w first plan n facts);
  volumes = recall_volumes (site_in w plan n) facts new;
  bare = bare;
  has = has;
  order = order;
  ready_is = λ all. absurd (never_alone (place_of n) (w.world.setting.grid.rows * w.world.setting.grid.cols) g.many (ap (all_joined (site_in w plan n)) (sym (recall_joined (site_in w plan n) facts new)) ∙ all));
  journal = journal;
}
  where
    new : Local
    new = begun_local (site_in w plan n) (plan_volumes w plan) (first_plan_in (w.world.plans first))

    l : Local
    l = started w first plan n facts

-- where the node's own numbers, plans and part are sound, all are
started_sound : (w : NodeWorld) (nodes : Nodes) (n plan : ℕ) → Sound w nodes → SoundAt w (first_of nodes n plan) plan n (started w (first_of nodes n plan) plan n (nodes.facts n)) (nodes.facts n) (nodes.ready n) → Sound w (after_start w nodes n plan)
started_sound w nodes n plan sound here = record {
  fresh = λ m none. elim (cases_eq m n) [
    | inl same ↦ (let e : (after_start w nodes n plan).begun m ≡ true = rw (eq-eqb m n same) refl in absurd (true≢false (sym e ∙ none)))
    | inr away ↦ (let e : (after_start w nodes n plan).begun m ≡ nodes.begun m = rw (ne_eqb m n away) refl in sound.fresh m (sym e ∙ none))
  ];
  each = λ m begun. elim (cases_eq m n) [
    | inl same ↦ (rw (eq-eqb m n same) (subst (λ x. SoundAt w (first_of nodes n plan) plan x (started w (first_of nodes n plan) plan n (nodes.facts n)) (nodes.facts x) (nodes.ready x)) (sym same) here))
    | inr away ↦ (let e : (after_start w nodes n plan).begun m ≡ nodes.begun m = rw (ne_eqb m n away) refl in (rw (ne_eqb m n away) (sound.each m (sym e ∙ begun))))
  ];
  wanted = sound.wanted;
  fetched = sound.fetched;
}

-- the law has the same of all nodes, where it has the same of this one
started_alike : (w : NodeWorld) (nodes : Nodes) (u v : Fleet) (n plan : ℕ) (part : Part) → IsAlike w nodes u →
    ((m : ℕ) → v.begun m ≡ (if m == n then true else u.begun m)) → ((m : ℕ) → v.first_plan m ≡ (if m == n then first_of nodes n plan else u.first_plan m)) → ((m : ℕ) → v.last_plan m ≡ (if m == n then plan else u.last_plan m)) →
    ((m : ℕ) → v.part m ≡ (if m == n then part else u.part m)) → ((m x : ℕ) → v.heard m x ≡ (not (m == n) && u.heard m x)) → v.ready ≡ u.ready → v.gone ≡ u.gone → v.posted ≡ u.posted → v.joined ≡ u.joined → v.fetched ≡ u.fetched →
    PartAlike w.world.setting.home n (part_in (started w (first_of nodes n plan) plan n (nodes.facts n))) part → IsAlike w (after_start w nodes n plan) v
started_alike w nodes u v n plan part alike begun first last parts heard ready gone posted joined fetched here = record {
  begun = λ m. ap (λ b. if m == n then true else b) (alike.begun m) ∙ sym (begun m);
  first_plan = λ m is. elim (cases_eq m n) [
    | inl same ↦ ((rw (eq-eqb m n same) (refl)) ∙ sym (at_own u.first_plan first m same))
    | inr away ↦ ((rw (ne_eqb m n away) (alike.first_plan m (was m away is))) ∙ sym (at_other (first_of nodes n plan) u.first_plan first m away))
  ];
  last_plan = λ m is. elim (cases_eq m n) [
    | inl same ↦ ((rw (eq-eqb m n same) (refl)) ∙ sym (at_own u.last_plan last m same))
    | inr away ↦ ((rw (ne_eqb m n away) (alike.last_plan m (was m away is))) ∙ sym (at_other plan u.last_plan last m away))
  ];
  parts = λ m is. elim (cases_eq m n) [
    | inl same ↦ (
        let e : (after_start w nodes n plan).local m ≡ l = rw (eq-eqb m n same) refl in
        subst (λ x. PartAlike w.world.setting.home m (part_in x) (v.part m)) (sym e) (subst (PartAlike w.world.setting.home m (part_in l)) (sym (at_own u.part parts m same)) (subst (λ x. PartAlike w.world.setting.home x (part_in l) part) (sym same) here)))
    | inr away ↦ (
        let e : (after_start w nodes n plan).local m ≡ nodes.local m = rw (ne_eqb m n away) refl in
        subst (λ x. PartAlike w.world.setting.home m (part_in x) (v.part m)) (sym e) (subst (PartAlike w.world.setting.home m (part_in (nodes.local m))) (sym (at_other part u.part parts m away)) (alike.parts m (was m away is))))
  ];
  told = λ m place is within. elim (cases_eq m n) [
    | inl same ↦ (
        let e : (after_start w nodes n plan).local m ≡ l = rw (eq-eqb m n same) refl in
        let node : ℕ = (site_at w (after_start w nodes n plan) m).node_at place in
        ap (λ (x : Local). x.joined place) e ∙ ap (λ js. js place) (recall_joined (site_in w plan n) (nodes.facts n) new) ∙ sym (heard m node ∙ ap (λ b. not b && u.heard m node) (eq-eqb m n same)))
    | inr away ↦ (
        let e : (after_start w nodes n plan).local m ≡ nodes.local m = rw (ne_eqb m n away) refl in
        let f : (after_start w nodes n plan).last_plan m ≡ nodes.last_plan m = rw (ne_eqb m n away) refl in
        let node : ℕ → ℕ = λ p. (site_in w p m).node_at place in
        ap (λ (x : Local). x.joined place) e ∙ alike.told m place (was m away is) within ∙ ap (u.heard m) (ap node (sym f)) ∙ sym (heard m (node ((after_start w nodes n plan).last_plan m)) ∙ ap (λ b. not b && u.heard m (node ((after_start w nodes n plan).last_plan m))) (ne_eqb m n away)))
  ];
  ready = λ m. alike.ready m ∙ ap (λ r. r m) (sym ready);
  gone = λ m. alike.gone m ∙ ap (λ r. r m) (sym gone);
  posted = alike.posted ∙ sym posted;
  joined = alike.joined ∙ sym joined;
  fetched = alike.fetched ∙ sym fetched;
}
  where
    new : Local
    new = begun_local (site_in w plan n) (plan_volumes w plan) (first_plan_in (w.world.plans (first_of nodes n plan)))

    l : Local
    l = started w (first_of nodes n plan) plan n (nodes.facts n)

    was : (m : ℕ) → m ≢ n → (after_start w nodes n plan).begun m ≡ true → nodes.begun m ≡ true
    was m away is = let e : (after_start w nodes n plan).begun m ≡ nodes.begun m = rw (ne_eqb m n away) refl in sym e ∙ is

    at_own : {X : Type 0} {f : ℕ → X} {x : X} (g : ℕ → X) → ((m : ℕ) → f m ≡ (if m == n then x else g m)) → (m : ℕ) → m ≡ n → f m ≡ x
    at_own {X} {f} {x} g is m same = is m ∙ ap (λ b. if b then x else g m) (eq-eqb m n same)

    at_other : {X : Type 0} {f : ℕ → X} (x : X) (g : ℕ → X) → ((m : ℕ) → f m ≡ (if m == n then x else g m)) → (m : ℕ) → m ≢ n → f m ≡ g m
    at_other {X} {f} x g is m away = is m ∙ ap (λ b. if b then x else g m) (ne_eqb m n away)

-- ---- for the first time

pub begins_follow : (w : NodeWorld) → Grows w → (nodes : Nodes) (u : Fleet) (n plan : ℕ) → Sound w nodes → IsAlike w nodes u → CanCome w nodes (Started n plan) → nodes.begun n ≡ false →
    OneStep w (after_start w nodes n plan) u (steps_of w nodes (Started n plan)) (IsOwn None (silently (started w (first_of nodes n plan) plan n (nodes.facts n))))
begins_follow w g nodes u n plan sound alike can none =
    subst (λ steps. OneStep w (after_start w nodes n plan) u steps (IsOwn None (silently (started w (first_of nodes n plan) plan n (nodes.facts n))))) (sym steps_are) (record {
      may = ((sym (alike.begun n) ∙ none, sym (alike.gone n) ∙ can.0, can.1), tt);
      said_is = record { told = refl; letters = refl };
      alike = started_alike w nodes u v n plan (first_part w.world n plan) alike (λ m. refl) (λ m. ap (λ p. if m == n then p else u.first_plan m) (sym first_is)) (λ m. refl) (λ m. refl) (λ m x. refl) refl refl refl refl refl
          (subst (λ p. PartAlike w.world.setting.home n (part_in (started w p plan n (nodes.facts n))) (first_part w.world n plan)) (sym first_is)
          (subst (λ fs. PartAlike w.world.setting.home n (part_in (started w plan plan n fs)) (first_part w.world n plan)) (sym no_facts) (record { copies = λ f. refl; lacks = λ f. refl; reserved = λ k at. refl; sessions = λ k at. session_refl _ })));
      sound = started_sound w nodes n plan sound
          (subst (λ p. SoundAt w p plan n (started w p plan n (nodes.facts n)) (nodes.facts n) (nodes.ready n)) (sym first_is)
          (subst (λ fs. SoundAt w plan plan n (started w plan plan n fs) fs (nodes.ready n)) (sym no_facts) (start_at w g plan plan n [] (nodes.ready n) can.1 (omega arith) (λ f lacks. refl) (λ p later has. refl))));
    })
  where
    first_is : first_of nodes n plan ≡ plan
    first_is = rw none refl

    no_facts : nodes.facts n ≡ []
    no_facts = sound.fresh n none

    steps_are : steps_of w nodes (Started n plan) ≡ Begins n plan ∷ []
    steps_are = rw none refl

    v : Fleet
    v = after_fleet_step w.world u (Begins n plan)

-- ---- again

-- of a session that the tenant can't have nothing is reserved
outside_floor : (site : Site) (losses k : ℕ) → is_in 1 site.row.sessions k ≡ false → begun_floor site losses k ≡ 0
outside_floor site losses k out = by (site.home k == site.here) (is_in 1 site.row.sessions k) out
  where
    by : (here within : Bool) → within ≡ false → (if here && within then base site.here losses else 0) ≡ 0
    by true within e = rw e refl
    by false within e = refl

-- a session that the tenant may have goes on behind its reserved numbers; another one never used any
session_alike : (w : NodeWorld) (nodes : Nodes) (u : Fleet) (n plan k : ℕ) → Sound w nodes → IsAlike w nodes u → nodes.begun n ≡ true → w.world.setting.home k ≡ n →
    files_of_part (part_in (started w (nodes.first_plan n) plan n (nodes.facts n))) ≡ files_of_part (part_in (nodes.local n)) → (b : Bool) → is_in 1 w.world.setting.row.sessions k ≡ b →
    SessionAlike ((started w (nodes.first_plan n) plan n (nodes.facts n)).residents k).session (session_again w.world n (u.part n) k)
session_alike w nodes u n plan k sound alike begun at same true inside =
    let e : session_again w.world n (u.part n) k ≡ begun_anew ((u.part n).reserved k) ((u.part n).session k) = rw (eq-eqb (w.world.setting.home k) n at, inside) refl in
    let reserved : ((started w (nodes.first_plan n) plan n (nodes.facts n)).residents k).reserved ≡ (u.part n).reserved k = same_reserved (started w (nodes.first_plan n) plan n (nodes.facts n)) (nodes.local n) same k ∙ (alike.parts n begun).reserved k at in
    subst (SessionAlike ((started w (nodes.first_plan n) plan n (nodes.facts n)).residents k).session) (sym e)
    (idle_alike ((started w (nodes.first_plan n) plan n (nodes.facts n)).residents k).session (begun_anew ((u.part n).reserved k) ((u.part n).session k)) (ops_are w (nodes.first_plan n) plan n (nodes.facts n) k ∙ ap (λ (z : Reserved). z.op) reserved)
    (floors_are w (nodes.first_plan n) plan n (nodes.facts n) k ∙ ap (λ (z : Reserved). z.floor) reserved) (idle_is w (nodes.first_plan n) plan n (nodes.facts n) k) refl)
session_alike w nodes u n plan k sound alike begun at same false out =
    let l : Local = started w (nodes.first_plan n) plan n (nodes.facts n) in
    let local : Local = nodes.local n in
    let its : SoundAt w (nodes.first_plan n) (nodes.last_plan n) n local (nodes.facts n) (nodes.ready n) = sound.each n begun in
    let sessions = (alike.parts n begun).sessions k at in
    let e : session_again w.world n (u.part n) k ≡ (u.part n).session k = rw (out, eq-eqb (w.world.setting.home k) n at) refl in
    let none : (l.residents k).reserved ≡ none_reserved = recall_outside (site_in w plan n) (nodes.facts n) (begun_local (site_in w plan n) (plan_volumes w plan) (first_plan_in (w.world.plans (nodes.first_plan n)))) (λ j away i. record { op = 0; floor = outside_floor (site_in w plan n) (first_plan_in (w.world.plans (nodes.first_plan n))).losses j away i }) k out in
    let also : (local.residents k).reserved ≡ none_reserved = sym (same_reserved l local same k) ∙ none in
    let low_op = (its.used k).op in
    let low_floor = (its.used k).floor in
    let last_op : (local.residents k).reserved.op ≡ 0 = ap (λ (z : Reserved). z.op) also in
    let last_floor : (local.residents k).reserved.floor ≡ 0 = ap (λ (z : Reserved). z.floor) also in
    let op : (local.residents k).session.op ≡ 0 = omega (arith, low_op, last_op) in
    let floor : (local.residents k).session.floor ≡ 0 = omega (arith, low_floor, last_floor) in
    let start_op : (l.residents k).session.op ≡ 0 = ops_are w (nodes.first_plan n) plan n (nodes.facts n) k ∙ ap (λ (z : Reserved). z.op) none in
    let start_floor : (l.residents k).session.floor ≡ 0 = floors_are w (nodes.first_plan n) plan n (nodes.facts n) k ∙ ap (λ (z : Reserved). z.floor) none in
    subst (SessionAlike (l.residents k).session) (sym e)
    (idle_alike (l.residents k).session ((u.part n).session k) (start_op ∙ sym op ∙ sessions.op) (start_floor ∙ sym floor ∙ sessions.floor) (idle_is w (nodes.first_plan n) plan n (nodes.facts n) k) (sym sessions.current ∙ none_going (local.residents k).session.current refl))
  where
    none_going : (current : Option Task) → ((nodes.local n).residents k).session.current ≡ current → ((nodes.local n).residents k).session.current ≡ None
    none_going None is = is
    none_going (Some task) is = absurd (true≢false (sym (and_parts (is_in 1 w.world.setting.row.sessions k) (w.is_of_plan (nodes.last_plan n) k) ((sound.each n begun).home k (ap is_some is)).0).0 ∙ out))

pub restarts_follow : (w : NodeWorld) → Grows w → (nodes : Nodes) (u : Fleet) (n plan : ℕ) → Sound w nodes → IsAlike w nodes u → CanCome w nodes (Started n plan) → nodes.begun n ≡ true →
    OneStep w (after_start w nodes n plan) u (steps_of w nodes (Started n plan)) (IsOwn None (silently (started w (first_of nodes n plan) plan n (nodes.facts n))))
restarts_follow w g nodes u n plan sound alike can begun =
    subst (λ steps. OneStep w (after_start w nodes n plan) u steps (IsOwn None (silently (started w (first_of nodes n plan) plan n (nodes.facts n))))) (sym steps_are) (record {
      may = (((sym (alike.begun n) ∙ begun, sym (alike.gone n) ∙ can.0), subst (λ p. p ≤ plan) (alike.last_plan n begun) later, can.1), tt);
      said_is = record { told = refl; letters = refl };
      alike = started_alike w nodes u v n plan (part_again w.world n (u.part n)) alike (λ m. refl) firsts (λ m. refl) (λ m. refl) (λ m x. refl) refl refl refl refl refl
          (subst (λ p. PartAlike w.world.setting.home n (part_in (started w p plan n (nodes.facts n))) (part_again w.world n (u.part n))) (sym first_is) here);
      sound = started_sound w nodes n plan sound
          (subst (λ p. SoundAt w p plan n (started w p plan n (nodes.facts n)) (nodes.facts n) (nodes.ready n)) (sym first_is)
          (start_at w g (nodes.first_plan n) plan n (nodes.facts n) (nodes.ready n) can.1 (let order = its.order in omega (arith, order, later))
          (λ f lacks. ap (λ (z : KeptFiles). z.kept.copy f) same ∙ its.bare f (ap (λ (z : KeptFiles). z.lacks f) (sym same) ∙ lacks))
          (λ p more has. its.journal p (omega (arith, later, more)) has ∙ sym same)));
    })
  where
    its : SoundAt w (nodes.first_plan n) (nodes.last_plan n) n (nodes.local n) (nodes.facts n) (nodes.ready n)
    its = sound.each n begun

    later : nodes.last_plan n ≤ plan
    later = can.2 begun

    first_is : first_of nodes n plan ≡ nodes.first_plan n
    first_is = rw begun refl

    steps_are : steps_of w nodes (Started n plan) ≡ StartsAgain n plan ∷ []
    steps_are = rw begun refl

    v : Fleet
    v = after_fleet_step w.world u (StartsAgain n plan)

    l : Local
    l = started w (nodes.first_plan n) plan n (nodes.facts n)

    same : files_of_part (part_in l) ≡ files_of_part (part_in (nodes.local n))
    same = its.journal plan later can.1

    firsts : (m : ℕ) → u.first_plan m ≡ (if m == n then first_of nodes n plan else u.first_plan m)
    firsts m = elim (cases_eq m n) [
      | inl own ↦ (ap u.first_plan own ∙ sym (alike.first_plan n begun) ∙ sym first_is ∙ sym (ap (λ b. if b then first_of nodes n plan else u.first_plan m) (eq-eqb m n own)))
      | inr away ↦ (sym (ap (λ b. if b then first_of nodes n plan else u.first_plan m) (ne_eqb m n away)))
    ]

    here : PartAlike w.world.setting.home n (part_in l) (part_again w.world n (u.part n))
    here = record {
      copies = λ f. ap (λ (z : KeptFiles). z.kept.copy f) same ∙ (alike.parts n begun).copies f;
      lacks = λ f. ap (λ (z : KeptFiles). z.lacks f) same ∙ (alike.parts n begun).lacks f;
      reserved = λ k at. same_reserved l (nodes.local n) same k ∙ (alike.parts n begun).reserved k at;
      sessions = λ k at. session_alike w nodes u n plan k sound alike begun at same (is_in 1 w.world.setting.row.sessions k) refl;
    }
