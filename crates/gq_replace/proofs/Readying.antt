-- A new node has heard all others of its plan: the copies of its place are lost, and it takes the place over.
use Rattle.std.proofs.Common.{◌≡◌, ◌≢◌, ◌⊎◌, ℕ, zero, suc, ◌+◌, ◌*◌, ◌<◌, ◌≤◌, Bool, true, false, ◌&&◌, ◌||◌, List, [], ◌∷◌, ◌++◌, map, refl, sym, ap, ◌∙◌, subst, inl, inr, Option, Some, None, is_some, arith, eqb, leb}
use Rattle.std.specs.Prelude.{Contains, nat_lt, filter, fold, if◌then◌else◌}
use Rattle.std.specs.List.{range_with_len, list_all}
use Rattle.std.proofs.lemmas.Bool.{cases_eq, cases_Bool, cases_lt, eq-eqb, ne_eqb, eqb-true, ltb-true, ltb-false, lt-ltb, leb-true, and_parts, or_left, or_right, or_parts, true≢false}
use Rattle.std.proofs.lemmas.List.Elements.{Contains-append_left}
use Rattle.std.proofs.lemmas.List.Sums.{fold-append}
use Rattle.gq_tag.specs.declared.StoredCopy.{StoredCopy}
use Rattle.gq_tag.specs.Tag.{File, OwnMessage, to_server}
use Rattle.gq_desk.specs.Plans.{is_in}
use Rattle.gq_phase.specs.Phase.{Task}
use Rattle.gq_model.specs.Trace.{is_awaited}
use Rattle.gq_cluster.specs.Cluster.{Cluster, Restarts, Loses, NoneCounts, copy_in, is_within, lost_part, forgetting, with_loss, after_step}
use Rattle.gq_replace.specs.Plans.{Plan, times, place_of, generation, node_at, has_node, is_replaced}
use Rattle.gq_replace.specs.Fleet.{World, Fleet, Posted, Fetched, plan_of, IsActing, heard_all, with_ready, ends_of_gone}
use Rattle.gq_replace.proofs.Chains.{place_below, same_node, generation_at, own_node, times_grow}
use Rattle.gq_replace.proofs.Acting.{Same, held_offered}
use Rattle.gq_replace.proofs.Reached.{can_append}
use Rattle.gq_replace.proofs.Again.{Ended, ended, session_of, is_among, listed, unlisted}
use Rattle.gq_replace.proofs.Sound.{Sound, Knows, IsBegun, IsGoing, IsReply, HasIt, newer_lacks, own}
use Rattle.gq_replace.proofs.Agreeing.{IsGiven, Agrees, Known, Moved, from_map}

-- each place of the grid passes
all_in : (test : ℕ → Bool) (a n i : ℕ) → list_all test (range_with_len a n) ≡ true → a ≤ i → i < a + n → test i ≡ true
all_in test a zero i all low high = absurd (omega arith)
all_in test a (suc n) i all low high = by (cases_eq a i) (λ (late : a + 1 ≤ i) (soon : i < a + 1 + n). all_in test (a + 1) n i parts.1 late soon)
  where
    parts : (test a ≡ true) × (list_all test (range_with_len (a + 1) n) ≡ true)
    parts = and_parts (test a) (list_all test (range_with_len (a + 1) n)) all

    by : (a ≡ i) ⊎ (a ≢ i) → (a + 1 ≤ i → i < a + 1 + n → test i ≡ true) → test i ≡ true
    by (inl same) later = ap test (sym same) ∙ parts.0
    by (inr ne) later = later (omega arith) (omega arith)

not_less : (a b : ℕ) → b ≤ a → nat_lt a b ≡ false
not_less a b most = elim (cases_Bool (nat_lt a b)) [
  | inl less ↦ (let is = ltb-true a b less in absurd (omega (arith, is, most)))
  | inr none ↦ none
]

module _ (w : World) (u : Fleet) (c : Cluster) (n : ℕ) (known : Known w u c) (stand : (k : ℕ) → place_of (w.setting.home k) < w.setting.grid.rows * w.setting.grid.cols)
    (acting : IsActing u n) (new : 0 < generation n) (heard : heard_all w u n ≡ true) (not_yet : u.ready n ≡ false) where
  abbrev ready_fleet : Fleet
  ready_fleet = with_ready w n u

  abbrev plan : Plan
  plan = plan_of w u n

  -- the files that are lost are those of so many volumes
  abbrev volumes : ℕ
  volumes = (w.plans (u.first_plan n)).volumes

  was : IsBegun w u n
  was = known.sound.begun n acting.0

  abbrev nodes : List ℕ
  nodes = filter (is_replaced plan) (map w.setting.home (range_with_len 1 w.setting.row.sessions))

  abbrev mid : Cluster
  mid = fold (after_step w.setting) c (map Restarts nodes)

  over : Ended w.setting nodes c mid
  over = ended w.setting nodes c known.reached

  abbrev lost_cluster : Cluster
  lost_cluster = with_loss (place_of n) volumes mid

  -- its plan has so many of them at its place
  turn : generation n ≡ times plan (place_of n)
  turn = eqb-true (generation n) (times plan (place_of n)) was.now

  -- a node that is replaced by the plan is gone then, as are those that were before
  gone_then : (m : ℕ) → ready_fleet.gone m ≡ false → (is_replaced plan m ≡ false) × (u.gone m ≡ false)
  gone_then m still = or_parts (is_replaced plan m) (u.gone m) still

  -- of the place, the older ones are
  older_gone : (m : ℕ) → place_of m ≡ place_of n → generation m < generation n → is_replaced plan m ≡ true
  older_gone m place less =
      let same : times plan (place_of m) ≡ times plan (place_of n) = ap (times plan) place in
      let at = turn in
      lt-ltb (generation m) (times plan (place_of m)) (omega (arith, same, at, less))

  -- ---- no operation that goes on counts on what is lost

  -- a home that goes on has a plan with the node, or with a later one at its place
  has_new : (m : ℕ) → u.begun m ≡ true → is_replaced plan m ≡ false → place_of m < w.setting.grid.rows * w.setting.grid.cols → generation n ≤ times (plan_of w u m) (place_of n)
  has_new m begun kept inside = by (cases_eq m n) (cases_Bool (has_node plan m))
    where
      its : has_node (plan_of w u m) m ≡ true
      its = (known.sound.begun m begun).now

      its_turn : generation m ≡ times (plan_of w u m) (place_of m)
      its_turn = eqb-true (generation m) (times (plan_of w u m) (place_of m)) its

      most : times plan (place_of m) ≤ generation m
      most = ltb-false (generation m) (times plan (place_of m)) kept

      by : (m ≡ n) ⊎ (m ≢ n) → (has_node plan m ≡ true) ⊎ (has_node plan m ≡ false) → generation n ≤ times (plan_of w u m) (place_of n)
      by (inl same) either =
          let at : times (plan_of w u m) (place_of n) ≡ times plan (place_of n) = ap (λ z. times (plan_of w u z) (place_of n)) same in
          let its = turn in
          omega (arith, at, its)
      by (inr ne) (inl member) = told (known.sound.heard n m heard_it)
        where
          elsewhere : place_of m ≢ place_of n
          elsewhere place =
              let mine : generation m ≡ times plan (place_of m) = eqb-true (generation m) (times plan (place_of m)) member in
              ne (same_node m n place (mine ∙ ap (times plan) place ∙ sym turn))

          test : ℕ → Bool
          test place = eqb place (place_of n) || u.heard n (node_at plan place)

          heard_there : u.heard n (node_at plan (place_of m)) ≡ true
          heard_there = rw (ne_eqb (place_of m) (place_of n) elsewhere) at (all_in test 0 (w.setting.grid.rows * w.setting.grid.cols) (place_of m) heard (omega arith) (omega (arith, inside)))

          heard_it : u.heard n m ≡ true
          heard_it = ap (u.heard n) (sym (own_node plan m member)) ∙ heard_there

          told : Knows w u m n → generation n ≤ times (plan_of w u m) (place_of n)
          told knows =
              let then_turn : generation n ≡ times (w.plans knows.plan) (place_of n) = eqb-true (generation n) (times (w.plans knows.plan) (place_of n)) knows.has in
              let more = times_grow (w.plans knows.plan) (plan_of w u m) (place_of n) (known.chain knows.plan (u.last_plan m) knows.before) in
              omega (arith, then_turn, more)
      by (inr ne) (inr stranger) = elim (cases_lt (u.last_plan m) (u.last_plan n)) [
        | inl before ↦ (absurd (
            let less = times_grow (plan_of w u m) plan (place_of m) (known.chain (u.last_plan m) (u.last_plan n) (omega (arith, before))) in
            let turns = its_turn in
            let at_most = most in
            true≢false (sym (eq-eqb (generation m) (times plan (place_of m)) (let equal : generation m ≡ times plan (place_of m) = omega (arith, less, turns, at_most) in equal)) ∙ stranger)))
        | inr behind ↦ (
            let more = times_grow plan (plan_of w u m) (place_of n) (known.chain (u.last_plan n) (u.last_plan m) behind) in
            let its = turn in
            omega (arith, more, its))
      ]

  -- a node that replied about a file is not the new one, which had none, nor a later one
  no_reply : (x : Posted) → IsReply w u x → place_of x.from ≡ place_of n → generation n ≤ generation x.from → x.letter.file.volume < volumes → ⊥
  no_reply x r place least within = elim (cases_lt (generation n) (generation x.from)) [
    | inl less ↦ (true≢false (sym (newer_lacks w u n x.from (u.first_plan n) x.letter.file known.chain known.sound acting.1 was.first within r.begun (sym place) less) ∙ r.has))
    | inr most ↦ (
        let itself : x.from ≡ n = same_node x.from n place (let equal : generation x.from ≡ generation n = omega (arith, least, most) in equal) in
        true≢false (sym (was.having x.letter.file new within (ap (λ z. (u.part z).lacks x.letter.file) (sym itself) ∙ r.has)) ∙ not_yet))
  ]

  -- so no operation of a session whose home goes on awaits a letter of the place
  not_awaited : (x : Posted) → Contains u.posted x → to_server x.letter.body ≡ false → x.letter.server ≡ place_of n → x.letter.file.volume < volumes → is_replaced plan (w.setting.home x.letter.session) ≡ false → IsGoing w u x.letter → ⊥
  not_awaited x inside reply server within kept going = no_reply x r place least within
    where
      r : IsReply w u x
      r = known.sound.replies x inside reply

      home : ℕ
      home = w.setting.home x.letter.session

      begun : u.begun home ≡ true
      begun = elim (cases_Bool (u.begun home)) [
        | inl is ↦ is
        | inr fresh ↦ (absurd (true≢false (sym going.busy ∙ ap (λ z. is_some (z.session x.letter.session).current) (known.sound.fresh home fresh))))
      ]

      place : place_of x.from ≡ place_of n
      place = r.place ∙ server

      at : x.from ≡ node_at (plan_of w u home) (place_of n)
      at = r.asked going ∙ (λ i. node_at (plan_of w u (r.to i)) (server i))

      least : generation n ≤ generation x.from
      least =
          let from : generation x.from ≡ times (plan_of w u home) (place_of n) = ap generation at ∙ generation_at (plan_of w u home) (place_of n) (place_below n) in
          let low = has_new home begun kept (stand x.letter.session) in
          omega (arith, from, low)

  none_counts : NoneCounts w.setting mid (place_of n) volumes
  none_counts letter written reply server within = by (is_awaited (session_of w.setting mid letter.session) letter) refl
    where
      k : ℕ
      k = letter.session

      home : ℕ
      home = w.setting.home k

      -- the session goes on in the cluster, and so did it before the restarts
      absurd_if : is_some (session_of w.setting mid k).current ≡ true → (session_of w.setting mid k).op ≡ letter.op → ⊥
      absurd_if busy op = which (cases_Bool (is_replaced plan home)) (cases_Bool (u.gone home))
        where
          same : session_of w.setting mid k ≡ session_of w.setting c k
          same = over.going k busy

          busy_before : is_some (session_of w.setting c k).current ≡ true
          busy_before = ap (λ z. is_some z.current) (sym same) ∙ busy

          inside : is_in 1 w.setting.row.sessions k ≡ true
          inside = of (session_of w.setting c k).current refl busy_before
            where
              of : (task : Option Task) → (session_of w.setting c k).current ≡ task → is_some task ≡ true → is_in 1 w.setting.row.sessions k ≡ true
              of None is busy = absurd (true≢false (sym busy))
              of (Some task) is busy = known.bounded.inside k task is

          idle : (session_of w.setting mid k).current ≡ None → ⊥
          idle none = true≢false (sym busy ∙ ap is_some none)

          which : (is_replaced plan home ≡ true) ⊎ (is_replaced plan home ≡ false) → (u.gone home ≡ true) ⊎ (u.gone home ≡ false) → ⊥
          which (inl replaced) either =
              idle (over.idle k inside (inl (among replaced)))
            where
              among : is_replaced plan home ≡ true → is_among nodes home ≡ true
              among replaced =
                  let low : 1 ≤ k = leb-true 1 k (and_parts (leb 1 k) (leb k w.setting.row.sessions) inside).0 in
                  let high : k ≤ w.setting.row.sessions = leb-true k w.setting.row.sessions (and_parts (leb 1 k) (leb k w.setting.row.sessions) inside).1 in
                  listed (is_replaced plan) w.setting.home 1 w.setting.row.sessions k low (omega (arith, high)) replaced
          which (inr kept) (inl gone) = idle (over.idle k inside (inr (known.agrees.idle k gone inside)))
          which (inr kept) (inr still) =
              let found = from_map (λ (x : Posted). x.letter) u.posted letter (let P : List OwnMessage → Type 0 = λ z. Contains z letter in subst P (over.written ∙ known.agrees.written) written) in
              let its : found.0.letter ≡ letter = found.2 in
              let mine : own w u k ≡ session_of w.setting mid k = (known.agrees.same k still).session ∙ sym same in
              let P : OwnMessage → Type 0 = λ z. to_server z.body ≡ false in
              let Q : OwnMessage → Type 0 = λ z. z.server ≡ place_of n in
              let R : OwnMessage → Type 0 = λ z. z.file.volume < volumes in
              let K : OwnMessage → Type 0 = λ z. is_replaced plan (w.setting.home z.session) ≡ false in
              let G : OwnMessage → Type 0 = λ z. IsGoing w u z in
              not_awaited found.0 found.1 (subst P (sym its) reply) (subst Q (sym its) server) (subst R (sym its) (ltb-true letter.file.volume volumes within)) (subst K (sym its) kept)
              (subst G (sym its) (record { busy = ap (λ z. is_some z.current) mine ∙ busy; op = ap (λ z. z.op) mine ∙ op }))

      by : (b : Bool) → is_awaited (session_of w.setting mid k) letter ≡ b → is_awaited (session_of w.setting mid k) letter ≡ false
      by false is = is
      by true is =
          let outer = and_parts (is_some (session_of w.setting mid k).current && eqb letter.op (session_of w.setting mid k).op) (eqb letter.round (session_of w.setting mid k).round) is in
          let inner = and_parts (is_some (session_of w.setting mid k).current) (eqb letter.op (session_of w.setting mid k).op) outer.0 in
          absurd (absurd_if inner.0 (sym (eqb-true letter.op (session_of w.setting mid k).op inner.1)))

  -- ---- what is known then

  ready_or : (m : ℕ) → ready_fleet.ready m ≡ true → (m ≡ n) ⊎ (u.ready m ≡ true)
  ready_or m is = by (eqb m n) refl is
    where
      by : (b : Bool) → eqb m n ≡ b → (b || u.ready m) ≡ true → (m ≡ n) ⊎ (u.ready m ≡ true)
      by true same is = inl (eqb-true m n same)
      by false ne is = inr is

  ready_sound : Sound w ready_fleet
  ready_sound = record {
    begun = λ m is. let b = known.sound.begun m is in record { now = b.now; first = b.first; later = b.later; having = λ file newer within has. or_right (eqb m n) (u.ready m) (b.having file newer within has); unknown = b.unknown };
    fresh = known.sound.fresh;
    lacking = known.sound.lacking;
    ready = λ m is. elim (ready_or m is) [
      | inl same ↦ (ap u.begun same ∙ acting.0)
      | inr old ↦ (known.sound.ready m old)
    ];
    older = λ m old is place less. elim (ready_or m is) [
      | inl same ↦ (
          let less_here : generation old < generation n = (let P : ℕ → Type 0 = λ z. generation old < generation z in subst P same less) in
          or_left (is_replaced plan old) (u.gone old) (older_gone old (place ∙ ap place_of same) less_here))
      | inr was_ready ↦ (or_right (is_replaced plan old) (u.gone old) (known.sound.older m old was_ready place less))
    ];
    heard = λ m other is. let k = known.sound.heard m other is in record { begun = k.begun; plan = k.plan; before = k.before; has = k.has };
    joined = λ x inside. let k = known.sound.joined x inside in record { begun = k.begun; plan = k.plan; before = k.before; has = k.has };
    asks = λ x inside ask home going. known.sound.asks x inside ask home (record { busy = going.busy; op = going.op });
    replies = λ x inside reply. let r = known.sound.replies x inside reply in record { begun = r.begun; place = r.place; has = r.has; to = r.to; asked = λ going. r.asked (record { busy = going.busy; op = going.op }) };
  }

  -- of a file that is not lost at the place, and of any at another, the cluster has what it had
  abbrev is_lost : ℕ → File → Bool
  is_lost place file = eqb (place_of n) place && is_within volumes file

  kept_here : (place : ℕ) (file : File) → is_lost place file ≡ false → ((lost_cluster.part place).lacks file ≡ (c.part place).lacks file) × ((lost_cluster.part place).brought file ≡ (c.part place).brought file)
  kept_here place file kept = (lacks (eqb (place_of n) place) kept ∙ over.lacks place file, brought (eqb (place_of n) place) kept ∙ over.brought place file)
    where
      lacks : (b : Bool) → (b && is_within volumes file) ≡ false → (if b then lost_part volumes (mid.part place) else mid.part place).lacks file ≡ (mid.part place).lacks file
      lacks true none = rw none refl
      lacks false none = refl

      brought : (b : Bool) → (b && is_within volumes file) ≡ false → (if b then lost_part volumes (mid.part place) else mid.part place).brought file ≡ (mid.part place).brought file
      brought true none = rw none refl
      brought false none = refl

  lost_session : (m k : ℕ) → Same (lost_cluster.part m) (mid.part m) k
  lost_session m k = by (eqb (place_of n) m)
    where
      by : (b : Bool) → Same (if b then lost_part volumes (mid.part m) else mid.part m) (mid.part m) k
      by true = record { session = refl; reserved = refl }
      by false = record { session = refl; reserved = refl }

  -- a node that has a file then has none that is lost
  unlost : (m : ℕ) (file : File) → ready_fleet.gone m ≡ false → HasIt w u m file → is_lost (place_of m) file ≡ false
  unlost m file still it = by (eqb (place_of n) (place_of m)) refl (is_within volumes file) refl
    where
      by : (b : Bool) → eqb (place_of n) (place_of m) ≡ b → (d : Bool) → is_within volumes file ≡ d → (b && d) ≡ false
      by false away d is = refl
      by true same false is = refl
      by true same true is = absurd (elim (cases_lt (generation m) (generation n)) [
        | inl less ↦ (true≢false (sym (older_gone m (sym place) less) ∙ (gone_then m still).0))
        | inr most ↦ (elim (cases_lt (generation n) (generation m)) [
          | inl less ↦ (true≢false (sym (newer_lacks w u n m (u.first_plan n) file known.chain known.sound acting.1 was.first within it.begun place less) ∙ it.has))
          | inr least ↦ (
              let itself : m ≡ n = same_node m n (sym place) (let equal : generation m ≡ generation n = omega (arith, most, least) in equal) in
              true≢false (sym (was.having file new within (ap (λ z. (u.part z).lacks file) (sym itself) ∙ it.has)) ∙ not_yet))
        ])
      ])
        where
          place : place_of n ≡ place_of m
          place = eqb-true (place_of n) (place_of m) same

          within : file.volume < volumes
          within = ltb-true file.volume volumes is

  -- a node of the place that was ready before is gone by now
  ready_elsewhere : (m : ℕ) → ready_fleet.gone m ≡ false → u.ready m ≡ true → place_of n ≢ place_of m
  ready_elsewhere m still ready place = elim (cases_lt (generation m) (generation n)) [
    | inl less ↦ (true≢false (sym (older_gone m (sym place) less) ∙ (gone_then m still).0))
    | inr most ↦ (elim (cases_lt (generation n) (generation m)) [
      | inl less ↦ (true≢false (sym (known.sound.older m n ready place less) ∙ acting.1))
      | inr least ↦ (
          let itself : m ≡ n = same_node m n (sym place) (let equal : generation m ≡ generation n = omega (arith, most, least) in equal) in
          true≢false (sym ready ∙ ap u.ready itself ∙ not_yet))
    ])
  ]

  ready_agrees : Agrees w ready_fleet lost_cluster
  ready_agrees = record {
    written = over.written ∙ known.agrees.written;
    same = same;
    idle = idle;
    holds = λ m file still it.
        let had : HasIt w u m file = record { begun = it.begun; within = it.within; has = it.has } in
        let old = known.agrees.holds m file (gone_then m still).1 had in
        let base = kept_here (place_of m) file (unlost m file still had) in
        record { has = base.0 ∙ old.has; brought = base.1 ∙ old.brought };
    lost = lost;
    given = given;
    untouched = untouched;
    kept = kept;
    offers = λ server file peer lacks has. held_offered (forgetting (place_of n) volumes mid.offered server file peer) ((lost_cluster.part peer).lacks file) (copy_in (lost_cluster.part peer) file) has;
  }
    where
      same : (k : ℕ) → ready_fleet.gone (w.setting.home k) ≡ false → Same (u.part (w.setting.home k)) (lost_cluster.part (w.setting.home k)) k
      same k still =
          let parts = gone_then (w.setting.home k) still in
          let old = known.agrees.same k parts.1 in
          let before = over.others k (unlisted (is_replaced plan) (map w.setting.home (range_with_len 1 w.setting.row.sessions)) (w.setting.home k) parts.0) in
          let loss = lost_session (w.setting.home k) k in
          record { session = old.session ∙ sym before.session ∙ sym loss.session; reserved = old.reserved ∙ sym before.reserved ∙ sym loss.reserved }

      idle : (k : ℕ) → ready_fleet.gone (w.setting.home k) ≡ true → is_in 1 w.setting.row.sessions k ≡ true → ((lost_cluster.part (w.setting.home k)).session k).current ≡ None
      idle k gone inside = ap (λ z. z.current) (lost_session (w.setting.home k) k).session ∙ over.idle k inside (by (is_replaced plan (w.setting.home k)) refl gone)
        where
          by : (b : Bool) → is_replaced plan (w.setting.home k) ≡ b → (b || u.gone (w.setting.home k)) ≡ true → (is_among nodes (w.setting.home k) ≡ true) ⊎ ((session_of w.setting c k).current ≡ None)
          by true replaced gone =
              let low : 1 ≤ k = leb-true 1 k (and_parts (leb 1 k) (leb k w.setting.row.sessions) inside).0 in
              let high : k ≤ w.setting.row.sessions = leb-true k w.setting.row.sessions (and_parts (leb 1 k) (leb k w.setting.row.sessions) inside).1 in
              inl (listed (is_replaced plan) w.setting.home 1 w.setting.row.sessions k low (omega (arith, high)) replaced)
          by false kept gone = inr (known.agrees.idle k gone inside)

      lost : (m : ℕ) (file : File) → ready_fleet.gone m ≡ false → ready_fleet.ready m ≡ true → (u.part m).lacks file ≡ true → (lost_cluster.part (place_of m)).lacks file ≡ true
      lost m file still ready lacks = elim (ready_or m ready) [
        | inl same ↦ (
            let here : place_of n ≡ place_of m = ap place_of (sym same) in
            let low : file.volume < volumes = (known.sound.lacking n file (ap (λ z. (u.part z).lacks file) (sym same) ∙ lacks)).1 in
            rw (eq-eqb (place_of n) (place_of m) here, lt-ltb file.volume volumes low) refl)
        | inr before ↦ (
            let away = ready_elsewhere m still before in
            let none : is_lost (place_of m) file ≡ false = rw (ne_eqb (place_of n) (place_of m) away) refl in
            (kept_here (place_of m) file none).0 ∙ known.agrees.lost m file (gone_then m still).1 before lacks)
      ]

      given : (x : Fetched) → Contains u.fetched x → IsGiven w ready_fleet lost_cluster x
      given x inside = record { peers = old.peers; ready = or_right (eqb x.node n) (u.ready x.node) old.ready; offered = offered }
        where
          old : IsGiven w u c x
          old = known.agrees.given x inside

          offered : ready_fleet.gone x.node ≡ false → (u.part x.node).lacks x.file ≡ true → Contains (lost_cluster.offered (place_of x.node) x.file (place_of x.peer)) x.copy
          offered still lacks = Contains-append_left (forgetting (place_of n) volumes mid.offered (place_of x.node) x.file (place_of x.peer)) _ x.copy
              (remembered (is_lost (place_of x.node) x.file) (rw (ne_eqb (place_of n) (place_of x.node) (ready_elsewhere x.node still old.ready)) refl))
            where
              before : Contains (mid.offered (place_of x.node) x.file (place_of x.peer)) x.copy
              before = over.offered (place_of x.node) x.file (place_of x.peer) x.copy (old.offered (gone_then x.node still).1 lacks)

              remembered : (b : Bool) → b ≡ false → Contains (if b then [] else mid.offered (place_of x.node) x.file (place_of x.peer)) x.copy
              remembered true none = absurd (true≢false none)
              remembered false none = before

      untouched : (place : ℕ) (file : File) → ((m : ℕ) → place_of m ≡ place → HasIt w ready_fleet m file → ⊥) → (lost_cluster.part place).brought file ≡ []
      untouched place file none = part_is (eqb (place_of n) place) ∙ by_both (eqb (place_of n) place) (is_within volumes file)
        where
          before : (mid.part place).brought file ≡ []
          before = over.brought place file ∙ known.agrees.untouched place file (λ m at it. none m at (record { begun = it.begun; within = it.within; has = it.has }))

          lost_brought : Bool → Bool → List StoredCopy
          lost_brought b d = if b then (if d then [] else (mid.part place).brought file) else (mid.part place).brought file

          by_both : (b d : Bool) → lost_brought b d ≡ []
          by_both true true = refl
          by_both true false = before
          by_both false d = before

          part_is : (b : Bool) → (if b then lost_part volumes (mid.part place) else mid.part place).brought file ≡ lost_brought b (is_within volumes file)
          part_is true = refl
          part_is false = refl

      kept : (place : ℕ) (file : File) → ((m : ℕ) → ready_fleet.ready m ≡ true → place_of m ≡ place → (w.plans (u.first_plan m)).volumes ≤ file.volume) → (lost_cluster.part place).lacks file ≡ false
      kept place file low = (kept_here place file none).0 ∙ known.agrees.kept place file (λ m ready at. low m (or_right (eqb m n) (u.ready m) ready) at)
        where
          none : is_lost place file ≡ false
          none = by (cases_eq (place_of n) place)
            where
              by : (place_of n ≡ place) ⊎ (place_of n ≢ place) → is_lost place file ≡ false
              by (inr ne) = rw (ne_eqb (place_of n) place ne) refl
              by (inl same) =
                  let beyond : volumes ≤ file.volume = low n (or_left (eqb n n) (u.ready n) (eq-eqb n n refl)) same in
                  let out : is_within volumes file ≡ false = not_less file.volume volumes beyond in
                  rw (eq-eqb (place_of n) place same) out

  pub ready_moves : Moved w c ready_fleet (ends_of_gone w plan ++ Loses (place_of n) volumes ∷ [])
  ready_moves = record {
    can = can_append w.setting c (map Restarts nodes) (Loses (place_of n) volumes ∷ []) over.can (none_counts, tt);
    sound = ready_sound;
    agrees = (let P : Cluster → Type 0 = λ z. Agrees w ready_fleet z in subst P (sym (fold-append (after_step w.setting) c (map Restarts nodes) (Loses (place_of n) volumes ∷ []))) ready_agrees);
  }
