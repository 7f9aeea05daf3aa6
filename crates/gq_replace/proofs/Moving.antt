-- A node is started, and does what a line or a letter brings.
use Rattle.std.proofs.Common.{◌≡◌, ◌≢◌, ◌⊎◌, ℕ, zero, suc, ◌+◌, ◌<◌, ◌≤◌, Bool, true, false, not, List, [], ◌∷◌, ◌++◌, map, refl, sym, ap, ◌∙◌, subst, inl, inr, Option, Some, None, is_some, arith, eqb}
use Rattle.std.specs.Prelude.{Contains, nat_lt, max, ◌==◌, ◌&&◌, if◌then◌else◌}
use Rattle.std.proofs.lemmas.Bool.{cases_eq, cases_Bool, cases_lt, eq-eqb, ne_eqb, eqb-true, and_parts, ltb-true, lt-ltb, true≢false}
use Rattle.std.proofs.lemmas.List.{map-append}
use Rattle.std.proofs.lemmas.List.Elements.{Contains-append_cases}
use Rattle.gq_grid.specs.Grid.{Servers}
use Rattle.gq_tag.specs.declared.StoredCopy.{StoredCopy}
use Rattle.gq_tag.specs.declared.Body.{Body}
use Rattle.gq_tag.specs.declared.Body.TheVariants.{Ask, Copy, Store, Stored}
use Rattle.gq_tag.specs.Tag.{File, OwnMessage, is_file, first_copy, greatest, to_server, answer_body}
use Rattle.gq_desk.specs.Plans.{is_in}
use Rattle.gq_phase.specs.Phase.{Task}
use Rattle.gq_model.specs.declared.events.Line.{Line}
use Rattle.gq_model.specs.Lone.{Step, reply_to}
use Rattle.gq_cluster.specs.Cluster.{Cluster, Part, Act, Asks, Comes, Acts, Restarts, Reserves, new_part, copy_in, is_within, node_of, session_named, IsOfSession, reserving_part, CanAct, step_of, step_in, part_after, after_act, after_step}
use Rattle.gq_cluster.specs.Restarts.{GivesUp, begun_anew}
use Rattle.gq_replace.specs.Plans.{place_of, generation, node_at, has_node}
use Rattle.gq_replace.specs.Fleet.{World, Fleet, Posted, plan_of, IsActing, MayDo, first_number, first_reserved, first_part, part_again, session_again, begins, starts_again, address, posts, does, MayServe}
use Rattle.gq_replace.proofs.Chains.{newer_later, same_node}
use Rattle.gq_replace.proofs.Acting.{Same, SameAct, act_away, act_here, act_offers, act_offering, asked_act, heard_act, after_same, session_then, session_after, went_on_then, lacks_after, asked_brings, heard_brings, served, served_is, served_same, served_other, served_session}
use Rattle.gq_replace.proofs.Again.{restart_offers, restart_offering, numbers_lack, numbers_bring, numbers_offering, gives}
use Rattle.gq_replace.proofs.Reached.{reached_more}
use Rattle.gq_cluster.specs.Facts.{Reserved, none_reserved}
use Rattle.gq_model.specs.Trace.{new_session}
use Rattle.gq_replace.proofs.Sending.{AllAsk, each_asks, line_asks, letter_asks}
use Rattle.gq_replace.proofs.Sound.{Sound, IsBegun, IsGoing, going_same, IsAsk, IsReply, HasIt, has_it, none_newer, newer_lacks, GoesOnAt, GoesSame, PostsSound, sound_on}
use Rattle.gq_replace.proofs.Agreeing.{Holds, Agrees, Known, Moved, FollowsAt, agrees_on, from_map, to_map}

-- session k of the node, as both have it
own_same : (w : World) (u : Fleet) (c : Cluster) (n : ℕ) → Agrees w u c → u.gone n ≡ false → (k : ℕ) → w.setting.home k ≡ n → Same (u.part n) (c.part n) k
own_same w u c n agrees still k here = let P : ℕ → Type 0 = λ z. Same (u.part z) (c.part z) k in subst P here (agrees.same k (ap u.gone here ∙ still))

same_parts : (p q a b : Part) (k : ℕ) → a ≡ p → b ≡ q → Same p q k → Same a b k
same_parts p q a b k one two same = record { session = ap (λ z. z.session k) one ∙ same.session ∙ sym (ap (λ z. z.session k) two); reserved = ap (λ z. z.reserved k) one ∙ same.reserved ∙ sym (ap (λ z. z.reserved k) two) }

-- what the place of a node has of a file that the node is the first to have
pub newly : (w : World) (u : Fleet) (c : Cluster) (n plan : ℕ) (file : File) → Known w u c → u.gone n ≡ false → has_node (w.plans plan) n ≡ true → file.volume < (w.plans plan).volumes →
    ((m : ℕ) → place_of m ≡ place_of n → generation m ≤ generation n → HasIt w u m file → ⊥) →
    ((m : ℕ) → u.ready m ≡ true → place_of m ≡ place_of n → generation m ≤ generation n → (w.plans (u.first_plan m)).volumes ≤ file.volume) →
    ((c.part (place_of n)).brought file ≡ []) × ((c.part (place_of n)).lacks file ≡ false)
newly w u c n plan file known still has within none low = (known.agrees.untouched (place_of n) file nobody, known.agrees.kept (place_of n) file unlost)
  where
    nobody : (m : ℕ) → place_of m ≡ place_of n → HasIt w u m file → ⊥
    nobody m place it = elim (cases_lt (generation n) (generation m)) [
      | inl less ↦ (true≢false (sym (newer_lacks w u n m plan file known.chain known.sound still has within it.begun (sym place) less) ∙ it.has))
      | inr most ↦ (none m place most it)
    ]

    unlost : (m : ℕ) → u.ready m ≡ true → place_of m ≡ place_of n → (w.plans (u.first_plan m)).volumes ≤ file.volume
    unlost m ready place = elim (cases_lt (generation n) (generation m)) [
      | inl less ↦ (absurd (true≢false (sym ready ∙ none_newer w u n m known.sound still (sym place) less)))
      | inr most ↦ (low m ready place most)
    ]

-- ---- a node is started for the first time

module _ (w : World) (u : Fleet) (c : Cluster) (n j : ℕ) (known : Known w u c) (not_yet : u.begun n ≡ false) (still : u.gone n ≡ false) (has : has_node (w.plans j) n ≡ true) where
  abbrev begun_fleet : Fleet
  begun_fleet = begins w n j u

  part_here : begun_fleet.part n ≡ first_part w n j
  part_here = rw (eq-eqb n n refl) refl

  first_here : begun_fleet.first_plan n ≡ j
  first_here = rw (eq-eqb n n refl) refl

  plan_here : begun_fleet.last_plan n ≡ j
  plan_here = rw (eq-eqb n n refl) refl

  begins_on : GoesOnAt w n u begun_fleet
  begins_on = record {
    away_begun = λ m ne. rw (ne_eqb m n ne) refl;
    away_first = λ m ne. rw (ne_eqb m n ne) refl;
    away_plan = λ m ne. rw (ne_eqb m n ne) refl;
    away_part = λ m ne. rw (ne_eqb m n ne) refl;
    begun = rw (eq-eqb n n refl) refl;
    first = λ is. absurd (true≢false (sym is ∙ not_yet));
    plan = λ is. absurd (true≢false (sym is ∙ not_yet));
    has = λ file is has_it. absurd (true≢false (sym is ∙ not_yet));
    lacking = lacking;
    is_begun = record {
      now = ap (λ z. has_node (w.plans z) n) plan_here ∙ has;
      first = ap (λ z. has_node (w.plans z) n) first_here ∙ has;
      later = (let first = first_here in let plan = plan_here in omega (arith, first, plan));
      having = having;
      unknown = λ file beyond. ap (λ z. z.brought file) part_here;
    };
    ready = λ m. refl;
    gone = λ m. refl;
    heard = λ m other is. (and_parts (not (eqb m n)) (u.heard m other) is).1;
    joined = refl;
  }
    where
      lacking : (file : File) → (begun_fleet.part n).lacks file ≡ true → (0 < generation n) × (file.volume < (w.plans (begun_fleet.first_plan n)).volumes)
      lacking file is =
          let parts = and_parts (nat_lt 0 (generation n)) (is_within (w.plans j).volumes file) (ap (λ z. z.lacks file) (sym part_here) ∙ is) in
          let P : ℕ → Type 0 = λ z. file.volume < (w.plans z).volumes in
          (ltb-true 0 (generation n) parts.0, subst P (sym first_here) (ltb-true file.volume (w.plans j).volumes parts.1))

      having : (file : File) → 0 < generation n → file.volume < (w.plans (begun_fleet.first_plan n)).volumes → (begun_fleet.part n).lacks file ≡ false → begun_fleet.ready n ≡ true
      having file new within has_it =
          let P : ℕ → Type 0 = λ z. file.volume < (w.plans z).volumes in
          let lacks : (first_part w n j).lacks file ≡ true = rw (lt-ltb 0 (generation n) new, lt-ltb file.volume (w.plans j).volumes (subst P first_here within)) refl in
          absurd (true≢false (sym lacks ∙ ap (λ z. z.lacks file) (sym part_here) ∙ has_it))

  begins_same : GoesSame w n u begun_fleet
  begins_same x old home going =
      let part : begun_fleet.part (w.setting.home x.letter.session) ≡ first_part w n j = ap begun_fleet.part home ∙ part_here in
      absurd (true≢false (sym going.busy ∙ ap (λ z. is_some (z.session x.letter.session).current) part))

  -- in the cluster its numbers are reserved, and then its sessions begin behind them
  abbrev number : ℕ
  number = first_number w n j

  abbrev numbers_cluster : Cluster
  numbers_cluster = after_step w.setting c (Reserves n number)

  abbrev begun_cluster : Cluster
  begun_cluster = after_step w.setting numbers_cluster (Restarts n)

  begun_given : GivesUp w.setting n numbers_cluster begun_cluster
  begun_given = gives w.setting numbers_cluster n (reached_more w.setting c (Reserves n number) known.reached)

  begun_lacks : (place : ℕ) (file : File) → (begun_cluster.part place).lacks file ≡ (c.part place).lacks file
  begun_lacks place file = begun_given.lacks place file ∙ numbers_lack w.setting c n number place file

  begun_brings : (place : ℕ) (file : File) → (begun_cluster.part place).brought file ≡ (c.part place).brought file
  begun_brings place file = begun_given.copies place file ∙ numbers_bring w.setting c n number place file

  begins_follows : FollowsAt w n u begun_fleet c begun_cluster
  begins_follows = record {
    still = still;
    fetched = refl;
    written = begun_given.written ∙ known.agrees.written;
    others = λ k ne.
        let away : numbers_cluster.part (w.setting.home k) ≡ c.part (w.setting.home k) = rw (ne_eqb (w.setting.home k) n ne) refl in
        record { session = begun_given.others k ne ∙ ap (λ z. z.session k) away; reserved = begun_given.reserved (w.setting.home k) k ∙ ap (λ z. z.reserved k) away };
    own = λ k here. own_then k here (is_in 1 w.setting.row.sessions k) refl;
    lacks = begun_lacks;
    brought = λ place file. inl (begun_brings place file);
    holds = holds;
    lost = λ file ready lacks. absurd (true≢false (sym (known.sound.ready n ready) ∙ not_yet));
    offered = λ server file peer copy within. restart_offers w.setting numbers_cluster n server file peer copy within;
    offers = restart_offering w.setting numbers_cluster n (numbers_offering w.setting c n number known.agrees.offers);
  }
    where
      own_then : (k : ℕ) → w.setting.home k ≡ n → (b : Bool) → is_in 1 w.setting.row.sessions k ≡ b → Same (begun_fleet.part n) (begun_cluster.part n) k
      own_then k here b is = record {
        session = ap (λ z. z.session k) part_here ∙ session b is;
        reserved = ap (λ z. z.reserved k) part_here ∙ reserved b is ∙ sym (begun_given.reserved n k);
      }
        where
          old : Same (u.part n) (c.part n) k
          old = own_same w u c n known.agrees still k here

          fresh : u.part n ≡ new_part
          fresh = known.sound.fresh n not_yet

          no_session : (c.part n).session k ≡ new_session
          no_session = sym old.session ∙ ap (λ z. z.session k) fresh

          none : (c.part n).reserved k ≡ none_reserved
          none = sym old.reserved ∙ ap (λ z. z.reserved k) fresh

          more : ℕ → Reserved → Reserved
          more at r = record r { floor = max r.floor at }

          -- where this is whether the session is one of the node
          first_then : Bool → Reserved
          first_then its = record { op = 0; floor = if its then number else 0 }

          now_then : Bool → Reserved
          now_then its = if its then more number ((c.part n).reserved k) else (c.part n).reserved k

          numbers_here : numbers_cluster.part n ≡ reserving_part w.setting n number (c.part n)
          numbers_here = rw (eq-eqb n n refl) refl

          at_least : max 0 number ≡ number
          at_least = omega arith

          reserved : (b : Bool) → is_in 1 w.setting.row.sessions k ≡ b → first_reserved w n j k ≡ (numbers_cluster.part n).reserved k
          reserved true is =
              (λ i. first_then (eq-eqb (w.setting.home k) n here i && is i))
              ∙ (λ i. record { op = 0; floor = sym at_least i })
              ∙ ap (more number) (sym none)
              ∙ sym (λ i. now_then (eq-eqb (w.setting.home k) n here i && is i))
              ∙ ap (λ z. z.reserved k) (sym numbers_here)
          reserved false is =
              (λ i. first_then (eq-eqb (w.setting.home k) n here i && is i))
              ∙ sym none
              ∙ sym (λ i. now_then (eq-eqb (w.setting.home k) n here i && is i))
              ∙ ap (λ z. z.reserved k) (sym numbers_here)

          same_session : (numbers_cluster.part n).session k ≡ new_session
          same_session = ap (λ z. z.session k) numbers_here ∙ no_session

          session : (b : Bool) → is_in 1 w.setting.row.sessions k ≡ b → (first_part w n j).session k ≡ (begun_cluster.part n).session k
          session true is = (λ i. begun_anew (reserved true is i) (sym same_session i)) ∙ sym (begun_given.own k here is)
          session false is =
              (λ i. begun_anew (first_then (eq-eqb (w.setting.home k) n here i && is i)) new_session)
              ∙ sym same_session
              ∙ sym (begun_given.outside k here is)

      -- only the first node of a place has files then
      holds : (file : File) → HasIt w begun_fleet n file → Holds (begun_fleet.part n) (begun_cluster.part (place_of n)) file
      holds file it = record { has = begun_lacks (place_of n) file ∙ new.1; brought = begun_brings (place_of n) file ∙ new.0 ∙ ap (λ z. z.brought file) (sym part_here) }
        where
          within : file.volume < (w.plans j).volumes
          within = let P : ℕ → Type 0 = λ z. file.volume < (w.plans z).volumes in subst P plan_here it.within

          first_one : generation n ≤ 0
          first_one = elim (cases_lt 0 (generation n)) [
            | inl new ↦ (absurd (
                let lacks : (first_part w n j).lacks file ≡ true = rw (lt-ltb 0 (generation n) new, lt-ltb file.volume (w.plans j).volumes within) refl in
                true≢false (sym lacks ∙ ap (λ z. z.lacks file) (sym part_here) ∙ it.has)))
            | inr least ↦ least
          ]

          -- another one of its generation is the node itself, which was not started
          itself : (m : ℕ) → place_of m ≡ place_of n → generation m ≤ generation n → u.begun m ≡ true → ⊥
          itself m place least begun =
              let zero_n = first_one in
              let same : m ≡ n = same_node m n place (let equal : generation m ≡ generation n = omega (arith, zero_n, least) in equal) in
              true≢false (sym begun ∙ ap u.begun same ∙ not_yet)

          new : ((c.part (place_of n)).brought file ≡ []) × ((c.part (place_of n)).lacks file ≡ false)
          new = newly w u c n j file known still has within (λ m place least it. itself m place least it.begun) (λ m ready place least. absurd (itself m place least (known.sound.ready m ready)))

  pub begins_moves : Moved w c begun_fleet (Reserves n number ∷ Restarts n ∷ [])
  begins_moves = record {
    can = (tt, (tt, tt));
    sound = sound_on w n u begun_fleet known.sound begins_on begins_same (λ x within. inl within);
    agrees = agrees_on w n u begun_fleet c begun_cluster known.chain known.sound known.agrees begins_on begins_follows;
  }

-- ---- and again

module _ (w : World) (u : Fleet) (c : Cluster) (n j : ℕ) (known : Known w u c) (acting : IsActing u n) (later : u.last_plan n ≤ j) (has : has_node (w.plans j) n ≡ true) where
  abbrev again_fleet : Fleet
  again_fleet = starts_again w n j u

  abbrev again_cluster : Cluster
  again_cluster = after_step w.setting c (Restarts n)

  again_part : again_fleet.part n ≡ part_again w n (u.part n)
  again_part = rw (eq-eqb n n refl) refl

  again_plan : again_fleet.last_plan n ≡ j
  again_plan = rw (eq-eqb n n refl) refl

  was : IsBegun w u n
  was = known.sound.begun n acting.0

  given : GivesUp w.setting n c again_cluster
  given = gives w.setting c n known.reached

  again_on : GoesOnAt w n u again_fleet
  again_on = record {
    away_begun = λ m ne. rw (ne_eqb m n ne) refl;
    away_first = λ m ne. refl;
    away_plan = λ m ne. rw (ne_eqb m n ne) refl;
    away_part = λ m ne. rw (ne_eqb m n ne) refl;
    begun = rw (eq-eqb n n refl) refl;
    first = λ is. refl;
    plan = λ is. (let plan = again_plan in omega (arith, plan, later));
    has = λ file is has_it. ap (λ z. z.lacks file) again_part ∙ has_it;
    lacking = λ file is. known.sound.lacking n file (ap (λ z. z.lacks file) (sym again_part) ∙ is);
    is_begun = record {
      now = ap (λ z. has_node (w.plans z) n) again_plan ∙ has;
      first = was.first;
      later = (let plan = again_plan in let low = was.later in omega (arith, plan, later, low));
      having = λ file new within has_it. was.having file new within (ap (λ z. z.lacks file) (sym again_part) ∙ has_it);
      unknown = unknown;
    };
    ready = λ m. refl;
    gone = λ m. refl;
    heard = λ m other is. (and_parts (not (eqb m n)) (u.heard m other) is).1;
    joined = refl;
  }
    where
      unknown : (file : File) → (plan_of w again_fleet n).volumes ≤ file.volume → (again_fleet.part n).brought file ≡ []
      unknown file beyond =
          let P : ℕ → Type 0 = λ z. (w.plans z).volumes ≤ file.volume in
          let at_j : (w.plans j).volumes ≤ file.volume = subst P again_plan beyond in
          let more = (known.chain (u.last_plan n) j later).volumes in
          ap (λ z. z.brought file) again_part ∙ was.unknown file (omega (arith, at_j, more))

  -- a session of the node has no operation then
  none_goes : (k : ℕ) → w.setting.home k ≡ n → is_some ((again_fleet.part n).session k).current ≡ true → ⊥
  none_goes k here goes = by (cases_Bool (is_in 1 w.setting.row.sessions k))
    where
      session_is : (b : Bool) → is_in 1 w.setting.row.sessions k ≡ b → (again_fleet.part n).session k ≡ (if b then begun_anew ((u.part n).reserved k) ((u.part n).session k) else (u.part n).session k)
      session_is b is = ap (λ z. z.session k) again_part ∙ (rw (eq-eqb (w.setting.home k) n here) (ap (λ z. if z then begun_anew ((u.part n).reserved k) ((u.part n).session k) else (u.part n).session k) is))

      -- whatever it has, it is none of the tenant's
      outside : (task : Option Task) → ((c.part n).session k).current ≡ task → is_some task ≡ true → is_in 1 w.setting.row.sessions k ≡ false → ⊥
      outside None is busy out = true≢false (sym busy)
      outside (Some task) is busy out = true≢false (sym (known.bounded.inside k task (ap (λ z. ((c.part z).session k).current) here ∙ is)) ∙ out)

      by : (is_in 1 w.setting.row.sessions k ≡ true) ⊎ (is_in 1 w.setting.row.sessions k ≡ false) → ⊥
      by (inl inside) = true≢false (sym goes ∙ ap (λ z. is_some z.current) (session_is true inside))
      by (inr out) =
          let same : (again_fleet.part n).session k ≡ (c.part n).session k = session_is false out ∙ (own_same w u c n known.agrees acting.1 k here).session in
          outside ((c.part n).session k).current refl (ap (λ z. is_some z.current) (sym same) ∙ goes) out

  again_same : GoesSame w n u again_fleet
  again_same x old home going = absurd (none_goes x.letter.session home (ap (λ z. is_some ((again_fleet.part z).session x.letter.session).current) (sym home) ∙ going.busy))

  again_follows : FollowsAt w n u again_fleet c again_cluster
  again_follows = record {
    still = acting.1;
    fetched = refl;
    written = given.written ∙ known.agrees.written;
    others = λ k ne. record { session = given.others k ne; reserved = given.reserved (w.setting.home k) k };
    own = λ k here. own_then k here (is_in 1 w.setting.row.sessions k) refl;
    lacks = given.lacks;
    brought = λ place file. inl (given.copies place file);
    holds = holds;
    lost = λ file ready lacks. ap (λ z. z.lacks file) (sym again_part) ∙ lacks;
    offered = λ server file peer copy within. restart_offers w.setting c n server file peer copy within;
    offers = restart_offering w.setting c n known.agrees.offers;
  }
    where
      own_then : (k : ℕ) → w.setting.home k ≡ n → (b : Bool) → is_in 1 w.setting.row.sessions k ≡ b → Same (again_fleet.part n) (again_cluster.part n) k
      own_then k here b is = record { session = session b is; reserved = ap (λ z. z.reserved k) again_part ∙ old.reserved ∙ sym (given.reserved n k) }
        where
          old : Same (u.part n) (c.part n) k
          old = own_same w u c n known.agrees acting.1 k here

          session : (b : Bool) → is_in 1 w.setting.row.sessions k ≡ b → (again_fleet.part n).session k ≡ (again_cluster.part n).session k
          session true is =
              let mine : session_again w n (u.part n) k ≡ begun_anew ((u.part n).reserved k) ((u.part n).session k) = rw (eq-eqb (w.setting.home k) n here, is) refl in
              ap (λ z. z.session k) again_part ∙ mine ∙ (λ i. begun_anew (old.reserved i) (old.session i)) ∙ sym (given.own k here is)
          session false is =
              let mine : session_again w n (u.part n) k ≡ (u.part n).session k = rw (eq-eqb (w.setting.home k) n here, is) refl in
              ap (λ z. z.session k) again_part ∙ mine ∙ old.session ∙ sym (given.outside k here is)

      holds : (file : File) → HasIt w again_fleet n file → Holds (again_fleet.part n) (again_cluster.part (place_of n)) file
      holds file it = by (cases_lt file.volume (plan_of w u n).volumes)
        where
          has_now : (u.part n).lacks file ≡ false
          has_now = ap (λ z. z.lacks file) (sym again_part) ∙ it.has

          mine : (again_fleet.part n).brought file ≡ (u.part n).brought file
          mine = ap (λ z. z.brought file) again_part

          within_j : file.volume < (w.plans j).volumes
          within_j = let P : ℕ → Type 0 = λ z. file.volume < (w.plans z).volumes in subst P again_plan it.within

          -- an older node of the place has no later plan
          older_plan : (m : ℕ) → place_of m ≡ place_of n → generation m < generation n → u.begun m ≡ true → u.last_plan m ≤ u.first_plan n
          older_plan m place less begun = newer_later w.plans known.chain (u.last_plan m) (u.first_plan n) m n place (known.sound.begun m begun).now was.first less

          -- so it does not know a file that the node does not know
          unknown_to : (m : ℕ) → (plan_of w u n).volumes ≤ file.volume → place_of m ≡ place_of n → generation m ≤ generation n → u.begun m ≡ true → (plan_of w u m).volumes ≤ file.volume
          unknown_to m beyond place least begun = elim (cases_lt (generation m) (generation n)) [
            | inl less ↦ (
                let low = older_plan m place less begun in
                let first_low = was.later in
                let more = (known.chain (u.last_plan m) (u.last_plan n) (omega (arith, low, first_low))).volumes in
                omega (arith, more, beyond))
            | inr most ↦ (
                let same : m ≡ n = same_node m n place (let equal : generation m ≡ generation n = omega (arith, most, least) in equal) in
                let P : ℕ → Type 0 = λ z. (plan_of w u z).volumes ≤ file.volume in
                subst P (sym same) beyond)
          ]

          by : (file.volume < (plan_of w u n).volumes) ⊎ ((plan_of w u n).volumes ≤ file.volume) → Holds (again_fleet.part n) (again_cluster.part (place_of n)) file
          by (inl before) =
              let old : Holds (u.part n) (c.part (place_of n)) file = known.agrees.holds n file acting.1 (record { begun = acting.0; within = before; has = has_now }) in
              record { has = given.lacks (place_of n) file ∙ old.has; brought = given.copies (place_of n) file ∙ old.brought ∙ sym mine }
          by (inr beyond) =
              let new = newly w u c n j file known acting.1 has within_j
              (λ m place least it. let low = unknown_to m beyond place least it.begun in let high = it.within in absurd (omega (arith, low, high)))
              (λ m ready place least.
              let begun = known.sound.ready m ready in
              let low = unknown_to m beyond place least begun in
              let more = (known.chain (u.first_plan m) (u.last_plan m) (known.sound.begun m begun).later).volumes in
              omega (arith, low, more)) in
              record { has = given.lacks (place_of n) file ∙ new.1; brought = given.copies (place_of n) file ∙ new.0 ∙ sym (was.unknown file beyond) ∙ sym mine }

  pub again_moves : Moved w c again_fleet (Restarts n ∷ [])
  again_moves = record {
    can = (tt, tt);
    sound = sound_on w n u again_fleet known.sound again_on again_same (λ x within. inl within);
    agrees = agrees_on w n u again_fleet c again_cluster known.chain known.sound known.agrees again_on again_follows;
  }

-- ---- it does something

letters_posted : (w : World) (u : Fleet) (n : ℕ) (letters : List OwnMessage) → map (λ posted. posted.letter) (posts w u n letters) ≡ letters
letters_posted w u n [] = refl
letters_posted w u n (letter ∷ letters) = ap (λ z. letter ∷ z) (letters_posted w u n letters)

-- what the cluster's act writes is what the node posts
does_written : (w : World) (u : Fleet) (c : Cluster) (n : ℕ) (act : Act) → c.written ≡ map (λ posted. posted.letter) u.posted → step_in w.setting c act ≡ step_of w.setting (u.part n) act →
    (after_act w.setting c act).written ≡ map (λ posted. posted.letter) (does w n act u).posted
does_written w u c n act written step =
    (λ i. written i ++ (step i).new)
    ∙ ap (λ z. map (λ posted. posted.letter) u.posted ++ z) (sym (letters_posted w u n (step_of w.setting (u.part n) act).new))
    ∙ sym (map-append (λ posted. posted.letter) u.posted (posts w u n (step_of w.setting (u.part n) act).new))

-- a letter that was posted was written
was_written : (w : World) (u : Fleet) (c : Cluster) (x : Posted) → c.written ≡ map (λ posted. posted.letter) u.posted → Contains u.posted x → Contains c.written x.letter
was_written w u c x written within = let P : List OwnMessage → Type 0 = λ z. Contains z x.letter in subst P (sym written) (to_map (λ posted. posted.letter) u.posted x within)

-- an act that changes copies of no file that the node does not have, and takes none away
record IsDone (w : World) (n : ℕ) (u : Fleet) (act : Act) : Type 0 where
  unknown : (file : File) → (plan_of w u n).volumes ≤ file.volume → (part_after w.setting (place_of n) (u.part n) act).brought file ≡ (u.part n).brought file

pub does_here : (w : World) (n : ℕ) (act : Act) (u : Fleet) → (does w n act u).part n ≡ part_after w.setting (place_of n) (u.part n) act
does_here w n act u = rw (eq-eqb n n refl) refl

does_on : (w : World) (n : ℕ) (act : Act) (u : Fleet) → Sound w u → u.begun n ≡ true → IsDone w n u act → GoesOnAt w n u (does w n act u)
does_on w n act u sound begun done = record {
  away_begun = λ m ne. refl;
  away_first = λ m ne. refl;
  away_plan = λ m ne. refl;
  away_part = λ m ne. rw (ne_eqb m n ne) refl;
  begun = begun;
  first = λ is. refl;
  plan = λ is. omega arith;
  has = λ file is has_it. lacks file ∙ has_it;
  lacking = λ file is. sound.lacking n file (sym (lacks file) ∙ is);
  is_begun = record {
    now = was.now;
    first = was.first;
    later = was.later;
    having = λ file new within has_it. was.having file new within (sym (lacks file) ∙ has_it);
    unknown = λ file beyond. ap (λ z. z.brought file) (does_here w n act u) ∙ done.unknown file beyond ∙ was.unknown file beyond;
  };
  ready = λ m. refl;
  gone = λ m. refl;
  heard = λ m other is. is;
  joined = refl;
}
  where
    was : IsBegun w u n
    was = sound.begun n begun

    lacks : (file : File) → ((does w n act u).part n).lacks file ≡ (u.part n).lacks file
    lacks file = ap (λ z. z.lacks file) (does_here w n act u) ∙ lacks_after w.setting (place_of n) (u.part n) act file

-- ---- a line of a session, or a letter to one

-- the act is of a session at the node
record IsOwn (w : World) (u : Fleet) (c : Cluster) (n : ℕ) (act : Act) : Type 0 where
  at : node_of w.setting.home act ≡ n
  can : CanAct c act
  acts : SameAct w.setting (u.part n) (c.part n) act
  asks : AllAsk (step_of w.setting (u.part n) act).new
  brings : (m : ℕ) (p : Part) (file : File) → (part_after w.setting m p act).brought file ≡ p.brought file

asked_own : (w : World) (u : Fleet) (c : Cluster) (n : ℕ) (line : Line) (aim : Servers) → Known w u c → u.gone n ≡ false → IsOfSession line → w.setting.home (session_named line) ≡ n → IsOwn w u c n (Asks line aim)
asked_own w u c n line aim known still its home = record {
  at = home;
  can = its;
  acts = asked_act w.setting aim (u.part n) (c.part n) line its (own_same w u c n known.agrees still (session_named line) home);
  asks = line_asks w.setting (u.part n) line aim;
  brings = λ m p file. asked_brings w.setting m p line aim file;
}

heard_own : (w : World) (u : Fleet) (c : Cluster) (from n : ℕ) (letter : OwnMessage) (aim : Servers) → Known w u c → u.gone n ≡ false → to_server letter.body ≡ false → Contains u.posted (record { from = from; to = n; letter = letter }) → w.setting.home letter.session ≡ n → IsOwn w u c n (Comes letter aim)
heard_own w u c from n letter aim known still reply within home = record {
  at = rw reply home;
  can = was_written w u c (record { from = from; to = n; letter = letter }) known.agrees.written within;
  acts = heard_act w.setting aim (u.part n) (c.part n) letter reply (own_same w u c n known.agrees still letter.session home);
  asks = letter_asks w.setting (u.part n) letter aim reply;
  brings = λ m p file. heard_brings w.setting m p letter aim file reply;
}

-- what a node posts is an ask, or a reply
new_posts : (w : World) (n : ℕ) (act : Act) (u : Fleet) → ((letter : OwnMessage) → Contains (step_of w.setting (u.part n) act).new letter →
    let x : Posted = record { from = n; to = address w u n letter; letter = letter } in (to_server letter.body ≡ true → IsAsk w (does w n act u) x) × (to_server letter.body ≡ false → IsReply w (does w n act u) x)) →
    PostsSound w u (does w n act u)
new_posts w n act u each x within = elim (Contains-append_cases u.posted (posts w u n (step_of w.setting (u.part n) act).new) x within) [
  | inl old ↦ (inl old)
  | inr new ↦ (
      let image : OwnMessage → Posted = λ letter. record { from = n; to = address w u n letter; letter = letter } in
      let found = from_map image (step_of w.setting (u.part n) act).new x new in
      let P : Posted → Type 0 = λ z. (to_server z.letter.body ≡ true → IsAsk w (does w n act u) z) × (to_server z.letter.body ≡ false → IsReply w (does w n act u) z) in
      inr (subst P found.2 (each found.0 found.1)))
]

module _ (w : World) (u : Fleet) (c : Cluster) (n : ℕ) (act : Act) (known : Known w u c) (acting : IsActing u n) (its : IsOwn w u c n act) where
  abbrev did : Fleet
  did = does w n act u

  abbrev then_cluster : Cluster
  then_cluster = after_act w.setting c act

  own_step : step_of w.setting (u.part n) act ≡ step_in w.setting c act
  own_step = its.acts.step ∙ ap (λ z. step_of w.setting (c.part z) act) (sym its.at)

  own_here : then_cluster.part n ≡ part_after w.setting n (c.part n) act
  own_here = act_here w.setting c act n (sym its.at)

  own_away : (m : ℕ) → m ≢ n → then_cluster.part m ≡ c.part m
  own_away m ne = act_away w.setting c act m (λ same. ne (same ∙ its.at))

  own_on : GoesOnAt w n u did
  own_on = does_on w n act u known.sound acting.0 (record { unknown = λ file beyond. its.brings (place_of n) (u.part n) file })

  own_goes : GoesSame w n u did
  own_goes x old home going = by (went_on_then w.setting act x.letter.session (step_of w.setting (u.part n) act) ((u.part n).session x.letter.session) busy)
    where
      k : ℕ
      k = x.letter.session

      behind : (did.part n).session k ≡ session_then w.setting act k (step_of w.setting (u.part n) act) ((u.part n).session k)
      behind = ap (λ z. z.session k) (does_here w n act u) ∙ session_after w.setting (place_of n) (u.part n) act k

      busy : is_some (session_then w.setting act k (step_of w.setting (u.part n) act) ((u.part n).session k)).current ≡ true
      busy = ap (λ z. is_some z.current) (sym behind) ∙ ap (λ z. is_some ((did.part z).session k).current) (sym home) ∙ going.busy

      op : (session_then w.setting act k (step_of w.setting (u.part n) act) ((u.part n).session k)).op ≡ x.letter.op
      op = ap (λ z. z.op) (sym behind) ∙ ap (λ z. ((did.part z).session k).op) (sym home) ∙ going.op

      -- no letter that was posted is of a later operation
      low : x.letter.op ≤ ((u.part n).session k).op
      low =
          let base : x.letter.op ≤ ((c.part (w.setting.home k)).session k).op = known.bounded.op x.letter (was_written w u c x known.agrees.written old) in
          let same : ((u.part n).session k).op ≡ ((c.part n).session k).op = ap (λ z. z.op) (own_same w u c n known.agrees acting.1 k home).session in
          let at : ((c.part (w.setting.home k)).session k).op ≡ ((c.part n).session k).op = ap (λ z. ((c.part z).session k).op) home in
          omega (arith, base, same, at)

      Then : Type 0
      Then = IsGoing w u x.letter × (did.last_plan n ≡ u.last_plan n)

      by : (((session_then w.setting act k (step_of w.setting (u.part n) act) ((u.part n).session k)).op ≡ ((u.part n).session k).op) × (is_some ((u.part n).session k).current ≡ true))
          ⊎ ((session_then w.setting act k (step_of w.setting (u.part n) act) ((u.part n).session k)).op ≡ ((u.part n).session k).op + 1) → Then
      by (inl on) = (
        record {
          busy = ap (λ z. is_some ((u.part z).session k).current) home ∙ on.1;
          op = ap (λ z. ((u.part z).session k).op) home ∙ sym on.0 ∙ op;
        },
        refl,
      )
      by (inr next) = let at = op in let bound = low in absurd (omega (arith, next, at, bound))

  own_posts : PostsSound w u did
  own_posts = new_posts w n act u (λ letter within. (
    (λ ask home going. rw ask refl),
    (λ reply. absurd (true≢false (sym (each_asks (step_of w.setting (u.part n) act).new its.asks letter within) ∙ reply))),
  ))

  own_follows : FollowsAt w n u did c then_cluster
  own_follows = record {
    still = acting.1;
    fetched = refl;
    written = does_written w u c n act known.agrees.written (sym own_step);
    others = λ k ne. (let part = own_away (w.setting.home k) ne in record { session = ap (λ z. z.session k) part; reserved = ap (λ z. z.reserved k) part });
    own = λ k home. same_parts (part_after w.setting (place_of n) (u.part n) act) (part_after w.setting n (c.part n) act) (did.part n) (then_cluster.part n) k (does_here w n act u) own_here
        (after_same w.setting (place_of n) n (u.part n) (c.part n) act its.acts k (own_same w u c n known.agrees acting.1 k home));
    lacks = lacks;
    brought = λ place file. inl (brought place file);
    holds = holds;
    lost = λ file ready is. sym (mine file) ∙ is;
    offered = λ server file peer copy within. act_offers w.setting c act server file peer copy within;
    offers = act_offering w.setting c act known.agrees.offers;
  }
    where
      mine : (file : File) → (did.part n).lacks file ≡ (u.part n).lacks file
      mine file = ap (λ z. z.lacks file) (does_here w n act u) ∙ lacks_after w.setting (place_of n) (u.part n) act file

      lacks : (place : ℕ) (file : File) → (then_cluster.part place).lacks file ≡ (c.part place).lacks file
      lacks place file = elim (cases_eq place n) [
        | inl same ↦ (ap (λ z. (then_cluster.part z).lacks file) same ∙ ap (λ z. z.lacks file) own_here ∙ lacks_after w.setting n (c.part n) act file ∙ ap (λ z. (c.part z).lacks file) (sym same))
        | inr ne ↦ (ap (λ z. z.lacks file) (own_away place ne))
      ]

      brought : (place : ℕ) (file : File) → (then_cluster.part place).brought file ≡ (c.part place).brought file
      brought place file = elim (cases_eq place n) [
        | inl same ↦ (ap (λ z. (then_cluster.part z).brought file) same ∙ ap (λ z. z.brought file) own_here ∙ its.brings n (c.part n) file ∙ ap (λ z. (c.part z).brought file) (sym same))
        | inr ne ↦ (ap (λ z. z.brought file) (own_away place ne))
      ]

      holds : (file : File) → HasIt w did n file → Holds (did.part n) (then_cluster.part (place_of n)) file
      holds file it =
          let old : Holds (u.part n) (c.part (place_of n)) file = known.agrees.holds n file acting.1 (record { begun = it.begun; within = it.within; has = sym (mine file) ∙ it.has }) in
          record {
            has = lacks (place_of n) file ∙ old.has;
            brought = brought (place_of n) file ∙ old.brought ∙ sym (its.brings (place_of n) (u.part n) file) ∙ ap (λ z. z.brought file) (sym (does_here w n act u));
          }

  own_moves : Moved w c did (Acts act ∷ []) × (step_of w.setting (u.part n) act ≡ step_in w.setting c act)
  own_moves = (
    record {
      can = (its.can, tt);
      sound = sound_on w n u did known.sound own_on own_goes own_posts;
      agrees = agrees_on w n u did c then_cluster known.chain known.sound known.agrees own_on own_follows;
    },
    own_step,
  )

-- ---- a letter to a server

reply_comes : (copy : StoredCopy) (body : Body) → to_server (answer_body copy body) ≡ false
reply_comes copy Ask = refl
reply_comes copy (Copy c) = refl
reply_comes copy (Store c) = refl
reply_comes copy Stored = refl

pub file_is : (a b : File) → is_file a b ≡ true → a ≡ b
file_is a b same =
    let parts = and_parts (eqb a.volume b.volume) (eqb a.place b.place) same in
    λ i. record { volume = eqb-true a.volume b.volume parts.0 i; place = eqb-true a.place b.place parts.1 i }

module _ (w : World) (u : Fleet) (c : Cluster) (from n : ℕ) (letter : OwnMessage) (aim : Servers) (known : Known w u c) (acting : IsActing u n) (ask : to_server letter.body ≡ true)
    (within : Contains u.posted (record { from = from; to = n; letter = letter })) (may : MayServe w u from n letter) where
  abbrev served_fleet : Fleet
  served_fleet = does w n (Comes letter aim) u

  abbrev served_cluster : Cluster
  served_cluster = after_act w.setting c (Comes letter aim)

  it : HasIt w u n letter.file
  it = has_it w u n letter.file may.has

  held : Holds (u.part n) (c.part (place_of n)) letter.file
  held = known.agrees.holds n letter.file acting.1 it

  -- the place, as the node of the act in the cluster
  at : place_of n ≡ node_of w.setting.home (Comes letter aim)
  at = may.place ∙ at_server
    where
      at_server : letter.server ≡ node_of w.setting.home (Comes letter aim)
      at_server = rw ask refl

  base_here : served_cluster.part (place_of n) ≡ part_after w.setting (place_of n) (c.part (place_of n)) (Comes letter aim)
  base_here = act_here w.setting c (Comes letter aim) (place_of n) at

  base_away : (m : ℕ) → m ≢ place_of n → served_cluster.part m ≡ c.part m
  base_away m ne = act_away w.setting c (Comes letter aim) m (λ same. ne (same ∙ sym at))

  copies : copy_in (u.part n) letter.file ≡ copy_in (c.part (place_of n)) letter.file
  copies = ap (λ z. greatest (first_copy ∷ z)) (sym held.brought)

  served_step : step_of w.setting (u.part n) (Comes letter aim) ≡ step_in w.setting c (Comes letter aim)
  served_step =
      served_is w.setting aim (u.part n) letter ask it.has
      ∙ ap (served letter) copies
      ∙ sym (served_is w.setting aim (c.part (place_of n)) letter ask held.has)
      ∙ ap (λ z. step_of w.setting (c.part z) (Comes letter aim)) at

  mine_session : (m k : ℕ) → Same (served_fleet.part m) (u.part m) k
  mine_session m k = elim (cases_eq m n) [
    | inl same ↦ (
        let P : ℕ → Type 0 = λ z. Same (served_fleet.part z) (u.part z) k in
        let served_same = served_session w.setting (place_of n) (u.part n) letter aim k ask it.has in
        let here = does_here w n (Comes letter aim) u in
        subst P (sym same) (record { session = ap (λ z. z.session k) here ∙ served_same.session; reserved = ap (λ z. z.reserved k) here ∙ served_same.reserved }))
    | inr ne ↦ (let away : served_fleet.part m ≡ u.part m = rw (ne_eqb m n ne) refl in record { session = ap (λ z. z.session k) away; reserved = ap (λ z. z.reserved k) away })
  ]

  base_session : (m k : ℕ) → Same (served_cluster.part m) (c.part m) k
  base_session m k = elim (cases_eq m (place_of n)) [
    | inl same ↦ (
        let P : ℕ → Type 0 = λ z. Same (served_cluster.part z) (c.part z) k in
        let there = served_session w.setting (place_of n) (c.part (place_of n)) letter aim k ask held.has in
        subst P (sym same) (record { session = ap (λ z. z.session k) base_here ∙ there.session; reserved = ap (λ z. z.reserved k) base_here ∙ there.reserved }))
    | inr ne ↦ (record { session = ap (λ z. z.session k) (base_away m ne); reserved = ap (λ z. z.reserved k) (base_away m ne) })
  ]

  served_on : GoesOnAt w n u served_fleet
  served_on = does_on w n (Comes letter aim) u known.sound acting.0 (record { unknown = λ file beyond. served_other w.setting (place_of n) (u.part n) letter aim file ask it.has (other file beyond) })
    where
      other : (file : File) → (plan_of w u n).volumes ≤ file.volume → is_file letter.file file ≡ false
      other file beyond =
          let low = it.within in
          rw (ne_eqb letter.file.volume file.volume (λ same. absurd (omega (arith, low, beyond, same)))) refl

  served_goes : GoesSame w n u served_fleet
  served_goes x old home going = (going_same w u served_fleet x.letter (mine_session (w.setting.home x.letter.session) x.letter.session).session going, refl)

  served_posts : PostsSound w u served_fleet
  served_posts = new_posts w n (Comes letter aim) u each
    where
      reply : OwnMessage
      reply = reply_to (copy_in (u.part n) letter.file) letter

      sent : (step_of w.setting (u.part n) (Comes letter aim)).new ≡ reply ∷ []
      sent = ap (λ (z : Step). z.new) (served_is w.setting aim (u.part n) letter ask it.has)

      IsSoundPost : OwnMessage → Type 0
      IsSoundPost l = let x : Posted = record { from = n; to = address w u n l; letter = l } in (to_server l.body ≡ true → IsAsk w served_fleet x) × (to_server l.body ≡ false → IsReply w served_fleet x)

      comes : to_server reply.body ≡ false
      comes = reply_comes (copy_in (u.part n) letter.file) letter.body

      goes_to : address w u n reply ≡ w.setting.home letter.session
      goes_to = rw comes refl

      -- the session's operation goes on as before
      went_on : IsGoing w served_fleet reply → IsGoing w u letter
      went_on going = going_same w u served_fleet letter (mine_session (w.setting.home letter.session) letter.session).session (record { busy = going.busy; op = going.op })

      its_reply : IsSoundPost reply
      its_reply = (
        (λ asks. absurd (true≢false (sym asks ∙ comes))),
        (λ is. record {
          begun = acting.0;
          place = may.place;
          has = ap (λ z. z.lacks letter.file) (does_here w n (Comes letter aim) u) ∙ lacks_after w.setting (place_of n) (u.part n) (Comes letter aim) letter.file ∙ it.has;
          to = goes_to;
          asked = λ going.
              known.sound.asks (record { from = from; to = n; letter = letter }) within ask may.home (went_on going)
              ∙ ap (λ z. node_at (w.plans (u.last_plan z)) letter.server) (sym may.home ∙ sym goes_to);
        }),
      )

      each : (l : OwnMessage) → Contains (step_of w.setting (u.part n) (Comes letter aim)).new l → IsSoundPost l
      each l inside = let P : List OwnMessage → Type 0 = λ z. Contains z l in only (subst P sent inside)
        where
          only : Contains (reply ∷ []) l → IsSoundPost l
          only (zero, low, is) = subst IsSoundPost is its_reply
          only (suc i, low, is) = absurd (omega (arith, low))

  served_follows : FollowsAt w n u served_fleet c served_cluster
  served_follows = record {
    still = acting.1;
    fetched = refl;
    written = does_written w u c n (Comes letter aim) known.agrees.written (sym served_step);
    others = λ k ne. base_session (w.setting.home k) k;
    own = λ k home.
        let old = own_same w u c n known.agrees acting.1 k home in
        let base = base_session n k in
        record { session = (mine_session n k).session ∙ old.session ∙ sym base.session; reserved = (mine_session n k).reserved ∙ old.reserved ∙ sym base.reserved };
    lacks = lacks;
    brought = brought;
    holds = holds;
    lost = λ file ready is. sym (mine file) ∙ is;
    offered = λ server file peer copy inside. act_offers w.setting c (Comes letter aim) server file peer copy inside;
    offers = act_offering w.setting c (Comes letter aim) known.agrees.offers;
  }
    where
      mine : (file : File) → (served_fleet.part n).lacks file ≡ (u.part n).lacks file
      mine file = ap (λ z. z.lacks file) (does_here w n (Comes letter aim) u) ∙ lacks_after w.setting (place_of n) (u.part n) (Comes letter aim) file

      lacks : (place : ℕ) (file : File) → (served_cluster.part place).lacks file ≡ (c.part place).lacks file
      lacks place file = elim (cases_eq place (place_of n)) [
        | inl same ↦ (ap (λ z. (served_cluster.part z).lacks file) same ∙ ap (λ z. z.lacks file) base_here ∙ lacks_after w.setting (place_of n) (c.part (place_of n)) (Comes letter aim) file ∙ ap (λ z. (c.part z).lacks file) (sym same))
        | inr ne ↦ (ap (λ z. z.lacks file) (base_away place ne))
      ]

      brought : (place : ℕ) (file : File) → ((served_cluster.part place).brought file ≡ (c.part place).brought file) ⊎ ((place_of n ≡ place) × HasIt w u n file)
      brought place file = by (cases_eq place (place_of n)) (cases_Bool (is_file letter.file file))
        where
          by : (place ≡ place_of n) ⊎ (place ≢ place_of n) → (is_file letter.file file ≡ true) ⊎ (is_file letter.file file ≡ false) → ((served_cluster.part place).brought file ≡ (c.part place).brought file) ⊎ ((place_of n ≡ place) × HasIt w u n file)
          by (inr ne) either = inl (ap (λ z. z.brought file) (base_away place ne))
          by (inl same) (inl this) = inr (sym same, let P : File → Type 0 = λ z. HasIt w u n z in subst P (file_is letter.file file this) it)
          by (inl same) (inr other) = inl (
              ap (λ z. (served_cluster.part z).brought file) same ∙ ap (λ z. z.brought file) base_here
              ∙ served_other w.setting (place_of n) (c.part (place_of n)) letter aim file ask held.has other
              ∙ ap (λ z. (c.part z).brought file) (sym same))

      holds : (file : File) → HasIt w served_fleet n file → Holds (served_fleet.part n) (served_cluster.part (place_of n)) file
      holds file had =
          let has : (u.part n).lacks file ≡ false = sym (mine file) ∙ had.has in
          let old : Holds (u.part n) (c.part (place_of n)) file = known.agrees.holds n file acting.1 (record { begun = had.begun; within = had.within; has = has }) in
          record {
            has = lacks (place_of n) file ∙ old.has;
            brought =
                ap (λ z. z.brought file) base_here
                ∙ sym (served_same w.setting (place_of n) (place_of n) (u.part n) (c.part (place_of n)) letter aim file ask it.has held.has refl (has ∙ sym old.has) (sym old.brought))
                ∙ ap (λ z. z.brought file) (sym (does_here w n (Comes letter aim) u));
          }

  served_moves : Moved w c served_fleet (Acts (Comes letter aim) ∷ []) × (step_of w.setting (u.part n) (Comes letter aim) ≡ step_in w.setting c (Comes letter aim))
  served_moves = (
    record {
      can = (was_written w u c (record { from = from; to = n; letter = letter }) known.agrees.written within, tt);
      sound = sound_on w n u served_fleet known.sound served_on served_goes served_posts;
      agrees = agrees_on w n u served_fleet c served_cluster known.chain known.sound known.agrees served_on served_follows;
    },
    served_step,
  )

-- ---- a line or a letter

pub does_moves : (w : World) (u : Fleet) (c : Cluster) (n : ℕ) (act : Act) → Known w u c → IsActing u n → MayDo w u n act →
    Moved w c (does w n act u) (Acts act ∷ []) × (step_of w.setting (u.part n) act ≡ step_in w.setting c act)
does_moves w u c n (Asks line aim) known acting may = own_moves w u c n (Asks line aim) known acting (asked_own w u c n line aim known acting.1 may.0 may.1)
does_moves w u c n (Comes letter aim) known acting (from, within, may) = by (to_server letter.body) refl
  where
    Then : Type 0
    Then = Moved w c (does w n (Comes letter aim) u) (Acts (Comes letter aim) ∷ []) × (step_of w.setting (u.part n) (Comes letter aim) ≡ step_in w.setting c (Comes letter aim))

    by : (b : Bool) → to_server letter.body ≡ b → Then
    by true ask = served_moves w u c from n letter aim known acting ask within (rw ask at may)
    by false reply = own_moves w u c n (Comes letter aim) known acting (heard_own w u c from n letter aim known acting.1 reply within (rw reply at may))
