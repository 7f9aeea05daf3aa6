-- Answers that tell as many losses, along all that happens.
use Rattle.std.proofs.Common.{◌≡◌, ◌≢◌, ◌⊎◌, ◌∙◌, ℕ, zero, suc, ◌+◌, ◌*◌, ◌<◌, ◌≤◌, Bool, true, false, List, [], ◌∷◌, ◌++◌, length, map, refl, sym, ap, subst, arith, inl, inr, append_assoc, append-nil, length-append}
use Rattle.std.specs.Prelude.{◌==◌, ◌&&◌, ◌||◌, not, fold, filter, if◌then◌else◌}
use Rattle.std.specs.List.{list_any, list_all, range_with_len}
use Rattle.std.proofs.lemmas.Bool.{cases_eq, cases_lt, cases_Bool, ne_eqb, and_parts, true≢false}
use Rattle.std.proofs.lemmas.Nat.{mul-le}
use Rattle.std.proofs.lemmas.List.Sums.{fold-append}
use Rattle.gq_grid.specs.Grid.{Grid}
use Rattle.gq_tag.specs.Tag.{File}
use Rattle.gq_desk.specs.declared.plans.TenantRow.{TenantRow}
use Rattle.gq_desk.specs.declared.volumes.VolumeRow.{VolumeRow}
use Rattle.gq_cluster.specs.Cluster.{Setting, Cluster, NodeStep, Loses, Restarts, new_cluster, after_step, cluster_after, CanFollow, is_within}
use Rattle.gq_cluster.specs.Laws.{StepsEnough, setting_of}
use Rattle.gq_replace.specs.Plans.{Plan, IsChain, place_of, generation, node_at, is_replaced}
use Rattle.gq_replace.specs.Fleet.{World, Fleet, FleetStep, Begins, StartsAgain, Does, Answers, Hears, Gives, Takes, new_fleet, plan_of, heard_all, with_heard, with_ready, is_ready_by, ends_of_gone, after_fleet_step, fleet_after, MayHappen, AllMayHappen, node_steps, all_node_steps}
use Rattle.gq_replace.specs.Laws.{world_of, HomesStand}
use Rattle.gq_replace.proofs.Agreeing.{Agrees, Known, Moved, new_agrees}
use Rattle.gq_replace.proofs.Following.{moves}
use Rattle.gq_replace.proofs.Reached.{bounded, can_append}
use Rattle.gq_replace.proofs.Sound.{Sound, IsBegun, HasIt, has_it, new_sound}
use Rattle.gq_looks.specs.Losses.{loses_it, AllAnswersKept}
use Rattle.gq_looks.proofs.Growing.{Grows, step_grows, steps_grow}
use Rattle.gq_looks.proofs.Losing.{Told, Readies, Tells, loses_none}

-- ---- lists

none_in_both : {X : Type 0} (p : X → Bool) (xs ys : List X) → list_any p xs ≡ false → list_any p ys ≡ false → list_any p (xs ++ ys) ≡ false
none_in_both p [] ys none also = also
none_in_both p (x ∷ xs) ys none also = elim (cases_Bool (p x)) [
  | inl is ↦ (absurd (true≢false (rw is at none)))
  | inr other ↦ (rw other (none_in_both p xs ys (rw other at none) also))
]

all_in_range : (p : ℕ → Bool) (a n q : ℕ) → list_all p (range_with_len a n) ≡ true → a ≤ q → q < a + n → p q ≡ true
all_in_range p a zero q all low high = absurd (omega (arith, low, high))
all_in_range p a (suc n) q all low high =
    let parts = and_parts (p a) (list_all p (range_with_len (a + 1) n)) all in
    elim (cases_eq q a) [
      | inl same ↦ (subst (λ k. p k ≡ true) (sym same) parts.0)
      | inr other ↦ (all_in_range p (a + 1) n q parts.1 (omega (arith, low, other)) (omega (arith, high)))
    ]

-- ---- what is known along the way

module _ (grid : Grid) (row : TenantRow) (home : ℕ → ℕ) (opens : List VolumeRow) (plans : ℕ → Plan) (chain : IsChain plans) (stand : HomesStand grid home) where
  abbrev w : World
  w = world_of grid row home opens plans

  abbrev s : Setting
  s = setting_of grid row home opens

  record At (u : Fleet) (before : List NodeStep) : Type 0 where
    can : CanFollow s new_cluster before
    sound : Sound w u
    agrees : Agrees w u (cluster_after s before)

  abbrev Enough : ℕ → Type 0
  Enough most = length opens + most * (row.sessions + 1) ≤ row.steps

  fewer : (steps : List NodeStep) (most : ℕ) → Enough most → length steps ≤ most → StepsEnough row opens steps
  fewer steps most enough few = let less = mul-le (length steps) (row.sessions + 1) most (row.sessions + 1) few (omega arith) in omega (arith, enough, less)

  next : (u : Fleet) (before : List NodeStep) (step : FleetStep) (most : ℕ) → At u before → Enough most → length before ≤ most → MayHappen w u step → At (after_fleet_step w u step) (before ++ node_steps w u step)
  next u before step most at enough few may =
      let now : List NodeStep = node_steps w u step in
      let v : Fleet = after_fleet_step w u step in
      let known : Known w u (cluster_after s before) = record { chain = chain; sound = at.sound; agrees = at.agrees; bounded = bounded grid row home opens before (fewer before most enough few) at.can; reached = record { steps = before; is = refl } } in
      let moved : Moved w (cluster_after s before) v now = (moves w u (cluster_after s before) step known stand may).0 in
      record {
        can = can_append s new_cluster before now at.can moved.can;
        sound = moved.sound;
        agrees = subst (λ (z : Cluster). Agrees w v z) (sym (fold-append (after_step s) new_cluster before now)) moved.agrees;
      }

  goes_to : (steps : List FleetStep) (u : Fleet) (before : List NodeStep) (most : ℕ) → At u before → Enough most → length before + length (all_node_steps w u steps) ≤ most → AllMayHappen w u steps →
      At (fold (after_fleet_step w) u steps) (before ++ all_node_steps w u steps)
  goes_to [] u before most at enough few may = subst (At u) (sym (append-nil before)) at
  goes_to (step ∷ steps) u before most at enough few may =
      let now : List NodeStep = node_steps w u step in
      let v : Fleet = after_fleet_step w u step in
      let sizes : length (now ++ all_node_steps w v steps) ≡ length now + length (all_node_steps w v steps) = length-append now (all_node_steps w v steps) in
      let size_before : length (before ++ now) ≡ length before + length now = length-append before now in
      subst (At (fold (after_fleet_step w) v steps)) (append_assoc before now (all_node_steps w v steps))
      (goes_to steps v (before ++ now) most (next u before step most at enough (omega (arith, few)) may.0) enough (omega (arith, few, sizes, size_before)) may.1)

  module _ (node other k : ℕ) (file : File) where
    told_on : (x y : Fleet) → Grows x y → Told w x node k file → Told w y node k file
    told_on x y grows told = record { begun = grows.begun node told.begun; has = told.has; ready = by told.ready }
      where
        by : (x.ready node ≡ true) ⊎ (0 < generation node → (plans (x.first_plan node)).volumes ≤ file.volume) → (y.ready node ≡ true) ⊎ (0 < generation node → (plans (y.first_plan node)).volumes ≤ file.volume)
        by (inl ready) = inl (grows.ready node ready)
        by (inr beyond) = inr (λ is_new. subst (λ p. (plans p).volumes ≤ file.volume) (sym (grows.first node told.begun)) (beyond is_new))

    restarts_lose_none : (nodes : List ℕ) → list_any (loses_it (place_of node) file) (map Restarts nodes) ≡ false
    restarts_lose_none [] = refl
    restarts_lose_none (n ∷ nodes) = restarts_lose_none nodes

    -- by one step
    step_loses_none : (x v : Fleet) (step : FleetStep) → Sound w x → Sound w (after_fleet_step w x step) → MayHappen w x step → Grows (after_fleet_step w x step) v → Told w x node k file → Tells w v other k →
        list_any (loses_it (place_of node) file) (node_steps w x step) ≡ false
    step_loses_none x v (Begins n plan) sound after may grows told tells = refl
    step_loses_none x v (StartsAgain n plan) sound after may grows told tells = refl
    step_loses_none x v (Does n act) sound after may grows told tells = refl
    step_loses_none x v (Answers n new) sound after may grows told tells = refl
    step_loses_none x v (Gives peer n f) sound after may grows told tells = refl
    step_loses_none x v (Takes n peer f copy) sound after may grows told tells = refl
    step_loses_none x v (Hears new heard_one) sound after may grows told tells = by (is_ready_by w new heard_one x) refl after grows
      where
        heard : Fleet
        heard = with_heard new heard_one x

        by : (b : Bool) → is_ready_by w new heard_one x ≡ b → Sound w (if b then with_ready w new heard else heard) → Grows (if b then with_ready w new heard else heard) v →
            list_any (loses_it (place_of node) file) (if b then ends_of_gone w (plan_of w x new) ++ Loses (place_of new) (w.plans (x.first_plan new)).volumes ∷ [] else []) ≡ false
        by false is after grows = refl
        by true is after grows =
            let parts = and_parts (not (x.ready new)) (heard_all w heard new) is in
            let readies : Readies w x (with_ready w new heard) v new = record {
              sound = sound;
              after = after;
              acting = may.0;
              is_new = may.1;
              unready = unready (x.ready new) parts.0;
              all_heard = λ place within apart. one_heard place apart (all_in_range (λ place. (place == place_of new) || heard.heard new (node_at (plan_of w heard new) place)) 0 (grid.rows * grid.cols) place parts.1 (omega arith) (omega (arith, within)));
              gone_then = λ q is. rw is refl;
              grows = grows;
            } in
            none_in_both (loses_it (place_of node) file) (ends_of_gone w (plan_of w x new)) (Loses (place_of new) (w.plans (x.first_plan new)).volumes ∷ []) (restarts_lose_none (filter (is_replaced (plan_of w x new)) (map w.setting.home (range_with_len 1 w.setting.row.sessions))))
            (last ((place_of new == place_of node) && is_within (w.plans (x.first_plan new)).volumes file) (loses_none w x (with_ready w new heard) v chain node new other k file told readies tells))
          where
            unready : (b : Bool) → not b ≡ true → b ≡ false
            unready true e = sym e
            unready false e = refl

            one_heard : (place : ℕ) → place ≢ place_of new → ((place == place_of new) || heard.heard new (node_at (plan_of w heard new) place)) ≡ true → heard.heard new (node_at (plan_of w x new) place) ≡ true
            one_heard place apart both = rw (ne_eqb place (place_of new) apart) at both

            last : (b : Bool) → b ≡ false → (b || false) ≡ false
            last b none = rw none refl

    -- by all of them
    along : (steps : List FleetStep) (x : Fleet) (before : List NodeStep) (most : ℕ) → At x before → Enough most → length before + length (all_node_steps w x steps) ≤ most → AllMayHappen w x steps → Told w x node k file →
        Tells w (fold (after_fleet_step w) x steps) other k → list_any (loses_it (place_of node) file) (all_node_steps w x steps) ≡ false
    along [] x before most at enough few may told tells = refl
    along (step ∷ steps) x before most at enough few may told tells =
        let now : List NodeStep = node_steps w x step in
        let y : Fleet = after_fleet_step w x step in
        let sizes : length (now ++ all_node_steps w y steps) ≡ length now + length (all_node_steps w y steps) = length-append now (all_node_steps w y steps) in
        let size_before : length (before ++ now) ≡ length before + length now = length-append before now in
        let later : At y (before ++ now) = next x before step most at enough (omega (arith, few)) may.0 in
        none_in_both (loses_it (place_of node) file) now (all_node_steps w y steps)
        (step_loses_none x (fold (after_fleet_step w) y steps) step at.sound later.sound may.0 (steps_grow w steps y may.1) told tells)
        (along steps y (before ++ now) most later enough (omega (arith, few, sizes, size_before)) may.1 (told_on x y (step_grows w x step may.0) told) tells)

-- ---- cut in two

may_split : (w : World) (u : Fleet) (first between : List FleetStep) → AllMayHappen w u (first ++ between) → AllMayHappen w u first × AllMayHappen w (fold (after_fleet_step w) u first) between
may_split w u [] between may = (tt, may)
may_split w u (step ∷ first) between may = let rest = may_split w (after_fleet_step w u step) first between may.1 in ((may.0, rest.0), rest.1)

steps_split : (w : World) (u : Fleet) (first between : List FleetStep) → all_node_steps w u (first ++ between) ≡ all_node_steps w u first ++ all_node_steps w (fold (after_fleet_step w) u first) between
steps_split w u [] between = refl
steps_split w u (step ∷ first) between =
    ap (λ (steps : List NodeStep). node_steps w u step ++ steps) (steps_split w (after_fleet_step w u step) first between)
    ∙ sym (append_assoc (node_steps w u step) (all_node_steps w (after_fleet_step w u step) first) (all_node_steps w (fold (after_fleet_step w) (after_fleet_step w u step) first) between))

pub answers_kept : AllAnswersKept
answers_kept grid row home opens plans first between node other file stand chain enough may tells also same =
    along grid row home opens plans chain stand node other (u.last_plan node) file between u (all_node_steps w new_fleet first) (length (all_node_steps w new_fleet (first ++ between))) at enough (omega (arith, sizes)) parts.1 told
    (subst (λ z. Tells w z other (u.last_plan node)) ends (record { sound = subst (Sound w) (sym ends) later.sound; acting = also.acts; place = also.place; losses = same }))
  where
    w : World
    w = world_of grid row home opens plans

    u : Fleet
    u = fleet_after w first

    parts : AllMayHappen w new_fleet first × AllMayHappen w u between
    parts = may_split w new_fleet first between may

    sizes : length (all_node_steps w new_fleet (first ++ between)) ≡ length (all_node_steps w new_fleet first) + length (all_node_steps w u between)
    sizes = ap length (steps_split w new_fleet first between) ∙ length-append (all_node_steps w new_fleet first) (all_node_steps w u between)

    ends : fleet_after w (first ++ between) ≡ fold (after_fleet_step w) u between
    ends = fold-append (after_fleet_step w) new_fleet first between

    at : At grid row home opens plans chain stand u (all_node_steps w new_fleet first)
    at = goes_to grid row home opens plans chain stand first new_fleet [] (length (all_node_steps w new_fleet (first ++ between))) (record { can = tt; sound = new_sound w; agrees = new_agrees w }) enough (omega (arith, sizes)) parts.0

    later : At grid row home opens plans chain stand (fold (after_fleet_step w) u between) (all_node_steps w new_fleet first ++ all_node_steps w u between)
    later = goes_to grid row home opens plans chain stand between u (all_node_steps w new_fleet first) (length (all_node_steps w new_fleet (first ++ between))) at enough (omega (arith, sizes)) parts.1

    it : HasIt w u node file
    it = has_it w u node file tells.has

    begun : IsBegun w u node
    begun = at.sound.begun node tells.acts.0

    told : Told w u node (u.last_plan node) file
    told = record { begun = tells.acts.0; has = begun.now; ready = by (cases_Bool (u.ready node)) }
      where
        by : (u.ready node ≡ true) ⊎ (u.ready node ≡ false) → (u.ready node ≡ true) ⊎ (0 < generation node → (w.plans (u.first_plan node)).volumes ≤ file.volume)
        by (inl ready) = inl ready
        by (inr unready) = inr (λ is_new. elim (cases_lt file.volume (w.plans (u.first_plan node)).volumes) [
          | inl within ↦ (absurd (true≢false (sym (begun.having file is_new within it.has) ∙ unready)))
          | inr beyond ↦ beyond
        ])
