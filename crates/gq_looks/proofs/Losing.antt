-- Where nodes tell as many losses, none of their places is lost between.
use Rattle.std.proofs.Common.{◌≡◌, ◌≢◌, ◌⊎◌, ◌∙◌, ℕ, ◌+◌, ◌*◌, ◌<◌, ◌≤◌, true, false, List, [], ◌∷◌, ◌++◌, length, refl, sym, ap, subst, arith, inl, inr, append-nil, length-append}
use Rattle.std.specs.Prelude.{◌==◌, ◌&&◌}
use Rattle.std.proofs.lemmas.Bool.{cases_eq, cases_lt, eqb-true, eq-eqb, ne_eqb, lt-ltb, le-ltb, true≢false}
use Rattle.gq_tag.specs.Tag.{File}
use Rattle.gq_cluster.specs.Cluster.{is_within}
use Rattle.gq_replace.specs.Plans.{Plan, GoesOn, IsChain, times, place_of, generation, node_at, has_node, is_replaced}
use Rattle.gq_replace.specs.Fleet.{World, Fleet, IsActing, plan_of}
use Rattle.gq_replace.proofs.Chains.{place_below, same_node, place_at, generation_at, times_grow, newer_later}
use Rattle.gq_replace.proofs.Sound.{Sound, IsBegun, Knows}
use Rattle.gq_looks.proofs.Growing.{Grows}

-- ---- plans

-- plans of equally many losses tell the same
same_lost : (plans : ℕ → Plan) → IsChain plans → (i j : ℕ) → length (plans i).lost ≡ length (plans j).lost → (plans i).lost ≡ (plans j).lost
same_lost plans chain i j same = elim (cases_lt i j) [
  | inl before ↦ (none_more (plans i) (plans j) (chain i j (omega (arith, before))) same)
  | inr behind ↦ (sym (none_more (plans j) (plans i) (chain j i behind) (sym same)))
]
  where
    empty : (xs : List ℕ) → length xs ≡ 0 → xs ≡ []
    empty [] e = refl
    empty (x ∷ xs) e = absurd (omega (arith, e))

    none_more : (old new : Plan) → GoesOn old new → length old.lost ≡ length new.lost → old.lost ≡ new.lost
    none_more old new on same =
        let long : length new.lost ≡ length old.lost + length on.more = ap length on.lost ∙ length-append old.lost on.more in
        let none : on.more ≡ [] = empty on.more (omega (arith, long, same)) in
        sym (on.lost ∙ ap (λ more. old.lost ++ more) none ∙ append-nil old.lost)

-- a plan goes on from another if it tells of more losses at some place
later_plan : (plans : ℕ → Plan) → IsChain plans → (i j place : ℕ) → times (plans i) place < times (plans j) place → i ≤ j
later_plan plans chain i j place more = elim (cases_lt j i) [
  | inl before ↦ (let grown = times_grow (plans j) (plans i) place (chain j i (omega (arith, before))) in absurd (omega (arith, grown, more)))
  | inr behind ↦ behind
]

-- ---- one new node is ready

-- what is known of the node that told: when it did its plan was the k-th, and it had the file
pub record Told (w : World) (x : Fleet) (node k : ℕ) (file : File) : Type 0 where
  pub begun : x.begun node ≡ true
  pub has : has_node (w.plans k) node ≡ true
  pub ready : (x.ready node ≡ true) ⊎ (0 < generation node → (w.plans (x.first_plan node)).volumes ≤ file.volume)

-- the new node is ready by the step from x to y, and v comes after it
pub record Readies (w : World) (x y v : Fleet) (new : ℕ) : Type 0 where
  pub sound : Sound w x
  pub after : Sound w y
  pub acting : IsActing x new
  pub is_new : 0 < generation new
  pub unready : x.ready new ≡ false
  pub all_heard : (place : ℕ) → place < w.setting.grid.rows * w.setting.grid.cols → place ≢ place_of new → y.heard new (node_at (plan_of w x new) place) ≡ true
  pub gone_then : (q : ℕ) → is_replaced (plan_of w x new) q ≡ true → y.gone q ≡ true
  pub grows : Grows y v

-- the other one tells in the end as many losses as the k-th plan
pub record Tells (w : World) (v : Fleet) (m k : ℕ) : Type 0 where
  pub sound : Sound w v
  pub acting : IsActing v m
  pub place : place_of m < w.setting.grid.rows * w.setting.grid.cols
  pub losses : length (w.plans k).lost ≡ length (plan_of w v m).lost

module _ (w : World) (x y v : Fleet) (chain : IsChain w.plans) (node new m k : ℕ) (file : File) (told : Told w x node k file) (r : Readies w x y v new) where
  -- where the new one stands at the place, and is the newer one, the other one is gone or has a plan of more losses
  none_newer_ready : Tells w v m k → place_of node ≡ place_of new → generation node < generation new → ⊥
  none_newer_ready t place less = elim (cases_lt (generation m) (times (w.plans i) q)) [
    | inl older ↦ (true≢false (sym (r.grows.gone m (r.gone_then m (lt-ltb (generation m) (times (w.plans i) q) older))) ∙ t.acting.1))
    | inr least ↦ (elim (cases_lt (times (w.plans i) q) (generation m)) [
      | inl newer ↦ (too_many (later_plan w.plans chain i j q (subst (λ g. times (w.plans i) q < g) m_is newer)))
      | inr most ↦ (same_generation (omega (arith, least, most)))
    ])
  ]
    where
      i : ℕ
      i = x.last_plan new

      j : ℕ
      j = v.last_plan m

      q : ℕ
      q = place_of m

      begun_m : IsBegun w v m
      begun_m = t.sound.begun m t.acting.0

      m_is : generation m ≡ times (w.plans j) q
      m_is = eqb-true (generation m) (times (w.plans j) q) begun_m.now

      begun_new : IsBegun w x new
      begun_new = r.sound.begun new r.acting.0

      new_is : generation new ≡ times (w.plans i) (place_of new)
      new_is = eqb-true (generation new) (times (w.plans i) (place_of new)) begun_new.now

      node_is : generation node ≡ times (w.plans k) (place_of node)
      node_is = eqb-true (generation node) (times (w.plans k) (place_of node)) told.has

      -- by the plan of the other one no more nodes stood at the place than by the first one's
      as_many : times (w.plans j) (place_of new) ≡ generation node
      as_many = ap (λ (lost : List ℕ). times (record { lost = lost; volumes = 0 }) (place_of new)) (sym (same_lost w.plans chain k j t.losses)) ∙ ap (times (w.plans k)) (sym place) ∙ sym node_is

      too_many : i ≤ j → ⊥
      too_many order =
          let grown : times (w.plans i) (place_of new) ≤ times (w.plans j) (place_of new) = times_grow (w.plans i) (w.plans j) (place_of new) (chain i j order) in
          omega (arith, grown, as_many, new_is, less)

      -- it is the node that the new one's plan has at its place, and the new one has heard it
      same_generation : generation m ≡ times (w.plans i) q → ⊥
      same_generation same = elim (cases_eq q (place_of new)) [
        | inl here ↦ (
            let itself : generation m ≡ generation new = same ∙ ap (times (w.plans i)) here ∙ sym new_is in
            let now : times (w.plans j) (place_of new) ≡ generation m = ap (times (w.plans j)) (sym here) ∙ sym m_is in
            omega (arith, itself, now, as_many, less))
        | inr other ↦ (
            let at : node_at (w.plans i) q ≡ m = same_node (node_at (w.plans i) q) m (place_at (w.plans i) q (place_below m)) (generation_at (w.plans i) q (place_below m) ∙ sym same) in
            let heard : y.heard new m ≡ true = subst (λ n. y.heard new n ≡ true) at (r.all_heard q t.place other) in
            let knows : Knows w y m new = r.after.heard new m heard in
            let order : knows.plan ≤ j = omega (arith, knows.before, r.grows.last m knows.begun) in
            let then_is : generation new ≡ times (w.plans knows.plan) (place_of new) = eqb-true (generation new) (times (w.plans knows.plan) (place_of new)) knows.has in
            let grown : times (w.plans knows.plan) (place_of new) ≤ times (w.plans j) (place_of new) = times_grow (w.plans knows.plan) (w.plans j) (place_of new) (chain knows.plan j order) in
            omega (arith, grown, then_is, as_many, less))
      ]

  -- an older one that is ready loses no file that the node has
  none_older_ready : place_of node ≡ place_of new → generation new < generation node → (w.plans (x.first_plan new)).volumes ≤ file.volume
  none_older_ready place less = by told.ready
    where
      by : (x.ready node ≡ true) ⊎ (0 < generation node → (w.plans (x.first_plan node)).volumes ≤ file.volume) → (w.plans (x.first_plan new)).volumes ≤ file.volume
      by (inl ready) = absurd (true≢false (sym (r.sound.older node new ready (sym place) less) ∙ r.acting.1))
      by (inr beyond) =
          let one : IsBegun w x new = r.sound.begun new r.acting.0 in
          let two : IsBegun w x node = r.sound.begun node told.begun in
          let order : x.first_plan new ≤ x.first_plan node = newer_later w.plans chain (x.first_plan new) (x.first_plan node) new node (sym place) one.first two.first less in
          let more = (chain (x.first_plan new) (x.first_plan node) order).volumes in
          omega (arith, more, beyond (omega (arith, less)))

  -- the node itself
  itself_ready : node ≡ new → (w.plans (x.first_plan new)).volumes ≤ file.volume
  itself_ready same = by told.ready
    where
      by : (x.ready node ≡ true) ⊎ (0 < generation node → (w.plans (x.first_plan node)).volumes ≤ file.volume) → (w.plans (x.first_plan new)).volumes ≤ file.volume
      by (inl ready) = absurd (true≢false (sym ready ∙ ap x.ready same ∙ r.unready))
      by (inr beyond) = subst (λ n. (w.plans (x.first_plan n)).volumes ≤ file.volume) same (beyond (subst (λ n. 0 < generation n) (sym same) r.is_new))

  -- so its step loses no such file at the place
  pub loses_none : Tells w v m k → ((place_of new == place_of node) && is_within (w.plans (x.first_plan new)).volumes file) ≡ false
  loses_none t = elim (cases_eq (place_of new) (place_of node)) [
    | inr other ↦ (rw (ne_eqb (place_of new) (place_of node) other) refl)
    | inl here ↦ (rw (eq-eqb (place_of new) (place_of node) here) (le-ltb file.volume (w.plans (x.first_plan new)).volumes (beyond here)))
  ]
    where
      beyond : place_of new ≡ place_of node → (w.plans (x.first_plan new)).volumes ≤ file.volume
      beyond here = elim (cases_lt (generation node) (generation new)) [
        | inl newer ↦ (absurd (none_newer_ready t (sym here) newer))
        | inr least ↦ (elim (cases_lt (generation new) (generation node)) [
          | inl older ↦ (none_older_ready (sym here) older)
          | inr most ↦ (itself_ready (same_node node new (sym here) (omega (arith, least, most))))
        ])
      ]
