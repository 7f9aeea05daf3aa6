-- The sessions of a new node begin at its first number, and never fall behind it.
use Rattle.std.proofs.Common.{◌≡◌, ◌≢◌, ◌⊎◌, ℕ, ◌≤◌, Bool, true, false, List, [], ◌∷◌, refl, sym, ap, ◌∙◌, subst, inl, inr, arith}
use Rattle.std.specs.Prelude.{◌==◌, ◌&&◌, fold, if◌then◌else◌}
use Rattle.std.proofs.lemmas.Bool.{cases_eq, cases_Bool, eq-eqb, ne_eqb, true≢false}
use Rattle.gq_desk.specs.Plans.{is_in}
use Rattle.gq_cluster.specs.Cluster.{Part, part_after, given_part}
use Rattle.gq_cluster.specs.Restarts.{begun_anew}
use Rattle.gq_replace.specs.Plans.{place_of}
use Rattle.gq_replace.specs.Fleet.{World, Fleet, FleetStep, Begins, StartsAgain, Does, Answers, Hears, Gives, Takes, new_fleet, first_number, first_part, part_again, is_ready_by, after_fleet_step, fleet_after, MayHappen, AllMayHappen}
use Rattle.gq_replace.proofs.Moving.{does_here}
use Rattle.gq_numbers.proofs.Floors.{act_floor, act_reserved}

-- the session's own last number is not below this, nor is what is reserved for it
pub record AtLeast (part : Part) (k bound : ℕ) : Type 0 where
  pub floor : bound ≤ (part.session k).floor
  pub reserved : bound ≤ (part.reserved k).floor

module _ (w : World) (n k : ℕ) (here : w.setting.home k ≡ n) (inside : is_in 1 w.setting.row.sessions k ≡ true) where
  first_at_least : (plan : ℕ) → AtLeast (first_part w n plan) k (first_number w n plan)
  first_at_least plan = record { floor = omega (arith, is); reserved = omega (arith, is) }
    where
      is : (if (w.setting.home k == n) && is_in 1 w.setting.row.sessions k then first_number w n plan else 0) ≡ first_number w n plan
      is = rw (eq-eqb (w.setting.home k) n here, inside) refl

  again_at_least : (part : Part) (bound : ℕ) → AtLeast part k bound → AtLeast (part_again w n part) k bound
  again_at_least part bound is = record { floor = by ((w.setting.home k == n) && is_in 1 w.setting.row.sessions k); reserved = is.reserved }
    where
      by : (b : Bool) → bound ≤ (if b then begun_anew (part.reserved k) (part.session k) else part.session k).floor
      by true = is.reserved
      by false = is.floor

  -- what a step leaves of the node, where it was started
  on : (u : Fleet) (step : FleetStep) (bound : ℕ) → u.begun n ≡ true → MayHappen w u step → AtLeast (u.part n) k bound →
      ((after_fleet_step w u step).first_plan n ≡ u.first_plan n) × AtLeast ((after_fleet_step w u step).part n) k bound
  on u (Begins node plan) bound begun may is = by (cases_eq n node)
    where
      by : (n ≡ node) ⊎ (n ≢ node) → ((after_fleet_step w u (Begins node plan)).first_plan n ≡ u.first_plan n) × AtLeast ((after_fleet_step w u (Begins node plan)).part n) k bound
      by (inl same) = absurd (true≢false (sym begun ∙ ap u.begun same ∙ may.0))
      by (inr ne) = ((rw (ne_eqb n node ne) refl), (rw (ne_eqb n node ne) is))
  on u (StartsAgain node plan) bound begun may is = by (cases_eq n node)
    where
      by : (n ≡ node) ⊎ (n ≢ node) → ((after_fleet_step w u (StartsAgain node plan)).first_plan n ≡ u.first_plan n) × AtLeast ((after_fleet_step w u (StartsAgain node plan)).part n) k bound
      by (inl same) =
          let P : ℕ → Type 0 = λ z. AtLeast ((after_fleet_step w u (StartsAgain z plan)).part n) k bound in
          (refl, subst P same (rw (eq-eqb n n refl) (again_at_least (u.part n) bound is)))
      by (inr ne) = (refl, (rw (ne_eqb n node ne) is))
  on u (Does node act) bound begun may is = by (cases_eq n node)
    where
      by : (n ≡ node) ⊎ (n ≢ node) → ((after_fleet_step w u (Does node act)).first_plan n ≡ u.first_plan n) × AtLeast ((after_fleet_step w u (Does node act)).part n) k bound
      by (inl same) =
          let P : ℕ → Type 0 = λ z. AtLeast ((after_fleet_step w u (Does z act)).part n) k bound in
          let floor = act_floor w.setting (place_of n) (u.part n) act k in
          let reserved = act_reserved w.setting (place_of n) (u.part n) act k in
          let low = is.floor in
          let low_reserved = is.reserved in
          let after : AtLeast (part_after w.setting (place_of n) (u.part n) act) k bound = record { floor = omega (arith, floor, low); reserved = omega (arith, reserved, low_reserved) } in
          (refl, subst P same (subst (λ (p : Part). AtLeast p k bound) (sym (does_here w n act u)) after))
      by (inr ne) = (refl, (rw (ne_eqb n node ne) is))
  on u (Answers node new) bound begun may is = (refl, is)
  on u (Hears node other) bound begun may is = by (is_ready_by w node other u) refl
    where
      by : (b : Bool) → is_ready_by w node other u ≡ b → ((after_fleet_step w u (Hears node other)).first_plan n ≡ u.first_plan n) × AtLeast ((after_fleet_step w u (Hears node other)).part n) k bound
      by true e = ((rw e refl), (rw e is))
      by false e = ((rw e refl), (rw e is))
  on u (Gives peer node file) bound begun may is = (refl, is)
  on u (Takes node peer file copy) bound begun may is = by (cases_eq n node)
    where
      given : AtLeast (given_part file copy (u.part n)) k bound
      given = record { floor = is.floor; reserved = is.reserved }

      by : (n ≡ node) ⊎ (n ≢ node) → ((after_fleet_step w u (Takes node peer file copy)).first_plan n ≡ u.first_plan n) × AtLeast ((after_fleet_step w u (Takes node peer file copy)).part n) k bound
      by (inl same) =
          let P : ℕ → Type 0 = λ z. AtLeast ((after_fleet_step w u (Takes z peer file copy)).part n) k bound in
          (refl, subst P same (rw (eq-eqb n n refl) given))
      by (inr ne) = (refl, (rw (ne_eqb n node ne) is))

  -- a node that is started by the step has what its first plan says
  abbrev Has : Fleet → Type 0
  Has u = u.begun n ≡ true → AtLeast (u.part n) k (first_number w n (u.first_plan n))

  starts : (u : Fleet) (step : FleetStep) → u.begun n ≡ false → MayHappen w u step → Has (after_fleet_step w u step)
  starts u (Begins node plan) none may begun = by (cases_eq n node)
    where
      by : (n ≡ node) ⊎ (n ≢ node) → AtLeast ((after_fleet_step w u (Begins node plan)).part n) k (first_number w n ((after_fleet_step w u (Begins node plan)).first_plan n))
      by (inl same) =
          let P : ℕ → Type 0 = λ z. AtLeast ((after_fleet_step w u (Begins z plan)).part n) k (first_number w n ((after_fleet_step w u (Begins z plan)).first_plan n)) in
          subst P same (rw (eq-eqb n n refl) (first_at_least plan))
      by (inr ne) = let still : u.begun n ≡ true = rw (ne_eqb n node ne) at begun in absurd (true≢false (sym still ∙ none))
  starts u (StartsAgain node plan) none may begun = by (cases_eq n node)
    where
      by : (n ≡ node) ⊎ (n ≢ node) → AtLeast ((after_fleet_step w u (StartsAgain node plan)).part n) k (first_number w n ((after_fleet_step w u (StartsAgain node plan)).first_plan n))
      by (inl same) = absurd (true≢false (sym may.0.0 ∙ ap u.begun (sym same) ∙ none))
      by (inr ne) = let still : u.begun n ≡ true = rw (ne_eqb n node ne) at begun in absurd (true≢false (sym still ∙ none))
  starts u (Does node act) none may begun = absurd (true≢false (sym begun ∙ none))
  starts u (Answers node new) none may begun = absurd (true≢false (sym begun ∙ none))
  starts u (Hears node other) none may begun = by (is_ready_by w node other u) refl
    where
      by : (b : Bool) → is_ready_by w node other u ≡ b → AtLeast ((after_fleet_step w u (Hears node other)).part n) k (first_number w n ((after_fleet_step w u (Hears node other)).first_plan n))
      by true e = let still : u.begun n ≡ true = rw e at begun in absurd (true≢false (sym still ∙ none))
      by false e = let still : u.begun n ≡ true = rw e at begun in absurd (true≢false (sym still ∙ none))
  starts u (Gives peer node file) none may begun = absurd (true≢false (sym begun ∙ none))
  starts u (Takes node peer file copy) none may begun = absurd (true≢false (sym begun ∙ none))

  has_on : (u : Fleet) (step : FleetStep) → MayHappen w u step → Has u → Has (after_fleet_step w u step)
  has_on u step may has = by (cases_Bool (u.begun n))
    where
      v : Fleet
      v = after_fleet_step w u step

      by : (u.begun n ≡ true) ⊎ (u.begun n ≡ false) → Has v
      by (inl begun) = λ now.
          let both = on u step (first_number w n (u.first_plan n)) begun may (has begun) in
          subst (λ p. AtLeast (v.part n) k (first_number w n p)) (sym both.0) both.1
      by (inr none) = starts u step none may

  pub has_along : (steps : List FleetStep) (u : Fleet) → AllMayHappen w u steps → Has u → Has (fold (after_fleet_step w) u steps)
  has_along [] u may has = has
  has_along (step ∷ steps) u may has = has_along steps (after_fleet_step w u step) may.1 (has_on u step may.0 has)

  -- from the first fleet on
  pub stays_ahead : (steps : List FleetStep) → AllMayHappen w new_fleet steps → Has (fleet_after w steps)
  stays_ahead steps may = has_along steps new_fleet may (λ begun. absurd (true≢false (sym begun)))
