-- What never goes back in a fleet: who has begun, who is ready or gone, and which plan a node has.
use Rattle.std.proofs.Common.{◌≡◌, ◌∙◌, ℕ, ◌≤◌, Bool, true, false, List, [], ◌∷◌, refl, sym, ap, subst, arith, inl, inr}
use Rattle.std.specs.Prelude.{◌==◌, ◌||◌, fold, if◌then◌else◌}
use Rattle.std.proofs.lemmas.Bool.{cases_eq, cases_Bool, eq-eqb, ne_eqb, true≢false}
use Rattle.gq_replace.specs.Plans.{is_replaced}
use Rattle.gq_replace.specs.Fleet.{World, Fleet, FleetStep, Begins, StartsAgain, Does, Answers, Hears, Gives, Takes, plan_of, with_heard, with_ready, is_ready_by, after_fleet_step, MayHappen, AllMayHappen}

-- the second fleet comes after the first one
pub record Grows (u v : Fleet) : Type 0 where
  pub gone : (q : ℕ) → u.gone q ≡ true → v.gone q ≡ true
  pub ready : (q : ℕ) → u.ready q ≡ true → v.ready q ≡ true
  pub begun : (q : ℕ) → u.begun q ≡ true → v.begun q ≡ true
  pub first : (q : ℕ) → u.begun q ≡ true → v.first_plan q ≡ u.first_plan q
  pub last : (q : ℕ) → u.begun q ≡ true → u.last_plan q ≤ v.last_plan q

stays : (u : Fleet) → Grows u u
stays u = record { gone = λ q is. is; ready = λ q is. is; begun = λ q is. is; first = λ q is. refl; last = λ q is. omega arith }

pub grows_on : (u v x : Fleet) → Grows u v → Grows v x → Grows u x
grows_on u v x one two = record {
  gone = λ q is. two.gone q (one.gone q is);
  ready = λ q is. two.ready q (one.ready q is);
  begun = λ q is. two.begun q (one.begun q is);
  first = λ q is. two.first q (one.begun q is) ∙ one.first q is;
  last = λ q is. omega (arith, one.last q is, two.last q (one.begun q is));
}

-- a node that was begun is another one than one that was not
other_node : (u : Fleet) (node q : ℕ) → u.begun node ≡ false → u.begun q ≡ true → (q == node) ≡ false
other_node u node q none is = ne_eqb q node (λ same. true≢false (sym is ∙ ap u.begun same ∙ none))

either : (b : Bool) → b ≡ true → (c : Bool) → (c || b) ≡ true
either true is true = refl
either true is false = refl
either false is c = absurd (true≢false (sym is))

pub step_grows : (w : World) (u : Fleet) (step : FleetStep) → MayHappen w u step → Grows u (after_fleet_step w u step)
step_grows w u (Begins node plan) may = record {
  gone = λ q is. is;
  ready = λ q is. is;
  begun = λ q is. rw (other_node u node q may.0 is) is;
  first = λ q is. rw (other_node u node q may.0 is) refl;
  last = λ q is. rw (other_node u node q may.0 is) (omega arith);
}
step_grows w u (StartsAgain node plan) may = record {
  gone = λ q is. is;
  ready = λ q is. is;
  begun = λ q is. elim (cases_Bool (q == node)) [
    | inl same ↦ (rw same refl)
    | inr other ↦ (rw other is)
  ];
  first = λ q is. refl;
  last = λ q is. elim (cases_eq q node) [
    | inl same ↦ (rw (eq-eqb q node same) (subst (λ n. u.last_plan n ≤ plan) (sym same) may.1))
    | inr other ↦ (rw (ne_eqb q node other) (omega arith))
  ];
}
step_grows w u (Does node act) may = record { gone = λ q is. is; ready = λ q is. is; begun = λ q is. is; first = λ q is. refl; last = λ q is. omega arith }
step_grows w u (Answers node new) may = record { gone = λ q is. is; ready = λ q is. is; begun = λ q is. is; first = λ q is. refl; last = λ q is. omega arith }
step_grows w u (Gives peer node file) may = record { gone = λ q is. is; ready = λ q is. is; begun = λ q is. is; first = λ q is. refl; last = λ q is. omega arith }
step_grows w u (Takes node peer file copy) may = record { gone = λ q is. is; ready = λ q is. is; begun = λ q is. is; first = λ q is. refl; last = λ q is. omega arith }
step_grows w u (Hears node other) may = by (is_ready_by w node other u)
  where
    by : (b : Bool) → Grows u (if b then with_ready w node (with_heard node other u) else with_heard node other u)
    by true = record {
      gone = λ q is. either (u.gone q) is (is_replaced (plan_of w u node) q);
      ready = λ q is. either (u.ready q) is (q == node);
      begun = λ q is. is;
      first = λ q is. refl;
      last = λ q is. omega arith;
    }
    by false = record { gone = λ q is. is; ready = λ q is. is; begun = λ q is. is; first = λ q is. refl; last = λ q is. omega arith }

pub steps_grow : (w : World) (steps : List FleetStep) (u : Fleet) → AllMayHappen w u steps → Grows u (fold (after_fleet_step w) u steps)
steps_grow w [] u may = stays u
steps_grow w (step ∷ steps) u may = grows_on u (after_fleet_step w u step) (fold (after_fleet_step w) (after_fleet_step w u step) steps) (step_grows w u step may.0) (steps_grow w steps (after_fleet_step w u step) may.1)
