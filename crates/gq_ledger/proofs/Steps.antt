-- What steps do to a book.
use Rattle.std.proofs.Common.{◌≡◌, ◌≤◌, ℕ, true, [], ◌∷◌, Some, None, arith}
use Rattle.gq_ledger.specs.Steps.{Book, Step, Keeps, Forgets, Raises, Gives, after_step, after_steps}
use Rattle.gq_ledger.specs.Laws.{leaves, gives_none, KeptUntilForgotten, GoneForGood, FloorsRise}

-- ---- one step

step_keeps : {T : Type 0} (step : Step T) (b : Book T) (n : ℕ) (x : T) → b.at n ≡ Some x → leaves n step ≡ true → (after_step step b).at n ≡ Some x
step_keeps (Keeps m y) b n x is ok = grind arith
step_keeps (Forgets m) b n x is ok = grind arith
step_keeps (Raises m) b n x is ok = is
step_keeps (Gives m y) b n x is ok = grind arith

step_absent : {T : Type 0} (step : Step T) (b : Book T) (n : ℕ) → b.at n ≡ None → n ≤ b.floor → gives_none n step ≡ true → (after_step step b).at n ≡ None
step_absent (Keeps m y) b n is below ok = grind arith
step_absent (Forgets m) b n is below ok = grind arith
step_absent (Raises m) b n is below ok = is
step_absent (Gives m y) b n is below ok = grind arith

step_floor : {T : Type 0} (step : Step T) (b : Book T) → b.floor ≤ (after_step step b).floor
step_floor (Keeps m y) b = grind arith
step_floor (Forgets m) b = grind arith
step_floor (Raises m) b = grind arith
step_floor (Gives m y) b = omega arith

-- ---- all of them

pub kept_until_forgotten : {T : Type 0} → KeptUntilForgotten T
kept_until_forgotten [] b n x is all = is
kept_until_forgotten (step ∷ steps) b n x is all = kept_until_forgotten steps (after_step step b) n x (step_keeps step b n x is all.0) all.1

pub floors_rise : {T : Type 0} → FloorsRise T
floors_rise [] b = omega arith
floors_rise (step ∷ steps) b =
    let first : b.floor ≤ (after_step step b).floor = step_floor step b in
    let others : (after_step step b).floor ≤ (after_steps steps (after_step step b)).floor = floors_rise steps (after_step step b) in
    omega arith

pub gone_for_good : {T : Type 0} → GoneForGood T
gone_for_good [] b n is below all = is
gone_for_good (step ∷ steps) b n is below all =
    let risen : b.floor ≤ (after_step step b).floor = step_floor step b in
    gone_for_good steps (after_step step b) n (step_absent step b n is below all.0) (omega arith) all.1
