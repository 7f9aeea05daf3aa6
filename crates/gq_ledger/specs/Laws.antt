-- What holds of any steps.
use Rattle.std.specs.Prelude.{◌≡◌, ◌≤◌, ℕ, ◌==◌, Bool, true, false, List, [], ◌∷◌, Some, None, ⊤, if◌then◌else◌}
use Rattle.gq_ledger.specs.Steps.{Book, Step, Keeps, Forgets, Raises, Gives, after_steps}

-- the step forgets no such number, and gives nothing under it
abbrev pub leaves : {T : Type 0} → ℕ → Step T → Bool
leaves n (Keeps m x) = true
leaves n (Forgets m) = if m == n then false else true
leaves n (Raises m) = true
leaves n (Gives m x) = if m == n then false else true

-- it gives nothing under the number
abbrev pub gives_none : {T : Type 0} → ℕ → Step T → Bool
gives_none n (Keeps m x) = true
gives_none n (Forgets m) = true
gives_none n (Raises m) = true
gives_none n (Gives m x) = if m == n then false else true

-- such are all of them
abbrev pub all_are : {T : Type 0} → (Step T → Bool) → List (Step T) → Type 0
all_are p [] = ⊤
all_are p (step ∷ steps) = (p step ≡ true) × all_are p steps

abbrev pub KeptUntilForgotten : Type 0 → Type 0
KeptUntilForgotten T = (steps : List (Step T)) (b : Book T) (n : ℕ) (x : T) → b.at n ≡ Some x → all_are (leaves n) steps → (after_steps steps b).at n ≡ Some x

abbrev pub GoneForGood : Type 0 → Type 0
GoneForGood T = (steps : List (Step T)) (b : Book T) (n : ℕ) → b.at n ≡ None → n ≤ b.floor → all_are (gives_none n) steps → (after_steps steps b).at n ≡ None

abbrev pub FloorsRise : Type 0 → Type 0
FloorsRise T = (steps : List (Step T)) (b : Book T) → b.floor ≤ (after_steps steps b).floor
