-- A session's chunks at a server, and what may happen to them.
use Rattle.std.specs.Prelude.{◌≡◌, ℕ, Bool, true, false, ◌==◌, nat_le, List, [], ◌∷◌, Option, Some, None, is_some, if◌then◌else◌}

-- what stands under each number, and the floor: what is absent and not above it is never kept
pub record Book (T : Type 0) : Type 0 where
  pub at : ℕ → Option T
  pub floor : ℕ

-- A content is to be kept under a number; a number is to be forgotten; the floor is to be at this number or higher; a peer gives this.
pub data Step (T : Type 0) : Type 0 where
  Keeps : ℕ → T → Step T
  Forgets : ℕ → Step T
  Raises : ℕ → Step T
  Gives : ℕ → T → Step T

-- the book with this under the number
abbrev pub with_at : {T : Type 0} → Book T → ℕ → Option T → Book T
with_at b n x = record { at = λ m. if m == n then x else b.at m; floor = b.floor }

-- whether a content may be kept under the number
abbrev pub may_keep : {T : Type 0} → Book T → ℕ → Bool
may_keep b n = if is_some (b.at n) then false else if nat_le n b.floor then false else true

abbrev pub after_step : {T : Type 0} → Step T → Book T → Book T
after_step (Keeps n x) b = if may_keep b n then with_at b n (Some x) else b
after_step (Forgets n) b = if nat_le n b.floor then with_at b n None else b
after_step (Raises n) b = record { at = b.at; floor = if nat_le b.floor n then n else b.floor }
after_step (Gives n x) b = with_at b n (Some x)

abbrev pub after_steps : {T : Type 0} → List (Step T) → Book T → Book T
after_steps [] b = b
after_steps (step ∷ steps) b = after_steps steps (after_step step b)

-- the one book has what the step makes of the other
pub record Leads {T : Type 0} (old : Book T) (step : Step T) (new : Book T) : Type 0 where
  pub at : (n : ℕ) → new.at n ≡ (after_step step old).at n
  pub floor : new.floor ≡ (after_step step old).floor
