-- How far an operation has come: so many of its files are collected, and the round collects or stores.
use Rattle.std.specs.Prelude.{ℕ, Bool, ◌+◌, ◌*◌, if◌then◌else◌}

pub record Course : Type 0 where
  pub files : ℕ
  pub collected : ℕ
  pub collecting : Bool

-- the number of the round
abbrev pub round_of : Course → ℕ
round_of course = if course.collecting then 2 * course.collected + 1 else 2 * course.collected
