-- What all nodes of one plan acknowledged each of them tells, and each that comes after.
use Rattle.std.specs.Prelude.{◌≡◌, ◌<◌, ◌⊎◌, ℕ, true, false, List, Option, Some}
use Rattle.gq_column.specs.Column.{Setting, IsChain, World, Act, first_world, after_acts}

-- the node stands in the plan of so many losses, or is a new one since
abbrev pub IsSince : Setting → (losses node : ℕ) → Type 0
IsSince s losses node = (s.stands losses node ≡ true) ⊎ (losses < s.generation node)

-- it has the content where it lacks nothing, or was given one; and gives no other
pub record Holds (w : World) (node content : ℕ) : Type 0 where
  pub whole : w.lacks node ≡ false → w.has node ≡ Some content
  pub given : w.given node ≡ true → w.has node ≡ Some content
  pub gives : (other d : ℕ) → w.gave node other d ≡ true → d ≡ content

abbrev pub Acknowledged : Type 0
Acknowledged = (s : Setting) (acts : List Act) (losses content : ℕ) → IsChain s →
    let w : World = after_acts s (first_world s) acts in
    ((node : ℕ) → s.stands losses node ≡ true → w.told node content losses ≡ true) → (node : ℕ) → IsSince s losses node → Holds w node content
