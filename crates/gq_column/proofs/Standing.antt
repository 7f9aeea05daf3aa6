-- What is so at any time, where each node of a plan may still tell the content.
use Rattle.std.proofs.Common.{◌≡◌, ◌⊎◌, ◌<◌, ◌≤◌, ℕ, true, false, Option, Some}
use Rattle.gq_column.specs.Column.{Setting, World}
use Rattle.gq_column.specs.Laws.{IsSince}

-- a node of the plan which has not told it, and never will: it has another content and lacks nothing, or has a later plan
pub record Stuck (s : Setting) (losses content : ℕ) (w : World) : Type 0 where
  pub node : ℕ
  pub stands : s.stands losses node ≡ true
  pub untold : w.told node content losses ≡ false
  pub why : ((w.lacks node ≡ false) × (y : ℕ) × (w.has node ≡ Some y) × (y ≡ content → ⊥)) ⊎ (losses < w.plan node)

pub record Good (s : Setting) (losses content : ℕ) (w : World) : Type 0 where
  pub held : (m : ℕ) → s.stands losses m ≡ true → w.told m content losses ≡ true → w.has m ≡ Some content
  pub since : (m : ℕ) → s.stands losses m ≡ true → w.told m content losses ≡ true → losses ≤ w.plan m
  pub none_other : (m y : ℕ) → s.stands losses m ≡ true → w.lacks m ≡ false → w.has m ≡ Some y → y ≡ content
  pub whole : (m : ℕ) → losses < s.generation m → w.lacks m ≡ false → w.has m ≡ Some content
  pub given : (m : ℕ) → losses < s.generation m → w.given m ≡ true → w.has m ≡ Some content
  pub gives : (p m y : ℕ) → IsSince s losses p → w.gave p m y ≡ true → y ≡ content
  pub passes : (m : ℕ) → losses < s.generation m → w.passed m ≡ false
  pub misses : (p m : ℕ) → IsSince s losses p → losses < s.generation m → w.missed p m ≡ false
  pub planned : (m : ℕ) → s.generation m ≤ w.plan m

abbrev pub Standing : Setting → (losses content : ℕ) → World → Type 0
Standing s losses content w = Stuck s losses content w ⊎ Good s losses content w
