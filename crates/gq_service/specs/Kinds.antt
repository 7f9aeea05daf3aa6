-- A machine that a node's process runs, by what contracts see of it.
use Rattle.std.specs.Prelude.{ℕ, List, Bool}
use Rattle.gq_journal.specs.Batches.{Line}
use Rattle.gq_setup.specs.Setups.{Setup, SetupReading}

-- its words for a step, for a line that a start reads, for whether it reads one, for what a start begins with, for one at rest, and for the
-- node of a number that was never started, whose journal begins with the plan that was read so
pub record Kind (M : Type 0) : Type 1 where
  pub steps : M → List ℕ → List (List ℕ) → List ℕ → M → Type 0
  pub recalls : M → List ℕ → M → Type 0
  pub readable : M → List ℕ → Bool
  pub blank : List Line → M → M → Type 0
  pub rests : M → M → Type 0
  pub is_new : Setup → (number : ℕ) → SetupReading Setup → M → Type 0

-- the kind of these words
abbrev pub kind : {M : Type 0} → (M → List ℕ → List (List ℕ) → List ℕ → M → Type 0) → (M → List ℕ → M → Type 0) → (M → List ℕ → Bool) → (List Line → M → M → Type 0) → (M → M → Type 0) → (Setup → ℕ → SetupReading Setup → M → Type 0) → Kind M
kind steps recalls readable blank rests is_new = record { steps = steps; recalls = recalls; readable = readable; blank = blank; rests = rests; is_new = is_new }
