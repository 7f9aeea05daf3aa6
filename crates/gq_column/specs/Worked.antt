-- A worked case, computed: a node is lost after it told that it keeps a content, and the one in its place is filled. And one that shows why answers with different losses
-- do not count together.
use Rattle.std.specs.Prelude.{◌≡◌, ℕ, ◌==◌, Bool, true, false, nat_le, nat_lt, List, [], ◌∷◌, Option, Some, None, if◌then◌else◌}
use Rattle.gq_column.specs.Column.{Setting, IsChain, World, Act, Keeps, Starts, Answers, Takes, Passes, Fills, first_world, after_acts}

-- nodes 0 and 1 stand in the first plan, 1 and 64 in all others
abbrev pub column : Setting
column = record { stands = λ losses k. if k == 0 then nat_lt losses 1 else if k == 1 then true else if k == 64 then nat_le 1 losses else false; generation = λ k. if k == 64 then 1 else 0 }

-- Nodes 0 and 1 keep content 7. Node 0 is lost. To node 64 another content comes under the number, before node 1 gives it the first one.
abbrev pub replaced : List Act
replaced = Keeps 0 7 ∷ Keeps 1 7 ∷ Starts 1 1 ∷ Keeps 64 9 ∷ Answers 1 64 ∷ Takes 64 1 7 ∷ Fills 64 ∷ []

-- Node 0 keeps it, and is lost. Node 64 is filled by node 1, to which it comes only then.
abbrev pub too_late : List Act
too_late = Keeps 0 7 ∷ Starts 1 1 ∷ Answers 1 64 ∷ Passes 64 1 ∷ Fills 64 ∷ Keeps 1 7 ∷ []

pub record IsWorked : Type 0 where
  pub chain : IsChain column
  pub told : (k : ℕ) → column.stands 0 k ≡ true → (after_acts column (first_world column) replaced).told k 7 0 ≡ true
  pub filled : (after_acts column (first_world column) replaced).lacks 64 ≡ false
  pub has : (after_acts column (first_world column) replaced).has 64 ≡ Some 7
  -- each place told that it keeps it, but not with one plan
  pub told_before : (after_acts column (first_world column) too_late).told 0 7 0 ≡ true
  pub told_after : (after_acts column (first_world column) too_late).told 1 7 1 ≡ true
  pub lacks_nothing : (after_acts column (first_world column) too_late).lacks 64 ≡ false
  pub has_none : (after_acts column (first_world column) too_late).has 64 ≡ None
