-- What a start makes of a journal.
use Rattle.std.specs.Prelude.{◌≡◌, ◌⊎◌, ℕ, List, [], ◌++◌, Bool, true, false}
use Rattle.std.specs.List.{list_all}
use Rattle.gq_journal.specs.Batches.{Line, lines_text, batches_of, has_right_batch}
use Rattle.gq_keeper.specs.Runs.{Did, Runs}
use Rattle.gq_keeper.specs.Plans.{are_facts, first_plan, last_plan, begins_with_plan}
use Rattle.gq_keeper.specs.Starting.{facts_read, RecallsAll, behind}

-- A start reads each of these lines, from a blank machine on; and what it then has is this machine at rest.
pub record Stands {M : Type 0} (recalls : M → List ℕ → M → Type 0) (readable : M → List ℕ → Bool) (blank rests : M → M → Type 0) (machine : M) (lines : List Line) : Type 0 where
  pub read : (new : M) → blank machine new → list_all (readable new) lines ≡ true
  pub again : (new last : M) → blank machine new → RecallsAll recalls new lines last → rests machine last

-- the lines that a start needs of the machine were appended
pub record Needs {M : Type 0} (recalls : M → List ℕ → M → Type 0) (readable : M → List ℕ → Bool) (blank rests : M → M → Type 0) (machine : M) (before after : List ℕ) : Type 0 where
  pub lines : List Line
  pub text : after ≡ before ++ lines_text lines
  pub facts : are_facts lines ≡ true
  pub stands : Stands recalls readable blank rests machine lines

-- A start from this journal reads this plan and the machine at rest; what is behind the right batches is cut off, and is no damage. What
-- the start begins with hangs on the plan with which the journal begins.
pub record Restarts {M : Type 0} (recalls : M → List ℕ → M → Type 0) (readable : M → List ℕ → Bool) (blank : List Line → M → M → Type 0) (rests : M → M → Type 0) (plan : List Line) (machine : M) (journal : List ℕ) : Type 0 where
  pub stands : Stands recalls readable (blank (first_plan (batches_of journal))) rests machine (facts_read journal)
  pub begins : begins_with_plan (batches_of journal) ≡ true
  pub last : last_plan [] (batches_of journal) ≡ plan
  pub mends : has_right_batch (behind journal) ≡ false

-- a start from this journal reads the old machine at rest, or the new one, to which steps led from the old one
abbrev pub RestartsAsEither : {M : Type 0} → (M → List ℕ → List (List ℕ) → List ℕ → M → Type 0) → (M → List ℕ → M → Type 0) → (M → List ℕ → Bool) → (List Line → M → M → Type 0) → (M → M → Type 0) → List Line → M → M → List ℕ → Type 0
RestartsAsEither steps recalls readable blank rests plan old new journal = Restarts recalls readable blank rests plan old journal ⊎ ((dids : List Did) × Runs steps old dids new × Restarts recalls readable blank rests plan new journal)

-- a start from this journal reads a machine at rest to which steps led from the first
abbrev pub RestartsAsOne : {M : Type 0} → (M → List ℕ → List (List ℕ) → List ℕ → M → Type 0) → (M → List ℕ → M → Type 0) → (M → List ℕ → Bool) → (List Line → M → M → Type 0) → (M → M → Type 0) → List Line → M → List ℕ → Type 0
RestartsAsOne {M} steps recalls readable blank rests plan first journal = (machine : M) × (dids : List Did) × Runs steps first dids machine × Restarts recalls readable blank rests plan machine journal

-- What a start reads of the one journal it reads of the other: the same facts, the same first plan, the last plan or the one with which
-- it starts, and damage only where there was damage.
pub record ReadsAs (plan : List Line) (journal left : List ℕ) : Type 0 where
  pub facts : facts_read left ≡ facts_read journal
  pub begins : begins_with_plan (batches_of left) ≡ begins_with_plan (batches_of journal)
  pub first : first_plan (batches_of left) ≡ first_plan (batches_of journal)
  pub last : (last_plan [] (batches_of left) ≡ last_plan [] (batches_of journal)) ⊎ (last_plan [] (batches_of left) ≡ plan)
  pub mends : has_right_batch (behind left) ≡ has_right_batch (behind journal)
