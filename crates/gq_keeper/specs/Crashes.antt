-- What a crash leaves of a file.
use Rattle.std.specs.Prelude.{◌≡◌, ◌⊎◌, ◌<◌, ◌≤◌, ◌^◌, ℕ, List, ◌++◌, length, false}
use Rattle.gq_journal.specs.Batches.{has_right_batch}
use Rattle.gq_journal.specs.Laws.{Begins}

-- A crash leaves what was synced, and behind it a beginning of what was appended since, or in its place bytes in which no right
-- batch is found: so much is taken of the disk and of the digest.
pub record Leaves (synced seen left : List ℕ) : Type 0 where
  pub behind : List ℕ
  pub front : left ≡ synced ++ behind
  pub within : length left ≤ length seen
  pub short : length left < 2 ^ 64
  pub part : Begins left seen ⊎ (has_right_batch behind ≡ false)

-- while a file is synced
abbrev pub LeavesSyncing : List ℕ → List ℕ → List ℕ → Type 0
LeavesSyncing synced seen left = Leaves synced seen left ⊎ Leaves seen seen left

-- while another text takes the place of all: the old file, or the new one whole
abbrev pub LeavesReplacing : List ℕ → List ℕ → List ℕ → List ℕ → Type 0
LeavesReplacing synced seen new left = Leaves synced seen left ⊎ (left ≡ new)

-- Time goes on: what a crash since an earlier instant may have left, it may have left before, or it is of this call.
pub record Elapses (before now : ℕ) (past since : ℕ → List ℕ → Type 0) (during : List ℕ → Type 0) : Type 0 where
  pub later : before ≤ now
  pub nothing_else : (t : ℕ) (left : List ℕ) → t ≤ before → since t left → past t left ⊎ during left
