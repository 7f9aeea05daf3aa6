-- What is read of a journal that was written, and of what a kill leaves of it.
use Rattle.std.specs.Prelude.{◌≡◌, ℕ, ◌+◌, ◌<◌, ◌^◌, List, [], ◌∷◌, ◌++◌, take, length, true, false}
use Rattle.std.specs.List.{list_all}
use Rattle.gq_journal.specs.Batches.{Line, is_one_line, lines_text, are_batch_lines, batches_at, batch_text, journal_text, has_right_batch}

-- the lines can be written as batch n: its number and its length have 64 bits, and each line may stand in a batch
abbrev pub FitsBatch : ℕ → List Line → Type 0
FitsBatch n lines = (n < 2 ^ 64) × (length (lines_text lines) < 2 ^ 64) × (are_batch_lines lines ≡ true)

-- the batches can be written, the first as batch n
abbrev pub FitBatches : ℕ → List (List Line) → Type 0
FitBatches n [] = Unit {0}
FitBatches n (lines ∷ batches) = FitsBatch n lines × FitBatches (n + 1) batches

-- the whole begins with these
abbrev pub Begins : {A : Type 0} → List A → List A → Type 0
Begins {A} first whole = (more : List A) × (whole ≡ first ++ more)

-- ---- batches are read whole

-- batches that were written are read, and then whatever batches are behind them
abbrev pub BatchesReadBack : Type 0
BatchesReadBack =
    (n : ℕ) (batches : List (List Line)) (rest : List ℕ) → FitBatches n batches →
    batches_at n (journal_text n batches ++ rest) ≡ batches ++ batches_at (n + length batches) rest

-- no batch is read of a batch that isn't whole
abbrev pub TornIsNone : Type 0
TornIsNone = (n k : ℕ) (lines : List Line) → FitsBatch n lines → k < length (batch_text n lines) → batches_at n (take k (batch_text n lines)) ≡ []

-- so where a kill left a beginning of the last batch, all batches before it are read, and nothing of it
abbrev pub TornEndIsPassedOver : Type 0
TornEndIsPassedOver =
    (n k : ℕ) (batches : List (List Line)) (lines : List Line) → FitBatches n batches → FitsBatch (n + length batches) lines →
    k < length (batch_text (n + length batches) lines) →
    batches_at n (journal_text n batches ++ take k (batch_text (n + length batches) lines)) ≡ batches

-- of a text that is cut anywhere, a beginning of its batches is read
abbrev pub CutsKeepBatches : Type 0
CutsKeepBatches = (n k : ℕ) (text : List ℕ) → Begins (batches_at n (take k text)) (batches_at n text)

-- ---- damage is told from a torn end

-- a right batch is found behind whatever lines
abbrev pub RightIsFound : Type 0
RightIsFound =
    (before : List Line) (n : ℕ) (lines : List Line) (rest : List ℕ) → list_all is_one_line before ≡ true → FitsBatch n lines →
    has_right_batch (lines_text before ++ batch_text n lines ++ rest) ≡ true

-- where no right batch is found, none is read, of whatever number
abbrev pub NoneIsRead : Type 0
NoneIsRead = (n : ℕ) (text : List ℕ) → n < 2 ^ 64 → length text < 2 ^ 64 → has_right_batch text ≡ false → batches_at n text ≡ []

-- in a batch that isn't whole no right one is found
abbrev pub TornHasNone : Type 0
TornHasNone = (n k : ℕ) (lines : List Line) → FitsBatch n lines → k < length (batch_text n lines) → has_right_batch (take k (batch_text n lines)) ≡ false

-- where no right batch is found in a text, none is found in a beginning of it
abbrev pub CutsHaveNone : Type 0
CutsHaveNone = (k : ℕ) (text : List ℕ) → has_right_batch text ≡ false → has_right_batch (take k text) ≡ false
