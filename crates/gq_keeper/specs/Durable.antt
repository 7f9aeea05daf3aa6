-- What is on disk when something is shown.
use Rattle.std.specs.Prelude.{◌≡◌, ℕ, ◌+◌, ◌*◌, ◌^◌, ◌<◌, Bool, List, [], ◌∷◌, ◌++◌, length, true}
use Rattle.gq_journal.specs.Batches.{Line, whole_lines, lines_text, ended_line, seal, batches_of, journal_text}
use Rattle.gq_journal.specs.Laws.{FitBatches, Begins}
use Rattle.gq_keeper.specs.Lines.{most_held, short_lines}
use Rattle.gq_keeper.specs.Runs.{Did, Runs, StopsAt, lines_of, told_of}
use Rattle.gq_keeper.specs.Plans.{are_facts}
use Rattle.gq_keeper.specs.Restarting.{Restarts, Stands}

-- all that was written is synced, and is whole batches; the next one has this number
pub record AllSealed (seen synced : List ℕ) (number : ℕ) : Type 0 where
  pub all : seen ≡ synced
  pub whole : synced ≡ journal_text 1 (batches_of synced)
  pub fit : FitBatches 1 (batches_of synced)
  pub next : number ≡ 1 + length (batches_of synced)

-- The machine took these lines, by steps from the first one to the last. Shown are `base`, which was there before, and what the steps told.
-- A start from what is synced reads the last machine, at rest: its operations gone, and the numbers passed over that facts reserve. `steps`,
-- `recalls`, `readable`, `blank` and `rests` are the machine's own words for a step, for a line that a start reads, for whether it reads one, for
-- what a start from a journal with a first plan begins with and for one at rest; `plan` is the lines of the journal's last plan.
pub record Durable {M : Type 0} (steps : M → List ℕ → List (List ℕ) → List ℕ → M → Type 0) (recalls : M → List ℕ → M → Type 0) (readable : M → List ℕ → Bool) (blank : List Line → M → M → Type 0) (rests : M → M → Type 0) (first last : M) (plan lines : List Line) (base synced shown : List ℕ) : Type 0 where
  pub dids : List Did
  pub runs : Runs steps first dids last
  pub took : lines_of dids ≡ lines
  pub told : shown ≡ base ++ told_of dids
  pub restarts : Restarts recalls readable blank rests plan last synced

-- Of the text the lines before the rest were taken, but for those that are longer: what these steps told is shown, and durable. Whatever
-- comes behind these lines, it is taken on its own.
pub record TakenBefore {M : Type 0} (longest : ℕ) (steps : M → List ℕ → List (List ℕ) → List ℕ → M → Type 0) (recalls : M → List ℕ → M → Type 0) (readable : M → List ℕ → Bool) (blank : List Line → M → M → Type 0) (rests : M → M → Type 0) (first last : M) (plan : List Line) (text rest base synced shown : List ℕ) : Type 0 where
  pub front : List ℕ
  pub cut : text ≡ front ++ rest
  pub apart : (more : List ℕ) → short_lines longest (front ++ more) ≡ short_lines longest front ++ short_lines longest more
  pub durable : Durable steps recalls readable blank rests first last plan (short_lines longest front) base synced shown

-- The same of lines that are kept and shown at once: none was taken once those before it had given facts, or told text, as long as the
-- longest line and at least a mebibyte. So facts and text are no longer than that, and what one line adds.
pub record TakenAtOnce {M : Type 0} (longest : ℕ) (steps : M → List ℕ → List (List ℕ) → List ℕ → M → Type 0) (recalls : M → List ℕ → M → Type 0) (readable : M → List ℕ → Bool) (blank : List Line → M → M → Type 0) (rests : M → M → Type 0) (first last : M) (plan : List Line) (text rest base synced shown : List ℕ) : Type 0 where
  pub taken : TakenBefore longest steps recalls readable blank rests first last plan text rest base synced shown
  pub few : StopsAt (most_held longest) taken.durable.dids

-- what is synced has grown, or it was left alone
abbrev pub Grows : (before after : List ℕ) → (alone : Type 0) → Type 0
Grows before after alone = (more : List ℕ) × (after ≡ before ++ more) × (more ≡ [] → alone)

-- what is appended for the text of facts: nothing where there are none
abbrev pub kept_text : ℕ → List ℕ → List ℕ
kept_text n [] = []
kept_text n (x ∷ facts) = (x ∷ facts) ++ ended_line (seal n (x ∷ facts))

-- the number of the batch after it
abbrev pub number_after : ℕ → List ℕ → ℕ
number_after n [] = n
number_after n (x ∷ facts) = n + 1

-- a journal of this plan and of the text of these facts
abbrev pub new_text : List ℕ → List ℕ → List ℕ
new_text plan facts = (plan ++ ended_line (seal 1 plan)) ++ kept_text 2 facts

-- This is a journal of the plan and of the facts that a start needs of the machine, and the next batch has this number.
pub record IsAnew {M : Type 0} (recalls : M → List ℕ → M → Type 0) (readable : M → List ℕ → Bool) (blank : List Line → M → M → Type 0) (rests : M → M → Type 0) (machine : M) (plan text : List ℕ) (next : ℕ) : Type 0 where
  pub lines : List Line
  pub facts : are_facts lines ≡ true
  pub stands : Stands recalls readable (blank (whole_lines plan)) rests machine lines
  pub short : length (lines_text lines) < 2 ^ 64
  pub is : text ≡ new_text plan (lines_text lines)
  pub number : next ≡ number_after 2 (lines_text lines)

-- The journal is longer than a mebibyte, than this, and than four times what the contents take.
pub record IsLong (size due contents : ℕ) : Type 0 where
  pub some : 1048576 < size
  pub grown : due < size
  pub needs_less : 4 * contents < size

-- Whatever a crash leaves behind what was synced, the batches that were synced are read, and then whatever batches are behind them.
abbrev pub SyncedIsRead : Type 0
SyncedIsRead = (seen synced : List ℕ) (number : ℕ) (rest : List ℕ) → AllSealed seen synced number → Begins (batches_of synced) (batches_of (synced ++ rest))
