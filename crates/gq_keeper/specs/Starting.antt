-- What a start reads.
use Rattle.std.specs.Prelude.{◌≡◌, ℕ, ◌+◌, ◌≤◌, List, [], ◌∷◌, take, drop, length, Bool, true, false}
use Rattle.gq_journal.specs.Batches.{Line, batches_of, journal_text, has_right_batch}
use Rattle.gq_journal.specs.Laws.{FitBatches}
use Rattle.gq_keeper.specs.Plans.{facts_in}
use Rattle.gq_keeper.specs.declared.machine.Unread.{Unread}
use Rattle.gq_keeper.specs.declared.machine.Unread.TheVariants.{Memory, Strange}

-- the lines of the facts in a journal, one after another
abbrev pub facts_read : List ℕ → List Line
facts_read text = facts_in (batches_of text)

-- reading the lines one after another leads from the first machine to the last
abbrev pub RecallsAll : {M : Type 0} → (M → List ℕ → M → Type 0) → M → List Line → M → Type 0
RecallsAll recalls first [] last = first ≡ last
RecallsAll {M} recalls first (line ∷ lines) last = (next : M) × recalls first line next × RecallsAll recalls next lines last

-- why lines were not read: memory was wanting, or they are not all such as the machine reads
abbrev pub RefusesLines : (readable : Bool) → Unread → Type 0
RefusesLines readable (Memory refused) = Unit {0}
RefusesLines readable Strange = readable ≡ false

-- the right batches of the text, from its first byte on, end at this place; the next one has this number
pub record EndsAt (text : List ℕ) (at number : ℕ) : Type 0 where
  pub within : at ≤ length text
  pub front : take at text ≡ journal_text 1 (batches_of text)
  pub fit : FitBatches 1 (batches_of text)
  pub next : number ≡ 1 + length (batches_of text)

-- what is behind the right batches
abbrev pub behind : List ℕ → List ℕ
behind text = drop (length (journal_text 1 (batches_of text))) text

-- the first batch that is wrong begins at this place, and a right one is somewhere behind it
pub record IsDamaged (text : List ℕ) (at : ℕ) : Type 0 where
  pub place : take at text ≡ journal_text 1 (batches_of text)
  pub behind : has_right_batch (drop at text) ≡ true
