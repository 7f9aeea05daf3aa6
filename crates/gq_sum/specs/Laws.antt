-- What a sum shows of a text that was changed.
use Rattle.std.specs.Prelude.{◌≡◌, ◌≢◌, ℕ, ◌*◌, ◌/◌, ◌<◌, ◌≤◌, ◌^◌, List, length, slice_index}
use Rattle.gq_sum.specs.Sums.{word_at, sum_of}

abbrev pub AreBytes : List ℕ → Type 0
AreBytes text = (k : ℕ) → slice_index text k < 256

-- the texts have one length, and of their words only this one differs
pub record DifferInWord (i : ℕ) (text other : List ℕ) : Type 0 where
  pub long : length other ≡ length text
  pub within : i ≤ length text / 8
  pub others : (k : ℕ) → k ≢ i → word_at other (8 * k) ≡ word_at text (8 * k)
  pub differs : word_at other (8 * i) ≢ word_at text (8 * i)

-- a change within one word changes the sum
abbrev pub ChangedWordsShow : Type 0
ChangedWordsShow = (n i : ℕ) (text other : List ℕ) → AreBytes text → AreBytes other → DifferInWord i text other → sum_of n other ≢ sum_of n text

-- the same text has another sum with another number
abbrev pub NumbersShow : Type 0
NumbersShow = (n m : ℕ) (text : List ℕ) → n < 2 ^ 64 → m < 2 ^ 64 → length text < 2 ^ 64 → AreBytes text → n ≢ m → sum_of n text ≢ sum_of m text
