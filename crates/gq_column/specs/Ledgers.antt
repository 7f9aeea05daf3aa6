-- A step of a ledger is to one number what the act is here, of a node whose book it is.
use Rattle.std.specs.Prelude.{◌≡◌, ◌≢◌, ℕ, nat_le, ◌||◌, Some}
use Rattle.gq_ledger.specs.Steps.{Book, Keeps, Gives, Raises, after_step}
use Rattle.gq_column.specs.Column.{then_has}

pub record ActsAlike (b : Book ℕ) (n : ℕ) : Type 0 where
  pub keeps : (c : ℕ) → (after_step (Keeps n c) b).at n ≡ then_has (b.at n) (nat_le n b.floor) c
  pub gives : (c : ℕ) → (after_step (Gives n c) b).at n ≡ Some c
  pub raises : (f : ℕ) → (after_step (Raises f) b).at n ≡ b.at n
  pub rises : (f : ℕ) → nat_le n (after_step (Raises f) b).floor ≡ (nat_le n f || nat_le n b.floor)
  -- nothing else touches it
  pub keeps_others : (m c : ℕ) → m ≢ n → (after_step (Keeps m c) b).at n ≡ b.at n
  pub gives_others : (m c : ℕ) → m ≢ n → (after_step (Gives m c) b).at n ≡ b.at n
  pub floor_stays : (m c : ℕ) → (after_step (Keeps m c) b).floor ≡ b.floor

abbrev pub AllActAlike : Type 0
AllActAlike = (b : Book ℕ) (n : ℕ) → ActsAlike b n
