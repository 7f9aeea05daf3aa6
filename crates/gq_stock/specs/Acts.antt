-- A deed is to one number of a session what an act of `gq_column` is, of the node whose book it is.
use Rattle.std.specs.Prelude.{◌≡◌, ◌≢◌, ℕ, Bool, ◌||◌, nat_le, List, [], Option, Some, option_map}
use Rattle.gq_ledger.specs.Steps.{Book}
use Rattle.gq_column.specs.Column.{then_has, keeps_it}
use Rattle.gq_stock.specs.Held.{Held}
use Rattle.gq_stock.specs.Deeds.{IsKept, IsFound, AreForgotten, IsGiven, AreMoved, Does, is_kept}
use Rattle.gq_stock.specs.declared.finding.Found.TheVariants.{There}
use Rattle.gq_stock.specs.declared.keeping.Keeping.{Keeping}
use Rattle.gq_stock.specs.declared.keeping.Keeping.TheVariants.{Damaged, Full, NoSpace}

-- a number for each content
abbrev pub IsCode : (List ℕ → ℕ) → Type 0
IsCode code = (x y : List ℕ) → code x ≡ code y → x ≡ y

abbrev pub coded : (List ℕ → ℕ) → Option Held → Option ℕ
coded code has = option_map (λ held. code held.bytes) has

-- of a number n, in a book that a deed makes of another one
pub record ActsAlike (code : List ℕ → ℕ) (old new : Book Held) (n : ℕ) : Type 0 where
  -- a content that is to be kept, where there is room and space, and what is there can be read
  pub keeps : (bytes : List ℕ) (is_sure : Bool) (free : ℕ) (told : Keeping) → told ≢ Damaged → told ≢ Full → told ≢ NoSpace → Does old (IsKept n bytes is_sure free told) new → coded code (new.at n) ≡ then_has (coded code (old.at n)) (nat_le n old.floor) (code bytes)
  pub tells : (bytes : List ℕ) (is_sure : Bool) (free : ℕ) (told : Keeping) → told ≢ Damaged → told ≢ Full → told ≢ NoSpace → Does old (IsKept n bytes is_sure free told) new → is_kept told ≡ keeps_it (coded code (old.at n)) (nat_le n old.floor) (code bytes)
  -- what is given, found and moved
  pub gives : (bytes : List ℕ) → Does old (IsGiven n bytes) new → coded code (new.at n) ≡ Some (code bytes)
  pub finds : (bytes : List ℕ) → Does old (IsFound n (There bytes)) new → coded code (old.at n) ≡ Some (code bytes)
  pub moves : Does old AreMoved new → coded code (new.at n) ≡ coded code (old.at n)
  -- a floor that rises
  pub raises : (floor : ℕ) → Does old (AreForgotten floor []) new → coded code (new.at n) ≡ coded code (old.at n)
  pub rises : (floor : ℕ) → Does old (AreForgotten floor []) new → nat_le n new.floor ≡ (nat_le n floor || nat_le n old.floor)

abbrev pub DeedsAreActs : Type 0
DeedsAreActs = (code : List ℕ → ℕ) → IsCode code → (old new : Book Held) (n : ℕ) → ActsAlike code old new n
