-- What is kept of a deed in the journal, and what a start makes of it.
use Rattle.std.specs.Prelude.{◌≡◌, ℕ, true, List, [], ◌∷◌, max, Option, Some, None, if◌then◌else◌}
use Rattle.gq_ledger.specs.Steps.{Book, with_at}
use Rattle.gq_stock.specs.Held.{Held}
use Rattle.gq_stock.specs.Forgetting.{is_in_any}
use Rattle.gq_stock.specs.Deeds.{Deed, IsKept, IsFound, AreForgotten, IsGiven, AreMoved, Ran}
use Rattle.gq_stock.specs.declared.run.Run.{Run}
use Rattle.gq_stock.specs.declared.keeping.Keeping.{Keeping}
use Rattle.gq_stock.specs.declared.keeping.Keeping.TheVariants.{New, Same, Differs, Damaged, Below, Full, NoSpace}

-- this is under the number; the numbers of the runs are forgotten, with a floor
pub data Fact : Type 0 where
  IsPut : ℕ → Held → Fact
  WereForgotten : ℕ → List Run → Fact

-- what `put` and `forget` make of a book
abbrev pub after_fact : Option Fact → Book Held → Book Held
after_fact None b = b
after_fact (Some (IsPut n held)) b = with_at b n (Some held)
after_fact (Some (WereForgotten floor runs)) b = record { at = λ n. if is_in_any n runs then None else b.at n; floor = max b.floor floor }

-- only a new content is a fact
abbrev pub kept_fact : Keeping → ℕ → Held → Option Fact
kept_fact New n held = Some (IsPut n held)
kept_fact Same n held = None
kept_fact Differs n held = None
kept_fact Damaged n held = None
kept_fact Below n held = None
kept_fact Full n held = None
kept_fact NoSpace n held = None

-- the fact of a deed. (One of a content that is moved says of the same content where it lies.)
abbrev pub fact_of : Deed → Option Fact
fact_of (IsKept n bytes is_sure free told) = kept_fact told n (record { bytes = bytes; is_sure = is_sure })
fact_of (IsFound n found) = None
fact_of (AreForgotten floor runs) = Some (WereForgotten floor runs)
fact_of (IsGiven n bytes) = Some (IsPut n (record { bytes = bytes; is_sure = true }))
fact_of AreMoved = None

-- what a start makes of the facts of all deeds, the newest first
abbrev pub restarted : Book Held → List Deed → Book Held
restarted first [] = first
restarted first (deed ∷ before) = after_fact (fact_of deed) (restarted first before)

-- the same is there under each number, and the floor is the same
pub record IsSameBook (a b : Book Held) : Type 0 where
  pub at : (n : ℕ) → a.at n ≡ b.at n
  pub floor : a.floor ≡ b.floor

-- a start ends with the book that the deeds left
abbrev pub StartsAgain : Type 0
StartsAgain = (first now : Book Held) (deeds : List Deed) → Ran first deeds now → IsSameBook (restarted first deeds) now
