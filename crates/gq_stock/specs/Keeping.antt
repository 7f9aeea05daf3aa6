-- What comes of a content that is to be kept.
use Rattle.std.specs.Prelude.{◌≡◌, ◌≢◌, ◌<◌, ◌≤◌, ℕ, Bool, List, length, Option, Some, None, IsSome}
use Rattle.gq_ledger.specs.Steps.{Book, Keeps, Leads}
use Rattle.gq_stock.specs.Charge.{charge_of}
use Rattle.gq_stock.specs.Held.{Held, content_of}
use Rattle.gq_stock.specs.declared.keeping.Keeping.{Keeping}
use Rattle.gq_stock.specs.declared.keeping.Keeping.TheVariants.{New, Same, Differs, Damaged, Below, Full, NoSpace}

-- what is told of a content, where a chunk is there
abbrev pub ComparesAs : Option Held → List ℕ → Keeping → Type 0
ComparesAs has bytes Same = content_of has ≡ Some bytes
ComparesAs has bytes Differs = IsSome has × (content_of has ≢ Some bytes)
ComparesAs has bytes Damaged = IsSome has
ComparesAs has bytes _ = ⊥

-- what is told of it in any case, where this is there, the floor is at this number, and so many bytes are free
abbrev pub ToldAs : Option Held → (number floor : ℕ) → List ℕ → (free : ℕ) → Keeping → Type 0
ToldAs has n floor bytes free New = (has ≡ None) × (floor < n) × (charge_of (length bytes) ≤ free)
ToldAs has n floor bytes free Below = (has ≡ None) × (n ≤ floor)
ToldAs has n floor bytes free Full = (has ≡ None) × (floor < n) × (free < charge_of (length bytes))
ToldAs has n floor bytes free NoSpace = (has ≡ None) × (floor < n) × (charge_of (length bytes) ≤ free)
ToldAs has n floor bytes free Same = ComparesAs has bytes Same
ToldAs has n floor bytes free Differs = ComparesAs has bytes Differs
ToldAs has n floor bytes free Damaged = ComparesAs has bytes Damaged

-- A content is to be kept under a number, and this is told: a new one stands there then, and else nothing changes.
pub record KeptAs (old : Book Held) (n : ℕ) (bytes : List ℕ) (is_sure : Bool) (free : ℕ) (told : Keeping) (new : Book Held) : Type 0 where
  pub told_so : ToldAs (old.at n) n old.floor bytes free told
  pub leads : told ≡ New → Leads old (Keeps n (record { bytes = bytes; is_sure = is_sure })) new
  pub same : told ≢ New → new ≡ old

-- how many bytes of room a content of so many takes
abbrev pub taken_of : (long : ℕ) → Keeping → ℕ
taken_of long New = charge_of long
taken_of long _ = 0

-- Something else may be under this number; all other numbers and the floor are as they were.
pub record ChangesOnly {T : Type 0} (old : Book T) (n : ℕ) (new : Book T) : Type 0 where
  pub others : (m : ℕ) → m ≢ n → new.at m ≡ old.at m
  pub floor : new.floor ≡ old.floor
