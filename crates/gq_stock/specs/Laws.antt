-- What holds of any deeds.
use Rattle.std.specs.Prelude.{◌≡◌, ◌≢◌, ◌≤◌, ◌<◌, ℕ, Bool, true, List, length, Some, None}
use Rattle.gq_ledger.specs.Steps.{Book}
use Rattle.gq_stock.specs.Charge.{charge_of}
use Rattle.gq_stock.specs.Held.{Held}
use Rattle.gq_stock.specs.Deeds.{Deed, IsKept, IsFound, Does, Ran, is_kept, gives_none, leaves, all_are, content_now}
use Rattle.gq_stock.specs.declared.finding.Found.{Found}
use Rattle.gq_stock.specs.declared.finding.Found.TheVariants.{Nothing, Damaged, There}
use Rattle.gq_stock.specs.declared.keeping.Keeping.{Keeping}
use Rattle.gq_stock.specs.declared.keeping.Keeping.TheVariants.{New, Below, Full, NoSpace}

-- what is found are these bytes, or they can't be read
abbrev pub IsThese : List ℕ → Found → Type 0
IsThese bytes Nothing = ⊥
IsThese bytes Damaged = Unit {0}
IsThese bytes (There found) = found ≡ bytes

-- nothing is there
abbrev pub IsEmpty : Book Held → Type 0
IsEmpty b = (n : ℕ) → b.at n ≡ None

-- bytes that are found under a number are its content by what was done
abbrev pub ToldIsKept : Type 0
ToldIsKept = (first now after : Book Held) (deeds : List Deed) (n : ℕ) (bytes : List ℕ) → IsEmpty first → Ran first deeds now → Does now (IsFound n (There bytes)) after → content_now n deeds ≡ Some bytes

-- a content that was kept is found, until its number is forgotten, or given by a peer
abbrev pub KeptUntilForgotten : Type 0
KeptUntilForgotten = (old new now after : Book Held) (deeds : List Deed) (n : ℕ) (bytes : List ℕ) (is_sure : Bool) (free : ℕ) (told : Keeping) (found : Found) →
    is_kept told ≡ true → Does old (IsKept n bytes is_sure free told) new → Ran new deeds now → all_are (leaves n) deeds → Does now (IsFound n found) after → IsThese bytes found

-- until then no other content is kept under the number
abbrev pub Once : Type 0
Once = (old new now after : Book Held) (deeds : List Deed) (n : ℕ) (bytes others : List ℕ) (is_sure is_other_sure : Bool) (free other_free : ℕ) (told other_told : Keeping) →
    is_kept told ≡ true → Does old (IsKept n bytes is_sure free told) new → Ran new deeds now → all_are (leaves n) deeds →
    is_kept other_told ≡ true → Does now (IsKept n others is_other_sure other_free other_told) after → others ≡ bytes

-- what is absent and not above the floor stays absent, whatever is to be kept, but for what a peer gives
abbrev pub BelowTheFloor : Type 0
BelowTheFloor = (old now after : Book Held) (deeds : List Deed) (n : ℕ) (bytes : List ℕ) (is_sure : Bool) (free : ℕ) (told : Keeping) →
    old.at n ≡ None → n ≤ old.floor → Ran old deeds now → all_are (gives_none n) deeds → Does now (IsKept n bytes is_sure free told) after → told ≡ Below

-- where nothing but room may be wanting, it is wanting exactly where the content is charged more bytes than are free; else the content is new, or the disk has no space
abbrev pub RoomIsExact : Type 0
RoomIsExact = (old new : Book Held) (n : ℕ) (bytes : List ℕ) (is_sure : Bool) (free : ℕ) (told : Keeping) →
    old.at n ≡ None → old.floor < n → Does old (IsKept n bytes is_sure free told) new → (charge_of (length bytes) ≤ free → told ≢ NoSpace → told ≡ New) × (free < charge_of (length bytes) → told ≡ Full)
