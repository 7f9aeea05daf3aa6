-- How many bytes of contents are in memory.
use Rattle.std.specs.Prelude.{ℕ, Bool, nat_le, ◌&&◌, length, if◌then◌else◌}
use Rattle.gq_shelf.specs.declared.place.Place.{Place}
use Rattle.gq_shelf.specs.declared.place.Place.TheVariants.{Fresh, Shelved}
use Rattle.gq_stock.specs.declared.limits.TheConstants.{MOST_FRESH}
use Rattle.gq_stock.specs.declared.keeping.Keeping.{Keeping}
use Rattle.gq_stock.specs.declared.keeping.Keeping.TheVariants.{New}

-- how many bytes of a content are in memory
abbrev pub fresh_at : Place → ℕ
fresh_at (Fresh bytes) = length bytes
fresh_at (Shelved extent) = 0

-- A content of so many bytes stays in memory if it is short, and so many more may be there.
abbrev pub stays_fresh : (long left : ℕ) → Bool
stays_fresh long left = nat_le long MOST_FRESH && nat_le long left

-- how many of its bytes are there then
abbrev pub fresh_of : (long left : ℕ) → ℕ
fresh_of long left = if stays_fresh long left then long else 0

-- how many bytes in memory a content takes that is to be kept
abbrev pub fresh_taken : (long left : ℕ) → Keeping → ℕ
fresh_taken long left New = fresh_of long left
fresh_taken long left _ = 0
