-- Parts of pages, and what counts, beside the law's.
use Rattle.std.specs.Prelude.{◌≡◌, ℕ, List, Bool, true, false, Option, Some, None}
use Rattle.gq_names.specs.Names.{Page}
use Rattle.gq_names.specs.Splitting.{SignedPage, part_of as law_part_of, counts}
use Rattle.gq_page.specs.Page.{Sheet}
use Rattle.gq_split.specs.Split.{part_of, is_written, counting}
use Rattle.gq_naming.specs.Standing.{Naming, Shows}

-- the names that a bucket has are those inside
abbrev pub IsInside : Naming → (has : List ℕ → Bool) → (inside : ℕ → Bool) → Type 0
IsInside names has inside = (a : List ℕ) (n : ℕ) → names.number a ≡ Some n → inside n ≡ has a

abbrev pub AllPartsShow : Type 0
AllPartsShow = (names : Naming) (s : ℕ) (has : List ℕ → Bool) (inside : ℕ → Bool) (sheet : Sheet) (page : Page) → IsInside names has inside → Shows names s sheet page →
    Shows names s (part_of has sheet) (law_part_of inside page)

-- the file of a level is the law's: both were never written, or the page shows what the law's does
abbrev pub ShowsFile : Naming → (s : ℕ) → Sheet → Option SignedPage → Type 0
ShowsFile names s sheet None = is_written sheet ≡ false
ShowsFile names s sheet (Some file) = (is_written sheet ≡ true) × Shows names s sheet file.page

abbrev pub AllCountsShow : Type 0
AllCountsShow = (names : Naming) (s : ℕ) (has : List ℕ → Bool) (inside : ℕ → Bool) (before sheet : Sheet) (page : Page) (file : Option SignedPage) → IsInside names has inside →
    Shows names s before page → ShowsFile names s sheet file → Shows names s (counting has before sheet) (counts inside file page)
