-- No place of a shelf is used twice.
use Rattle.std.specs.Prelude.{ℕ, ◌≤◌, List, [], ◌∷◌, ⊤}
use Rattle.gq_shelf.specs.declared.extent.Extent.{Extent}
use Rattle.gq_shelf.specs.Extents.{begins, ends}

-- these were put one after another by a shelf with this end: each begins there or later, and ends where the shelf's end is then, or before
abbrev pub PutFrom : ℕ → List Extent → Type 0
PutFrom end [] = ⊤
PutFrom end (extent ∷ extents) = (end ≤ begins extent) × ((later : ℕ) × ((ends extent ≤ later) × PutFrom later extents))

-- all of these begin there or later
abbrev pub Behind : ℕ → List Extent → Type 0
Behind place [] = ⊤
Behind place (extent ∷ extents) = (place ≤ begins extent) × Behind place extents

-- each of these ends before all that were put later begin
abbrev pub Apart : List Extent → Type 0
Apart [] = ⊤
Apart (extent ∷ extents) = Behind (ends extent) extents × Apart extents

-- whatever was put, no byte of it lies where one that was put earlier does
abbrev pub NoPlaceTwice : Type 0
NoPlaceTwice = (end : ℕ) (extents : List Extent) → PutFrom end extents → Apart extents
