-- No place of a shelf is used twice.
use Rattle.std.proofs.Common.{ℕ, ◌≤◌, List, [], ◌∷◌, arith}
use Rattle.gq_shelf.specs.declared.extent.Extent.{Extent}
use Rattle.gq_shelf.specs.Extents.{begins, ends}
use Rattle.gq_shelf.specs.Apart.{PutFrom, Behind, NoPlaceTwice}

through : (a b c : ℕ) → a ≤ b → b ≤ c → a ≤ c
through a b c below above = omega arith

no_shorter : (extent : Extent) → begins extent ≤ ends extent
no_shorter extent = omega arith

-- what begins behind a later place begins behind an earlier one
behind_earlier : (earlier later : ℕ) (extents : List Extent) → earlier ≤ later → Behind later extents → Behind earlier extents
behind_earlier earlier later [] order behind = tt
behind_earlier earlier later (extent ∷ extents) order behind =
    (through earlier later (begins extent) order behind.0, behind_earlier earlier later extents order behind.1)

all_behind : (end : ℕ) (extents : List Extent) → PutFrom end extents → Behind end extents
all_behind end [] put = tt
all_behind end (extent ∷ extents) put =
    let long : end ≤ ends extent = through end (begins extent) (ends extent) put.0 (no_shorter extent) in
    (put.0, behind_earlier end put.1.0 extents (through end (ends extent) put.1.0 long put.1.1.0) (all_behind put.1.0 extents put.1.1.1))

pub no_place_twice : NoPlaceTwice
no_place_twice end [] put = tt
no_place_twice end (extent ∷ extents) put =
    (behind_earlier (ends extent) put.1.0 extents put.1.1.0 (all_behind put.1.0 extents put.1.1.1), no_place_twice put.1.0 extents put.1.1.1)
