-- No more of a content is in memory than it is charged.
use Rattle.std.proofs.Common.{◌≤◌, arith}
use Rattle.gq_shelf.specs.Places.{long_at}
use Rattle.gq_shelf.specs.declared.place.Place.{Place}
use Rattle.gq_shelf.specs.declared.place.Place.TheVariants.{Fresh, Shelved}
use Rattle.gq_stock.specs.Charge.{charge_of}
use Rattle.gq_stock.specs.Memory.{fresh_at}

pub fresh_within : (place : Place) → fresh_at place ≤ charge_of (long_at place)
fresh_within (Fresh bytes) = omega arith
fresh_within (Shelved extent) = omega arith
