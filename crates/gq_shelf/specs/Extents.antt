-- Where extents lie on a shelf, and of which bytes they can be.
use Rattle.std.specs.Prelude.{◌≡◌, ℕ, ◌+◌, ◌*◌, ◌^◌, List, length}
use Rattle.gq_sum.specs.Sums.{sum_of}
use Rattle.gq_shelf.specs.declared.extent.Extent.{Extent}

-- a place of a segment, as one number: all places of a segment are before those of the next
abbrev pub place_of : ℕ → ℕ → ℕ
place_of segment at = segment * 2 ^ 64 + at

-- the place of its first byte
abbrev pub begins : Extent → ℕ
begins extent = place_of extent.segment extent.at

-- the place behind its last byte
abbrev pub ends : Extent → ℕ
ends extent = place_of extent.segment (extent.at + extent.len)

-- the bytes have the number and the sum that the extent says
pub record Describes (extent : Extent) (bytes : List ℕ) : Type 0 where
  pub long : extent.len ≡ length bytes
  pub summed : extent.sum ≡ sum_of extent.at bytes
