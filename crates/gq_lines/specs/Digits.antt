-- Hexadecimal digits as bytes, many at a time.
use Rattle.std.specs.Prelude.{ℕ, ◌+◌, ◌*◌, List, [], ◌∷◌, unwrap_or}
use Rattle.hex.specs.Hex.{hex_digit_value}

-- the value of a digit of either case, and 255 for any other byte
abbrev pub value_or_more : ℕ → ℕ
value_or_more c = unwrap_or (hex_digit_value c) 255

-- the byte of each pair of values, the first of them the high one
abbrev pub pairs_joined : List ℕ → List ℕ
pairs_joined [] = []
pairs_joined (a ∷ []) = []
pairs_joined (a ∷ b ∷ rest) = (a * 16 + b) ∷ pairs_joined rest
