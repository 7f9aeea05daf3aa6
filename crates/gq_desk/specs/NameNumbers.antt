-- A word of letters as one number.
use Rattle.std.specs.Prelude.{ℕ, ◌+◌, ◌-◌, ◌*◌, List, [], ◌∷◌}

-- five bits for each letter, 1 for a to 26 for z, the first letter lowest
abbrev pub word_number : List ℕ → ℕ
word_number [] = 0
word_number (letter ∷ letters) = 32 * word_number letters + (letter - 96)
