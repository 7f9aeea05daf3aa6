-- A sum of 64 bits over a text, taken eight bytes at a time. It tells a text from one that a disk changed. It has no key, so it does
-- not tell it from one that somebody chose.
use Rattle.std.specs.Prelude.{ℕ, zero, suc, ◌+◌, ◌*◌, ◌/◌, ◌%◌, ◌^◌, List, [], ◌∷◌, length, bit_xor, slice_index}
use Rattle.std.specs.Int.{w64, from_le_bytes}
use Rattle.gq_sum.specs.declared.TheConstants.{FACTOR}

-- the word of the eight bytes from this place on, the low byte first; bytes after the end of the text are zeros
abbrev pub word_at : List ℕ → ℕ → ℕ
word_at text i = from_le_bytes w64
    (slice_index text i ∷ slice_index text (i + 1) ∷ slice_index text (i + 2) ∷ slice_index text (i + 3)
    ∷ slice_index text (i + 4) ∷ slice_index text (i + 5) ∷ slice_index text (i + 6) ∷ slice_index text (i + 7) ∷ [])

abbrev pub product : ℕ → ℕ → ℕ
product sum word = bit_xor sum word * FACTOR % 2 ^ 64

-- the sum after one word more
abbrev pub sum_with : ℕ → ℕ → ℕ
sum_with sum word = bit_xor (product sum word) (product sum word / 2 ^ 32)

-- the sum after so many words of the text, where this is the sum before them
unfoldable pub sum_after : ℕ → List ℕ → ℕ → ℕ
sum_after first text zero = first
sum_after first text (suc count) = sum_with (sum_after first text count) (word_at text (8 * count))

-- the sum of a number and a text: of the number, the text's length, and all its words; the last word has the bytes that are left
abbrev pub sum_of : ℕ → List ℕ → ℕ
sum_of n text = sum_after (sum_with (sum_with 0 n) (length text)) text (length text / 8 + 1)
