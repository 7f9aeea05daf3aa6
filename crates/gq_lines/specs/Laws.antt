-- What the forms of numbers and contents mean, apart from how they are read.
use Rattle.std.specs.Prelude.{◌≡◌, ℕ, ◌<◌, ◌^◌, List, Some, decimal}
use Rattle.hex.specs.Hex.{IsBytes}
use Rattle.gq_lines.specs.Words.{number_of, long_number_of, content_of}
use Rattle.gq_lines.specs.Written.{bytes_word, content_word}

-- a number's decimal text reads as that number
abbrev pub NumbersReadBack : Type 0
NumbersReadBack = (n : ℕ) → n < 2 ^ 32 → number_of (decimal n) ≡ Some n

abbrev pub LongNumbersReadBack : Type 0
LongNumbersReadBack = (n : ℕ) → n < 2 ^ 64 → long_number_of (decimal n) ≡ Some n

-- no other text reads as a number, and none as a number past the largest
abbrev pub NumbersHaveOneForm : Type 0
NumbersHaveOneForm = (word : List ℕ) (n : ℕ) → number_of word ≡ Some n → (word ≡ decimal n) × (n < 2 ^ 32)

abbrev pub LongNumbersHaveOneForm : Type 0
LongNumbersHaveOneForm = (word : List ℕ) (n : ℕ) → long_number_of word ≡ Some n → (word ≡ decimal n) × (n < 2 ^ 64)

-- the digits of a content read as that content, and so do its bytes
abbrev pub DigitsReadBack : Type 0
DigitsReadBack = (bytes : List ℕ) → IsBytes bytes → content_of (content_word bytes) ≡ Some bytes

abbrev pub BytesReadBack : Type 0
BytesReadBack = (bytes : List ℕ) → content_of (bytes_word bytes) ≡ Some bytes
