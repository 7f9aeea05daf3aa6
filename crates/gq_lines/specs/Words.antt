-- Words, numbers and contents in a line.
use Rattle.std.specs.Prelude.{ℕ, ◌+◌, ◌-◌, ◌*◌, List, [], ◌∷◌, length, ◌==◌, ◌&&◌, nat_le, Bool, if◌then◌else◌, codes, Option, Some, None, Result, Ok, Err}
use Rattle.std.specs.List.{slice_split}
use Rattle.std.specs.Str.{bytes_eq}
use Rattle.hex.specs.declared.error.FromHexError.{FromHexError}
use Rattle.hex.specs.Hex.{decode_of}
use Rattle.gq_escape.specs.Escape.{unescaped}
use Rattle.gq_lines.specs.declared.words.TheConstants.{MOST_NUMBER}
use Rattle.gq_lines.specs.declared.long_numbers.TheConstants.{MOST_LONG}

-- a word is its bytes
abbrev pub Word : Type 0
Word = List ℕ

-- the words of a line: what stands between its spaces
abbrev pub words_of : List ℕ → List Word
words_of line = slice_split (λ c. c == 32) line

-- the words after a word, each with one space before it
abbrev pub words_after : List ℕ → List Word
words_after [] = []
words_after (c ∷ text) = words_of text

abbrev pub is_digit : ℕ → Bool
is_digit c = nat_le 48 c && nat_le c 57

-- the number that digits go on with, up to the greatest
abbrev pub number_after : (most : ℕ) → ℕ → Word → Option ℕ
number_after most n [] = Some n
number_after most n (c ∷ word) = if is_digit c && nat_le (n * 10 + (c - 48)) most then number_after most (n * 10 + (c - 48)) word else None

-- a number up to the greatest: `0`, or digits without a leading zero
unfoldable pub number_up_to : (most : ℕ) → Word → Option ℕ
number_up_to most [] = None
number_up_to most (c ∷ []) = number_after most 0 (c ∷ [])
number_up_to most (c ∷ d ∷ word) = if c == 48 then None else number_after most 0 (c ∷ d ∷ word)

-- a number of 32 bits, and one of 64
abbrev pub number_of : Word → Option ℕ
number_of word = number_up_to MOST_NUMBER word

abbrev pub long_number_of : Word → Option ℕ
long_number_of word = number_up_to MOST_LONG word

-- the bytes, where pairs of hexadecimal digits of either case write them
abbrev pub bytes_from : Result (List ℕ) FromHexError → Option (List ℕ)
bytes_from (Ok bytes) = Some bytes
bytes_from (Err fault) = None

-- `-` for the empty content, or two digits for each byte, at least two in all
unfoldable pub content_in_digits : Word → Option (List ℕ)
content_in_digits word =
    if bytes_eq word (codes "-") then Some []
    else if length word == 0 then None
    else bytes_from (decode_of word)

-- a content: such digits, or `=` and its bytes, escaped as one word
abbrev pub content_of : Word → Option (List ℕ)
content_of [] = None
content_of (c ∷ word) = if c == 61 then unescaped word else content_in_digits (c ∷ word)
