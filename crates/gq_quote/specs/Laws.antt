-- Bytes that are written are read again.
use Rattle.std.specs.Prelude.{◌≡◌, ℕ, ◌*◌, ◌≤◌, List, length, true, Some}
use Rattle.gq_quote.specs.Quote.{quoted, unquoted, is_word}

-- bytes are read as they were written
abbrev pub BytesReadBack : Type 0
BytesReadBack = (bytes : List ℕ) → unquoted (quoted bytes) ≡ Some bytes

-- what is written has no newline and no space
abbrev pub BytesAreAWord : Type 0
BytesAreAWord = (bytes : List ℕ) → is_word (quoted bytes) ≡ true

-- each byte is written as at most four
abbrev pub AtMostFourTimes : Type 0
AtMostFourTimes = (bytes : List ℕ) → length (quoted bytes) ≤ 4 * length bytes
