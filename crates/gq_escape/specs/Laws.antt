-- Bytes that are written are read again.
use Rattle.std.specs.Prelude.{◌≡◌, ℕ, ◌*◌, ◌≤◌, List, length, true, Some}
use Rattle.gq_escape.specs.Escape.{escaped, unescaped, is_word}

-- bytes are read as they were written
abbrev pub BytesReadBack : Type 0
BytesReadBack = (bytes : List ℕ) → unescaped (escaped bytes) ≡ Some bytes

-- what is written has no newline and no space
abbrev pub BytesAreAWord : Type 0
BytesAreAWord = (bytes : List ℕ) → is_word (escaped bytes) ≡ true

-- each byte is written as at most two
abbrev pub AtMostTwice : Type 0
AtMostTwice = (bytes : List ℕ) → length (escaped bytes) ≤ 2 * length bytes
