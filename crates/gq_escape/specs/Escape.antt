-- Bytes as one word of a line. Each byte is written as itself, except a newline, a space and a backslash: each of these is written as
-- a backslash and a letter.
use Rattle.std.specs.Prelude.{ℕ, List, [], ◌∷◌, ◌==◌, ◌&&◌, not, Bool, true, false, Option, Some, None, if◌then◌else◌}
use Rattle.std.specs.List.{flat_map, list_all}

-- what one byte is written as: `\n` for a newline, `\s` for a space, `\b` for a backslash
abbrev pub escape : ℕ → List ℕ
escape c =
    if c == 10 then 92 ∷ 110 ∷ []
    else if c == 32 then 92 ∷ 115 ∷ []
    else if c == 92 then 92 ∷ 98 ∷ []
    else c ∷ []

abbrev pub escaped : List ℕ → List ℕ
escaped bytes = flat_map escape bytes

-- the byte that a letter after a backslash writes
abbrev pub byte_of : ℕ → Option ℕ
byte_of letter =
    if letter == 110 then Some 10
    else if letter == 115 then Some 32
    else if letter == 98 then Some 92
    else None

-- a byte before others, if both are there
abbrev pub before : Option ℕ → Option (List ℕ) → Option (List ℕ)
before (Some byte) (Some bytes) = Some (byte ∷ bytes)
before _ _ = None

-- the bytes that a text writes after a backslash, or after none
abbrev pub bytes_after : (backslash : Bool) → List ℕ → Option (List ℕ)
bytes_after true [] = None
bytes_after false [] = Some []
bytes_after true (c ∷ text) = before (byte_of c) (bytes_after false text)
bytes_after false (c ∷ text) = if c == 92 then bytes_after true text else before (Some c) (bytes_after false text)

-- the bytes that a text writes; none where no such letter follows a backslash
abbrev pub unescaped : List ℕ → Option (List ℕ)
unescaped text = bytes_after false text

-- no byte is a newline or a space
abbrev pub is_word : List ℕ → Bool
is_word text = list_all (λ c. not (c == 10) && not (c == 32)) text
