-- Bytes as one word of a line. Each byte is written as itself, except a newline, a space and a backslash: these are written as `\n`, `\040` and `\\`.
use Rattle.std.specs.Prelude.{ℕ, List, [], ◌∷◌, ◌==◌, ◌&&◌, not, Bool, Option, Some, None, if◌then◌else◌}
use Rattle.std.specs.List.{flat_map, list_all}

-- what one byte is written as
abbrev pub quote : ℕ → List ℕ
quote c =
    if c == 10 then 92 ∷ 110 ∷ []
    else if c == 32 then 92 ∷ 48 ∷ 52 ∷ 48 ∷ []
    else if c == 92 then 92 ∷ 92 ∷ []
    else c ∷ []

abbrev pub quoted : List ℕ → List ℕ
quoted bytes = flat_map quote bytes

-- a byte before others, if these are there
abbrev pub before : Option ℕ → Option (List ℕ) → Option (List ℕ)
before (Some byte) (Some bytes) = Some (byte ∷ bytes)
before _ _ = None

-- what was read of a byte that is escaped: nothing, a backslash, `\0`, `\04`
pub data Mark : Type 0 where
  Plain : Mark
  Begun : Mark
  Zero : Mark
  Four : Mark

-- the bytes that a text writes after so much of a byte that is escaped; none where it does not go on like one that is written
abbrev pub bytes_after : Mark → List ℕ → Option (List ℕ)
bytes_after Plain [] = Some []
bytes_after Begun [] = None
bytes_after Zero [] = None
bytes_after Four [] = None
bytes_after Plain (c ∷ text) = if c == 92 then bytes_after Begun text else before (Some c) (bytes_after Plain text)
bytes_after Begun (c ∷ text) =
    if c == 110 then before (Some 10) (bytes_after Plain text)
    else if c == 92 then before (Some 92) (bytes_after Plain text)
    else if c == 48 then bytes_after Zero text
    else None
bytes_after Zero (c ∷ text) = if c == 52 then bytes_after Four text else None
bytes_after Four (c ∷ text) = if c == 48 then before (Some 32) (bytes_after Plain text) else None

-- the bytes that a text writes
abbrev pub unquoted : List ℕ → Option (List ℕ)
unquoted text = bytes_after Plain text

-- no byte is a newline or a space
abbrev pub is_word : List ℕ → Bool
is_word text = list_all (λ c. not (c == 10) && not (c == 32)) text
