-- Values in a line, one after another.
use Rattle.std.specs.Prelude.{ℕ, List, [], ◌∷◌, nat_le, Option, Some, None, if◌then◌else◌}
use Rattle.gq_tag.specs.declared.StoredCopy.{StoredCopy}
use Rattle.gq_lines.specs.Words.{Word, number_of, long_number_of, content_of}
use Rattle.gq_text.specs.Input.{◌>>=◌}

-- the number of the first word, and the words behind it
abbrev pub number_then : List Word → Option (ℕ × List Word)
number_then [] = None
number_then (w ∷ words) = do
  n ← number_of w
  Some (n, words)

-- a number of 8 bits
abbrev pub within_byte : ℕ → Option ℕ
within_byte n = if nat_le n 255 then Some n else None

abbrev pub byte_then : List Word → Option (ℕ × List Word)
byte_then [] = None
byte_then (w ∷ words) = do
  n ← number_of w
  b ← within_byte n
  Some (b, words)

-- a number of 64 bits
abbrev pub long_then : List Word → Option (ℕ × List Word)
long_then [] = None
long_then (w ∷ words) = do
  n ← long_number_of w
  Some (n, words)

-- the words are a content, and no more
abbrev pub last_content : List Word → Option (List ℕ)
last_content (w ∷ []) = content_of w
last_content _ = None

-- the words are a copy's number, session and content, and no more
unfoldable pub copy_of : List Word → Option StoredCopy
copy_of words = do
  n ← long_then words
  s ← byte_then n.1
  bytes ← last_content s.1
  Some (record { tag = record { number = n.0; session = s.0 }; bytes = bytes })

-- a value of which no word follows
abbrev pub alone : {A : Type 0} → List Word → A → Option A
alone [] value = Some value
alone (w ∷ words) value = None
