-- How words, contents and lines are written.
use Rattle.std.specs.Prelude.{◌≡◌, ℕ, List, [], ◌∷◌, ◌++◌, codes}
use Rattle.std.specs.List.{flat_map}
use Rattle.hex.specs.Hex.{encode_lower}
use Rattle.gq_escape.specs.Escape.{escaped}
use Rattle.gq_lines.specs.Words.{Word}

-- a content in hexadecimal, `-` where it is empty
abbrev pub content_word : List ℕ → Word
content_word [] = codes "-"
content_word (byte ∷ bytes) = encode_lower (byte ∷ bytes)

-- a content as its bytes, escaped as one word after `=`; `-` for the empty content
abbrev pub bytes_word : List ℕ → Word
bytes_word [] = codes "-"
bytes_word (byte ∷ bytes) = 61 ∷ escaped (byte ∷ bytes)

-- each word after one space
abbrev pub spaced : List Word → List ℕ
spaced words = flat_map (λ word. 32 ∷ word) words

-- words to the end of a line
abbrev pub ended : List Word → List ℕ
ended words = spaced words ++ 10 ∷ []

-- a first word, the other words and the end of the line
abbrev pub line_text : Word → List Word → List ℕ
line_text first words = first ++ ended words

-- the first line that a node writes: it ends a line that an earlier process left torn
abbrev pub first_text : List ℕ
first_text = line_text [] (codes "?" ∷ [])

-- a text that goes on from another
abbrev pub Extends : List ℕ → List ℕ → Type 0
Extends old new = (more : List ℕ) × (new ≡ old ++ more)
