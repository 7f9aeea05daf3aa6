-- Text that stands in an element or in an attribute of XML.
use Rattle.std.specs.Prelude.{ℕ, List, [], ◌∷◌, ◌++◌, Bool, ◌==◌, ◌||◌, Option, Some, None, codes, if◌then◌else◌}
use Rattle.std.specs.List.{flat_map, list_any}
use Rattle.std.specs.Str.{bytes_eq}

-- the byte, or the entity of one of the five marks of XML: `<` (60), `>` (62), `&` (38), `"` (34) and `'` (39)
abbrev pub escape : ℕ → List ℕ
escape c =
    if c == 60 then codes "&lt;"
    else if c == 62 then codes "&gt;"
    else if c == 38 then codes "&amp;"
    else if c == 34 then codes "&quot;"
    else if c == 39 then codes "&#39;"
    else c ∷ []

-- a text with entities for its marks
abbrev pub escaped : List ℕ → List ℕ
escaped text = flat_map escape text

-- ---- what a reader of XML sees

-- the bytes that an entity of this name stands for
abbrev pub entity : List ℕ → List ℕ
entity name =
    if bytes_eq name (codes "lt") then 60 ∷ []
    else if bytes_eq name (codes "gt") then 62 ∷ []
    else if bytes_eq name (codes "amp") then 38 ∷ []
    else if bytes_eq name (codes "quot") then 34 ∷ []
    else if bytes_eq name (codes "#39") then 39 ∷ []
    else []

-- the text that is read on from here, in an entity of which so much was read, or in none; an entity begins with `&` (38) and
-- ends with `;` (59)
abbrev pub read_from : Option (List ℕ) → List ℕ → List ℕ
read_from None [] = []
read_from None (c ∷ text) = if c == 38 then read_from (Some []) text else c ∷ read_from None text
read_from (Some name) [] = []
read_from (Some name) (c ∷ text) = if c == 59 then entity name ++ read_from None text else read_from (Some (name ++ c ∷ [])) text

-- the text with what its entities stand for
abbrev pub unescaped : List ℕ → List ℕ
unescaped text = read_from None text

-- a byte that ends an element or an attribute
abbrev pub is_mark : ℕ → Bool
is_mark c = (c == 60) || (c == 62) || (c == 34) || (c == 39)

-- some byte of the text is one
abbrev pub has_mark : List ℕ → Bool
has_mark text = list_any is_mark text
