-- How a content is written for a person who reads it.
use Rattle.std.specs.Prelude.{ℕ, ◌+◌, ◌-◌, ◌/◌, List, [], ◌∷◌, ◌++◌, Bool, ◌&&◌, ◌==◌, nat_le, length, take, codes, decimal, if◌then◌else◌}
use Rattle.std.specs.List.{list_all}
use Rattle.hex.specs.Hex.{encode_lower}
use Rattle.gq_svg.specs.Escaping.{escaped}

-- the byte is a letter, a digit, a sign or a space of ASCII
abbrev pub is_printable : ℕ → Bool
is_printable c = nat_le 32 c && nat_le c 126

-- the bytes are a text: all are printable
abbrev pub is_text : List ℕ → Bool
is_text bytes = list_all is_printable bytes

-- the quotation mark “
abbrev pub opening : List ℕ
opening = 226 ∷ 128 ∷ 156 ∷ []

-- the quotation mark ”
abbrev pub closing : List ℕ
closing = 226 ∷ 128 ∷ 157 ∷ []

-- …, where something is left out
abbrev pub ellipsis : List ℕ
ellipsis = 226 ∷ 128 ∷ 166 ∷ []

-- the text between quotation marks
abbrev pub quoted : List ℕ → List ℕ
quoted text = opening ++ escaped text ++ closing

-- the whole content: text between quotation marks, or else two hexadecimal digits for each byte
abbrev pub content_text : List ℕ → List ℕ
content_text [] = codes "empty"
content_text (byte ∷ bytes) = if is_text (byte ∷ bytes) then quoted (byte ∷ bytes) else encode_lower (byte ∷ bytes)

-- ---- labels, which have room for so many letters

-- that of an empty content: `-` where there is little room, and nothing where there is none
abbrev pub empty_label : ℕ → List ℕ
empty_label room = if nat_le 5 room then codes "empty" else if room == 0 then [] else codes "-"

-- that of a text: the whole, or a beginning of it
abbrev pub text_label : ℕ → List ℕ → List ℕ
text_label room text = if nat_le (length text) (room - 2) then quoted text else opening ++ escaped (take (room - 2) text) ++ ellipsis

-- that of other bytes: the digits of all, or of the first ones
abbrev pub digits_label : ℕ → List ℕ → List ℕ
digits_label room bytes = if nat_le (length bytes) (room / 2) then encode_lower bytes else encode_lower (take ((room - 1) / 2) bytes) ++ ellipsis

-- that of a content
abbrev pub content_label : ℕ → List ℕ → List ℕ
content_label room [] = empty_label room
content_label room (byte ∷ bytes) = if is_text (byte ∷ bytes) then text_label room (byte ∷ bytes) else digits_label room (byte ∷ bytes)

-- the unit of so many bytes
abbrev pub unit : ℕ → List ℕ
unit n = if n == 1 then codes " byte" else codes " bytes"

-- a length in bytes
abbrev pub length_text : ℕ → List ℕ
length_text n = decimal n ++ unit n

-- its label: the number without its unit where that has no room
abbrev pub length_label : ℕ → ℕ → List ℕ
length_label room n = if nat_le (length (decimal n) + 6) room then length_text n else decimal n
