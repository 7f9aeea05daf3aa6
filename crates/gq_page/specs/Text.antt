-- The text of pages and journals, which have one form.
use Rattle.std.specs.Prelude.{ℕ, List, [], ◌∷◌, ◌++◌, Bool, false, ◌==◌, ◌&&◌, codes, decimal, length, take, drop, nat_lt, map, Option, Some, None, option_and_then, if◌then◌else◌}
use Rattle.std.specs.List.{flat_map}
use Rattle.std.specs.Str.{bytes_eq}
use Rattle.gq_lines.specs.Words.{Word, words_of, long_number_of}
use Rattle.gq_lines.specs.Lines.{lines_of}
use Rattle.gq_lines.specs.Written.{ended}
use Rattle.gq_page.specs.declared.form.Form.TheVariants.{Begin}
use Rattle.gq_page.specs.declared.page.Line.{Line}
use Rattle.gq_page.specs.Form.{cut_from, cut_word}
use Rattle.gq_page.specs.Page.{Sheet, new_sheet}

-- ---- written

-- `VERSION SAID NAME`, and a newline
abbrev pub line_text : Line → List ℕ
line_text line = decimal line.version ++ 32 ∷ (line.said ++ 32 ∷ (line.name ++ 10 ∷ []))

-- `names 2 NUMBER AFTER ..`, and the lines
abbrev pub head_words : Sheet → List Word
head_words sheet = codes "2" ∷ decimal sheet.number ∷ map decimal sheet.after

-- `>999999999999 0-65535 level`, and the level: a signpost of a fleet, by a move above all others, for all slices
abbrev pub sign : List ℕ
sign = codes ">999999999999 0-65535 level"

abbrev pub signpost_text : Option ℕ → List ℕ
signpost_text None = []
signpost_text (Some level) = (sign ++ decimal level) ++ 10 ∷ []

abbrev pub page_text : Sheet → List ℕ
page_text sheet = (codes "names" ++ ended (head_words sheet)) ++ (signpost_text sheet.signpost ++ flat_map line_text sheet.lines)

-- ---- read

-- the second value, where the first is there
infixl 10 ◌>>=◌
abbrev ◌>>=◌ : {A B : Type 0} → Option A → (A → Option B) → Option B
value >>= next = option_and_then next value

abbrev pub is_empty : List ℕ → Bool
is_empty text = length text == 0

-- a value before others, if they are there
abbrev pub onto : {A : Type 0} → A → Option (List A) → Option (List A)
onto x None = None
onto x (Some xs) = Some (x ∷ xs)

abbrev pub numbers_of : List Word → Option (List ℕ)
numbers_of [] = Some []
numbers_of (word ∷ words) = long_number_of word >>= λ number. onto number (numbers_of words)

-- a line of this version, of which the rest was cut into what it says and its name
abbrev pub line_cut : (version : ℕ) → Option (List ℕ × List ℕ) → Option Line
line_cut version None = None
line_cut version (Some parts) = if is_empty parts.1 then None else Some (record { version = version; said = parts.0; name = parts.1 })

abbrev pub line_said : (version : ℕ) → List ℕ → Option Line
line_said version text = line_cut version (cut_from (Some Begin) text)

-- the same, cut behind the word of its version
abbrev pub line_by : Option (List ℕ × List ℕ) → Option Line
line_by None = None
line_by (Some parts) = long_number_of parts.0 >>= λ version. if version == 0 then None else line_said version parts.1

abbrev pub line_of_text : List ℕ → Option Line
line_of_text text = line_by (cut_word text)

abbrev pub lines_said : List (List ℕ) → Option (List Line)
lines_said [] = Some []
lines_said (text ∷ texts) = line_of_text text >>= λ line. onto line (lines_said texts)

-- the level at which names went on, by a line that is a signpost to it
abbrev pub is_signpost : List ℕ → Bool
is_signpost [] = false
is_signpost (c ∷ text) = c == 62

abbrev pub signpost_of : List ℕ → Option ℕ
signpost_of text = if nat_lt (length text) 27 then None else if bytes_eq (take 27 text) sign then long_number_of (drop 27 text) else None

abbrev pub with_others : {A : Type 0} → A → Option ℕ → Option (Option ℕ × A)
with_others others None = None
with_others others (Some level) = Some (Some level, others)

-- the signpost, if the first of these lines is one, and the other lines
abbrev pub signpost_cut : List (List ℕ) → Option (Option ℕ × List (List ℕ))
signpost_cut [] = Some (None, [])
signpost_cut (text ∷ texts) = if is_signpost text then with_others texts (signpost_of text) else Some (None, text ∷ texts)

-- the page of the words of its first line behind `names 2`, and its other lines
abbrev pub page_said : List Word → List (List ℕ) → Option Sheet
page_said [] texts = None
page_said (word ∷ words) texts = do
  number ← long_number_of word
  after ← numbers_of words
  cut ← signpost_cut texts
  lines ← lines_said cut.1
  Some (record { number = number; after = after; signpost = cut.0; lines = lines })

unfoldable pub page_headed : List Word → List (List ℕ) → Option Sheet
page_headed (first ∷ second ∷ words) texts = if bytes_eq first (codes "names") && bytes_eq second (codes "2") then page_said words texts else None
page_headed _ texts = None

abbrev pub page_by : List (List ℕ) → Option Sheet
page_by [] = None
page_by (head ∷ texts) = page_headed (words_of head) texts

-- the text ends with a newline
abbrev pub ends_a_line : List ℕ → Bool
ends_a_line [] = false
ends_a_line (c ∷ []) = c == 10
ends_a_line (c ∷ d ∷ text) = ends_a_line (d ∷ text)

-- the page that a text is: that of a session that has said nothing where it is empty
abbrev pub page_of : List ℕ → Option Sheet
page_of [] = Some new_sheet
page_of (c ∷ text) = if ends_a_line (c ∷ text) then page_by (lines_of (c ∷ text)) else None
