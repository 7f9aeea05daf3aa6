-- What stands between the version and the name of a line: words in braces or none, and a content.
--
-- A name may have spaces. So what comes before it is read byte by byte; it ends with the first space that follows where it may end.
use Rattle.std.specs.Prelude.{ℕ, ◌+◌, List, [], ◌∷◌, Bool, true, false, ◌==◌, ◌&&◌, ◌||◌, not, nat_le, nat_lt, Option, Some, None, if◌then◌else◌}
use Rattle.gq_page.specs.declared.form.Form.{Form}
use Rattle.gq_page.specs.declared.form.Form.TheVariants.{Begin, Brace, Words, Braced, Content, Removed, Inline, Part, Size, Digest, Where, WhereDigits, Column, ColumnDigits, Owner, OwnerDigits, Chunk, ChunkDigits, More, MoreDigits, Session, SessionDigits, First, FirstDigits, Last, LastDigits}
use Rattle.gq_page.specs.declared.form.TheConstants.{DIGEST}

-- `0` to `9`
abbrev pub is_digit : ℕ → Bool
is_digit c = nat_le 48 c && nat_le c 57

-- a letter of base64url
abbrev pub is_letter : ℕ → Bool
is_letter c = is_digit c || nat_le 65 c && nat_le c 90 || nat_le 97 c && nat_le c 122 || c == 45 || c == 95

-- `!` to `z`
abbrev pub is_word : ℕ → Bool
is_word c = nat_le 33 c && nat_le c 122

-- the first byte of a content: `-`, `@`, or the first digit of a size
abbrev pub begun_content : ℕ → Option Form
begun_content c =
    if c == 45 then Some Removed
    else if c == 64 then Some (Inline 0)
    else if not (c == 48) && is_digit c then Some Size
    else None

-- behind a number: `.` and the session of a run of chunks whose column it is, `*` and the chunks of a list of this length, or a space and a strand of slots
abbrev pub behind_where : ℕ → Option Form
behind_where c =
    if c == 46 then Some Owner
    else if c == 42 then Some Column
    else if c == 32 then Some Session
    else None

-- behind a run of chunks: `;` and another one, `&` and another part
abbrev pub behind_chunks : ℕ → Option Form
behind_chunks c =
    if c == 59 then Some Column
    else if c == 38 then Some Part
    else None

-- behind a run of slots: `,` and another one, `;` and another strand, `&` and another part
abbrev pub behind_run : ℕ → Option Form
behind_run c =
    if c == 44 then Some First
    else if c == 59 then Some Session
    else if c == 38 then Some Part
    else None

-- whether it may end here
abbrev pub is_end : Form → Bool
is_end Begin = false
is_end Brace = false
is_end Words = false
is_end Braced = false
is_end Content = false
is_end Removed = true
is_end (Inline letters) = not (letters == 1)
is_end Part = false
is_end Size = false
is_end (Digest letters) = false
is_end Where = false
is_end (WhereDigits zero) = false
is_end Column = false
is_end (ColumnDigits zero) = false
is_end Owner = false
is_end (OwnerDigits zero) = false
is_end Chunk = false
is_end (ChunkDigits zero) = true
is_end More = false
is_end (MoreDigits zero) = true
is_end Session = false
is_end (SessionDigits zero) = false
is_end First = false
is_end (FirstDigits zero) = true
is_end Last = false
is_end (LastDigits zero) = true

-- what it is with one byte more
abbrev pub next_form : Form → ℕ → Option Form
next_form Begin c = if c == 123 then Some Brace else begun_content c
next_form Brace c = if is_word c then Some Words else None
next_form Words c = if is_word c then Some Words else if c == 125 then Some Braced else None
next_form Braced c = if c == 32 then Some Content else None
next_form Content c = begun_content c
next_form Removed c = None
next_form (Inline letters) c = if is_letter c then Some (Inline (if nat_lt letters 3 then letters + 1 else 0)) else None
next_form Part c = if not (c == 48) && is_digit c then Some Size else None
next_form Size c = if is_digit c then Some Size else if c == 32 then Some (Digest 0) else None
next_form (Digest letters) c =
    if nat_lt letters DIGEST
    then (if is_letter c then Some (Digest (letters + 1)) else None)
    else if c == 32 then Some Where else None
next_form Where c = if is_digit c then Some (WhereDigits (c == 48)) else None
next_form (WhereDigits zero) c = if not zero && is_digit c then Some (WhereDigits false) else behind_where c
next_form Column c = if is_digit c then Some (ColumnDigits (c == 48)) else None
next_form (ColumnDigits zero) c = if not zero && is_digit c then Some (ColumnDigits false) else if c == 46 then Some Owner else None
next_form Owner c = if is_digit c then Some (OwnerDigits (c == 48)) else None
next_form (OwnerDigits zero) c = if not zero && is_digit c then Some (OwnerDigits false) else if c == 58 then Some Chunk else None
next_form Chunk c = if is_digit c then Some (ChunkDigits (c == 48)) else None
next_form (ChunkDigits zero) c = if not zero && is_digit c then Some (ChunkDigits false) else if c == 43 then Some More else behind_chunks c
next_form More c = if is_digit c then Some (MoreDigits (c == 48)) else None
next_form (MoreDigits zero) c = if not zero && is_digit c then Some (MoreDigits false) else behind_chunks c
next_form Session c = if is_digit c then Some (SessionDigits (c == 48)) else None
next_form (SessionDigits zero) c = if not zero && is_digit c then Some (SessionDigits false) else if c == 58 then Some First else None
next_form First c = if is_digit c then Some (FirstDigits (c == 48)) else None
next_form (FirstDigits zero) c = if not zero && is_digit c then Some (FirstDigits false) else if c == 45 then Some Last else behind_run c
next_form Last c = if is_digit c then Some (LastDigits (c == 48)) else None
next_form (LastDigits zero) c = if not zero && is_digit c then Some (LastDigits false) else behind_run c

-- a byte in front of what was cut off
abbrev pub with_first : ℕ → Option (List ℕ × List ℕ) → Option (List ℕ × List ℕ)
with_first c None = None
with_first c (Some parts) = Some (c ∷ parts.0, parts.1)

-- what stands before the name, and the name, behind what was read so far
abbrev pub cut_from : Option Form → List ℕ → Option (List ℕ × List ℕ)
cut_from None text = None
cut_from (Some form) [] = None
cut_from (Some form) (c ∷ text) = if c == 32 && is_end form then Some ([], text) else with_first c (cut_from (next_form form c) text)

-- what stands before the first space, and what stands behind it
abbrev pub cut_word : List ℕ → Option (List ℕ × List ℕ)
cut_word [] = None
cut_word (c ∷ text) = if c == 32 then Some ([], text) else with_first c (cut_word text)

-- whether a text is such a thing, read to its end
abbrev pub ends_well : Option Form → List ℕ → Bool
ends_well None text = false
ends_well (Some form) [] = is_end form
ends_well (Some form) (c ∷ text) = not (c == 32 && is_end form) && ends_well (next_form form c) text

abbrev pub is_said : List ℕ → Bool
is_said text = ends_well (Some Begin) text
