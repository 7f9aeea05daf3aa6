-- Pages that split, as values.
use Rattle.std.specs.Prelude.{ℕ, List, [], ◌∷◌, Bool, false, ◌==◌, ◌||◌, not, length, is_some, Option, Some, None, if◌then◌else◌}
use Rattle.gq_page.specs.declared.page.Line.{Line}
use Rattle.gq_page.specs.Page.{Sheet}

-- the lines of these names
abbrev pub lines_inside : (List ℕ → Bool) → List Line → List Line
lines_inside has [] = []
lines_inside has (line ∷ lines) = if has line.name then line ∷ lines_inside has lines else lines_inside has lines

-- what a page says of them
abbrev pub part_of : (List ℕ → Bool) → Sheet → Sheet
part_of has sheet = record { number = sheet.number; after = sheet.after; signpost = None; lines = lines_inside has sheet.lines }

abbrev pub with_signpost : (level : ℕ) → Sheet → Sheet
with_signpost level sheet = record sheet { signpost = Some level }

abbrev pub without_lines : Sheet → Sheet
without_lines sheet = record sheet { lines = [] }

-- its names went on to this level
abbrev pub leads_to : (level : ℕ) → Option ℕ → Bool
leads_to level None = false
leads_to level (Some to) = to == level

abbrev pub is_split : (level : ℕ) → Sheet → Bool
is_split level sheet = leads_to level sheet.signpost

-- it says something
abbrev pub is_written : Sheet → Bool
is_written sheet = not (sheet.number == 0) || not (length sheet.after == 0) || is_some sheet.signpost || not (length sheet.lines == 0)

-- what counts for names: a page, or as long as it was not written what the one before says of them
abbrev pub counting : (List ℕ → Bool) → (before page : Sheet) → Sheet
counting has before page = if is_written page then page else part_of has before
