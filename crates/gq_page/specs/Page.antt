-- Pages as values.
use Rattle.std.specs.Prelude.{ℕ, List, [], Bool, codes, find, Option, None, slice_index, length, drop, ◌-◌, nat_lt, if◌then◌else◌}
use Rattle.std.specs.Str.{bytes_eq}
use Rattle.gq_page.specs.declared.page.Line.{Line}
use Rattle.gq_page.specs.declared.page.Page.{Page}

-- what a page says: the number of its latest change, after which numbers other pages are to be seen beside it, at which level of pages its names
-- went on, if they did, and its lines
pub record Sheet : Type 0 where
  pub number : ℕ
  pub after : List ℕ
  pub signpost : Option ℕ
  pub lines : List Line

abbrev pub sheet_of : Page → Sheet
sheet_of page = record { number = page.number; after = page.after.items; signpost = page.signpost; lines = page.lines.items }

-- that of a session that has said nothing
abbrev pub new_sheet : Sheet
new_sheet = record { number = 0; after = []; signpost = None; lines = [] }

abbrev pub is_named : List ℕ → Line → Bool
is_named name line = bytes_eq line.name name

-- `-`, with words in braces before it or none
abbrev pub says_nothing : List ℕ → Bool
says_nothing said = if nat_lt (length said) 3 then bytes_eq said (codes "-") else bytes_eq (drop (length said - 3) said) (codes "} -")

-- at this version the name was removed
abbrev pub is_removal : Line → Bool
is_removal line = says_nothing line.said

-- the first line of a name
abbrev pub line_of : List ℕ → List Line → Option Line
line_of name lines = find (is_named name) lines

-- the number that the page of a session is to have at least
abbrev pub after_of : Sheet → ℕ → ℕ
after_of sheet session = slice_index sheet.after session
