-- What is written of pages is read again.
use Rattle.std.specs.Prelude.{◌≡◌, ℕ, ◌<◌, ◌^◌, List, ◌∷◌, ◌++◌, Bool, true, false, Some, not, ◌==◌, All, IfSome}
use Rattle.std.specs.List.{list_all}
use Rattle.gq_page.specs.declared.form.Form.TheVariants.{Begin}
use Rattle.gq_page.specs.declared.page.Line.{Line}
use Rattle.gq_page.specs.Form.{cut_from, is_said}
use Rattle.gq_page.specs.Page.{Sheet}
use Rattle.gq_page.specs.Text.{is_empty, page_text, page_of}

-- what stands before a name is told from the name, whatever spaces that has
abbrev pub SaidReadBack : Type 0
SaidReadBack = (said name : List ℕ) → is_said said ≡ true → cut_from (Some Begin) (said ++ 32 ∷ name) ≡ Some (said, name)

-- the text is in one line
abbrev pub is_one_line : List ℕ → Bool
is_one_line text = list_all (λ c. not (c == 10)) text

-- a line has a version above 0, says something, and is of a name
pub record FitsLine (line : Line) : Type 0 where
  pub some : 0 < line.version
  pub fits : line.version < 2 ^ 64
  pub said : is_said line.said ≡ true
  pub named : is_empty line.name ≡ false
  pub one : is_one_line line.name ≡ true

pub record FitsPage (page : Sheet) : Type 0 where
  pub number : page.number < 2 ^ 64
  pub after : All (λ n. n < 2 ^ 64) page.after
  pub signpost : IfSome page.signpost (λ level. level < 2 ^ 64)
  pub lines : All FitsLine page.lines

-- the text of a page is read as that page
abbrev pub PagesReadBack : Type 0
PagesReadBack = (page : Sheet) → FitsPage page → page_of (page_text page) ≡ Some page
