-- Parts of pages show parts.
use Rattle.std.proofs.Common.{◌≡◌, ◌∙◌, ℕ, List, [], ◌∷◌, Option, Some, None, Bool, true, false, refl, sym, ap, cond}
use Rattle.std.specs.Prelude.{if◌then◌else◌}
use Rattle.std.proofs.lemmas.Slice.Eq.{bytes_eq-Decides}
use Rattle.gq_names.specs.Names.{shown}
use Rattle.gq_names.specs.Splitting.{part_of as law_part_of}
use Rattle.gq_page.specs.declared.page.Line.{Line}
use Rattle.gq_page.specs.Page.{line_of, is_named}
use Rattle.gq_split.specs.Split.{lines_inside}
use Rattle.gq_naming.specs.Standing.{copy_of}
use Rattle.gq_splitting.specs.Parts.{AllPartsShow, AllCountsShow}

either : (b : Bool) (x : Option Line) → x ≡ (if b then x else x)
either true x = refl
either false x = refl

-- of a name that the bucket has the line is the same, of any other there is none
line_inside : (has : List ℕ → Bool) (a : List ℕ) (lines : List Line) → line_of a (lines_inside has lines) ≡ (if has a then line_of a lines else None)
line_inside has a [] = either (has a) None
line_inside has a (line ∷ lines) = by (line_inside has a lines) (is_named a line) refl (has line.name) refl
  where
    same : is_named a line ≡ true → line.name ≡ a
    same e = (bytes_eq-Decides line.name a).0 e

    by : line_of a (lines_inside has lines) ≡ (if has a then line_of a lines else None) → (named : Bool) → is_named a line ≡ named → (inside : Bool) → has line.name ≡ inside
        → line_of a (if inside then line ∷ lines_inside has lines else lines_inside has lines) ≡ (if has a then cond named (Some line) (line_of a lines) else None)
    by rest true e true h = rw (e, sym (ap has (same e)) ∙ h) refl
    by rest true e false h = rest ∙ rw (sym (ap has (same e)) ∙ h) refl
    by rest false e true h = rw e rest
    by rest false e false h = rest

pub parts_show : AllPartsShow
parts_show names s has inside sheet page within shows = record {
  lines = λ a n is. by a n is (inside n) refl;
  after = shows.after;
  number = shows.number;
}
  where
    by : (a : List ℕ) (n : ℕ) → names.number a ≡ Some n → (b : Bool) → inside n ≡ b → shown (law_part_of inside page) n ≡ copy_of names s (line_of a (lines_inside has sheet.lines))
    by a n is true e = rw (e, line_inside has a sheet.lines, sym (within a n is) ∙ e) (shows.lines a n is)
    by a n is false e = rw (e, line_inside has a sheet.lines, sym (within a n is) ∙ e) refl

pub counts_show : AllCountsShow
counts_show names s has inside before sheet page None within shows file = rw file (parts_show names s has inside before page within shows)
counts_show names s has inside before sheet page (Some new) within shows file = rw file.0 file.1
