-- The form of a journal.
use Rattle.std.specs.Prelude.{ℕ, List, [], ◌∷◌, Option, None, codes, if◌then◌else◌}
use Rattle.std.specs.Str.{bytes_eq}
use Rattle.gq_lines.specs.Words.{Word, words_of, number_of}
use Rattle.gq_journal.specs.Batches.{Line, whole_lines}

-- the form that a line of these words tells: its first word is `journal`, and its second one the form's number
unfoldable pub form_by : List Word → Option ℕ
form_by (word ∷ form ∷ words) = if bytes_eq word (codes "journal") then number_of form else None
form_by _ = None

-- the form that a journal of these lines says it has: its first line tells it. One of the first form says none
abbrev pub form_in : List Line → Option ℕ
form_in [] = None
form_in (line ∷ lines) = form_by (words_of line)

abbrev pub form_of : List ℕ → Option ℕ
form_of journal = form_in (whole_lines journal)
