-- What becomes of the lines of a page with a change, and which pages are asked for, of a client that has seen the pages of all sessions.
use Rattle.std.specs.Prelude.{◌≡◌, ℕ, ◌+◌, List, [], ◌∷◌, ◌++◌, map, slice_index, Bool, true, false, ◌==◌, ◌&&◌, ◌||◌, not, max, nat_le, nat_lt, Option, Some, None, option_map, if◌then◌else◌}
use Rattle.std.specs.List.{list_any}
use Rattle.std.specs.Option.{option_to_list}
use Rattle.gq_tag.specs.declared.Tag.{Tag}
use Rattle.gq_tag.specs.Tag.{is_less}
use Rattle.gq_page.specs.declared.page.Line.{Line}
use Rattle.gq_page.specs.Page.{Sheet, sheet_of, line_of, after_of, is_named, is_removal}
use Rattle.gq_client.specs.declared.view.Known.{Known}
use Rattle.gq_client.specs.declared.changing.NewLine.{NewLine}
use Rattle.gq_client.specs.declared.changing.Fate.{Fate}
use Rattle.gq_client.specs.declared.changing.Fate.TheVariants.{Stays, Goes, Beaten, Forgotten}

abbrev pub version_of : (s : ℕ) → Line → Tag
version_of s line = record { number = line.version; session = s }

-- the version of the line of a name that the page of session s shows, where this is another one
abbrev pub beside : (s own : ℕ) → (name : List ℕ) → Known → Option Tag
beside s own name known = if s == own then None else option_map (version_of s) (line_of name known.page.lines.items)

abbrev pub later_of : Option Tag → Option Tag → Option Tag
later_of None b = b
later_of (Some x) None = Some x
later_of (Some x) (Some y) = if is_less y x then Some x else Some y

-- the greatest of these, of the pages from session s on, and of one from before
abbrev pub greatest_from : (s own : ℕ) → (name : List ℕ) → List Known → Option Tag → Option Tag
greatest_from s own name [] best = best
greatest_from s own name (known ∷ seen) best = greatest_from (s + 1) own name seen (later_of best (beside s own name known))

-- each other page from session s on was made beside one of the own session with this number, or a later one
abbrev pub all_know_from : (s own number : ℕ) → List Known → Bool
all_know_from s own number [] = true
all_know_from s own number (known ∷ seen) = (s == own || nat_le number (after_of (sheet_of known.page) own)) && all_know_from (s + 1) own number seen

-- beaten by a greater one; forgotten where no other page shows one
abbrev pub fate_by : List Known → (own : ℕ) → Line → Option Tag → Fate
fate_by seen own line (Some version) = if is_less (version_of own line) version then Beaten version.session else Stays
fate_by seen own line None = if is_removal line && all_know_from 0 own line.version seen then Forgotten else Stays

abbrev pub fate_beside : List Known → (own : ℕ) → Line → Fate
fate_beside seen own line = fate_by seen own line (greatest_from 0 own line.name seen None)

abbrev pub stays : Fate → Bool
stays Stays = true
stays Goes = false
stays (Beaten by) = false
stays Forgotten = false

-- it goes only where the page of session t is seen from then on as it was seen now
abbrev pub asks_for : (own t : ℕ) → Fate → Bool
asks_for own t Stays = false
asks_for own t Goes = false
asks_for own t (Beaten by) = t == by
asks_for own t Forgotten = not (t == own)

abbrev pub is_changed : Option (List ℕ) → Line → Bool
is_changed None line = false
is_changed (Some name) line = is_named name line

abbrev pub is_among : List (List ℕ) → Line → Bool
is_among names line = list_any (λ name. is_named name line) names

-- with a change of the name, with which lines of other names go besides
abbrev pub fate_of : List Known → (own : ℕ) → Option (List ℕ) → List (List ℕ) → Line → Fate
fate_of seen own name besides line =
    if is_changed name line then Goes
    else if stays (fate_beside seen own line) && is_among besides line then Goes
    else fate_beside seen own line

-- the lines that stay
abbrev pub kept_by : List Line → List Fate → List Line
kept_by [] fates = []
kept_by (line ∷ lines) [] = []
kept_by (line ∷ lines) (fate ∷ fates) = if stays fate then line ∷ kept_by lines fates else kept_by lines fates

-- the greatest number of removals, or the one from before
abbrev pub latest_removal : ℕ → List Line → ℕ
latest_removal latest [] = latest
latest_removal latest (line ∷ lines) = latest_removal (if is_removal line then max line.version latest else latest) lines

-- the page shows a removal that the journal does not say it was made beside
abbrev pub unknown : (t own : ℕ) → Sheet → Known → Bool
unknown t own journal known = not (t == own) && nat_lt (after_of journal t) (latest_removal 0 known.page.lines.items)

-- the number that the page of session t is to have at least from then on
abbrev pub asked_after : (own : ℕ) → Sheet → List Fate → (t : ℕ) → Known → ℕ
asked_after own journal fates t known =
    if list_any (asks_for own t) fates || unknown t own journal known
    then max known.page.number (after_of journal t)
    else after_of journal t

-- the highest number of the other pages from session s on, or the one from before
abbrev pub highest_from : (s own : ℕ) → List Known → ℕ → ℕ
highest_from s own [] highest = highest
highest_from s own (known ∷ seen) highest = highest_from (s + 1) own seen (if s == own then highest else max known.page.number highest)

abbrev pub highest_seen : List Known → (own : ℕ) → Sheet → ℕ
highest_seen seen own journal = highest_from 0 own seen journal.number

-- those of all sessions, from session t on
abbrev pub after_from : (t own : ℕ) → Sheet → List Fate → List Known → List ℕ
after_from t own journal fates [] = []
after_from t own journal fates (known ∷ seen) = asked_after own journal fates t known ∷ after_from (t + 1) own journal fates seen

-- what is to be said of a name, if anything
abbrev pub said_in : Option NewLine → Option (List ℕ × List ℕ)
said_in None = None
said_in (Some new) = Some (new.name, new.said)

abbrev pub new_line : (number : ℕ) → Option (List ℕ × List ℕ) → Option Line
new_line number None = None
new_line number (Some parts) = Some (record { version = number; said = parts.1; name = parts.0 })

abbrev pub name_said : Option (List ℕ × List ℕ) → Option (List ℕ)
name_said line = option_map (λ parts. parts.0) line

-- The page is the journal with that number: the lines that stay, and the new one on top; and after the numbers of the pages that are asked for
pub record IsChanged (seen : List Known) (own : ℕ) (journal : Sheet) (number : ℕ) (line : Option (List ℕ × List ℕ)) (besides : List (List ℕ)) (page : Sheet) : Type 0 where
  pub number_is : page.number ≡ number
  pub signpost : page.signpost ≡ journal.signpost
  pub lines : page.lines ≡ kept_by journal.lines (map (fate_of seen own (name_said line) besides) journal.lines) ++ option_to_list (new_line number line)
  pub after : (t : ℕ) → after_of page t ≡ slice_index (after_from 0 own journal (map (fate_of seen own (name_said line) besides) journal.lines) seen) t
