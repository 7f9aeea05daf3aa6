-- What the pages of all sessions say together: the page that a client saw last of each, and of its own session its journal, if it counts.
use Rattle.std.specs.Prelude.{◌≡◌, ℕ, ◌+◌, Bool, false, List, [], ◌∷◌, ◌==◌, ◌&&◌, ◌||◌, not, max, slice_get, nat_lt, Option, Some, None, option_map, if◌then◌else◌}
use Rattle.std.specs.Borrow.{Bor}
use Rattle.gq_tag.specs.declared.Tag.{Tag}
use Rattle.gq_tag.specs.Tag.{is_less, equal_tags, first_tag}
use Rattle.gq_page.specs.declared.page.Line.{Line}
use Rattle.gq_page.specs.declared.page.Page.{Page}
use Rattle.gq_page.specs.Page.{Sheet, sheet_of, new_sheet, line_of, after_of}
use Rattle.gq_client.specs.declared.view.Known.{Known}
use Rattle.gq_client.specs.declared.view.Wanted.{Wanted}
use Rattle.gq_client.specs.declared.client.Doing.{Doing}
use Rattle.gq_client.specs.declared.client.Doing.TheVariants.{Reads, Looked}
use Rattle.gq_client.specs.Changing.{version_of}

-- a page as it was seen: the tag of its file, and what it says
abbrev pub seen_of : Known → Tag × Sheet
seen_of known = (known.tag, sheet_of known.page)

-- nobody has seen it
abbrev pub IsUnseen : Known → Type 0
IsUnseen known = seen_of known ≡ (first_tag, new_sheet)

abbrev pub page_in : Option (Bor Page) → Option Page
page_in journal = option_map (λ page. page.now) journal

-- what counts of the page of session t
abbrev pub page_at : (t own : ℕ) → Option Page → Known → Page
page_at t own None known = known.page
page_at t own (Some journal) known = if t == own then journal else known.page

-- the greatest number that pages from session k on ask of session t, or the one from before
abbrev pub most_from : (k own : ℕ) → Option Page → (t : ℕ) → List Known → ℕ → ℕ
most_from k own journal t [] most = most
most_from k own journal t (known ∷ seen) most = most_from (k + 1) own journal t seen (max (after_of (sheet_of (page_at k own journal known)) t) most)

-- the pages from session k on of which a later number is asked for, by any
abbrev pub wanted_from : (k own : ℕ) → Option Page → (all seen : List Known) → List Wanted
wanted_from k own journal all [] = []
wanted_from k own journal all (known ∷ seen) =
    if nat_lt (page_at k own journal known).number (most_from 0 own journal k all 0)
    then record { session = k; number = most_from 0 own journal k all 0 } ∷ wanted_from (k + 1) own journal all seen
    else wanted_from (k + 1) own journal all seen

-- the line of a name that counts of the page of session t, with its version
abbrev pub line_at : (t own : ℕ) → Option Page → (name : List ℕ) → Known → Option (Tag × Line)
line_at t own journal name known = option_map (λ line. (version_of t line, line)) (line_of name (page_at t own journal known).lines.items)

abbrev pub later_line : Option (Tag × Line) → Option (Tag × Line) → Option (Tag × Line)
later_line None b = b
later_line (Some x) None = Some x
later_line (Some x) (Some y) = if is_less y.0 x.0 then Some x else Some y

-- the greatest of these from session k on, or the one from before
abbrev pub shown_from : (k own : ℕ) → Option Page → (name : List ℕ) → List Known → Option (Tag × Line) → Option (Tag × Line)
shown_from k own journal name [] best = best
shown_from k own journal name (known ∷ seen) best = shown_from (k + 1) own journal name seen (later_line best (line_at k own journal name known))

-- a tag that was told is this one
abbrev pub is_tag : Option (Option Tag) → Tag → Bool
is_tag None tag = false
is_tag (Some None) tag = false
is_tag (Some (Some told)) tag = equal_tags told tag

-- the pages from session k on whose tags are not the known ones, that of session s among them or not
abbrev pub left_from : (k : ℕ) → (own : Bool) → (s : ℕ) → List (Option Tag) → List Known → List Wanted
left_from k own s tags [] = []
left_from k own s tags (known ∷ seen) =
    if (own || not (k == s)) && not (is_tag (slice_get tags k) known.tag)
    then record { session = k; number = 0 } ∷ left_from (k + 1) own s tags seen
    else left_from (k + 1) own s tags seen

-- these pages are read, the last one next
abbrev pub ReadsThese : (own : Bool) → List Wanted → Doing → Type 0
ReadsThese own left (Reads o list) = (o ≡ own) × (list.items ≡ left)
ReadsThese own left _ = ⊥

-- those that are left; then those that are asked for; and where there are none, all has been looked at
abbrev pub GoesOnTo : (own : Bool) → (left wanted : List Wanted) → Doing → Type 0
GoesOnTo own (l ∷ left) wanted doing = ReadsThese own (l ∷ left) doing
GoesOnTo own [] (w ∷ wanted) doing = ReadsThese own (w ∷ wanted) doing
GoesOnTo own [] [] doing = doing ≡ Looked own
