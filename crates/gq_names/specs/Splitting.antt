-- Pages that split: names go on to more pages, level by level, while they are used.
--
-- Each session has a page of *level* 0, and its journal. Later it is given more pages, of level 1, of level 2 and so on; there is no last level. Of each level one page
-- has the names that are *inside* there; the others have pages of their own, of which nothing is said here. A session *splits* its own page of a level: it puts a
-- *signpost* into the journal, and then into the page. From then on no line of these changes. Only then it writes its journal of the next level, which begins with what
-- the one before has of the names inside. It splits its page when it likes, and that of the next level too.
--
-- Of each session one page counts for these names. Go from level to level as long as a page shows the signpost. The page where that ends counts, if it was written; if
-- not, what the one before has of the names inside.
--
-- Who looks reads the page of level 0 first. Where a page shows the signpost he reads the one of the next level, at any later moment. Whatever anybody saw of a page since
-- it has the signpost he may take for that, if it was never written. And once it was written, the session may take the lines out of the page before: it *clears* it.
--
-- Writes may be late, and clients die, as in `specs/Names`, whose pages, journals, clients and readers are used here.
--
-- There are any number of levels, and not two: two do not simply compose, since the new page of one split has a signpost of its own at the next. But of each session
-- only the files of the last level that it went on to still change what counts, so one proof serves each level.
use Rattle.std.specs.Prelude.{ℕ, zero, suc, ◌+◌, List, [], ◌∷◌, ◌++◌, Bool, true, false, ◌==◌, ◌&&◌, ◌||◌, not, nat_lt, Option, Some, None, slice_get, map, fold, if◌then◌else◌, ◌≡◌}
use Rattle.std.specs.List.{range_with_len}
use Rattle.gq_tag.specs.Tag.{first_copy}
use Rattle.gq_laws.specs.declared.ops.Kind.TheVariants.{Write as Writes, Read as Reads}
use Rattle.gq_laws.specs.declared.ops.Op.{Op}
use Rattle.gq_laws.specs.Operations.{Legal}
use Rattle.gq_laws.specs.Orders.{order}
use Rattle.gq_names.specs.Names.{Setting, Page, Journal, Change, Client, Knows, Looks, Announces, Carries, Reader, Idle, Searches, new_page, new_journal, no_op, no_page, none_seen, and_page, and_seen, has_seen, changed, new_line, highest, tidying, greatest_shown, version_told, behind}

-- which names are inside, at each level
abbrev pub Levels : Type 0
Levels = (level name : ℕ) → Bool

-- ---- what stands in files

pub record SignedPage : Type 0 where
  pub page : Page
  pub signed : Bool

pub record SignedJournal : Type 0 where
  pub journal : Journal
  pub signed : Bool

-- what a page has of the names inside
abbrev pub part_of : (inside : ℕ → Bool) → Page → Page
part_of inside page = record page { line = λ n. if inside n then page.line n else first_copy; gone = λ n. inside n && page.gone n }

abbrev pub part_of_journal : (inside : ℕ → Bool) → Journal → Journal
part_of_journal inside journal = record journal { page = part_of inside journal.page }

-- it was written, and shows the signpost
abbrev pub shows_signpost : Option SignedPage → Bool
shows_signpost None = false
shows_signpost (Some page) = page.signed

abbrev pub has_signpost : Option SignedJournal → Bool
has_signpost None = false
has_signpost (Some journal) = journal.signed

-- what counts at a level: its page, or as long as that was not written what the one before has of the names inside
abbrev pub counts : (inside : ℕ → Bool) → Option SignedPage → (before : Page) → Page
counts inside None before = part_of inside before
counts inside (Some page) before = page.page

-- the same of journals
abbrev pub begun_with : (inside : ℕ → Bool) → Option SignedJournal → (before : Journal) → Journal
begun_with inside None before = part_of_journal inside before
begun_with inside (Some journal) before = journal.journal

abbrev pub is_written : {A : Type 0} → Option A → Bool
is_written None = false
is_written (Some x) = true

-- ---- what clients do

pub data Hand : Type 0 where
  -- it has seen the signpost in its own page of the level before, or it begins: it is to read its journal of this level
  GoesOn : (level : ℕ) → Hand
  -- its client acts at this level. It knows the journal with the signpost, or without
  At : (level : ℕ) (signed : Bool) (client : Client) → Hand

abbrev pub level_of : Hand → ℕ
level_of (GoesOn level) = level
level_of (At level signed client) = level

-- what is done beside, to take lines out of a page with the signpost
pub data Clearing : Type 0 where
  Rests : Clearing
  -- it writes the journal so
  ClearsJournal : (journal : Journal) → Clearing
  -- that was answered: it writes the page
  ClearsPage : (journal : Journal) → Clearing

-- a session's files of one level, with writes that are pending; a file is None until it is written
pub record LevelFiles : Type 0 where
  pub journal : Option SignedJournal
  pub journal_pending : List SignedJournal
  pub page : Option SignedPage
  pub page_pending : List SignedPage

pub record Files : Type 0 where
  pub level : ℕ → LevelFiles
  pub hand : Hand
  -- what its client knows of its journals of the levels that it went on from, and how far these are cleared
  pub known : (level : ℕ) → Journal
  pub clearing : (level : ℕ) → Clearing

pub record SplitWorld : Type 0 where
  pub now : ℕ
  pub begun : ℕ
  pub op : ℕ → Op
  pub session : ℕ → Files
  pub reader : ℕ → Reader
  -- what anybody saw of a session's page of the level before, since it has the signpost: what this level begins with
  pub signs : (session level : ℕ) → List Page

abbrev pub no_files : LevelFiles
no_files = record { journal = None; journal_pending = []; page = None; page_pending = [] }

abbrev pub new_files : Files
new_files = record { level = λ k. no_files; hand = GoesOn 0; known = λ k. new_journal; clearing = λ k. Rests }

-- nothing stands before level 0
abbrev pub first_signs : (level : ℕ) → List Page
first_signs zero = new_page ∷ []
first_signs (suc level) = []

abbrev pub first_world : SplitWorld
first_world = record { now = 0; begun = 0; op = λ i. no_op; session = λ s. new_files; reader = λ r. Idle; signs = λ s. first_signs }

-- ---- steps

pub data SplitStep : Type 0 where
  -- a new client of the session begins; the one before is dead
  StartsAnew : (session : ℕ) → SplitStep
  -- it reads its journal of the level that it has come to
  EntersLevel : (session : ℕ) → SplitStep
  -- the pending write at this place takes effect
  LevelJournalLate : (session level place : ℕ) → SplitStep
  LevelPageLate : (session level place : ℕ) → SplitStep
  -- its client begins to put this under the name, which is inside at its level. Or it begins a change of no name
  Puts : (session name : ℕ) (bytes : List ℕ) → SplitStep
  TidiesUp : (session : ℕ) → SplitStep
  -- it reads a session's page of a level, behind what was seen of the one before with the signpost. If it shows the signpost too, it only takes notice
  SeesLevel : (session other level sign : ℕ) → SplitStep
  -- it has read all, and chooses, as in `specs/Names`
  ChoosesLine : (session more : ℕ) (goes : (name : ℕ) → Bool) (asks : (session : ℕ) → Bool) → SplitStep
  -- it asks for the write that it has to do, and is answered, or not
  HandWrites : (session : ℕ) (answered : Bool) → SplitStep
  -- it looks at its own page. Without the signpost there, it is to write that: into the journal, then into the page. With it, or where the journal of the next level
  -- was written, it goes on
  Signs : (session : ℕ) → SplitStep
  -- beside, it begins to take these lines out of its page of a level that it went on from: those of other names, and once the next page was written those inside there
  Clears : (session level : ℕ) (goes : (name : ℕ) → Bool) → SplitStep
  ClearingWrites : (session level : ℕ) (answered : Bool) → SplitStep
  -- somebody begins to get the watched name, reads pages, and tells what the name holds once he has read all
  AsksFor : (reader : ℕ) → SplitStep
  FindsLevel : (reader session level sign : ℕ) → SplitStep
  TellsOf : (reader : ℕ) → SplitStep

-- ---- parts of steps

abbrev pub with_files : ℕ → Files → SplitWorld → SplitWorld
with_files s x w = record w { session = λ t. if t == s then x else w.session t }

abbrev pub with_asker : ℕ → Reader → SplitWorld → SplitWorld
with_asker r x w = record w { reader = λ t. if t == r then x else w.reader t }

abbrev pub with_split_op : ℕ → Op → SplitWorld → SplitWorld
with_split_op k a w = record w { op = λ i. if i == k then a else w.op i }

abbrev pub with_next_op : Op → SplitWorld → SplitWorld
with_next_op a w = record (with_split_op w.begun a w) { begun = w.begun + 1 }

abbrev pub with_version : Setting → Journal → Option ℕ → SplitWorld → SplitWorld
with_version v x None w = w
with_version v x (Some k) w = with_split_op k (record (w.op k) { tag = Some (x.page.line v.name).tag }) w

abbrev pub with_ended : Option ℕ → SplitWorld → SplitWorld
with_ended None w = w
with_ended (Some k) w = with_split_op k (record (w.op k) { end = Some w.now }) w

-- somebody saw this, with which a level of the session begins
abbrev pub with_sign : (t level : ℕ) → Page → SplitWorld → SplitWorld
with_sign t level page w = record w { signs = λ s k. if s == t then (if k == level then page ∷ w.signs s k else w.signs s k) else w.signs s k }

-- a session with other files of a level, another hand, and so on
abbrev pub with_level : ℕ → LevelFiles → Files → Files
with_level level z x = record x { level = λ k. if k == level then z else x.level k }

abbrev pub with_known : ℕ → Journal → Files → Files
with_known level journal x = record x { known = λ k. if k == level then journal else x.known k }

abbrev pub with_clearing : ℕ → Clearing → Files → Files
with_clearing level clearing x = record x { clearing = λ k. if k == level then clearing else x.clearing k }

abbrev pub with_hand : ℕ → Hand → SplitWorld → SplitWorld
with_hand s hand w = with_files s (record (w.session s) { hand = hand }) w

-- what a level begins with, as far as its client knows
abbrev pub known_before : (known : (level : ℕ) → Journal) → (level : ℕ) → Journal
known_before known zero = new_journal
known_before known (suc level) = known level

-- ---- writes that were pending

abbrev pub level_journal_late : SplitWorld → (s level place : ℕ) → Option SignedJournal → SplitWorld
level_journal_late w s level place None = w
level_journal_late w s level place (Some j) =
    with_files s (with_level level (record ((w.session s).level level) { journal = Some j; journal_pending = behind ((w.session s).level level).journal_pending place }) (w.session s)) w

abbrev pub level_page_late : SplitWorld → (s level place : ℕ) → Option SignedPage → SplitWorld
level_page_late w s level place None = w
level_page_late w s level place (Some p) =
    with_files s (with_level level (record ((w.session s).level level) { page = Some p; page_pending = behind ((w.session s).level level).page_pending place }) (w.session s)) w

-- ---- it goes on, level by level

abbrev pub enters_by : Levels → SplitWorld → (s : ℕ) → Hand → SplitWorld
enters_by inside w s (GoesOn level) =
    with_hand s (At level (has_signpost ((w.session s).level level).journal) (Knows (begun_with (inside level) ((w.session s).level level).journal (known_before (w.session s).known level)))) w
enters_by inside w s _ = w

abbrev pub signs_as : SplitWorld → (s level : ℕ) → (signed is_there : Bool) → Journal → SplitWorld
signs_as w s level true true journal = with_files s (record (with_known level journal (w.session s)) { hand = GoesOn (suc level) }) w
signs_as w s level _ _ journal = with_hand s (At level true (Announces journal None)) w

abbrev pub signs_by : SplitWorld → (s : ℕ) → Hand → SplitWorld
signs_by w s (At level signed (Knows journal)) = signs_as w s level signed (shows_signpost ((w.session s).level level).page || is_written ((w.session s).level (suc level)).journal) journal
signs_by w s _ = w

-- ---- a put

abbrev pub a_put : SplitWorld → (s : ℕ) → List ℕ → Op
a_put w s bytes = record { kind = Writes bytes; session = s; op = w.begun; begin = w.now; end = None; tag = None }

-- it begins to look, with what its journal says
abbrev pub first_look : (s : ℕ) → Journal → Change → Client
first_look s journal change = Looks journal change (and_page s no_page) (and_seen s journal.page none_seen)

abbrev pub begins_as : Setting → SplitWorld → (s name : ℕ) → List ℕ → (level : ℕ) → Journal → SplitWorld
begins_as v w s name bytes level journal =
    if name == v.name
    then with_hand s (At level false (first_look s journal (record { name = Some name; bytes = bytes; op = Some w.begun }))) (with_next_op (a_put w s bytes) w)
    else with_hand s (At level false (first_look s journal (record { name = Some name; bytes = bytes; op = None }))) w

abbrev pub puts_by : Setting → Levels → SplitWorld → (s name : ℕ) → List ℕ → Hand → SplitWorld
puts_by v inside w s name bytes (At level false (Knows journal)) = if inside level name then begins_as v w s name bytes level journal else w
puts_by v inside w s name bytes _ = w

abbrev pub tidies_up_by : SplitWorld → (s : ℕ) → Hand → SplitWorld
tidies_up_by w s (At level false (Knows journal)) = with_hand s (At level false (first_look s journal tidying)) w
tidies_up_by w s _ = w

-- what it sees of a session, beside what it has seen
abbrev pub looks_more : Journal → Change → (ℕ → Bool) → (ℕ → Page) → (t : ℕ) → Page → Client
looks_more journal change looked seen t page = Looks journal change (and_page t looked) (and_seen t page seen)

abbrev pub level_page : SplitWorld → (t level : ℕ) → Option SignedPage
level_page w t level = ((w.session t).level level).page

-- what shows the signpost is that with which the next level begins
abbrev pub sees_as : Levels → SplitWorld → (s t level : ℕ) → (at : Client → Hand) → Journal → Change → (ℕ → Bool) → (ℕ → Page) → (sign : Option Page) → SplitWorld
sees_as inside w s t level at journal change looked seen None = w
sees_as inside w s t level at journal change looked seen (Some sign) =
    if t == s
    then w
    else if shows_signpost (level_page w t level)
    then with_sign t (suc level) (counts (inside level) (level_page w t level) sign) w
    else with_hand s (at (looks_more journal change looked seen t (counts (inside level) (level_page w t level) sign))) w

abbrev pub sees_level_by : Levels → SplitWorld → (s t level sign : ℕ) → Hand → SplitWorld
sees_level_by inside w s t level sign (At own false (Looks journal change looked seen)) = sees_as inside w s t level (At own false) journal change looked seen (slice_get (w.signs t level) sign)
sees_level_by inside w s t level sign _ = w

abbrev pub chooses_as : Setting → SplitWorld → (s more : ℕ) → (goes asks : ℕ → Bool) → (at : Client → Hand) → Journal → Change → (ℕ → Bool) → (ℕ → Page) → SplitWorld
chooses_as v w s more goes asks at journal change looked seen =
    if has_seen v looked seen
    then with_hand s (at (Announces (changed v goes asks seen s journal change (new_line s more change (highest v journal.page seen))) change.op)) w
    else w

abbrev pub chooses_line_by : Setting → SplitWorld → (s more : ℕ) → (goes asks : ℕ → Bool) → Hand → SplitWorld
chooses_line_by v w s more goes asks (At level false (Looks journal change looked seen)) = chooses_as v w s more goes asks (At level false) journal change looked seen
chooses_line_by v w s more goes asks _ = w

-- the session with these files of a level, and this hand
abbrev pub writes_as : SplitWorld → (s level : ℕ) → LevelFiles → Hand → Files
writes_as w s level z hand = record (with_level level z (w.session s)) { hand = hand }

abbrev pub hand_writes_by : Setting → SplitWorld → (s : ℕ) → Bool → Hand → SplitWorld
hand_writes_by v w s true (At level signed (Announces journal op)) =
    with_files s (writes_as w s level (record ((w.session s).level level) { journal = Some (record { journal = journal; signed = signed }); journal_pending = [] }) (At level signed (Carries journal op))) (with_version v journal journal.op w)
hand_writes_by v w s false (At level signed (Announces journal op)) =
    with_files s (with_level level (record ((w.session s).level level) { journal_pending = ((w.session s).level level).journal_pending ++ record { journal = journal; signed = signed } ∷ [] }) (w.session s)) w
hand_writes_by v w s true (At level signed (Carries journal op)) =
    with_files s (writes_as w s level (record ((w.session s).level level) { page = Some (record { page = journal.page; signed = signed }); page_pending = [] }) (At level signed (Knows journal))) (with_ended op w)
hand_writes_by v w s false (At level signed (Carries journal op)) =
    with_files s (with_level level (record ((w.session s).level level) { page_pending = ((w.session s).level level).page_pending ++ record { page = journal.page; signed = signed } ∷ [] }) (w.session s)) w
hand_writes_by v w s answered _ = w

-- ---- it clears a page that it went on from

-- the journal without these lines, where they may go
abbrev pub cleared : (inside : ℕ → Bool) → (next : Option SignedPage) → (goes : ℕ → Bool) → Journal → Journal
cleared inside next goes journal = record journal { page = record journal.page { line = λ n. if goes n && (is_written next || not (inside n)) then first_copy else journal.page.line n } }

abbrev pub clears_as : Levels → SplitWorld → (s level : ℕ) → (goes : ℕ → Bool) → Clearing → SplitWorld
clears_as inside w s level goes Rests = with_files s (with_clearing level (ClearsJournal (cleared (inside (suc level)) (level_page w s (suc level)) goes ((w.session s).known level))) (w.session s)) w
clears_as inside w s level goes _ = w

abbrev pub clears_by : Levels → SplitWorld → (s level : ℕ) → (goes : ℕ → Bool) → SplitWorld
clears_by inside w s level goes = if nat_lt level (level_of (w.session s).hand) then clears_as inside w s level goes ((w.session s).clearing level) else w

abbrev pub clearing_writes_by : SplitWorld → (s level : ℕ) → Bool → Clearing → SplitWorld
clearing_writes_by w s level true (ClearsJournal journal) =
    with_files s (with_known level journal (with_clearing level (ClearsPage journal) (with_level level (record ((w.session s).level level) { journal = Some (record { journal = journal; signed = true }); journal_pending = [] }) (w.session s)))) w
clearing_writes_by w s level false (ClearsJournal journal) =
    with_files s (with_level level (record ((w.session s).level level) { journal_pending = ((w.session s).level level).journal_pending ++ record { journal = journal; signed = true } ∷ [] }) (w.session s)) w
clearing_writes_by w s level true (ClearsPage journal) =
    with_files s (with_clearing level Rests (with_level level (record ((w.session s).level level) { page = Some (record { page = journal.page; signed = true }); page_pending = [] }) (w.session s))) w
clearing_writes_by w s level false (ClearsPage journal) =
    with_files s (with_level level (record ((w.session s).level level) { page_pending = ((w.session s).level level).page_pending ++ record { page = journal.page; signed = true } ∷ [] }) (w.session s)) w
clearing_writes_by w s level answered Rests = w

-- ---- a get

abbrev pub a_get : SplitWorld → (r : ℕ) → Op
a_get w r = record { kind = Reads None; session = r; op = w.begun; begin = w.now; end = None; tag = None }

abbrev pub asks_for : SplitWorld → (r : ℕ) → SplitWorld
asks_for w r = with_asker r (Searches w.begun no_page none_seen) (with_next_op (a_get w r) w)

abbrev pub finds_as : Levels → SplitWorld → (r t level op : ℕ) → (ℕ → Bool) → (ℕ → Page) → (sign : Option Page) → SplitWorld
finds_as inside w r t level op looked seen None = w
finds_as inside w r t level op looked seen (Some sign) =
    if shows_signpost (level_page w t level)
    then with_sign t (suc level) (counts (inside level) (level_page w t level) sign) w
    else with_asker r (Searches op (and_page t looked) (and_seen t (counts (inside level) (level_page w t level) sign) seen)) w

abbrev pub finds_level_by : Levels → SplitWorld → (r t level sign : ℕ) → Reader → SplitWorld
finds_level_by inside w r t level sign (Searches op looked seen) = finds_as inside w r t level op looked seen (slice_get (w.signs t level) sign)
finds_level_by inside w r t level sign Idle = w

abbrev pub tells_of_by : Setting → SplitWorld → (r : ℕ) → Reader → SplitWorld
tells_of_by v w r (Searches op looked seen) =
    if has_seen v looked seen
    then with_asker r Idle (with_split_op op (record (w.op op) { kind = Reads (Some (greatest_shown v seen v.name).bytes); end = Some w.now; tag = Some (version_told v seen) }) w)
    else w
tells_of_by v w r Idle = w

-- ---- after a step

-- its client is about to read its journal of level 0, and nothing is cleared
abbrev pub started : Files → Files
started x = record x { hand = GoesOn 0; clearing = λ k. Rests }

abbrev pub splits : Setting → Levels → SplitWorld → SplitStep → SplitWorld
splits v inside w (StartsAnew s) = with_files s (started (w.session s)) w
splits v inside w (EntersLevel s) = enters_by inside w s (w.session s).hand
splits v inside w (LevelJournalLate s level place) = level_journal_late w s level place (slice_get ((w.session s).level level).journal_pending place)
splits v inside w (LevelPageLate s level place) = level_page_late w s level place (slice_get ((w.session s).level level).page_pending place)
splits v inside w (Puts s name bytes) = if nat_lt s v.sessions then puts_by v inside w s name bytes (w.session s).hand else w
splits v inside w (TidiesUp s) = if nat_lt s v.sessions then tidies_up_by w s (w.session s).hand else w
splits v inside w (SeesLevel s t level sign) = if nat_lt t v.sessions then sees_level_by inside w s t level sign (w.session s).hand else w
splits v inside w (ChoosesLine s more goes asks) = chooses_line_by v w s more goes asks (w.session s).hand
splits v inside w (HandWrites s answered) = hand_writes_by v w s answered (w.session s).hand
splits v inside w (Signs s) = signs_by w s (w.session s).hand
splits v inside w (Clears s level goes) = clears_by inside w s level goes
splits v inside w (ClearingWrites s level answered) = clearing_writes_by w s level answered ((w.session s).clearing level)
splits v inside w (AsksFor r) = asks_for w r
splits v inside w (FindsLevel r t level sign) = if nat_lt t v.sessions then finds_level_by inside w r t level sign (w.reader r) else w
splits v inside w (TellsOf r) = tells_of_by v w r (w.reader r)

abbrev pub tick_of : SplitWorld → SplitWorld
tick_of w = record w { now = w.now + 1 }

abbrev pub after_split_step : Setting → Levels → SplitWorld → SplitStep → SplitWorld
after_split_step v inside w step = tick_of (splits v inside w step)

abbrev pub split_world_after : Setting → Levels → List SplitStep → SplitWorld
split_world_after v inside steps = fold (after_split_step v inside) first_world steps

abbrev pub split_operations_of : SplitWorld → List Op
split_operations_of w = map w.op (range_with_len 0 w.begun)

-- the name is inside, at each level
abbrev pub IsInside : Levels → (name : ℕ) → Type 0
IsInside inside name = (level : ℕ) → inside level name ≡ true

-- Whatever the steps, and whenever sessions split their pages, as often as they like, in the order by version a single register gives the same answers to the
-- operations on the watched name, and what ended before another began stands before it
abbrev pub AllSplitsLegal : Type 0
AllSplitsLegal = (v : Setting) (inside : Levels) (steps : List SplitStep) → IsInside inside v.name → Legal (split_operations_of (split_world_after v inside steps)) (order (split_operations_of (split_world_after v inside steps)))
