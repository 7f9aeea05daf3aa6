-- Files by name: what the clients of a tenant write, and what may become of it.
--
-- The words. A *session* has one client at a time, and two files: its *journal* and its *page*. Each is a register, and no other session
-- writes it. A *page* has a *line* for each name: a version, and what the name holds from then on. A version is a tag: a number, and the
-- session that chose it. Of a name the greatest line of all pages counts. A line *goes* once another page shows a greater one: the page then
-- says from which number on that page, and others, have to be seen beside it (*after*). And a removal's line goes, it is *forgotten*, once
-- all other pages say that they were made beside it and none shows a line of its name. Lines go with any change, also with one of no name.
--
-- The journal has the page as it is to be. A client *announces* a change by writing its journal, and *carries* it into the page once that write
-- was answered, and not before. So a page is written from a journal that nothing older can replace any more.
--
-- A write may be answered: then it has taken effect, and no earlier write to the same file ever does any more. Or it is not: then it is
-- *pending*, and takes effect at any later moment, or never, and not once a later write to the file has. Who got no answer may ask again, so that
-- a write may be pending twice or more; or it is given up: its client is dead, and the next one knows only what it reads in the journal.
--
-- Here the operations on one name are *watched*. Those on other names go on as well, and share its pages. What is told of the watched
-- name is read off the places of steps alone: where an operation begins and ends, and what a get tells.
use Rattle.std.specs.Prelude.{ℕ, zero, suc, ◌+◌, List, [], ◌∷◌, ◌++◌, Bool, true, false, ◌==◌, ◌&&◌, ◌||◌, not, max, nat_lt, Option, Some, None, slice_get, map, fold, if◌then◌else◌}
use Rattle.std.specs.List.{range_with_len}
use Rattle.gq_tag.specs.declared.Tag.{Tag}
use Rattle.gq_tag.specs.declared.StoredCopy.{StoredCopy}
use Rattle.gq_tag.specs.Tag.{first_copy, is_less, newer_of}
use Rattle.gq_laws.specs.declared.ops.Kind.TheVariants.{Write as Writes, Read as Reads}
use Rattle.gq_laws.specs.declared.ops.Op.{Op}

-- how many sessions there are, numbered from 0, and the name that is watched
pub record Setting : Type 0 where
  pub sessions : ℕ
  pub name : ℕ

-- ---- what stands in files

pub record Page : Type 0 where
  -- of each name the line that was written last; a name that was never written has the first copy
  pub line : (name : ℕ) → StoredCopy
  -- the lines that have gone. They are kept here for the law alone: nobody sees them any more
  pub gone : (name : ℕ) → Bool
  -- which number the page of each session has at least, where it is seen beside this one
  pub after : (session : ℕ) → ℕ
  -- that of the version of its latest change: all its lines have such numbers or smaller ones
  pub number : ℕ

-- what is seen of a name
abbrev pub shown : Page → (name : ℕ) → StoredCopy
shown page name = if page.gone name then first_copy else page.line name

-- the page as it is to be, and, kept for the law alone, the operation whose line of the watched name it has
pub record Journal : Type 0 where
  pub page : Page
  pub op : Option ℕ

abbrev pub new_page : Page
new_page = record { line = λ name. first_copy; gone = λ name. false; after = λ session. 0; number = 0 }

abbrev pub new_journal : Journal
new_journal = record { page = new_page; op = None }

-- ---- what clients do

-- what a put makes of a name; the number of the operation, where the name is watched. What a name holds is a list: that of a removal is empty.
-- A change may also be of no name: by it lines go, and the page asks for others
pub record Change : Type 0 where
  pub name : Option ℕ
  pub bytes : List ℕ
  pub op : Option ℕ

pub data Client : Type 0 where
  -- it has nothing to do; what it knows of its journal
  Knows : (journal : Journal) → Client
  -- it looks at all pages, one after another; at which it has looked, and what it saw there. Of its own page it knows what its journal says
  Looks : (journal : Journal) (change : Change) (looked : ℕ → Bool) (seen : ℕ → Page) → Client
  -- it writes this journal, for the operation
  Announces : (journal : Journal) (op : Option ℕ) → Client
  -- that was answered: it writes the page
  Carries : (journal : Journal) (op : Option ℕ) → Client

pub record Session : Type 0 where
  pub journal : Journal
  -- in the order in which they were asked for
  pub journal_pending : List Journal
  pub page : Page
  pub page_pending : List Page
  pub client : Client

-- somebody who gets the watched name
pub data Reader : Type 0 where
  Idle : Reader
  Searches : (op : ℕ) (looked : ℕ → Bool) (seen : ℕ → Page) → Reader

pub record World : Type 0 where
  -- how many steps were taken: the place of the next one
  pub now : ℕ
  -- the operations on the watched name, in the order of their beginnings
  pub begun : ℕ
  pub op : ℕ → Op
  pub session : ℕ → Session
  pub reader : ℕ → Reader

abbrev pub new_session : Session
new_session = record { journal = new_journal; journal_pending = []; page = new_page; page_pending = []; client = Knows new_journal }

abbrev pub no_op : Op
no_op = record { kind = Reads None; session = 0; op = 0; begin = 0; end = None; tag = None }

abbrev pub new_world : World
new_world = record { now = 0; begun = 0; op = λ i. no_op; session = λ s. new_session; reader = λ r. Idle }

-- ---- steps

pub data Step : Type 0 where
  -- a new client of the session reads the journal; the one before is dead
  Enters : (session : ℕ) → Step
  -- the pending write at this place takes effect
  JournalLate : (session place : ℕ) → Step
  PageLate : (session place : ℕ) → Step
  -- its client begins to put this under the name
  Begins : (session name : ℕ) (bytes : List ℕ) → Step
  -- it begins a change of no name
  Tidies : (session : ℕ) → Step
  -- it writes its journal again as it knows it, and carries that
  Repeats : (session : ℕ) → Step
  -- it reads the page of a session
  Sees : (session other : ℕ) → Step
  -- it has read all: it chooses a number that is greater by one than that of each page that it saw, or still more; which lines are to go, and of
  -- which pages that it saw the page asks from then on that they are seen beside it
  Chooses : (session more : ℕ) (goes : (name : ℕ) → Bool) (asks : (session : ℕ) → Bool) → Step
  -- it asks for the write that it has to do, and is answered, or not
  ClientWrites : (session : ℕ) (answered : Bool) → Step
  -- somebody begins to get the watched name, reads the page of a session, and tells what the name holds once he has read all
  Asks : (reader : ℕ) → Step
  Finds : (reader session : ℕ) → Step
  Tells : (reader : ℕ) → Step

-- ---- parts of steps

abbrev pub with_session : ℕ → Session → World → World
with_session s x w = record w { session = λ t. if t == s then x else w.session t }

abbrev pub with_reader : ℕ → Reader → World → World
with_reader r x w = record w { reader = λ t. if t == r then x else w.reader t }

abbrev pub with_op : ℕ → Op → World → World
with_op k a w = record w { op = λ i. if i == k then a else w.op i }

-- one operation more
abbrev pub with_new_op : Op → World → World
with_new_op a w = record (with_op w.begun a w) { begun = w.begun + 1 }

-- an operation has a version from the moment on at which a journal with its line was written and answered
abbrev pub with_tag : Setting → Journal → Option ℕ → World → World
with_tag v x None w = w
with_tag v x (Some k) w = with_op k (record (w.op k) { tag = Some (x.page.line v.name).tag }) w

abbrev pub with_end : Option ℕ → World → World
with_end None w = w
with_end (Some k) w = with_op k (record (w.op k) { end = Some w.now }) w

-- the operation whose line of the watched name the journal has, behind a change of this operation
abbrev pub latest_op : Option ℕ → Option ℕ → Option ℕ
latest_op None old = old
latest_op (Some k) old = Some k

-- one page, or one more
abbrev pub and_page : ℕ → (ℕ → Bool) → ℕ → Bool
and_page t looked = λ s. if s == t then true else looked s

abbrev pub and_seen : ℕ → Page → (ℕ → Page) → ℕ → Page
and_seen t page seen = λ s. if s == t then page else seen s

abbrev pub no_page : ℕ → Bool
no_page = λ s. false

abbrev pub none_seen : ℕ → Page
none_seen = λ s. new_page

-- at the pages of the first n sessions
abbrev pub all_below : ℕ → (ℕ → Bool) → Bool
all_below zero looked = true
all_below (suc n) looked = looked n && all_below n looked

-- the greatest of these lines of the first n sessions
abbrev pub greatest_of : ℕ → (ℕ → StoredCopy) → StoredCopy
greatest_of zero line = first_copy
greatest_of (suc n) line = newer_of (greatest_of n line) (line n)

-- the greatest of these numbers
abbrev pub greatest_number : ℕ → (ℕ → ℕ) → ℕ
greatest_number zero number = 0
greatest_number (suc n) number = max (greatest_number n number) (number n)

abbrev pub greatest_shown : Setting → (ℕ → Page) → (name : ℕ) → StoredCopy
greatest_shown v seen name = greatest_of v.sessions (λ s. shown (seen s) name)

-- of each name's lines, also those that have gone
abbrev pub greatest_line : Setting → (ℕ → Page) → (name : ℕ) → StoredCopy
greatest_line v seen name = greatest_of v.sessions (λ s. (seen s).line name)

abbrev pub is_nothing : List ℕ → Bool
is_nothing [] = true
is_nothing (b ∷ bs) = false

-- each page is seen with the number that the others ask for
abbrev pub is_closed : Setting → (ℕ → Page) → Bool
is_closed v seen = all_below v.sessions (λ s. all_below v.sessions (λ t. not (nat_lt (seen t).number ((seen s).after t))))

abbrev pub has_seen : Setting → (ℕ → Bool) → (ℕ → Page) → Bool
has_seen v looked seen = all_below v.sessions looked && is_closed v seen

-- what is left of pending writes once the one at this place has taken effect
abbrev pub behind : {A : Type 0} → List A → ℕ → List A
behind [] i = []
behind (x ∷ xs) zero = xs
behind (x ∷ xs) (suc i) = behind xs i

-- ---- writes that were pending

abbrev pub journal_late : World → (s place : ℕ) → Option Journal → World
journal_late w s place None = w
journal_late w s place (Some x) = with_session s (record (w.session s) { journal = x; journal_pending = behind (w.session s).journal_pending place }) w

abbrev pub page_late : World → (s place : ℕ) → Option Page → World
page_late w s place None = w
page_late w s place (Some x) = with_session s (record (w.session s) { page = x; page_pending = behind (w.session s).page_pending place }) w

-- ---- a put

abbrev pub new_put : World → (s : ℕ) → List ℕ → Op
new_put w s bytes = record { kind = Writes bytes; session = s; op = w.begun; begin = w.now; end = None; tag = None }

-- what the journal says counts for its client as if it were in force
abbrev pub looking : World → (s : ℕ) → Journal → Change → Session
looking w s journal change = record (w.session s) { client = Looks journal change (and_page s no_page) (and_seen s journal.page none_seen) }

abbrev pub begins_by : Setting → World → (s name : ℕ) → List ℕ → Client → World
begins_by v w s name bytes (Knows journal) =
    if name == v.name
    then with_session s (looking w s journal (record { name = Some name; bytes = bytes; op = Some w.begun })) (with_new_op (new_put w s bytes) w)
    else with_session s (looking w s journal (record { name = Some name; bytes = bytes; op = None })) w
begins_by v w s name bytes _ = w

abbrev pub tidying : Change
tidying = record { name = None; bytes = []; op = None }

abbrev pub tidies_by : World → (s : ℕ) → Client → World
tidies_by w s (Knows journal) = with_session s (looking w s journal tidying) w
tidies_by w s _ = w

abbrev pub repeats_by : World → (s : ℕ) → Client → World
repeats_by w s (Knows journal) = with_session s (record (w.session s) { client = Announces journal None }) w
repeats_by w s _ = w

abbrev pub sees_by : World → (s t : ℕ) → Client → World
sees_by w s t (Looks journal change looked seen) =
    if t == s
    then w
    else with_session s (record (w.session s) { client = Looks journal change (and_page t looked) (and_seen t (w.session t).page seen) }) w
sees_by w s t _ = w

abbrev pub highest : Setting → Page → (ℕ → Page) → ℕ
highest v page seen = max page.number (greatest_number v.sessions (λ t. (seen t).number))

abbrev pub new_line : (s more : ℕ) → Change → (high : ℕ) → StoredCopy
new_line s more change high = record { tag = record { number = high + 1 + more; session = s }; bytes = change.bytes }

-- the greatest line of a name in those pages that the page will ask for
abbrev pub greatest_asked : Setting → (ℕ → Bool) → (ℕ → Page) → (name : ℕ) → StoredCopy
greatest_asked v asks seen name = greatest_of v.sessions (λ t. if asks t then shown (seen t) name else first_copy)

-- a greater line was seen
abbrev pub is_beaten : Setting → (asks : ℕ → Bool) → (ℕ → Page) → Page → (name : ℕ) → Bool
is_beaten v asks seen page name = is_less (page.line name).tag (greatest_asked v asks seen name).tag

-- the other page is asked for, was made beside a page of this session that had the line, or a later one, and shows no line of the name
abbrev pub is_past : (asks : ℕ → Bool) → (ℕ → Page) → (s : ℕ) → Page → (name t : ℕ) → Bool
is_past asks seen s page name t = asks t && (not (nat_lt ((seen t).after s) (page.line name).tag.number) && not (is_less first_copy.tag (shown (seen t) name).tag))

-- nothing stands in the line, and so it is of all other pages
abbrev pub is_forgotten : Setting → (asks : ℕ → Bool) → (ℕ → Page) → (s : ℕ) → Page → (name : ℕ) → Bool
is_forgotten v asks seen s page name = is_nothing (page.line name).bytes && all_below v.sessions (λ t. t == s || is_past asks seen s page name t)

-- the line goes: it was to, and a greater one was seen, or it is a removal that everybody has seen
abbrev pub goes_now : Setting → (goes asks : ℕ → Bool) → (ℕ → Page) → (s : ℕ) → Page → (name : ℕ) → Bool
goes_now v goes asks seen s page name = goes name && (is_beaten v asks seen page name || is_forgotten v asks seen s page name)

-- the change is of this name
abbrev pub is_of : Option ℕ → (name : ℕ) → Bool
is_of None n = false
is_of (Some name) n = n == name

-- which number the page of a session has at least from then on, where it is seen beside the changed page
abbrev pub changed_after : (asks : ℕ → Bool) → (ℕ → Page) → Page → (t : ℕ) → ℕ
changed_after asks seen page t = if asks t then max (page.after t) (seen t).number else page.after t

abbrev pub changed_page : Setting → (goes asks : ℕ → Bool) → (ℕ → Page) → (s : ℕ) → Page → (name : Option ℕ) → StoredCopy → Page
changed_page v goes asks seen s page name line = record {
  line = λ n. if is_of name n then line else page.line n;
  gone = λ n. if is_of name n then false else page.gone n || goes_now v goes asks seen s page n;
  after = changed_after asks seen page;
  number = line.tag.number;
}

abbrev pub changed : Setting → (goes asks : ℕ → Bool) → (ℕ → Page) → (s : ℕ) → Journal → Change → StoredCopy → Journal
changed v goes asks seen s journal change line = record { page = changed_page v goes asks seen s journal.page change.name line; op = latest_op change.op journal.op }

abbrev pub chooses_by : Setting → World → (s more : ℕ) → (goes asks : ℕ → Bool) → Client → World
chooses_by v w s more goes asks (Looks journal change looked seen) =
    if has_seen v looked seen
    then with_session s (record (w.session s) { client = Announces (changed v goes asks seen s journal change (new_line s more change (highest v journal.page seen))) change.op }) w
    else w
chooses_by v w s more goes asks _ = w

abbrev pub writes_by : Setting → World → (s : ℕ) → Bool → Client → World
writes_by v w s true (Announces journal op) = with_session s (record (w.session s) { journal = journal; journal_pending = []; client = Carries journal op }) (with_tag v journal journal.op w)
writes_by v w s false (Announces journal op) = with_session s (record (w.session s) { journal_pending = (w.session s).journal_pending ++ journal ∷ [] }) w
writes_by v w s true (Carries journal op) = with_session s (record (w.session s) { page = journal.page; page_pending = []; client = Knows journal }) (with_end op w)
writes_by v w s false (Carries journal op) = with_session s (record (w.session s) { page_pending = (w.session s).page_pending ++ journal.page ∷ [] }) w
writes_by v w s answered _ = w

-- ---- a get

abbrev pub new_get : World → (r : ℕ) → Op
new_get w r = record { kind = Reads None; session = r; op = w.begun; begin = w.now; end = None; tag = None }

abbrev pub asks : World → (r : ℕ) → World
asks w r = with_reader r (Searches w.begun no_page none_seen) (with_new_op (new_get w r) w)

abbrev pub finds_by : World → (r t : ℕ) → Reader → World
finds_by w r t (Searches op looked seen) = with_reader r (Searches op (and_page t looked) (and_seen t (w.session t).page seen)) w
finds_by w r t Idle = w

-- the version of what is told: that of the greatest line that is shown. Where none is, it is that of the greatest that stood: kept for the law alone
abbrev pub version_told : Setting → (ℕ → Page) → Tag
version_told v seen = if is_less first_copy.tag (greatest_shown v seen v.name).tag then (greatest_shown v seen v.name).tag else (greatest_line v seen v.name).tag

abbrev pub told : World → (bytes : List ℕ) → Tag → Op → Op
told w bytes version a = record a { kind = Reads (Some bytes); end = Some w.now; tag = Some version }

abbrev pub tells_by : Setting → World → (r : ℕ) → Reader → World
tells_by v w r (Searches op looked seen) =
    if has_seen v looked seen
    then with_reader r Idle (with_op op (told w (greatest_shown v seen v.name).bytes (version_told v seen) (w.op op)) w)
    else w
tells_by v w r Idle = w

-- ---- after a step

-- a step that doesn't fit changes nothing
abbrev pub changes : Setting → World → Step → World
changes v w (Enters s) = with_session s (record (w.session s) { client = Knows (w.session s).journal }) w
changes v w (JournalLate s place) = journal_late w s place (slice_get (w.session s).journal_pending place)
changes v w (PageLate s place) = page_late w s place (slice_get (w.session s).page_pending place)
changes v w (Begins s name bytes) = if nat_lt s v.sessions then begins_by v w s name bytes (w.session s).client else w
changes v w (Tidies s) = if nat_lt s v.sessions then tidies_by w s (w.session s).client else w
changes v w (Repeats s) = repeats_by w s (w.session s).client
changes v w (Sees s t) = if nat_lt t v.sessions then sees_by w s t (w.session s).client else w
changes v w (Chooses s more goes asks) = chooses_by v w s more goes asks (w.session s).client
changes v w (ClientWrites s answered) = writes_by v w s answered (w.session s).client
changes v w (Asks r) = asks w r
changes v w (Finds r t) = if nat_lt t v.sessions then finds_by w r t (w.reader r) else w
changes v w (Tells r) = tells_by v w r (w.reader r)

abbrev pub tick : World → World
tick w = record w { now = w.now + 1 }

abbrev pub after_step : Setting → World → Step → World
after_step v w step = tick (changes v w step)

abbrev pub world_after : Setting → List Step → World
world_after v steps = fold (after_step v) new_world steps

-- the operations on the watched name
abbrev pub operations_of : World → List Op
operations_of w = map w.op (range_with_len 0 w.begun)
