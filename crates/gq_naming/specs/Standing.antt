-- When pages of the client's code show what pages of the law of names show.
--
-- A page of the law has a line for each name, a number, and keeps lines that have gone; one of the code is a list of the lines that are shown.
-- So nothing is said of what nobody sees.
use Rattle.std.specs.Prelude.{◌≡◌, ◌≢◌, ◌⊎◌, ℕ, ◌<◌, ◌≤◌, List, [], ◌∷◌, length, Bool, true, false, ◌==◌, ◌&&◌, ◌||◌, Option, Some, None, slice_get}
use Rattle.std.specs.List.{list_any}
use Rattle.std.specs.Str.{bytes_eq}
use Rattle.gq_tag.specs.declared.Tag.{Tag}
use Rattle.gq_tag.specs.declared.StoredCopy.{StoredCopy}
use Rattle.gq_tag.specs.Tag.{first_copy}
use Rattle.gq_names.specs.Names.{Setting, Page, Journal, Change, Client as LawClient, Knows as LawKnows, Looks as LawLooks, Announces as LawAnnounces, Carries as LawCarries, shown, has_seen, is_nothing, tidying}
use Rattle.gq_page.specs.declared.page.Line.{Line}
use Rattle.gq_page.specs.declared.page.Page.{Page as SeenPage}
use Rattle.gq_page.specs.Page.{Sheet, sheet_of, line_of, after_of, says_nothing}
use Rattle.gq_client.specs.declared.view.Known.{Known}
use Rattle.gq_client.specs.declared.view.Wanted.{Wanted}
use Rattle.gq_client.specs.declared.client.Client.{Client}
use Rattle.gq_client.specs.declared.client.Doing.{Doing}
use Rattle.gq_client.specs.declared.client.Doing.TheVariants.{Knows, Enters, Lists, Reads, Looked, Announces, Carries}
use Rattle.gq_client.specs.declared.changing.Fate.{Fate}
use Rattle.gq_client.specs.declared.changing.Fate.TheVariants.{Stays, Goes, Beaten, Forgotten}
use Rattle.gq_client.specs.Changing.{version_of, asks_for, unknown}
use Rattle.gq_client.specs.Looking.{page_at}

-- How names and contents are those of the law. A name that is no register's, as that of a part of a joined content, has no number. What is said of a
-- removal holds nothing, and all else something
pub record Naming : Type 0 where
  pub number : List ℕ → Option ℕ
  pub holds : List ℕ → List ℕ
  pub apart : (a b : List ℕ) (n : ℕ) → number a ≡ Some n → number b ≡ Some n → a ≡ b
  pub nothing : (said : List ℕ) → is_nothing (holds said) ≡ says_nothing said

-- the copy that a line of session s is
abbrev pub copy_of : Naming → (s : ℕ) → Option Line → StoredCopy
copy_of names s None = first_copy
copy_of names s (Some line) = record { tag = version_of s line; bytes = names.holds line.said }

-- a page of the code, of session s, shows what one of the law shows
pub record Shows (names : Naming) (s : ℕ) (sheet : Sheet) (page : Page) : Type 0 where
  pub lines : (a : List ℕ) (n : ℕ) → names.number a ≡ Some n → shown page n ≡ copy_of names s (line_of a sheet.lines)
  pub after : (t : ℕ) → page.after t ≡ after_of sheet t
  pub number : page.number ≡ sheet.number

abbrev pub IsAmong : Line → List Line → Type 0
IsAmong line [] = ⊥
IsAmong line (other ∷ lines) = (other ≡ line) ⊎ IsAmong line lines

-- each name has one line at most, and each version is above 0 and at most the page's number
pub record IsPage (sheet : Sheet) : Type 0 where
  pub once : (line : Line) → IsAmong line sheet.lines → line_of line.name sheet.lines ≡ Some line
  pub some : (line : Line) → IsAmong line sheet.lines → 0 < line.version
  pub most : (line : Line) → IsAmong line sheet.lines → line.version ≤ sheet.number

-- the client of session s has seen these pages of all sessions, its journal in place of its own page
pub record HasSeen (names : Naming) (v : Setting) (s : ℕ) (seen : List Known) (journal : Sheet) (pages : ℕ → Page) : Type 0 where
  pub many : length seen ≡ v.sessions
  pub low : s < v.sessions
  pub own : Shows names s journal (pages s)
  pub others : (t : ℕ) (known : Known) → slice_get seen t ≡ Some known → t ≢ s → Shows names t (sheet_of known.page) (pages t)

-- none of these names is a register's
abbrev pub HaveNone : Naming → List (List ℕ) → Type 0
HaveNone names besides = (a : List ℕ) → list_any (λ name. bytes_eq a name) besides ≡ true → names.number a ≡ None

-- ---- what the law's client chooses

abbrev pub is_number : (n : ℕ) → Option ℕ → Bool
is_number n None = false
is_number n (Some m) = n == m

-- a greater line was seen, or it is a removal that everybody has seen
abbrev pub went : Fate → Bool
went Stays = false
went Goes = false
went (Beaten by) = true
went Forgotten = true

-- the names whose lines go
abbrev pub goes_of : Naming → List Line → List Fate → (n : ℕ) → Bool
goes_of names [] fates n = false
goes_of names (line ∷ lines) [] n = false
goes_of names (line ∷ lines) (fate ∷ fates) n = (went fate && is_number n (names.number line.name)) || goes_of names lines fates n

-- the sessions whose pages are asked for
abbrev pub asks_at : (s : ℕ) → Sheet → List Fate → (t : ℕ) → Option Known → Bool
asks_at s journal fates t None = false
asks_at s journal fates t (Some known) = list_any (asks_for s t) fates || unknown t s journal known

abbrev pub asks_of : (s : ℕ) → List Known → Sheet → List Fate → (t : ℕ) → Bool
asks_of s seen journal fates t = asks_at s journal fates t (slice_get seen t)

-- the change: a part of a joined content is one of no name
abbrev pub change_of : Naming → Option (List ℕ × List ℕ) → Change
change_of names None = tidying
change_of names (Some parts) = record { name = names.number parts.0; bytes = names.holds parts.1; op = None }

-- ---- a look

-- what was seen of the pages of all sessions, at `own` of a journal, if it counts
pub record Sees (names : Naming) (v : Setting) (own : ℕ) (journal : Option SeenPage) (seen : List Known) (pages : ℕ → Page) : Type 0 where
  pub many : length seen ≡ v.sessions
  pub each : (t : ℕ) (known : Known) → slice_get seen t ≡ Some known → Shows names t (sheet_of (page_at t own journal known)) (pages t)

-- what is told of a name
abbrev pub copy_told : Naming → Option (Tag × Line) → StoredCopy
copy_told names None = first_copy
copy_told names (Some found) = record { tag = found.0; bytes = names.holds found.1.said }

-- ---- what a client does

-- it has looked: the law's client has seen all pages, of its own page what its journal says
pub record IsLooked (names : Naming) (v : Setting) (client : Client) (x : LawClient) : Type 0 where
  pub page : SeenPage
  pub knows : client.journal ≡ Some page
  pub journal : Journal
  pub change : Change
  pub looked : ℕ → Bool
  pub pages : ℕ → Page
  pub is : x ≡ LawLooks journal change looked pages
  pub all : has_seen v looked pages ≡ true
  pub own : pages client.session ≡ journal.page
  pub seen : HasSeen names v client.session client.seen.items (sheet_of page) pages

-- it looks at the pages of the others: each is awaited, or the law's client has looked at it, and saw what was seen here
pub record IsLooking (names : Naming) (v : Setting) (s : ℕ) (seen : List Known) (page : SeenPage) (awaits : ℕ → Bool) (x : LawClient) : Type 0 where
  pub journal : Journal
  pub change : Change
  pub looked : ℕ → Bool
  pub pages : ℕ → Page
  pub is : x ≡ LawLooks journal change looked pages
  pub many : length seen ≡ v.sessions
  pub low : s < v.sessions
  pub own : pages s ≡ journal.page
  pub own_looked : looked s ≡ true
  pub shows : Shows names s (sheet_of page) journal.page
  pub each : (t : ℕ) (known : Known) → slice_get seen t ≡ Some known → t ≢ s → (awaits t ≡ true) ⊎ ((looked t ≡ true) × Shows names t (sheet_of known.page) (pages t))

-- the page of session t is left to be read
abbrev pub is_awaited : List Wanted → (t : ℕ) → Bool
is_awaited left t = list_any (λ wanted. wanted.session == t) left

-- (of a look at its own page too nothing is said here yet)
abbrev pub LooksBy : Naming → Setting → Client → (own : Bool) → (awaits : ℕ → Bool) → Option SeenPage → LawClient → Type 0
LooksBy names v client true awaits page x = Unit {0}
LooksBy names v client false awaits None x = Unit {0}
LooksBy names v client false awaits (Some page) x = IsLooking names v client.session client.seen.items page awaits x

abbrev pub LookedBy : Naming → Setting → Client → (own : Bool) → LawClient → Type 0
LookedBy names v client true x = Unit {0}
LookedBy names v client false x = IsLooked names v client x

-- the law's client has such a journal. Of a client that does not know its journal nothing is said: it has to enter
pub record HasJournal (names : Naming) (client : Client) (page : SeenPage) (made : Journal → Option ℕ → LawClient) (x : LawClient) : Type 0 where
  pub journal : Journal
  pub op : Option ℕ
  pub is : x ≡ made journal op
  pub shows : Shows names client.session (sheet_of page) journal.page

abbrev pub HasOwn : Naming → Client → (made : Journal → Option ℕ → LawClient) → Option SeenPage → LawClient → Type 0
HasOwn names client made None x = Unit {0}
HasOwn names client made (Some page) x = HasJournal names client page made x

-- what it does is what the law's client does. (One that enters has no part in the law until it has read its journal)
abbrev pub StandsBy : Naming → Setting → Client → Doing → LawClient → Type 0
StandsBy names v client Knows x = HasOwn names client (λ journal op. LawKnows journal) client.journal x
StandsBy names v client Enters x = Unit {0}
StandsBy names v client (Lists own) x = LooksBy names v client own (λ t. true) client.journal x
StandsBy names v client (Reads own left) x = LooksBy names v client own (is_awaited left.items) client.journal x
StandsBy names v client (Looked own) x = LookedBy names v client own x
StandsBy names v client (Announces page) x = HasJournal names client page (λ journal op. LawAnnounces journal op) x
StandsBy names v client Carries x = HasOwn names client (λ journal op. LawCarries journal op) client.journal x

abbrev pub Stands : Naming → Setting → Client → LawClient → Type 0
Stands names v client x = StandsBy names v client client.doing x
