-- What a client's calls change of what it knows and does.
use Rattle.std.specs.Prelude.{◌≡◌, ℕ, ◌-◌, ◌<◌, ◌≤◌, List, [], ◌∷◌, ◌++◌, Bool, true, false, length, reverse, slice_get, slice_set, Option, Some, None, IfSome, option_map, if◌then◌else◌}
use Rattle.gq_tag.specs.declared.Tag.{Tag}
use Rattle.gq_page.specs.declared.page.Page.{Page}
use Rattle.gq_page.specs.Page.{Sheet, sheet_of}
use Rattle.gq_client.specs.declared.view.Known.{Known}
use Rattle.gq_client.specs.declared.client.Client.{Client}
use Rattle.gq_client.specs.declared.client.Doing.{Doing}
use Rattle.gq_client.specs.declared.client.Doing.TheVariants.{Knows, Enters, Lists, Reads, Looked, Announces, Carries}
use Rattle.gq_client.specs.declared.view.Wanted.{Wanted}
use Rattle.gq_client.specs.Changing.{highest_seen, IsChanged}
use Rattle.gq_client.specs.Looking.{wanted_from, left_from, ReadsThese, GoesOnTo}
use Rattle.gq_client.specs.declared.client.Request.{Request}
use Rattle.gq_client.specs.declared.client.Request.TheVariants.{ReadJournal, ListPages, ReadPage, WriteJournal, WritePage}

-- ---- what it does

-- it writes this journal
abbrev pub AnnouncesThis : Sheet → Doing → Type 0
AnnouncesThis sheet (Announces page) = sheet_of page ≡ sheet
AnnouncesThis sheet _ = ⊥

-- two do the same
abbrev pub SameDoing : Doing → Doing → Type 0
SameDoing (Reads own left) doing = ReadsThese own left.items doing
SameDoing (Announces page) doing = AnnouncesThis (sheet_of page) doing
SameDoing Knows doing = doing ≡ Knows
SameDoing Enters doing = doing ≡ Enters
SameDoing (Lists own) doing = doing ≡ Lists own
SameDoing (Looked own) doing = doing ≡ Looked own
SameDoing Carries doing = doing ≡ Carries

-- the page that is read next
abbrev pub page_asked : Option Wanted → Option Request
page_asked wanted = option_map (λ w. ReadPage w.session) wanted

abbrev pub AsksToAnnounce : Page → Option Request → Type 0
AsksToAnnounce journal (Some (WriteJournal page)) = page.now ≡ journal
AsksToAnnounce journal _ = ⊥

abbrev pub AsksToCarry : Option Page → Option Request → Type 0
AsksToCarry (Some journal) (Some (WritePage page)) = page.now ≡ journal
AsksToCarry None None = Unit {0}
AsksToCarry _ _ = ⊥

-- who does this, with that journal, asks for this
abbrev pub AsksFor : Doing → Option Page → Option Request → Type 0
AsksFor Knows journal request = request ≡ None
AsksFor (Looked own) journal request = request ≡ None
AsksFor Enters journal request = request ≡ Some ReadJournal
AsksFor (Lists own) journal request = request ≡ Some ListPages
AsksFor (Reads own left) journal request = request ≡ page_asked (slice_get left.items (length left.items - 1))
AsksFor (Announces page) journal request = AsksToAnnounce page request
AsksFor Carries journal request = AsksToCarry journal request

-- it asks for the tags of pages: of its own page too or not
abbrev pub listing_of : Doing → Option Bool
listing_of (Lists own) = Some own
listing_of _ = None

-- it has looked at pages
abbrev pub has_looked : Doing → Bool
has_looked (Looked own) = true
has_looked _ = false

-- ---- what its calls change

-- the page is the journal of a change of the client, that has looked, under a number above all that it has seen
pub record IsChange (client : Client) (least : ℕ) (line : Option (List ℕ × List ℕ)) (besides : List (List ℕ)) (page : Page) : Type 0 where
  pub journal : Page
  pub number : ℕ
  pub knows : client.journal ≡ Some journal
  pub looked : has_looked client.doing ≡ true
  pub above : highest_seen client.seen.items client.session (sheet_of journal) < number
  pub least_is : least ≤ number
  pub is : IsChanged client.seen.items client.session (sheet_of journal) number line besides (sheet_of page)

-- it announces such a journal
pub record Chooses (old : Client) (least : ℕ) (line : Option (List ℕ × List ℕ)) (besides : List (List ℕ)) (new : Client) : Type 0 where
  pub page : Page
  pub change : IsChange old least line besides page
  pub doing : new.doing ≡ Announces page

-- its journal was written: it carries it. Or its page was: it knows that, and is at rest
abbrev pub IsWritten : Doing → (old new : Client) → Type 0
IsWritten (Announces page) old new = (new.doing ≡ Carries) × (new.journal ≡ Some page)
IsWritten Carries old new = (new.doing ≡ Knows) × (new.journal ≡ old.journal)
IsWritten _ old new = ⊥

-- it has seen its page as its journal says, with the tag under which that was written
pub record NotesPage (tag : Tag) (journal : Page) (old new : Client) : Type 0 where
  pub known : Known
  pub tag_is : known.tag ≡ tag
  pub page : sheet_of known.page ≡ sheet_of journal
  pub seen : new.seen.items ≡ slice_set old.seen.items old.session known

-- what it has seen of pages, once that was written
abbrev pub IsNoted : Tag → Doing → (old new : Client) → Type 0
IsNoted tag (Announces page) old new = new.seen.items ≡ old.seen.items
IsNoted tag Carries old new = IfSome old.journal (λ journal. NotesPage tag journal old new)
IsNoted tag _ old new = ⊥

-- ---- a look

-- the pages that are asked for, the last session first
abbrev pub wanted_now : (own : Bool) → Client → List Wanted
wanted_now own client = reverse (wanted_from 0 client.session (if own then None else client.journal) client.seen.items client.seen.items)

pub record GoesOn (own : Bool) (left : List Wanted) (old new : Client) : Type 0 where
  pub seen : new.seen.items ≡ old.seen.items
  pub journal : new.journal ≡ old.journal
  pub session : new.session ≡ old.session
  pub doing : GoesOnTo own left (wanted_now own old) new.doing

-- the pages are read whose tags are not the known ones
abbrev pub IsListed : List (Option Tag) → Doing → (old new : Client) → Type 0
IsListed tags (Lists own) old new = GoesOn own (reverse (left_from 0 own old.session tags old.seen.items)) old new
IsListed tags _ old new = ⊥

-- the page that was next stands in its place, and the look goes on
pub record HasRead (own : Bool) (left : List Wanted) (known : Known) (old new : Client) : Type 0 where
  pub wanted : Wanted
  pub rest : List Wanted
  pub next : left ≡ rest ++ wanted ∷ []
  pub late : wanted.number ≤ known.page.number
  pub seen : new.seen.items ≡ slice_set old.seen.items wanted.session known
  pub journal : new.journal ≡ old.journal
  pub session : new.session ≡ old.session
  pub doing : GoesOnTo own rest (wanted_now own new) new.doing

-- the journal is known; or a page is
abbrev pub IsRead : Known → Doing → (old new : Client) → Type 0
IsRead known Enters old new = (new.journal ≡ Some known.page) × (new.doing ≡ Knows) × (new.session ≡ old.session) × (new.seen ≡ old.seen)
IsRead known (Reads own left) old new = HasRead own left.items known old new
IsRead known _ old new = ⊥
