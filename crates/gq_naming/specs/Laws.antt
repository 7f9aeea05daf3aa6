-- What the client's code does are steps of the law's client.
use Rattle.std.specs.Prelude.{◌≡◌, ◌≢◌, ◌==◌, ◌&&◌, not, reverse, ℕ, ◌-◌, ◌<◌, ◌≤◌, List, [], length, map, Bool, true, false, Option, Some, None, slice_get}
use Rattle.gq_names.specs.Names.{Setting, Page, World, Step, Client as LawClient, Enters as LawEnters, Begins, Tidies, Sees as LawSees, Chooses as LawChooses, ClientWrites, after_step, highest, is_closed, is_of, goes_now, changed_after, greatest_shown, changed_page, new_line}
use Rattle.gq_names.specs.Sweeping.{can_go, AsksForAll}
use Rattle.gq_page.specs.declared.page.Page.{Page as SeenPage}
use Rattle.gq_page.specs.Page.{Sheet, sheet_of}
use Rattle.gq_client.specs.declared.view.Known.{Known}
use Rattle.gq_client.specs.declared.changing.Fate.{Fate}
use Rattle.gq_client.specs.Changing.{fate_of, name_said, highest_seen, IsChanged}
use Rattle.gq_tag.specs.declared.Tag.{Tag}
use Rattle.gq_client.specs.declared.view.Wanted.{Wanted}
use Rattle.gq_client.specs.declared.client.Client.{Client}
use Rattle.gq_client.specs.declared.client.Doing.TheVariants.{Knows as Idle, Enters as Entering, Lists}
use Rattle.gq_client.specs.Looking.{page_at, wanted_from, left_from, shown_from}
use Rattle.gq_client.specs.Steps.{Chooses, IsWritten, IsListed, IsRead, HasRead}
use Rattle.gq_naming.specs.Standing.{Naming, Shows, IsPage, HasSeen, Sees, IsLooked, IsLooking, Stands, is_awaited, copy_told, HaveNone, goes_of, asks_of, change_of}

-- The page that a client's journal is to have after a change (*changed* of gq_client) shows what that of the law's client shows, which chooses this
-- number, these lines to go, and these pages to be asked for (*Chooses*)
abbrev pub AllChangesStep : Type 0
AllChangesStep = (names : Naming) (v : Setting) (s : ℕ) (seen : List Known) (journal page : Sheet) (number : ℕ) (line : Option (List ℕ × List ℕ)) (besides : List (List ℕ)) (pages : ℕ → Page) →
    HasSeen names v s seen journal pages → IsPage journal → length journal.after ≤ v.sessions → HaveNone names besides → highest v (pages s) pages < number →
    IsChanged seen s journal number line besides page →
    let fates : List Fate = map (fate_of seen s (name_said line) besides) journal.lines in
    let high : ℕ = highest v (pages s) pages in
    Shows names s page (changed_page v (goes_of names journal.lines fates) (asks_of s seen journal fates) pages s (pages s) (change_of names line).name (new_line s (number - high - 1) (change_of names line) high))

-- above the highest number that it has seen is above all that the law's client has
abbrev pub AllNumbersAbove : Type 0
AllNumbersAbove = (names : Naming) (v : Setting) (s : ℕ) (seen : List Known) (journal : Sheet) (pages : ℕ → Page) →
    HasSeen names v s seen journal pages → highest_seen seen s journal ≡ highest v (pages s) pages

-- a changed page is such a page, as the one before
abbrev pub AllChangesPages : Type 0
AllChangesPages = (seen : List Known) (s : ℕ) (journal page : Sheet) (number : ℕ) (line : Option (List ℕ × List ℕ)) (besides : List (List ℕ)) →
    IsPage journal → journal.number < number → IsChanged seen s journal number line besides page → IsPage page

-- a client that wants no page any more has seen what the law's client may choose by, or tell
abbrev pub AllLooksClose : Type 0
AllLooksClose = (names : Naming) (v : Setting) (own : ℕ) (journal : Option SeenPage) (seen : List Known) (pages : ℕ → Page) →
    Sees names v own journal seen pages → wanted_from 0 own journal seen seen ≡ [] → is_closed v pages ≡ true

-- the greatest line of a name is what the law's reader tells of it
abbrev pub AllGetsTell : Type 0
AllGetsTell = (names : Naming) (v : Setting) (own : ℕ) (journal : Option SeenPage) (seen : List Known) (pages : ℕ → Page) (a : List ℕ) (n : ℕ) →
    Sees names v own journal seen pages → ((t : ℕ) (known : Known) → slice_get seen t ≡ Some known → IsPage (sheet_of (page_at t own journal known))) →
    names.number a ≡ Some n → copy_told names (shown_from 0 own journal a seen None) ≡ greatest_shown v pages n

-- Where each name of the law is some name's: with a change goes each line that can go, and the page asks for each removal that others show. So a sweep of
-- such changes is one of the law's (*IsCarried*)
pub record Sweeps (v : Setting) (s : ℕ) (pages : ℕ → Page) (name : Option ℕ) (goes asks : ℕ → Bool) : Type 0 where
  pub lines : (n : ℕ) → is_of name n ≡ false → can_go v pages s (pages s) n ≡ true → goes_now v goes asks pages s (pages s) n ≡ true
  pub removals : AsksForAll v s pages (changed_after asks pages (pages s))

abbrev pub AllChangesSweep : Type 0
AllChangesSweep = (names : Naming) (v : Setting) (s : ℕ) (seen : List Known) (journal : Sheet) (line : Option (List ℕ × List ℕ)) (besides : List (List ℕ)) (pages : ℕ → Page) →
    HasSeen names v s seen journal pages → IsPage journal → ((t : ℕ) (known : Known) → slice_get seen t ≡ Some known → IsPage (sheet_of known.page)) →
    length journal.after ≤ v.sessions → HaveNone names besides → ((n : ℕ) → (a : List ℕ) × (names.number a ≡ Some n)) →
    let fates : List Fate = map (fate_of seen s (name_said line) besides) journal.lines in
    Sweeps v s pages (change_of names line).name (goes_of names journal.lines fates) (asks_of s seen journal fates)

-- ---- steps

-- the law's client of this session, after the step
abbrev pub client_after : Setting → World → Step → (s : ℕ) → LawClient
client_after v w step s = ((after_step v w step).session s).client

-- what a client chooses, one of the law's chooses, whose change is that of the line
abbrev pub AllChoicesStep : Type 0
AllChoicesStep = (names : Naming) (v : Setting) (w : World) (old new : Client) (least : ℕ) (line : Option (List ℕ × List ℕ)) (besides : List (List ℕ)) →
    (k : IsLooked names v old (w.session old.session).client) → IsPage (sheet_of k.page) → length k.page.after.items ≤ v.sessions → HaveNone names besides →
    k.change.name ≡ (change_of names line).name → k.change.bytes ≡ (change_of names line).bytes →
    Chooses old least line besides new → new.session ≡ old.session →
    (more : ℕ) × (goes : ℕ → Bool) × (asks : ℕ → Bool) × Stands names v new (client_after v w (LawChooses old.session more goes asks) old.session)

-- a client whose write was answered is one of the law's whose write was
abbrev pub AllAnswersStep : Type 0
AllAnswersStep = (names : Naming) (v : Setting) (w : World) (old new : Client) → Stands names v old (w.session old.session).client →
    IsWritten old.doing old new → new.session ≡ old.session → Stands names v new (client_after v w (ClientWrites old.session true) old.session)

-- a client that enters and has read the journal in force is a new one of the law's
abbrev pub AllEntersStep : Type 0
AllEntersStep = (names : Naming) (v : Setting) (w : World) (known : Known) (old new : Client) → IsRead known Entering old new →
    Shows names old.session (sheet_of known.page) ((w.session old.session).journal).page → Stands names v new (client_after v w (LawEnters old.session) old.session)

-- one that begins to look begins a change of the law's, of whatever name or of none
pub record BeginsToLook (old new : Client) : Type 0 where
  pub idle : old.doing ≡ Idle
  pub page : SeenPage
  pub knows : old.journal ≡ Some page
  pub doing : new.doing ≡ Lists false
  pub journal : new.journal ≡ old.journal
  pub session : new.session ≡ old.session
  pub seen : new.seen.items ≡ old.seen.items

abbrev pub AllLooksBegin : Type 0
AllLooksBegin = (names : Naming) (v : Setting) (w : World) (old new : Client) → Stands names v old (w.session old.session).client → BeginsToLook old new →
    length old.seen.items ≡ v.sessions → old.session < v.sessions →
    ((name : ℕ) (bytes : List ℕ) → Stands names v new (client_after v w (Begins old.session name bytes) old.session)) × Stands names v new (client_after v w (Tidies old.session) old.session)

-- a page whose tag is the known one, as long as the known page shows that in force, is seen
abbrev pub AllRowsStep : Type 0
AllRowsStep = (names : Naming) (v : Setting) (w : World) (s t : ℕ) (seen : List Known) (page : SeenPage) (awaits : ℕ → Bool) (known : Known) →
    IsLooking names v s seen page awaits (w.session s).client → slice_get seen t ≡ Some known → t ≢ s → Shows names t (sheet_of known.page) (w.session t).page →
    IsLooking names v s seen page (λ u. awaits u && not (u == t)) (client_after v w (LawSees s t) s)

-- so once those of whose tags are known were seen, the listing is told: the client stands for the same
abbrev pub AllListsStand : Type 0
AllListsStand = (names : Naming) (v : Setting) (tags : List (Option Tag)) (old new : Client) (page : SeenPage) (awaits : ℕ → Bool) (x : LawClient) →
    old.journal ≡ Some page → IsLooking names v old.session old.seen.items page awaits x → old.doing ≡ Lists false → IsListed tags old.doing old new →
    ((t : ℕ) → t ≢ old.session → awaits t ≡ true → is_awaited (reverse (left_from 0 false old.session tags old.seen.items)) t ≡ true) → Stands names v new x

-- and a page that was read, as it is in force, is seen
abbrev pub AllReadsStep : Type 0
AllReadsStep = (names : Naming) (v : Setting) (w : World) (left : List Wanted) (known : Known) (old new : Client) (page : SeenPage) →
    old.journal ≡ Some page → IsLooking names v old.session old.seen.items page (is_awaited left) (w.session old.session).client →
    (k : HasRead false left known old new) → k.wanted.session < v.sessions → k.wanted.session ≢ old.session → Shows names k.wanted.session (sheet_of known.page) (w.session k.wanted.session).page →
    Stands names v new (client_after v w (LawSees old.session k.wanted.session) old.session)
