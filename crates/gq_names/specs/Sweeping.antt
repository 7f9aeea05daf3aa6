-- A sweep: two rounds of ordinary changes, in each of them one of each session. After it no page shows a removal that it showed before.
--
-- A removal may go once each other page says that it was made beside it, and shows no line of its name. In the first round each session says
-- so of the others' removals, and lines that are older than a removal go; in the second round the removals go. Between the changes, and in
-- the midst of each, any other steps may come: late writes, changes of other sessions, gets. A session that has nothing to do changes nothing.
use Rattle.std.specs.Prelude.{◌≡◌, ◌≢◌, ◌⊎◌, ℕ, ◌<◌, ◌≤◌, List, [], ◌∷◌, ◌++◌, Bool, true, false, ◌&&◌, Option, Some, None, All, Contains, ⊤, map, fold}
use Rattle.gq_tag.specs.declared.StoredCopy.{StoredCopy}
use Rattle.gq_tag.specs.Tag.{first_copy, is_less}
use Rattle.gq_names.specs.Names.{Setting, Page, Journal, Change, Knows, Looks, World, Step, Enters, Tidies, Chooses, ClientWrites, shown, has_seen, is_of, goes_now, changed_after, after_step, world_after}
use Rattle.gq_names.specs.Completing.{looks_at}

-- ---- one session's turn

-- what a client chooses, once it has looked at all pages; then what happens until it is answered that the journal was written, and that the page was
pub record Choice : Type 0 where
  pub more : ℕ
  pub goes : (name : ℕ) → Bool
  pub asks : (session : ℕ) → Bool
  pub announcing : List Step
  pub carrying : List Step

-- A change, or none where there is nothing to do. Any steps come before it, and while its client looks at pages
pub record Turn : Type 0 where
  pub session : ℕ
  pub before : List Step
  pub looking : List Step
  pub choice : Option Choice

abbrev pub after_steps : Setting → World → List Step → World
after_steps v w steps = fold (after_step v) w steps

-- the worlds in which its client begins; has looked; has chosen; is about to write the journal; was answered; is about to write the page
abbrev pub when_begun : Setting → World → Turn → World
when_begun v w turn = after_steps v w turn.before

abbrev pub when_looked : Setting → World → Turn → World
when_looked v w turn = after_steps v (when_begun v w turn) turn.looking

abbrev pub when_chosen : Setting → World → (s : ℕ) → Choice → World
when_chosen v w s choice = after_step v w (Chooses s choice.more choice.goes choice.asks)

abbrev pub when_announcing : Setting → World → (s : ℕ) → Choice → World
when_announcing v w s choice = after_steps v (when_chosen v w s choice) choice.announcing

abbrev pub when_announced : Setting → World → (s : ℕ) → Choice → World
when_announced v w s choice = after_step v (when_announcing v w s choice) (ClientWrites s true)

abbrev pub when_carrying : Setting → World → (s : ℕ) → Choice → World
when_carrying v w s choice = after_steps v (when_announced v w s choice) choice.carrying

abbrev pub after_choice : Setting → World → (s : ℕ) → Option Choice → World
after_choice v w s None = w
after_choice v w s (Some choice) = after_step v (when_carrying v w s choice) (ClientWrites s true)

abbrev pub after_turn : Setting → World → Turn → World
after_turn v w turn = after_choice v (when_looked v w turn) turn.session turn.choice

abbrev pub after_turns : Setting → World → List Turn → World
after_turns v w turns = fold (after_turn v) w turns

-- ---- in which all that can go goes

abbrev pub every_name : ℕ → Bool
every_name = λ name. true

abbrev pub every_page : ℕ → Bool
every_page = λ session. true

-- the page shows a line of the name, which could go with a change
abbrev pub can_go : Setting → (seen : ℕ → Page) → (s : ℕ) → Page → (name : ℕ) → Bool
can_go v seen s page name = is_less first_copy.tag (shown page name).tag && goes_now v every_name every_page seen s page name

-- the line is a removal
abbrev pub IsRemoval : StoredCopy → Type 0
IsRemoval line = (is_less first_copy.tag line.tag ≡ true) × (line.bytes ≡ [])

-- a client of session s that saw these pages asks for each removal that others show
abbrev pub AsksForAll : Setting → (s : ℕ) → (seen : ℕ → Page) → (after : ℕ → ℕ) → Type 0
AsksForAll v s seen after = (t name : ℕ) → t < v.sessions → t ≢ s → IsRemoval (shown (seen t) name) → (shown (seen t) name).tag.number ≤ after t

-- With the change goes each line that can go, and the page asks for each removal. Its client carries it: nobody takes its place
pub record IsCarried (v : Setting) (w : World) (s : ℕ) (journal : Journal) (change : Change) (seen : ℕ → Page) (choice : Choice) : Type 0 where
  pub lines : (name : ℕ) → is_of change.name name ≡ false → can_go v seen s journal.page name ≡ true → goes_now v choice.goes choice.asks seen s journal.page name ≡ true
  pub removals : AsksForAll v s seen (changed_after choice.asks seen journal.page)
  pub announces : ((when_announcing v w s choice).session s).client ≡ ((when_chosen v w s choice).session s).client
  pub carries : ((when_carrying v w s choice).session s).client ≡ ((when_announced v w s choice).session s).client

-- Or there is nothing to do: the page is as the journal has it, no line can go, and it asks for each removal
pub record IsTidy (v : Setting) (w : World) (s : ℕ) (journal : Journal) (seen : ℕ → Page) : Type 0 where
  pub carried : (w.session s).page ≡ journal.page
  pub lines : (name : ℕ) → can_go v seen s journal.page name ≡ false
  pub removals : AsksForAll v s seen journal.page.after

abbrev pub Does : Setting → World → (s : ℕ) → Journal → Change → (ℕ → Page) → Option Choice → Type 0
Does v w s journal change seen None = IsTidy v w s journal seen
Does v w s journal change seen (Some choice) = IsCarried v w s journal change seen choice

-- its client has nothing to do yet; it begins a change, of some name or of none, and looks at all pages; and then it does this
pub record IsTurn (v : Setting) (w : World) (turn : Turn) : Type 0 where
  pub known : Journal
  pub idle : ((when_begun v w turn).session turn.session).client ≡ Knows known
  pub journal : Journal
  pub change : Change
  pub looked : ℕ → Bool
  pub seen : ℕ → Page
  pub looks : ((when_looked v w turn).session turn.session).client ≡ Looks journal change looked seen
  pub has : has_seen v looked seen ≡ true
  pub does : Does v (when_looked v w turn) turn.session journal change seen turn.choice

abbrev pub AreTurns : Setting → World → List Turn → Type 0
AreTurns v w [] = ⊤
AreTurns v w (turn ∷ turns) = IsTurn v w turn × AreTurns v (after_turn v w turn) turns

-- ---- the law

-- each session has one
abbrev pub IsRound : Setting → List Turn → Type 0
IsRound v turns = (s : ℕ) → s < v.sessions → Contains (map (λ turn. turn.session) turns) s

-- of a name of which the old page shows a removal the new one shows nothing, or a newer line
abbrev pub Forgets : (old new : Page) → Type 0
Forgets old new = (name : ℕ) → IsRemoval (shown old name) → (shown new name ≡ first_copy) ⊎ (is_less (shown old name).tag (shown new name).tag ≡ true)

-- two rounds do, whatever came before, and whatever comes later
abbrev pub AllSweepsForget : Type 0
AllSweepsForget = (v : Setting) (steps : List Step) (first second : List Turn) (later : List Step) →
    let w : World = world_after v steps in
    IsRound v first → IsRound v second → AreTurns v w (first ++ second) →
    (s : ℕ) → s < v.sessions → Forgets (w.session s).page ((after_steps v (after_turns v w (first ++ second)) later).session s).page

-- ---- by itself

-- a new client's change of no name with nothing in between: it looks at each page once, each line goes that can, and all pages are asked for
abbrev pub alone : Setting → (s : ℕ) → Turn
alone v s = record {
  session = s;
  before = Enters s ∷ [];
  looking = Tidies s ∷ looks_at s v.sessions;
  choice = Some (record { more = 0; goes = every_name; asks = every_page; announcing = []; carrying = [] });
}

-- whatever happened, each session can make it
abbrev pub AllCanSweep : Type 0
AllCanSweep = (v : Setting) (steps : List Step) (sessions : List ℕ) → All (λ s. s < v.sessions) sessions → AreTurns v (world_after v steps) (map (alone v) sessions)

-- a page shows a line of the name
abbrev pub Shows : World → (s name : ℕ) → Type 0
Shows w s name = is_less first_copy.tag (shown (w.session s).page name).tag ≡ true

-- no page shows a removal, and of a name no more than one page shows a line
pub record IsClear (v : Setting) (w : World) : Type 0 where
  pub removals : (s name : ℕ) → s < v.sessions → IsRemoval (shown (w.session s).page name) → ⊥
  pub lines : (s t name : ℕ) → s < v.sessions → t < v.sessions → Shows w s name → Shows w t name → s ≡ t

-- so it is after two rounds of such changes, of all sessions, in one order
abbrev pub AllSweepsClear : Type 0
AllSweepsClear = (v : Setting) (steps : List Step) (sessions : List ℕ) → All (λ s. s < v.sessions) sessions → ((s : ℕ) → s < v.sessions → Contains sessions s) →
    IsClear v (after_turns v (world_after v steps) (map (alone v) (sessions ++ sessions)))
