-- What is so of the operations on the watched name, of the lines that journals and pages have of it, and of who looks for it.
use Rattle.std.proofs.Common.{◌≡◌, ◌≢◌, ◌⊎◌, ℕ, ◌<◌, Bool, true, false, List, [], Option, Some, None}
use Rattle.std.specs.Prelude.{IsSome, ⊤, if◌then◌else◌}
use Rattle.gq_tag.specs.declared.Tag.{Tag}
use Rattle.gq_tag.specs.declared.StoredCopy.{StoredCopy}
use Rattle.gq_tag.specs.Tag.{first_tag, first_copy, is_less}
use Rattle.gq_laws.specs.declared.ops.Kind.TheVariants.{Write as Writes}
use Rattle.gq_laws.specs.declared.ops.Op.{Op}
use Rattle.gq_laws.specs.Operations.{is_write, Gives}
use Rattle.gq_names.specs.Names.{Setting, Page, Journal, Change, Client, Knows, Looks, Announces, Carries, Session, Reader, Idle, Searches, World}
use Rattle.gq_tag.proofs.Order.{IsAtMost}
use Rattle.gq_names.proofs.Views.{Among}
use Rattle.gq_names.proofs.Pages.{EachJournal, Paged}

-- ---- of operations

-- an operation ended there, with that version
pub record Ended (w : World) (e : ℕ) (t : Tag) : Type 0 where
  pub op : ℕ
  pub low : op < w.begun
  pub end : (w.op op).end ≡ Some e
  pub tag : (w.op op).tag ≡ Some t

-- a put has that version, and put that
pub record Wrote (w : World) (t : Tag) (bytes : List ℕ) : Type 0 where
  pub op : ℕ
  pub low : op < w.begun
  pub kind : (w.op op).kind ≡ Writes bytes
  pub tag : (w.op op).tag ≡ Some t

abbrev pub Sourced : World → StoredCopy → Type 0
Sourced w c = (c ≡ first_copy) ⊎ Wrote w c.tag c.bytes

-- a put of the session that has no version yet
pub record Open (w : World) (s op : ℕ) (bytes : List ℕ) : Type 0 where
  pub low : op < w.begun
  pub session : (w.op op).session ≡ s
  pub kind : (w.op op).kind ≡ Writes bytes
  pub tag : (w.op op).tag ≡ None

pub record ReadFrom (w : World) (a : Op) (e : ℕ) (y : Tag) : Type 0 where
  pub op : ℕ
  pub low : op < w.begun
  pub bytes : List ℕ
  pub kind : (w.op op).kind ≡ Writes bytes
  pub tag : (w.op op).tag ≡ Some y
  pub begin : (w.op op).begin < e
  pub gives : Gives a bytes

pub record Sane (v : Setting) (w : World) (base : ℕ → Journal) (a : Op) : Type 0 where
  pub begins : a.begin < w.now
  pub ends : (e : ℕ) → a.end ≡ Some e → (a.begin < e) × (e < w.now) × IsSome a.tag
  pub within : is_write a ≡ true → a.session < v.sessions
  -- what ended before it began has no greater version, and that of a put is greater
  pub rises : (y : Tag) (e : ℕ) (t : Tag) → a.tag ≡ Some y → Ended w e t → e < a.begin → IsAtMost t y
  pub writes : (y : Tag) (e : ℕ) (t : Tag) → is_write a ≡ true → a.tag ≡ Some y → Ended w e t → e < a.begin → is_less t y ≡ true
  pub sourced : (e : ℕ) (y : Tag) → is_write a ≡ false → a.end ≡ Some e → a.tag ≡ Some y → ((y ≡ first_tag) × Gives a []) ⊎ ReadFrom w a e y
  -- the session's base has the version of each of its puts that has one, or a greater one
  pub numbered : (y : Tag) → is_write a ≡ true → a.tag ≡ Some y → (y ≢ first_tag) × IsAtMost y ((base y.session).page.line v.name).tag

-- ---- of views

abbrev pub line_at : Setting → World → (session : ℕ) → StoredCopy
line_at v w s = (w.session s).page.line v.name

-- of each page its line of the name: as it was seen where it was looked at, and as it is elsewhere. (A line that has gone counts as if it stood.)
abbrev pub view : Setting → World → (ℕ → Bool) → (ℕ → Page) → (session : ℕ) → StoredCopy
view v w looked seen s = if looked s then (seen s).line v.name else line_at v w s

-- one of them has the version, or a greater one
pub record ReachedAt (v : Setting) (at : ℕ → StoredCopy) (t : Tag) : Type 0 where
  pub session : ℕ
  pub low : session < v.sessions
  pub most : IsAtMost t (at session).tag

-- the same, or it is that of a name that was never written
abbrev pub Reached : Setting → (ℕ → StoredCopy) → Tag → Type 0
Reached v at t = (t ≡ first_tag) ⊎ ReachedAt v at t

abbrev pub Seen : Setting → World → (begin : ℕ) → (ℕ → Bool) → (ℕ → Page) → Type 0
Seen v w begin looked seen = (e : ℕ) (t : Tag) → Ended w e t → e < begin → Reached v (view v w looked seen) t

-- a page as it was seen is one that the session had, and that it still has, or a greater one
pub record LookedAt (v : Setting) (w : World) (past : ℕ → List Page) (seen : ℕ → Page) (t : ℕ) : Type 0 where
  pub was : Among (seen t) (past t)
  pub still : IsAtMost ((seen t).line v.name).tag (line_at v w t).tag

-- ---- of journals

-- the journal has the base's line of the name
pub record Kept (v : Setting) (base x : Journal) : Type 0 where
  pub op : x.op ≡ base.op
  pub line : x.page.line v.name ≡ base.page.line v.name

-- it has the line of a put that may yet take effect
pub record Fresh (v : Setting) (w : World) (s : ℕ) (base x : Journal) : Type 0 where
  pub op : ℕ
  pub is : x.op ≡ Some op
  pub still : Open w s op (x.page.line v.name).bytes
  pub more : is_less (base.page.line v.name).tag (x.page.line v.name).tag ≡ true
  pub own : (x.page.line v.name).tag.session ≡ s
  pub later : (e : ℕ) (t : Tag) → Ended w e t → e < (w.op op).begin → is_less t (x.page.line v.name).tag ≡ true

abbrev pub Lined : Setting → World → ℕ → Journal → Journal → Type 0
Lined v w s base x = Kept v base x ⊎ Fresh v w s base x

-- the put whose line the base has
pub record BaseOp (v : Setting) (w : World) (s : ℕ) (base : Journal) (op : ℕ) : Type 0 where
  pub low : op < w.begun
  pub tag : (w.op op).tag ≡ Some (base.page.line v.name).tag
  pub session : (w.op op).session ≡ s
  pub write : is_write (w.op op) ≡ true

-- ---- of clients

pub record Looking (v : Setting) (w : World) (s : ℕ) (change : Change) (looked : ℕ → Bool) (seen : ℕ → Page) (op : ℕ) : Type 0 where
  pub name : change.name ≡ Some v.name
  pub still : Open w s op change.bytes
  pub all : Seen v w (w.op op).begin looked seen

abbrev pub LooksFor : Setting → World → ℕ → Change → (ℕ → Bool) → (ℕ → Page) → Option ℕ → Type 0
LooksFor v w s change looked seen None = change.name ≢ Some v.name
LooksFor v w s change looked seen (Some k) = Looking v w s change looked seen k

pub record LooksWell (v : Setting) (w : World) (past : ℕ → List Page) (s : ℕ) (journal : Journal) (change : Change) (looked : ℕ → Bool) (seen : ℕ → Page) : Type 0 where
  pub within : s < v.sessions
  pub own : seen s ≡ journal.page
  pub pages : (t : ℕ) → looked t ≡ true → t ≢ s → LookedAt v w past seen t
  pub for : LooksFor v w s change looked seen change.op

abbrev pub HasOp : Journal → Option ℕ → Type 0
HasOp journal op = (k : ℕ) → op ≡ Some k → journal.op ≡ Some k

abbrev pub Acts : Setting → World → (ℕ → List Page) → ℕ → Client → Type 0
Acts v w past s (Knows journal) = ⊤
Acts v w past s (Looks journal change looked seen) = LooksWell v w past s journal change looked seen
Acts v w past s (Announces journal op) = HasOp journal op
Acts v w past s (Carries journal op) = HasOp journal op

pub record Lines (v : Setting) (w : World) (past : ℕ → List Page) (s : ℕ) (base : Journal) (x : Session) : Type 0 where
  pub paged : Paged v past s base x
  pub lined : EachJournal (Lined v w s base) x
  pub based : (k : ℕ) → base.op ≡ Some k → BaseOp v w s base k
  pub sourced : (d : Page) → Among d (past s) → Sourced w (d.line v.name)
  pub acts : Acts v w past s x.client

pub record Search (v : Setting) (w : World) (past : ℕ → List Page) (op : ℕ) (looked : ℕ → Bool) (seen : ℕ → Page) : Type 0 where
  pub low : op < w.begun
  pub read : is_write (w.op op) ≡ false
  pub pages : (t : ℕ) → looked t ≡ true → LookedAt v w past seen t
  pub all : Seen v w (w.op op).begin looked seen

abbrev pub Searching : Setting → World → (ℕ → List Page) → Reader → Type 0
Searching v w past Idle = ⊤
Searching v w past (Searches op looked seen) = Search v w past op looked seen

-- ---- of all

pub record Sound (v : Setting) (w : World) : Type 0 where
  pub base : ℕ → Journal
  pub past : ℕ → List Page
  pub ops : (i : ℕ) → i < w.begun → Sane v w base (w.op i)
  pub differ : (i j : ℕ) (t : Tag) → i < w.begun → j < w.begun → is_write (w.op i) ≡ true → is_write (w.op j) ≡ true → (w.op i).tag ≡ Some t → (w.op j).tag ≡ Some t → i ≡ j
  -- what ended is in force
  pub found : (e : ℕ) (t : Tag) → Ended w e t → Reached v (line_at v w) t
  pub lines : (s : ℕ) → Lines v w past s (base s) (w.session s)
  pub readers : (r : ℕ) → Searching v w past (w.reader r)
