-- Contents that stand apart from pages: what a line names, and what is forgotten once no line names it any more.
--
-- What a name holds may be bytes that name *contents*, which stand elsewhere. A content is *kept* once all servers that are to have it have
-- acknowledged it. From then on it is there until it is forgotten, and it never comes back. Here a content is a number.
--
-- Clients keep three rules. A change is chosen only once all that its line names is kept. Each content is put by one session alone, and not again
-- once it is forgotten. And it is forgotten only where that session is *free* of it: neither its page nor its journal shows it, nor a
-- write to these that is pending, nor what its client is about to write.
use Rattle.std.specs.Prelude.{◌≡◌, ℕ, List, [], ◌∷◌, ◌++◌, fold, Bool, true, false, ◌==◌, Some, ⊤, if◌then◌else◌}
use Rattle.gq_laws.specs.declared.ops.Kind.TheVariants.{Read as Reads}
use Rattle.gq_names.specs.Names.{Setting, Page, Client, Knows, Looks, Announces, Carries, Session, World, Step, Begins, Chooses, ClientWrites, after_step, new_world, shown}

-- what bytes name, and which session alone puts it; a removal names nothing
pub record Contents : Type 0 where
  pub names : (bytes : List ℕ) → (content : ℕ) → Bool
  pub owner : (content : ℕ) → ℕ
  pub nothing : (content : ℕ) → names [] content ≡ false

-- ---- what is named

-- all that the page shows is such
abbrev pub ShowsOnly : Contents → (P : ℕ → Type 0) → Page → Type 0
ShowsOnly k P page = (name content : ℕ) → k.names (shown page name).bytes content ≡ true → P content

-- each of the list is such
abbrev pub Each : {A : Type 0} → (A → Type 0) → List A → Type 0
Each P [] = ⊤
Each P (x ∷ xs) = P x × Each P xs

-- what the client is to write names only such; where it still looks, what it is to put names only those of the second kind
abbrev pub WritesOnly : Contents → (P Q : ℕ → Type 0) → Client → Type 0
WritesOnly k P Q (Knows journal) = ShowsOnly k P journal.page
WritesOnly k P Q (Looks journal change looked seen) = ShowsOnly k P journal.page × ((content : ℕ) → k.names change.bytes content ≡ true → Q content)
WritesOnly k P Q (Announces journal op) = ShowsOnly k P journal.page
WritesOnly k P Q (Carries journal op) = ShowsOnly k P journal.page

-- the same of all that a session has
pub record HasOnly (k : Contents) (P Q : ℕ → Type 0) (x : Session) : Type 0 where
  pub journal : ShowsOnly k P x.journal.page
  pub journal_pending : Each (λ j. ShowsOnly k P j.page) x.journal_pending
  pub page : ShowsOnly k P x.page
  pub page_pending : Each (ShowsOnly k P) x.page_pending
  pub client : WritesOnly k P Q x.client

-- the session is free of the content: all that it has names others only
abbrev pub IsFree : Contents → (content : ℕ) → Session → Type 0
IsFree k content x = HasOnly k (λ c. (c == content) ≡ false) (λ c. (c == content) ≡ false) x

-- ---- deeds

pub data Deed : Type 0 where
  Does : (step : Step) → Deed
  -- all servers that are to have the content have acknowledged it; it is forgotten
  Keeps : (content : ℕ) → Deed
  Forgets : (content : ℕ) → Deed

pub record State : Type 0 where
  pub world : World
  pub kept : (content : ℕ) → Bool
  pub forgotten : (content : ℕ) → Bool

abbrev pub new_state : State
new_state = record { world = new_world; kept = λ c. false; forgotten = λ c. false }

abbrev pub and_content : ℕ → (ℕ → Bool) → ℕ → Bool
and_content content before = λ c. if c == content then true else before c

abbrev pub after_deed : Setting → State → Deed → State
after_deed v st (Does step) = record st { world = after_step v st.world step }
after_deed v st (Keeps content) = record st { kept = and_content content st.kept }
after_deed v st (Forgets content) = record st { forgotten = and_content content st.forgotten }

abbrev pub state_after : Setting → State → List Deed → State
state_after v st deeds = fold (after_deed v) st deeds

-- ---- the rules

-- what is chosen names only what is kept
abbrev pub ChoosesKept : Contents → State → Client → Type 0
ChoosesKept k st (Knows journal) = ⊤
ChoosesKept k st (Looks journal change looked seen) = (content : ℕ) → k.names change.bytes content ≡ true → st.kept content ≡ true
ChoosesKept k st (Announces journal op) = ⊤
ChoosesKept k st (Carries journal op) = ⊤

-- a session may put the content: it is its own, and is not forgotten
pub record MayPut (k : Contents) (st : State) (s content : ℕ) : Type 0 where
  pub owner : k.owner content ≡ s
  pub is_new : st.forgotten content ≡ false

abbrev pub MayStep : Contents → State → Step → Type 0
MayStep k st (Begins s name bytes) = (content : ℕ) → k.names bytes content ≡ true → MayPut k st s content
MayStep k st (Chooses s more goes asks) = ChoosesKept k st (st.world.session s).client
MayStep k st _ = ⊤

abbrev pub May : Contents → State → Deed → Type 0
May k st (Does step) = MayStep k st step
May k st (Keeps content) = ⊤
May k st (Forgets content) = IsFree k content (st.world.session (k.owner content))

-- each deed keeps the rules, where those before it were done
abbrev pub AllMay : Setting → Contents → State → List Deed → Type 0
AllMay v k st [] = ⊤
AllMay v k st (deed ∷ deeds) = May k st deed × AllMay v k (after_deed v st deed) deeds

-- ---- laws

-- it is there: all servers that are to have it acknowledged it, and nobody has forgotten it
pub record IsThere (st : State) (content : ℕ) : Type 0 where
  pub kept : st.kept content ≡ true
  pub stays : st.forgotten content ≡ false

-- each content that a page shows is there
abbrev pub AllShownAreThere : Type 0
AllShownAreThere = (v : Setting) (k : Contents) (deeds : List Deed) → AllMay v k new_state deeds → (s : ℕ) →
    ShowsOnly k (IsThere (state_after v new_state deeds)) ((state_after v new_state deeds).world.session s).page

-- whatever a get told names only what was kept
abbrev pub AllToldWereKept : Type 0
AllToldWereKept = (v : Setting) (k : Contents) (deeds : List Deed) → AllMay v k new_state deeds → (i content : ℕ) (bytes : List ℕ) →
    ((state_after v new_state deeds).world.op i).kind ≡ Reads (Some bytes) → k.names bytes content ≡ true → (state_after v new_state deeds).kept content ≡ true

-- no step of these puts the content
abbrev pub PutsNot : Contents → (s content : ℕ) → Step → Type 0
PutsNot k s content (Begins t name bytes) = t ≡ s → k.names bytes content ≡ false
PutsNot k s content _ = ⊤

abbrev pub NonePuts : Contents → (s content : ℕ) → List Step → Type 0
NonePuts k s content steps = Each (PutsNot k s content) steps

-- the client of the session is about to carry a page that does not show the content
abbrev pub CarriesWithout : Contents → (content : ℕ) → Client → Type 0
CarriesWithout k content (Carries journal op) = ShowsOnly k (λ c. (c == content) ≡ false) journal.page
CarriesWithout k content _ = ⊥

-- Once a page without the content was carried, and that was answered, the session is free of it: whichever clients die, and whichever writes are late. It
-- stays so as long as nobody puts the content there again.
abbrev pub AllStayFree : Type 0
AllStayFree = (v : Setting) (k : Contents) (before after : List Step) (s content : ℕ) → CarriesWithout k content ((fold (after_step v) new_world before).session s).client →
    NonePuts k s content after → IsFree k content ((fold (after_step v) new_world (before ++ ClientWrites s true ∷ after)).session s)
