-- Contents that stand apart from pages, where pages split: what a line names, and what is forgotten meanwhile.
--
-- Clients keep the rules of `specs/Contents`, here of names that are inside at each level. What a session is to be *free* of before it is forgotten are the files that
-- count, or may yet. Its client acts at a level: none of its files there shows the content; and, as long as its page there was not written, neither the journal nor the
-- page of the level before. (One that is on its way from one level to the next forgets nothing.)
use Rattle.std.specs.Prelude.{◌≡◌, ℕ, zero, suc, List, [], ◌∷◌, fold, Bool, true, false, ◌==◌, Some, None, ⊤}
use Rattle.gq_names.specs.Names.{Setting, Page, Client, Knows, Looks, Announces, Carries, new_page, shown}
use Rattle.gq_names.specs.Contents.{Contents, Each, and_content}
use Rattle.gq_names.specs.Splitting.{Levels, IsInside, SignedPage, SignedJournal, LevelFiles, Hand, At, Files, SplitWorld, SplitStep, Puts, ChoosesLine, first_world, counts, shows_signpost, after_split_step}

-- all that the page shows under names inside is such
abbrev pub ShowsInside : Contents → Levels → (P : ℕ → Type 0) → Page → Type 0
ShowsInside k inside P page = (name content : ℕ) → IsInside inside name → k.names (shown page name).bytes content ≡ true → P content

-- it shows another content, or none
abbrev pub ShowsOther : Contents → Levels → (content : ℕ) → Page → Type 0
ShowsOther k inside content page = ShowsInside k inside (λ c. (c == content) ≡ false) page

-- what the client is to write shows others
abbrev pub WritesOther : Contents → Levels → (content : ℕ) → Client → Type 0
WritesOther k inside content (Knows journal) = ShowsOther k inside content journal.page
WritesOther k inside content (Looks journal change looked seen) = ShowsOther k inside content journal.page × ((c : ℕ) → k.names change.bytes c ≡ true → (c == content) ≡ false)
WritesOther k inside content (Announces journal op) = ShowsOther k inside content journal.page
WritesOther k inside content (Carries journal op) = ShowsOther k inside content journal.page

-- what a level begins with shows others
abbrev pub BeforeIsFree : Contents → Levels → (content : ℕ) → (files : ℕ → LevelFiles) → (level : ℕ) → Type 0
BeforeIsFree k inside content files zero = ⊤
BeforeIsFree k inside content files (suc before) =
    ((j : SignedJournal) → (files before).journal ≡ Some j → ShowsOther k inside content j.journal.page) × ((p : SignedPage) → (files before).page ≡ Some p → ShowsOther k inside content p.page)

pub record LevelIsFree (k : Contents) (inside : Levels) (content : ℕ) (z : LevelFiles) : Type 0 where
  pub journal : (j : SignedJournal) → z.journal ≡ Some j → ShowsOther k inside content j.journal.page
  pub journals : Each (λ j. ShowsOther k inside content j.journal.page) z.journal_pending
  pub page : (p : SignedPage) → z.page ≡ Some p → ShowsOther k inside content p.page
  pub pages : Each (λ p. ShowsOther k inside content p.page) z.page_pending

abbrev pub IsFreeBy : Contents → Levels → (content : ℕ) → Files → Hand → Type 0
IsFreeBy k inside content x (At level false client) =
    LevelIsFree k inside content (x.level level) × ((x.level level).page ≡ None → BeforeIsFree k inside content x.level level) × WritesOther k inside content client
IsFreeBy k inside content x _ = ⊥

-- ---- deeds

pub data SplitDeed : Type 0 where
  DoesStep : (step : SplitStep) → SplitDeed
  KeepsContent : (content : ℕ) → SplitDeed
  ForgetsContent : (content : ℕ) → SplitDeed

pub record SplitState : Type 0 where
  pub world : SplitWorld
  pub kept : (content : ℕ) → Bool
  pub forgotten : (content : ℕ) → Bool

abbrev pub first_state : SplitState
first_state = record { world = first_world; kept = λ c. false; forgotten = λ c. false }

abbrev pub after_split_deed : Setting → Levels → SplitState → SplitDeed → SplitState
after_split_deed v inside st (DoesStep step) = record st { world = after_split_step v inside st.world step }
after_split_deed v inside st (KeepsContent content) = record st { kept = and_content content st.kept }
after_split_deed v inside st (ForgetsContent content) = record st { forgotten = and_content content st.forgotten }

abbrev pub split_state_after : Setting → Levels → SplitState → List SplitDeed → SplitState
split_state_after v inside st deeds = fold (after_split_deed v inside) st deeds

-- ---- the rules

abbrev pub ChoosesOnly : Contents → SplitState → Hand → Type 0
ChoosesOnly k st (At level signed (Looks journal change looked seen)) = (content : ℕ) → k.names change.bytes content ≡ true → st.kept content ≡ true
ChoosesOnly k st _ = ⊤

abbrev pub MaySplitStep : Contents → Levels → SplitState → SplitStep → Type 0
MaySplitStep k inside st (Puts s name bytes) = IsInside inside name → (content : ℕ) → k.names bytes content ≡ true → (k.owner content ≡ s) × (st.forgotten content ≡ false)
MaySplitStep k inside st (ChoosesLine s more goes asks) = ChoosesOnly k st (st.world.session s).hand
MaySplitStep k inside st _ = ⊤

abbrev pub MaySplit : Contents → Levels → SplitState → SplitDeed → Type 0
MaySplit k inside st (DoesStep step) = MaySplitStep k inside st step
MaySplit k inside st (KeepsContent content) = ⊤
MaySplit k inside st (ForgetsContent content) = IsFreeBy k inside content (st.world.session (k.owner content)) (st.world.session (k.owner content)).hand

abbrev pub AllSplitMay : Setting → Contents → Levels → SplitState → List SplitDeed → Type 0
AllSplitMay v k inside st [] = ⊤
AllSplitMay v k inside st (deed ∷ deeds) = MaySplit k inside st deed × AllSplitMay v k inside (after_split_deed v inside st deed) deeds

-- ---- the law

-- what counts of a session at a level. It is what counts of its names, where the page of that level shows no signpost, or was never written
abbrev pub page_of : Levels → (files : ℕ → LevelFiles) → (level : ℕ) → Page
page_of inside files zero = counts (inside 0) (files 0).page new_page
page_of inside files (suc level) = counts (inside (suc level)) (files (suc level)).page (page_of inside files level)

-- each content that it shows was acknowledged by all servers that are to have it, and nobody has forgotten it
abbrev pub AllSplitShownAreThere : Type 0
AllSplitShownAreThere = (v : Setting) (inside : Levels) (k : Contents) (deeds : List SplitDeed) → IsInside inside v.name → AllSplitMay v k inside first_state deeds → (s level : ℕ) →
    shows_signpost (((split_state_after v inside first_state deeds).world.session s).level level).page ≡ false →
    ShowsInside k inside (λ content. ((split_state_after v inside first_state deeds).kept content ≡ true) × ((split_state_after v inside first_state deeds).forgotten content ≡ false))
    (page_of inside ((split_state_after v inside first_state deeds).world.session s).level level)
