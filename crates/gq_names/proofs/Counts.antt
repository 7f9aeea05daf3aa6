-- Pages that split: what counts of a session, as it is for `specs/Names`. The *top* is the last level that its client ever went on to: its files are the session's
-- files, each with what the level before had until it is written. No line of the levels below counts any more, but for that, and above it nothing was written.
use Rattle.std.proofs.Common.{◌≡◌, ◌≢◌, ◌⊎◌, ℕ, zero, suc, ◌<◌, ◌≤◌, Bool, true, false, List, [], ◌∷◌, ◌++◌, refl, sym, ◌∙◌, ap, subst, inl, inr, Option, Some, None, arith}
use Rattle.std.specs.Prelude.{not, ◌||◌, ◌&&◌, slice_get, if◌then◌else◌, ⊤}
use Rattle.std.proofs.lemmas.Bool.{true≢false, eq-eqb, ne_eqb, cases_eq, cases_lt}
use Rattle.gq_tag.specs.declared.StoredCopy.{StoredCopy}
use Rattle.gq_tag.specs.Tag.{first_copy}
use Rattle.gq_names.specs.Names.{Page, Journal, Client, Knows, Looks, Announces, Carries, Session, behind, new_page, new_journal}
use Rattle.gq_names.specs.Contents.{Each}
use Rattle.gq_names.specs.Splitting.{SignedPage, SignedJournal, Hand, At, GoesOn, Clearing, Rests, ClearsJournal, ClearsPage, LevelFiles, Files, no_files, shows_signpost, has_signpost, with_level, known_before, cleared}
use Rattle.gq_names.proofs.Lists.{each_map}
use Rattle.gq_names.proofs.Alike.{AlikePage, AlikeJournal, AlikeClient, page_on, page_back, journal_on, journal_back, PairedLast, last_none, last_each}

-- what stands in a page that may not be written yet
abbrev pub stands : Option SignedPage → SignedPage
stands None = record { page = new_page; signed = false }
stands (Some page) = page

pub signed_stands : (page : Option SignedPage) → (stands page).signed ≡ shows_signpost page
signed_stands None = refl
signed_stands (Some page) = refl

pub none_unsigned : (page : Option SignedPage) → page ≡ None → shows_signpost page ≡ false
none_unsigned None is = refl
none_unsigned (Some page) is = absurd (let bad : Some page ≡ None = is in cc)

pub signed_some : (page : Option SignedPage) → shows_signpost page ≡ true → page ≡ None → ⊥
signed_some page shows none = true≢false (sym shows ∙ none_unsigned page none)

module _ (here : ℕ → Bool) where
  -- ---- what is so of hands

  -- it does not carry a page with the signpost
  abbrev pub Quiet : Bool → Client → Type 0
  Quiet signed (Knows journal) = ⊤
  Quiet signed (Looks journal change looked seen) = ⊤
  Quiet signed (Announces journal op) = ⊤
  Quiet signed (Carries journal op) = signed ≡ false

  abbrev pub QuietHand : (top : ℕ) → Hand → Type 0
  QuietHand top (At level signed d) = level ≡ top → Quiet signed d
  QuietHand top (GoesOn level) = ⊤

  abbrev pub Has : (P : Journal → Type 0) → Client → Type 0
  Has P (Knows journal) = P journal
  Has P (Looks journal change looked seen) = ⊥
  Has P (Announces journal op) = P journal
  Has P (Carries journal op) = P journal

  abbrev pub SignedHand : (top : ℕ) → (P : Journal → Type 0) → Hand → Type 0
  SignedHand top P (At level signed d) = level ≡ top → (signed ≡ true) × Has P d
  SignedHand top P (GoesOn level) = ⊤

  abbrev pub OnlyKnows : (P : Journal → Type 0) → Client → Type 0
  OnlyKnows P (Knows journal) = P journal
  OnlyKnows P (Looks journal change looked seen) = ⊥
  OnlyKnows P (Announces journal op) = ⊥
  OnlyKnows P (Carries journal op) = ⊥

  abbrev pub CarriesNot : Client → Type 0
  CarriesNot (Knows journal) = ⊤
  CarriesNot (Looks journal change looked seen) = ⊤
  CarriesNot (Announces journal op) = ⊤
  CarriesNot (Carries journal op) = ⊥

  abbrev pub NotCarrying : (top : ℕ) → Hand → Type 0
  NotCarrying top (At level signed d) = level ≡ top → CarriesNot d
  NotCarrying top (GoesOn level) = ⊤

  -- below the top it only knows a journal with the signpost; at the top it knows such an earlier one, and acts as the client does
  abbrev pub HandFits : (top : ℕ) → (P : Journal → Type 0) → (before : Journal) → Client → Hand → Type 0
  HandFits top P before c (GoesOn level) = (level < top) ⊎ ((level ≡ top) × P before)
  HandFits top P before c (At level signed d) = ((level < top) × (signed ≡ true) × OnlyKnows (λ j. suc level ≡ top → P j) d) ⊎ ((level ≡ top) × P before × AlikeClient here c d)

  abbrev pub ClearingFits : (top level : ℕ) → (P : Journal → Type 0) → Clearing → Type 0
  ClearingFits top level P Rests = ⊤
  ClearingFits top level P (ClearsJournal journal) = (level < top) × (suc level ≡ top → P journal)
  ClearingFits top level P (ClearsPage journal) = (level < top) × (suc level ≡ top → P journal)

  -- ---- levels below the top

  pub record Left (z : LevelFiles) : Type 0 where
    pub journal : has_signpost z.journal ≡ true
    pub journals : Each (λ j. j.signed ≡ true) z.journal_pending
    pub page : shows_signpost z.page ≡ true
    pub pages : Each (λ q. q.signed ≡ true) z.page_pending

  -- as long as the journal of the top was not written the one before says what counts, and as long as the page was not written so do the pages that it has
  abbrev pub Fits : Journal → Page → LevelFiles → Journal → Type 0
  Fits now page z j = (z.journal ≡ None → AlikeJournal here now j) × (z.page ≡ None → AlikePage here page j.page)

  -- the one that the top begins with
  pub record Last (now : Journal) (page : Page) (z before : LevelFiles) : Type 0 where
    pub journal : (j : SignedJournal) → before.journal ≡ Some j → Fits now page z j.journal
    pub journals : Each (λ j. Fits now page z j.journal) before.journal_pending
    pub its_page : (q : SignedPage) → before.page ≡ Some q → z.page ≡ None → AlikePage here page q.page
    pub pages : Each (λ q. z.page ≡ None → AlikePage here page q.page) before.page_pending

  abbrev pub LastOf : (top : ℕ) → Journal → Page → LevelFiles → (ℕ → LevelFiles) → Type 0
  LastOf zero now page z level = Fits now page z new_journal
  LastOf (suc before) now page z level = Last now page z (level before)

  -- ---- the top

  -- one that was written again as it is, before the new file was written at all
  abbrev pub SpareJournal : Journal → Option SignedJournal → Journal → Type 0
  SpareJournal now journal i = (journal ≡ None) × AlikeJournal here now i

  abbrev pub SparePage : Page → Option SignedPage → Page → Type 0
  SparePage now page p = (page ≡ None) × AlikePage here now p

  abbrev pub LikeJournal : Journal → SignedJournal → Type 0
  LikeJournal i j = AlikeJournal here i j.journal

  abbrev pub LikePage : Page → SignedPage → Type 0
  LikePage p q = AlikePage here p q.page

  pub record Top (x : Session) (z : LevelFiles) : Type 0 where
    pub journal : (j : SignedJournal) → z.journal ≡ Some j → AlikeJournal here x.journal j.journal
    pub journals : PairedLast (SpareJournal x.journal z.journal) LikeJournal x.journal_pending z.journal_pending
    pub page : (q : SignedPage) → z.page ≡ Some q → AlikePage here x.page q.page
    pub pages : PairedLast (SparePage x.page z.page) LikePage x.page_pending z.page_pending

  -- no page is written before its journal
  abbrev pub JournalFirst : (top : ℕ) → LevelFiles → Hand → Type 0
  JournalFirst top z hand = z.journal ≡ None → (z.page ≡ None) × (z.page_pending ≡ []) × NotCarrying top hand

  -- a page, and behind it those that are pending: once one has the signpost, it is such, and so are all behind it
  abbrev pub SignedLast : (P : Page → Type 0) → SignedPage → List SignedPage → Type 0
  SignedLast P q [] = q.signed ≡ true → P q.page
  SignedLast P q (r ∷ rs) = (q.signed ≡ true → P q.page × (r.signed ≡ true)) × SignedLast P r rs

  -- no journal with the signpost was answered
  pub record Unsigned (top : ℕ) (z : LevelFiles) (its : Hand) : Type 0 where
    pub page : shows_signpost z.page ≡ false
    pub pages : Each (λ q. q.signed ≡ false) z.page_pending
    pub hand : QuietHand top its

  -- one was: all that is known of the journal has it, and says the same
  pub record Signed (top : ℕ) (now : Journal) (z : LevelFiles) (its : Hand) : Type 0 where
    pub journal : has_signpost z.journal ≡ true
    pub journals : Each (λ j. (j.signed ≡ true) × AlikeJournal here now j.journal) z.journal_pending
    pub hand : SignedHand top (AlikeJournal here now) its
    pub pages : SignedLast (AlikePage here now.page) (stands z.page) z.page_pending

  abbrev pub Phase : (top : ℕ) → Journal → LevelFiles → Hand → Type 0
  Phase top now z hand = Unsigned top z hand ⊎ Signed top now z hand

  -- ---- a session

  pub record Stage (top : ℕ) (x : Session) (y : Files) : Type 0 where
    pub none : (level : ℕ) → top < level → y.level level ≡ no_files
    pub left : (level : ℕ) → level < top → Left (y.level level)
    pub last : LastOf top x.journal x.page (y.level top) y.level
    pub its_top : Top x (y.level top)
    pub first : JournalFirst top (y.level top) y.hand
    pub clearing : (level : ℕ) → ClearingFits top level (Fits x.journal x.page (y.level top)) (y.clearing level)
    pub hand : HandFits top (Fits x.journal x.page (y.level top)) (known_before y.known top) x.client y.hand
    pub phase : Phase top x.journal (y.level top) y.hand

  pub record Counts (x : Session) (y : Files) : Type 0 where
    pub top : ℕ
    pub stage : Stage top x y

  -- a level begins with this page, which somebody saw: the one before had the signpost
  abbrev pub SignedBefore : (level : ℕ) → (ℕ → LevelFiles) → Type 0
  SignedBefore zero files = ⊤
  SignedBefore (suc before) files = shows_signpost (files before).page ≡ true

  abbrev pub SignFits : (level : ℕ) → Session → Files → Page → Type 0
  SignFits level x y p = SignedBefore level y.level × ((y.level level).page ≡ None → AlikePage here x.page p)

  -- ---- of pages with the signpost

  pub signed_map : (P Q : Page → Type 0) → ((p : Page) → P p → Q p) → (q : SignedPage) (rs : List SignedPage) → SignedLast P q rs → SignedLast Q q rs
  signed_map P Q f q [] all = λ is. f q.page (all is)
  signed_map P Q f q (r ∷ rs) all = (λ is. (f q.page (all.0 is).0, (all.0 is).1), signed_map P Q f r rs all.1)

  pub signed_none : (P : Page → Type 0) (q : SignedPage) (rs : List SignedPage) → q.signed ≡ false → Each (λ r. r.signed ≡ false) rs → SignedLast P q rs
  signed_none P q [] none each = λ is. absurd (true≢false (sym is ∙ none))
  signed_none P q (r ∷ rs) none each = (λ is. absurd (true≢false (sym is ∙ none)), signed_none P r rs each.0 each.1)

  pub signed_at : (P : Page → Type 0) (q : SignedPage) (rs : List SignedPage) (i : ℕ) (r : SignedPage) → SignedLast P q rs → slice_get rs i ≡ Some r → SignedLast P r (behind rs i)
  signed_at P q [] i r all at = absurd (let bad : None ≡ Some r = at in cc)
  signed_at P q (a ∷ rs) zero r all at = let same : a ≡ r = cc in subst (λ z. SignedLast P z rs) same all.1
  signed_at P q (a ∷ rs) (suc i) r all at = signed_at P a rs i r all.1 at

  pub signed_push : (P : Page → Type 0) (q : SignedPage) (rs : List SignedPage) (r : SignedPage) → SignedLast P q rs → r.signed ≡ true → P r.page → SignedLast P q (rs ++ r ∷ [])
  signed_push P q [] r all is such = (λ here. (all here, is), λ also. such)
  signed_push P q (a ∷ rs) r all is such = (all.0, signed_push P a rs r all.1 is such)

  pub signed_all : (P : Page → Type 0) (q : SignedPage) (rs : List SignedPage) → SignedLast P q rs → q.signed ≡ true → P q.page × Each (λ r. (r.signed ≡ true) × P r.page) rs
  signed_all P q [] all is = (all is, tt)
  signed_all P q (r ∷ rs) all is = let more = signed_all P r rs all.1 (all.0 is).1 in ((all.0 is).0, (((all.0 is).1, more.0), more.1))

  pub signed_hand_map : (top : ℕ) (P Q : Journal → Type 0) → ((j : Journal) → P j → Q j) → (hand : Hand) → SignedHand top P hand → SignedHand top Q hand
  signed_hand_map top P Q f (At level signed (Knows j)) has = λ is. let h = has is in (h.0, f j h.1)
  signed_hand_map top P Q f (At level signed (Looks j change looked seen)) has = λ is. absurd (has is).1
  signed_hand_map top P Q f (At level signed (Announces j op)) has = λ is. let h = has is in (h.0, f j h.1)
  signed_hand_map top P Q f (At level signed (Carries j op)) has = λ is. let h = has is in (h.0, f j h.1)
  signed_hand_map top P Q f (GoesOn level) has = tt

  -- a page with the signpost is the one that its journal has
  pub its_page : (top : ℕ) (x : Session) (y : Files) → Stage top x y → Signed top x.journal (y.level top) y.hand → shows_signpost (y.level top).page ≡ true → AlikePage here x.journal.page x.page
  its_page top x y st s is = by (y.level top).page refl
    where
      last : AlikePage here x.journal.page (stands (y.level top).page).page
      last = (signed_all (AlikePage here x.journal.page) (stands (y.level top).page) (y.level top).page_pending s.pages (signed_stands (y.level top).page ∙ is)).0

      by : (page : Option SignedPage) → (y.level top).page ≡ page → AlikePage here x.journal.page x.page
      by None none = absurd (signed_some (y.level top).page is none)
      by (Some q) some = page_on here x.journal.page q.page x.page (let P : Option SignedPage → Type 0 = λ z. AlikePage here x.journal.page (stands z).page in subst P some last) (page_back here x.page q.page (st.its_top.page q some))

  -- ---- files of another level

  pub level_same : (k : ℕ) (z : LevelFiles) (y : Files) → (with_level k z y).level k ≡ z
  level_same k z y = rw (eq-eqb k k refl) refl

  pub level_other : (k i : ℕ) (z : LevelFiles) (y : Files) → i ≢ k → (with_level k z y).level i ≡ y.level i
  level_other k i z y ne = rw (ne_eqb i k ne) refl

  -- ---- lines that are taken out

  pub cleared_alike : (inside : ℕ → Bool) → ((n : ℕ) → here n ≡ true → inside n ≡ true) → (now j : Journal) (page : Page) (z : LevelFiles) (goes : ℕ → Bool) → (z.journal ≡ None → z.page ≡ None) → Fits now page z j → Fits now page z (cleared inside z.page goes j)
  cleared_alike inside within now j page z goes first fits = (λ none. record { page = kept now.page (first none) (fits.0 none).page; op = (fits.0 none).op }, λ none. kept page none (fits.1 none))
    where
      stays : (line : StoredCopy) (b : Bool) → line ≡ (if b && (false || not true) then first_copy else line)
      stays line true = refl
      stays line false = refl

      kept : (p : Page) → z.page ≡ None → AlikePage here p j.page → AlikePage here p (cleared inside z.page goes j).page
      kept p none one = record {
        line = λ n is. one.line n is ∙ rw none (rw (within n is) (stays (j.page.line n) (goes n)));
        gone = one.gone;
        after = one.after;
        number = one.number;
      }

  -- ---- what is known otherwise

  pub clearing_map : (P Q : Journal → Type 0) → ((j : Journal) → P j → Q j) → (top level : ℕ) (clearing : Clearing) → ClearingFits top level P clearing → ClearingFits top level Q clearing
  clearing_map P Q f top level Rests has = tt
  clearing_map P Q f top level (ClearsJournal j) has = (has.0, λ is. f j (has.1 is))
  clearing_map P Q f top level (ClearsPage j) has = (has.0, λ is. f j (has.1 is))

  pub hand_map : (P Q : Journal → Type 0) → (top : ℕ) (i j : Journal) (c : Client) → (P i → Q j) → ((k : Journal) → P k → Q k) → (hand : Hand) → HandFits top P i c hand → HandFits top Q j c hand
  hand_map P Q top i j c f g (GoesOn level) (inl low) = inl low
  hand_map P Q top i j c f g (GoesOn level) (inr here_it) = inr (here_it.0, f here_it.1)
  hand_map P Q top i j c f g (At level signed (Knows k)) (inl low) = inl (low.0, low.1, λ is. g k (low.2 is))
  hand_map P Q top i j c f g (At level signed (Looks k change looked seen)) (inl low) = absurd low.2
  hand_map P Q top i j c f g (At level signed (Announces k op)) (inl low) = absurd low.2
  hand_map P Q top i j c f g (At level signed (Carries k op)) (inl low) = absurd low.2
  hand_map P Q top i j c f g (At level signed d) (inr here_it) = inr (here_it.0, f here_it.1, here_it.2)

  last_map : (top : ℕ) (now also : Journal) (page more : Page) (z a : LevelFiles) (level next : ℕ → LevelFiles) → ((i : ℕ) → i < top → next i ≡ level i) →
      ((j : Journal) → Fits now page z j → Fits also more a j) → ((p : Page) → (z.page ≡ None → AlikePage here page p) → a.page ≡ None → AlikePage here more p) →
      LastOf top now page z level → LastOf top also more a next
  last_map zero now also page more z a level next same f g last = f new_journal last
  last_map (suc k) now also page more z a level next same f g last = subst (λ (b : LevelFiles). Last also more a b) (sym (same k (omega arith))) (record {
    journal = λ j is. f j.journal (last.journal j is);
    journals = each_map (λ (j : SignedJournal). Fits now page z j.journal) (λ (j : SignedJournal). Fits also more a j.journal) (level k).journal_pending (λ j one. f j.journal one) last.journals;
    its_page = λ q is. g q.page (last.its_page q is);
    pages = each_map (λ (q : SignedPage). z.page ≡ None → AlikePage here page q.page) (λ (q : SignedPage). a.page ≡ None → AlikePage here more q.page) (level k).page_pending (λ q one. g q.page one) last.pages;
  })

  -- ---- the session's hand is another one

  pub hand_turns : (top : ℕ) (x : Session) (y : Files) (c : Client) (hand : Hand) → Stage top x y → HandFits top (Fits x.journal x.page (y.level top)) (known_before y.known top) c hand → NotCarrying top hand → Phase top x.journal (y.level top) hand →
      Stage top (record x { client = c }) (record y { hand = hand })
  hand_turns top x y c hand st fits not_it phase = record {
    none = st.none;
    left = st.left;
    last = st.last;
    its_top = record { journal = st.its_top.journal; journals = st.its_top.journals; page = st.its_top.page; pages = st.its_top.pages };
    first = λ none. let n = st.first none in (n.0, n.1, not_it);
    clearing = st.clearing;
    hand = fits;
    phase = phase;
  }

  -- ---- its files of the top are others

  pub top_turns : (top : ℕ) (x also : Session) (y : Files) (z : LevelFiles) (hand : Hand) → Stage top x y →
      ((j : Journal) → Fits x.journal x.page (y.level top) j → Fits also.journal also.page z j) →
      ((p : Page) → ((y.level top).page ≡ None → AlikePage here x.page p) → z.page ≡ None → AlikePage here also.page p) →
      Top also z → JournalFirst top z hand → HandFits top (Fits also.journal also.page z) (known_before y.known top) also.client hand → Phase top also.journal z hand →
      Stage top also (record (with_level top z y) { hand = hand })
  top_turns top x also y z hand st f g its_top first fits phase = record {
    none = λ i low. level_other top i z y (λ same. omega (arith, low, same)) ∙ st.none i low;
    left = λ i low. subst Left (sym (level_other top i z y (λ same. omega (arith, low, same)))) (st.left i low);
    last = subst (λ a. LastOf top also.journal also.page a (with_level top z y).level) (sym at)
        (last_map top x.journal also.journal x.page also.page (y.level top) z y.level (with_level top z y).level (λ i low. level_other top i z y (λ same. omega (arith, low, same))) f g st.last);
    its_top = subst (Top also) (sym at) its_top;
    first = subst (λ a. JournalFirst top a hand) (sym at) first;
    clearing = λ i. subst (λ (a : LevelFiles). ClearingFits top i (Fits also.journal also.page a) (y.clearing i)) (sym at) (clearing_map (Fits x.journal x.page (y.level top)) (Fits also.journal also.page z) f top i (y.clearing i) (st.clearing i));
    hand = subst (λ (a : LevelFiles). HandFits top (Fits also.journal also.page a) (known_before y.known top) also.client hand) (sym at) fits;
    phase = subst (λ a. Phase top also.journal a hand) (sym at) phase;
  }
    where
      at : (with_level top z y).level top ≡ z
      at = level_same top z y

  -- ---- its files of a level below are others

  pub left_turns : (top k : ℕ) (x : Session) (y : Files) (z : LevelFiles) → Stage top x y → k < top → Left z → (suc k ≡ top → Last x.journal x.page (y.level top) z) → Stage top x (with_level k z y)
  left_turns top k x y z st low left last = record {
    none = λ i high. level_other k i z y (λ same. omega (arith, low, high, same)) ∙ st.none i high;
    left = λ i below. left_at i below (cases_eq i k);
    last = subst (λ a. LastOf top x.journal x.page a (with_level k z y).level) (sym at) (last_at top refl st.last);
    its_top = subst (Top x) (sym at) st.its_top;
    first = subst (λ a. JournalFirst top a y.hand) (sym at) st.first;
    clearing = λ i. subst (λ (a : LevelFiles). ClearingFits top i (Fits x.journal x.page a) (y.clearing i)) (sym at) (st.clearing i);
    hand = subst (λ (a : LevelFiles). HandFits top (Fits x.journal x.page a) (known_before y.known top) x.client y.hand) (sym at) st.hand;
    phase = subst (λ a. Phase top x.journal a y.hand) (sym at) st.phase;
  }
    where
      at : (with_level k z y).level top ≡ y.level top
      at = level_other k top z y (λ same. omega (arith, low, same))

      left_at : (i : ℕ) → i < top → (i ≡ k) ⊎ (i ≢ k) → Left ((with_level k z y).level i)
      left_at i below (inl same) = rw (eq-eqb i k same) left
      left_at i below (inr ne) = subst Left (sym (level_other k i z y ne)) (st.left i below)

      last_at : (t : ℕ) → t ≡ top → LastOf t x.journal x.page (y.level top) y.level → LastOf t x.journal x.page (y.level top) (with_level k z y).level
      last_at zero is old = old
      last_at (suc b) is old = of (cases_eq b k)
        where
          of : (b ≡ k) ⊎ (b ≢ k) → Last x.journal x.page (y.level top) ((with_level k z y).level b)
          of (inl same) = rw (eq-eqb b k same) (last (ap suc (sym same) ∙ is))
          of (inr ne) = subst (Last x.journal x.page (y.level top)) (sym (level_other k b z y ne)) old

  -- ---- it goes on to the next level

  pub goes_on : (top : ℕ) (x : Session) (y : Files) (known : ℕ → Journal) → Stage top x y → Signed top x.journal (y.level top) y.hand → AlikeJournal here x.journal (known top) → shows_signpost (y.level top).page ≡ true →
      Stage (suc top) x (record y { hand = GoesOn (suc top); known = known })
  goes_on top x y known st s knows is = record {
    none = λ i low. st.none i (omega (arith, low));
    left = λ i low. left i low (cases_eq i top);
    last = record {
      journal = λ j some. fits j.journal (st.its_top.journal j some);
      journals = each_map (λ (i : SignedJournal). (i.signed ≡ true) × AlikeJournal here x.journal i.journal) (λ (i : SignedJournal). Fits x.journal x.page (y.level (suc top)) i.journal) (y.level top).journal_pending (λ i one. fits i.journal one.1) s.journals;
      its_page = λ q some none. st.its_top.page q some;
      pages = each_map (λ (q : SignedPage). (q.signed ≡ true) × AlikePage here x.journal.page q.page) (λ (q : SignedPage). (y.level (suc top)).page ≡ None → AlikePage here x.page q.page) (y.level top).page_pending
          (λ q one none. page_on here x.page x.journal.page q.page same one.1) all.1;
    };
    its_top = subst (Top x) (sym above) (record {
      journal = λ j some. absurd (let bad : None ≡ Some j = some in cc);
      journals = last_none (SpareJournal x.journal None) LikeJournal x.journal_pending (last_each (SpareJournal x.journal (y.level top).journal) LikeJournal (λ (k : SignedJournal). (k.signed ≡ true) × AlikeJournal here x.journal k.journal) (SpareJournal x.journal None) x.journal_pending (y.level top).journal_pending
          (λ i k like so. (refl, journal_on here x.journal k.journal i so.1 (journal_back here i k.journal like))) (λ i spare. (refl, spare.1)) st.its_top.journals s.journals);
      page = λ q some. absurd (let bad : None ≡ Some q = some in cc);
      pages = last_none (SparePage x.page None) LikePage x.page_pending (last_each (SparePage x.page (y.level top).page) LikePage (λ (q : SignedPage). (q.signed ≡ true) × AlikePage here x.journal.page q.page) (SparePage x.page None) x.page_pending (y.level top).page_pending
          (λ p q like so. (refl, page_on here x.page x.journal.page p same (page_on here x.journal.page q.page p so.1 (page_back here p q.page like)))) (λ p spare. (refl, spare.1)) st.its_top.pages all.1);
    });
    first = subst (λ z. JournalFirst (suc top) z (GoesOn (suc top))) (sym above) (λ none. (refl, refl, tt));
    clearing = λ i. clears i (y.clearing i) (st.clearing i);
    hand = inr (refl, fits (known top) knows);
    phase = inl (subst (λ z. Unsigned (suc top) z (GoesOn (suc top))) (sym above) (record { page = refl; pages = tt; hand = tt }));
  }
    where
      above : y.level (suc top) ≡ no_files
      above = st.none (suc top) (omega arith)

      all : AlikePage here x.journal.page (stands (y.level top).page).page × Each (λ r. (r.signed ≡ true) × AlikePage here x.journal.page r.page) (y.level top).page_pending
      all = signed_all (AlikePage here x.journal.page) (stands (y.level top).page) (y.level top).page_pending s.pages (signed_stands (y.level top).page ∙ is)

      same : AlikePage here x.page x.journal.page
      same = page_back here x.journal.page x.page (its_page top x y st s is)

      fits : (i : Journal) → AlikeJournal here x.journal i → Fits x.journal x.page (y.level (suc top)) i
      fits i one = (λ none. one, λ none. page_on here x.page x.journal.page i.page same one.page)

      left : (i : ℕ) → i < suc top → (i ≡ top) ⊎ (i ≢ top) → Left (y.level i)
      left i low (inl it) = subst (λ k. Left (y.level k)) (sym it) (record {
        journal = s.journal;
        journals = each_map (λ (j : SignedJournal). (j.signed ≡ true) × AlikeJournal here x.journal j.journal) (λ (j : SignedJournal). j.signed ≡ true) (y.level top).journal_pending (λ j one. one.0) s.journals;
        page = is;
        pages = each_map (λ (q : SignedPage). (q.signed ≡ true) × AlikePage here x.journal.page q.page) (λ (q : SignedPage). q.signed ≡ true) (y.level top).page_pending (λ q one. one.0) all.1;
      })
      left i low (inr ne) = st.left i (omega (arith, low, ne))

      clears : (i : ℕ) (clearing : Clearing) → ClearingFits top i (Fits x.journal x.page (y.level top)) clearing → ClearingFits (suc top) i (Fits x.journal x.page (y.level (suc top))) clearing
      clears i Rests has = tt
      clears i (ClearsJournal j) has = (let low = has.0 in omega (arith, low), λ it. absurd (let low = has.0 in omega (arith, low, it)))
      clears i (ClearsPage j) has = (let low = has.0 in omega (arith, low), λ it. absurd (let low = has.0 in omega (arith, low, it)))

  -- ---- what was seen of pages stays so

  -- no page is another one
  pub same_keeps : (k : ℕ) (z : LevelFiles) (x also : Session) (y : Files) → z.page ≡ (y.level k).page → also.page ≡ x.page → (level : ℕ) (p : Page) → SignFits level x y p → SignFits level also (with_level k z y) p
  same_keeps k z x also y same page level p fits = (before level fits.0, λ none. rw page (fits.1 (sym (pages level (cases_eq level k)) ∙ none)))
    where
      pages : (i : ℕ) → (i ≡ k) ⊎ (i ≢ k) → ((with_level k z y).level i).page ≡ (y.level i).page
      pages i (inl is) = rw (eq-eqb i k is) (same ∙ ap (λ a. (y.level a).page) (sym is))
      pages i (inr ne) = rw (ne_eqb i k ne) refl

      before : (i : ℕ) → SignedBefore i y.level → SignedBefore i (with_level k z y).level
      before zero is = tt
      before (suc b) is = ap shows_signpost (pages b (cases_eq b k)) ∙ is

  -- one is: it has the signpost, where the one before it had, and then another page still says what a level begins with
  pub page_keeps : (k : ℕ) (z : LevelFiles) (x also : Session) (y : Files) (q : SignedPage) → z.page ≡ Some q → (shows_signpost (y.level k).page ≡ true → q.signed ≡ true) →
      ((level : ℕ) (p : Page) → level ≢ k → SignFits level x y p → (y.level level).page ≡ None → AlikePage here also.page p) → (level : ℕ) (p : Page) → SignFits level x y p → SignFits level also (with_level k z y) p
  page_keeps k z x also y q some signed turns level p fits = (before level fits.0, after (cases_eq level k))
    where
      shows : (b : ℕ) → shows_signpost (y.level b).page ≡ true → (b ≡ k) ⊎ (b ≢ k) → shows_signpost ((with_level k z y).level b).page ≡ true
      shows b is (inl it) = rw (eq-eqb b k it) (ap shows_signpost some ∙ signed (ap (λ a. shows_signpost (y.level a).page) (sym it) ∙ is))
      shows b is (inr ne) = rw (ne_eqb b k ne) is

      before : (i : ℕ) → SignedBefore i y.level → SignedBefore i (with_level k z y).level
      before zero is = tt
      before (suc b) is = shows b is (cases_eq b k)

      after : (level ≡ k) ⊎ (level ≢ k) → ((with_level k z y).level level).page ≡ None → AlikePage here also.page p
      after (inl it) none = absurd (let bad : Some q ≡ None = sym some ∙ ap (λ a. a.page) (sym (level_same k z y)) ∙ ap (λ a. ((with_level k z y).level a).page) (sym it) ∙ none in cc)
      after (inr ne) none = turns level p ne fits (ap (λ a. a.page) (sym (level_other k level z y ne)) ∙ none)

  -- at the top: what is seen of the next level is what the top had with the signpost
  pub top_keeps : (k : ℕ) (z : LevelFiles) (x also : Session) (y : Files) (q : SignedPage) → Stage k x y → z.page ≡ Some q → (shows_signpost (y.level k).page ≡ true → (q.signed ≡ true) × ((p : Page) → AlikePage here x.page p → AlikePage here also.page p)) →
      (level : ℕ) (p : Page) → SignFits level x y p → SignFits level also (with_level k z y) p
  top_keeps k z x also y q st some signed = page_keeps k z x also y q some (λ is. (signed is).0) turns
    where
      above : (b : ℕ) (p : Page) → suc b ≢ k → (b ≡ k) ⊎ (b ≢ k) → (b < k) ⊎ (k ≤ b) → SignFits (suc b) x y p → (y.level (suc b)).page ≡ None → AlikePage here also.page p
      above b p ne (inl it) any fits none = (signed (ap (λ a. shows_signpost (y.level a).page) (sym it) ∙ fits.0)).1 p (fits.1 none)
      above b p ne (inr other) (inl low) fits none = absurd (signed_some (y.level (suc b)).page (st.left (suc b) (omega (arith, low, ne))).page none)
      above b p ne (inr other) (inr high) fits none = absurd (true≢false (sym fits.0 ∙ ap (λ a. shows_signpost a.page) (st.none b (omega (arith, high, other)))))

      turns : (level : ℕ) (p : Page) → level ≢ k → SignFits level x y p → (y.level level).page ≡ None → AlikePage here also.page p
      turns zero p ne fits none = absurd (signed_some (y.level 0).page (st.left 0 (omega (arith, ne))).page none)
      turns (suc b) p ne fits none = above b p ne (cases_eq b k) (cases_lt b k) fits none
