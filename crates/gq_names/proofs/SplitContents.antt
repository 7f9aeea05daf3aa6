-- Where pages split, a content that a page shows is there: by the run of `specs/Names` that does the same, in which only names inside are put.
use Rattle.std.proofs.Common.{◌≡◌, ◌≢◌, ◌⊎◌, ℕ, zero, suc, ◌<◌, ◌≤◌, Bool, true, false, List, [], ◌∷◌, ◌++◌, refl, sym, ap, ◌∙◌, subst, inl, inr, Option, Some, None, arith, eqb, ltb}
use Rattle.std.specs.Prelude.{slice_get, ◌==◌, ◌||◌, ⊤, if◌then◌else◌}
use Rattle.std.proofs.lemmas.Bool.{cases_eq, cases_lt, cases_Bool, eq-eqb, eqb-true, ne_eqb, true≢false}
use Rattle.gq_tag.specs.declared.StoredCopy.{StoredCopy}
use Rattle.gq_tag.specs.Tag.{first_copy}
use Rattle.gq_names.specs.Names.{Setting, Page, Journal, Change, Client, Knows, Looks, Announces, Carries, Session, Reader, Idle, Searches, World, Step, Enters, JournalLate, PageLate, Begins, Tidies, Repeats, Sees, Chooses, ClientWrites, Asks, Finds, Tells, with_session, with_tag, with_end, with_new_op, new_put, looking, tidying, begins_by, tidies_by, repeats_by, sees_by, chooses_by, writes_by, finds_by, tells_by, journal_late, page_late, changed, highest, new_line, is_of, has_seen, no_page, none_seen, and_page, and_seen, shown, new_page, behind, after_step}
use Rattle.gq_names.specs.Contents.{Contents, Each, ShowsOnly, WritesOnly, IsFree, Deed, Does, Keeps, Forgets, State, new_state, and_content, after_deed, state_after, ChoosesKept, MayStep, May, AllMay, IsThere}
use Rattle.gq_names.specs.Splitting.{Levels, IsInside, SignedPage, SignedJournal, LevelFiles, Hand, At, GoesOn, Files, SplitStep, StartsAnew, EntersLevel, LevelJournalLate, LevelPageLate, Puts, TidiesUp, SeesLevel, ChoosesLine, HandWrites, Signs, Clears, ClearingWrites, AsksFor, FindsLevel, TellsOf, shows_signpost, has_signpost, known_before}
use Rattle.gq_names.specs.SplitContents.{BeforeIsFree, ShowsOther, WritesOther, LevelIsFree, IsFreeBy, SplitDeed, DoesStep, KeepsContent, ForgetsContent, SplitState, first_state, after_split_deed, split_state_after, ChoosesOnly, MaySplit, AllSplitMay, page_of, AllSplitShownAreThere}
use Rattle.gq_names.proofs.Lists.{each_at, each_behind, each_push}
use Rattle.gq_names.proofs.Alike.{AlikePage, AlikeChange, AlikeClient, page_back, part_alike, shown_alike, last_each}
use Rattle.gq_names.proofs.Counts.{signed_some, HandFits, Fits, SpareJournal, SparePage, LikeJournal, LikePage, Stage, Counts}
use Rattle.gq_names.proofs.Splitting.{Stands, IsEasy, ClientOf, goes_step, first_stands, Hard}
use Rattle.gq_names.proofs.Contents.{all_shown_are_there}

module _ (v : Setting) (here : ℕ → Bool) (inside : Levels) (within : (level name : ℕ) → here name ≡ true → inside level name ≡ true) where
  in_all : (name : ℕ) → here name ≡ true → IsInside inside name
  in_all name is = λ level. within level name is

  -- ---- no other names are put

  abbrev Clear : Page → Type 0
  Clear page = (name : ℕ) → here name ≡ false → page.line name ≡ first_copy

  abbrev ClearClient : Client → Type 0
  ClearClient (Knows journal) = Clear journal.page
  ClearClient (Looks journal change looked seen) = Clear journal.page × ((name : ℕ) → change.name ≡ Some name → here name ≡ true)
  ClearClient (Announces journal op) = Clear journal.page
  ClearClient (Carries journal op) = Clear journal.page

  record Within (x : Session) : Type 0 where
    journal : Clear x.journal.page
    journals : Each (λ j. Clear j.page) x.journal_pending
    page : Clear x.page
    pages : Each Clear x.page_pending
    client : ClearClient x.client

  abbrev AllWithin : World → Type 0
  AllWithin w = (s : ℕ) → Within (w.session s)

  abbrev IsHere : Step → Type 0
  IsHere (Begins s name bytes) = here name ≡ true
  IsHere _ = ⊤

  turned : (w u : World) (s : ℕ) (x : Session) → ((t : ℕ) → u.session t ≡ w.session t) → AllWithin w → Within x → AllWithin (with_session s x u)
  turned w u s x alike all here t = by (eqb t s)
    where
      by : (b : Bool) → Within (if b then x else u.session t)
      by true = here
      by false = subst Within (sym (alike t)) (all t)

  other_client : (x : Session) (c : Client) → Within x → ClearClient c → Within (record x { client = c })
  other_client x c all one = record { journal = all.journal; journals = all.journals; page = all.page; pages = all.pages; client = one }

  either : (b : Bool) (u w : World) → AllWithin u → AllWithin w → AllWithin (if b then u else w)
  either true u w one other = one
  either false u w one other = other

  tag_same : (j : Journal) (op : Option ℕ) (w : World) (t : ℕ) → (with_tag v j op w).session t ≡ w.session t
  tag_same j None w t = refl
  tag_same j (Some k) w t = refl

  end_same : (op : Option ℕ) (w : World) (t : ℕ) → (with_end op w).session t ≡ w.session t
  end_same None w t = refl
  end_same (Some k) w t = refl

  module _ (w : World) (all : AllWithin w) where
    begun : (s name : ℕ) (bytes : List ℕ) (client : Client) → (w.session s).client ≡ client → here name ≡ true → AllWithin (begins_by v w s name bytes client)
    begun s name bytes (Knows j) is inner = by (eqb name v.name)
      where
        fits : (change : Change) → change.name ≡ Some name → Within (looking w s j change)
        fits change so = other_client (w.session s) (Looks j change (and_page s no_page) (and_seen s j.page none_seen)) (all s) (subst ClearClient is (all s).client, λ n same. (let e : name ≡ n = (let both : Some name ≡ Some n = sym so ∙ same in cc) in subst (λ z. here z ≡ true) e inner))

        by : (b : Bool) → AllWithin (if b then with_session s (looking w s j (record { name = Some name; bytes = bytes; op = Some w.begun })) (with_new_op (new_put w s bytes) w) else with_session s (looking w s j (record { name = Some name; bytes = bytes; op = None })) w)
        by true = turned w (with_new_op (new_put w s bytes) w) s (looking w s j (record { name = Some name; bytes = bytes; op = Some w.begun })) (λ t. refl) all (fits (record { name = Some name; bytes = bytes; op = Some w.begun }) refl)
        by false = turned w w s (looking w s j (record { name = Some name; bytes = bytes; op = None })) (λ t. refl) all (fits (record { name = Some name; bytes = bytes; op = None }) refl)
    begun s name bytes (Looks j change looked seen) is inner = all
    begun s name bytes (Announces j op) is inner = all
    begun s name bytes (Carries j op) is inner = all

    tidied : (s : ℕ) (client : Client) → (w.session s).client ≡ client → AllWithin (tidies_by w s client)
    tidied s (Knows j) is = turned w w s (looking w s j tidying) (λ t. refl) all (other_client (w.session s) (Looks j tidying (and_page s no_page) (and_seen s j.page none_seen)) (all s) (subst ClearClient is (all s).client, λ n same. absurd (let bad : None ≡ Some n = same in cc)))
    tidied s (Looks j change looked seen) is = all
    tidied s (Announces j op) is = all
    tidied s (Carries j op) is = all

    repeated : (s : ℕ) (client : Client) → (w.session s).client ≡ client → AllWithin (repeats_by w s client)
    repeated s (Knows j) is = turned w w s (record (w.session s) { client = Announces j None }) (λ t. refl) all (other_client (w.session s) (Announces j None) (all s) (subst ClearClient is (all s).client))
    repeated s (Looks j change looked seen) is = all
    repeated s (Announces j op) is = all
    repeated s (Carries j op) is = all

    sees : (s t : ℕ) (client : Client) → (w.session s).client ≡ client → AllWithin (sees_by w s t client)
    sees s t (Looks j change looked seen) is = by (eqb t s)
      where
        by : (b : Bool) → AllWithin (if b then w else with_session s (record (w.session s) { client = Looks j change (and_page t looked) (and_seen t (w.session t).page seen) }) w)
        by true = all
        by false = turned w w s (record (w.session s) { client = Looks j change (and_page t looked) (and_seen t (w.session t).page seen) }) (λ i. refl) all (other_client (w.session s) (Looks j change (and_page t looked) (and_seen t (w.session t).page seen)) (all s) (subst ClearClient is (all s).client))
    sees s t (Knows j) is = all
    sees s t (Announces j op) is = all
    sees s t (Carries j op) is = all

    chosen : (s more : ℕ) (goes ask : ℕ → Bool) (client : Client) → (w.session s).client ≡ client → AllWithin (chooses_by v w s more goes ask client)
    chosen s more goes ask (Looks j change looked seen) is = either (has_seen v looked seen) (with_session s next w) w (turned w w s next (λ t. refl) all (other_client (w.session s) next.client (all s) clear)) all
      where
        next : Session
        next = record (w.session s) { client = Announces (changed v goes ask seen s j change (new_line s more change (highest v j.page seen))) change.op }

        known : ClearClient (Looks j change looked seen)
        known = subst ClearClient is (all s).client

        line_at : (name : Option ℕ) (n : ℕ) (line : StoredCopy) → ((m : ℕ) → name ≡ Some m → here m ≡ true) → here n ≡ false → (if is_of name n then line else j.page.line n) ≡ first_copy
        line_at None n line inner out = known.0 n out
        line_at (Some m) n line inner out = rw (ne_eqb n m (λ same. true≢false (sym (inner m refl) ∙ ap here (sym same) ∙ out))) (known.0 n out)

        clear : Clear (changed v goes ask seen s j change (new_line s more change (highest v j.page seen))).page
        clear n out = line_at change.name n (new_line s more change (highest v j.page seen)) known.1 out
    chosen s more goes ask (Knows j) is = all
    chosen s more goes ask (Announces j op) is = all
    chosen s more goes ask (Carries j op) is = all

    written : (s : ℕ) (answered : Bool) (client : Client) → (w.session s).client ≡ client → AllWithin (writes_by v w s answered client)
    written s true (Announces j op) is = turned w (with_tag v j j.op w) s (record (w.session s) { journal = j; journal_pending = []; client = Carries j op }) (tag_same j j.op w) all
        (let one : Clear j.page = subst ClearClient is (all s).client in record { journal = one; journals = tt; page = (all s).page; pages = (all s).pages; client = one })
    written s false (Announces j op) is = turned w w s (record (w.session s) { journal_pending = (w.session s).journal_pending ++ j ∷ [] }) (λ t. refl) all
        (record { journal = (all s).journal; journals = each_push (λ (i : Journal). Clear i.page) (w.session s).journal_pending j (all s).journals (subst ClearClient is (all s).client); page = (all s).page; pages = (all s).pages; client = (all s).client })
    written s true (Carries j op) is = turned w (with_end op w) s (record (w.session s) { page = j.page; page_pending = []; client = Knows j }) (end_same op w) all
        (let one : Clear j.page = subst ClearClient is (all s).client in record { journal = (all s).journal; journals = (all s).journals; page = one; pages = tt; client = one })
    written s false (Carries j op) is = turned w w s (record (w.session s) { page_pending = (w.session s).page_pending ++ j.page ∷ [] }) (λ t. refl) all
        (record { journal = (all s).journal; journals = (all s).journals; page = (all s).page; pages = each_push Clear (w.session s).page_pending j.page (all s).pages (subst ClearClient is (all s).client); client = (all s).client })
    written s true (Knows j) is = all
    written s false (Knows j) is = all
    written s true (Looks j change looked seen) is = all
    written s false (Looks j change looked seen) is = all

    journal_comes : (s place : ℕ) (found : Option Journal) → slice_get (w.session s).journal_pending place ≡ found → AllWithin (journal_late w s place found)
    journal_comes s place None at = all
    journal_comes s place (Some j) at = turned w w s (record (w.session s) { journal = j; journal_pending = behind (w.session s).journal_pending place }) (λ t. refl) all (record {
      journal = each_at (λ (i : Journal). Clear i.page) (w.session s).journal_pending place j (all s).journals at;
      journals = each_behind (λ (i : Journal). Clear i.page) (w.session s).journal_pending place (all s).journals;
      page = (all s).page;
      pages = (all s).pages;
      client = (all s).client;
    })

    page_comes : (s place : ℕ) (found : Option Page) → slice_get (w.session s).page_pending place ≡ found → AllWithin (page_late w s place found)
    page_comes s place None at = all
    page_comes s place (Some p) at = turned w w s (record (w.session s) { page = p; page_pending = behind (w.session s).page_pending place }) (λ t. refl) all (record {
      journal = (all s).journal;
      journals = (all s).journals;
      page = each_at Clear (w.session s).page_pending place p (all s).pages at;
      pages = each_behind Clear (w.session s).page_pending place (all s).pages;
      client = (all s).client;
    })

    found_same : (r t : ℕ) (reader : Reader) → AllWithin (finds_by w r t reader)
    found_same r t Idle = all
    found_same r t (Searches k looked seen) = all

    told_same : (r : ℕ) (reader : Reader) → AllWithin (tells_by v w r reader)
    told_same r Idle = all
    told_same r (Searches k looked seen) = either (has_seen v looked seen) _ w all all

    within_step : (step : Step) → IsHere step → AllWithin (after_step v w step)
    within_step (Enters s) is = turned w w s (record (w.session s) { client = Knows (w.session s).journal }) (λ t. refl) all (other_client (w.session s) (Knows (w.session s).journal) (all s) (all s).journal)
    within_step (JournalLate s place) is = journal_comes s place (slice_get (w.session s).journal_pending place) refl
    within_step (PageLate s place) is = page_comes s place (slice_get (w.session s).page_pending place) refl
    within_step (Begins s name bytes) is = either (ltb s v.sessions) (begins_by v w s name bytes (w.session s).client) w (begun s name bytes (w.session s).client refl is) all
    within_step (Tidies s) is = either (ltb s v.sessions) (tidies_by w s (w.session s).client) w (tidied s (w.session s).client refl) all
    within_step (Repeats s) is = repeated s (w.session s).client refl
    within_step (Sees s t) is = either (ltb t v.sessions) (sees_by w s t (w.session s).client) w (sees s t (w.session s).client refl) all
    within_step (Chooses s more goes ask) is = chosen s more goes ask (w.session s).client refl
    within_step (ClientWrites s answered) is = written s answered (w.session s).client refl
    within_step (Asks r) is = all
    within_step (Finds r t) is = either (ltb t v.sessions) (finds_by w r t (w.reader r)) w (found_same r t (w.reader r)) all
    within_step (Tells r) is = told_same r (w.reader r)

  -- ---- what is free

  module _ (k : Contents) (content : ℕ) where
    abbrev Other : ℕ → Type 0
    Other c = (c == content) ≡ false

    no_name : (c : ℕ) (X : Type 0) → k.names first_copy.bytes c ≡ true → X
    no_name c X named = absurd (true≢false (sym named ∙ k.nothing c))

    shows : (p q : Page) → Clear p → AlikePage here p q → ShowsOther k inside content q → ShowsOnly k Other p
    shows p q clear like other name c named = by (here name) refl
      where
        first : (b : Bool) → here name ≡ false → k.names (if b then first_copy else p.line name).bytes c ≡ true → Other c
        first true out so = no_name c (Other c) so
        first false out so = no_name c (Other c) (subst (λ (z : StoredCopy). k.names z.bytes c ≡ true) (clear name out) so)

        by : (b : Bool) → here name ≡ b → Other c
        by true is = other name c (in_all name is) (subst (λ (z : StoredCopy). k.names z.bytes c ≡ true) (shown_alike here p q name is like) named)
        by false out = first (p.gone name) out named

    writes : (c d : Client) → ClearClient c → AlikeClient here c d → WritesOther k inside content d → WritesOnly k Other Other c
    writes (Knows i) (Knows j) clear like other = shows i.page j.page clear like.page other
    writes (Looks i change looked seen) (Looks j also did more) clear like other = (shows i.page j.page clear.0 like.0.page other.0, λ c named. of like.1 c named)
      where
        of : AlikeChange here change also → (c : ℕ) → k.names change.bytes c ≡ true → Other c
        of (inl same) c named = other.1 c (subst (λ (z : Change). k.names z.bytes c ≡ true) same named)
        of (inr n) c named = no_name c (Other c) (subst (λ (z : Change). k.names z.bytes c ≡ true) n.none named)
    writes (Announces i op) (Announces j also) clear like other = shows i.page j.page clear like.0.page other
    writes (Carries i op) (Carries j also) clear like other = shows i.page j.page clear like.0.page other
    writes (Knows i) (Looks j change looked seen) clear like other = absurd like
    writes (Knows i) (Announces j op) clear like other = absurd like
    writes (Knows i) (Carries j op) clear like other = absurd like
    writes (Looks i change looked seen) (Knows j) clear like other = absurd like
    writes (Looks i change looked seen) (Announces j op) clear like other = absurd like
    writes (Looks i change looked seen) (Carries j op) clear like other = absurd like
    writes (Announces i op) (Knows j) clear like other = absurd like
    writes (Announces i op) (Looks j change looked seen) clear like other = absurd like
    writes (Announces i op) (Carries j also) clear like other = absurd like
    writes (Carries i op) (Knows j) clear like other = absurd like
    writes (Carries i op) (Looks j change looked seen) clear like other = absurd like
    writes (Carries i op) (Announces j also) clear like other = absurd like

    each_with : {A : Type 0} (P Q R : A → Type 0) (xs : List A) → ((x : A) → P x → Q x → R x) → Each P xs → Each Q xs → Each R xs
    each_with P Q R [] f one other = tt
    each_with P Q R (x ∷ xs) f one other = (f x one.0 other.0, each_with P Q R xs f one.1 other.1)

    -- once a page is clear, it shows others where one like it does
    ShowsIf : Page → Type 0
    ShowsIf p = Clear p → ShowsOnly k Other p

    nothing_shown : ShowsOther k inside content new_page
    nothing_shown name c is named = no_name c (Other c) named

    free_at : (x : Session) (y : Files) (level : ℕ) (d : Client) → Within x → Stage here level x y → AlikeClient here x.client d → LevelIsFree k inside content (y.level level) → ((y.level level).page ≡ None → BeforeIsFree k inside content y.level level) → WritesOther k inside content d → IsFree k content x
    unfolding ShowsIf
    free_at x y level d all a like free before other = record {
      journal = journal (y.level level).journal refl;
      journal_pending = each_with (λ (i : Journal). Clear i.page) (λ (i : Journal). ShowsIf i.page) (λ (i : Journal). ShowsOnly k Other i.page) x.journal_pending (λ i clear so. so clear) all.journals
          (last_each (SpareJournal here x.journal (y.level level).journal) (LikeJournal here) (λ (j : SignedJournal). ShowsOther k inside content j.journal.page) (λ (i : Journal). ShowsIf i.page) x.journal_pending (y.level level).journal_pending
          (λ i j like so clear. shows i.page j.journal.page clear like.page so) (λ i spare clear. shows_back i.page x.journal.page clear spare.1.page (old_journal level a before spare.0)) a.its_top.journals free.journals);
      page = page (y.level level).page refl;
      page_pending = each_with Clear ShowsIf (ShowsOnly k Other) x.page_pending (λ p clear so. so clear) all.pages
          (last_each (SparePage here x.page (y.level level).page) (LikePage here) (λ (q : SignedPage). ShowsOther k inside content q.page) ShowsIf x.page_pending (y.level level).page_pending
          (λ p q like so clear. shows p q.page clear like so) (λ p spare clear. shows_back p x.page clear spare.1 (old_page level a before spare.0)) a.its_top.pages free.pages);
      client = writes x.client d all.client like other;
    }
      where
        -- one that is like it shows the same
        shows_back : (p q : Page) → Clear p → AlikePage here q p → ShowsOnly k Other q → ShowsOnly k Other p
        shows_back p q clear one so = shows p q clear (page_back here q p one) (λ name c is named. so name c named)

        -- as long as nothing was written there, what the level begins with says what counts
        old_journal : (level : ℕ) → Stage here level x y → ((y.level level).page ≡ None → BeforeIsFree k inside content y.level level) → (y.level level).journal ≡ None → ShowsOnly k Other x.journal.page
        old_journal zero a before none = shows x.journal.page new_page all.journal (a.last.0 none).page nothing_shown
        old_journal (suc b) a before none = by (y.level b).journal refl
          where
            by : (journal : Option SignedJournal) → (y.level b).journal ≡ journal → ShowsOnly k Other x.journal.page
            by None is = absurd (true≢false (sym (a.left b (omega arith)).journal ∙ ap has_signpost is))
            by (Some j) some = shows x.journal.page j.journal.page all.journal ((a.last.journal j some).0 none).page ((before (a.first none).0).0 j some)

        old_page : (level : ℕ) → Stage here level x y → ((y.level level).page ≡ None → BeforeIsFree k inside content y.level level) → (y.level level).page ≡ None → ShowsOnly k Other x.page
        old_page zero a before none = shows x.page new_page all.page (a.last.1 none) nothing_shown
        old_page (suc b) a before none = by (y.level b).page refl
          where
            by : (page : Option SignedPage) → (y.level b).page ≡ page → ShowsOnly k Other x.page
            by None is = absurd (signed_some (y.level b).page (a.left b (omega arith)).page is)
            by (Some q) some = shows x.page q.page all.page (a.last.its_page q some none) ((before none).1 q some)

        journal : (found : Option SignedJournal) → (y.level level).journal ≡ found → ShowsOnly k Other x.journal.page
        journal None none = old_journal level a before none
        journal (Some j) some = shows x.journal.page j.journal.page all.journal (a.its_top.journal j some).page (free.journal j some)

        page : (found : Option SignedPage) → (y.level level).page ≡ found → ShowsOnly k Other x.page
        page None none = old_page level a before none
        page (Some q) some = shows x.page q.page all.page (a.its_top.page q some) (free.page q some)

    free_of : (x : Session) (y : Files) → Within x → Counts here x y → (hand : Hand) → y.hand ≡ hand → IsFreeBy k inside content y hand → IsFree k content x
    free_of x y all fit (GoesOn level) is free = absurd free
    free_of x y all fit (At level true d) is free = absurd free
    free_of x y all fit (At level false d) is free = by (subst (HandFits here fit.top (Fits here x.journal x.page (y.level fit.top)) (known_before y.known fit.top) x.client) is fit.stage.hand)
      where
        by : HandFits here fit.top (Fits here x.journal x.page (y.level fit.top)) (known_before y.known fit.top) x.client (At level false d) → IsFree k content x
        by (inl low) = absurd (true≢false (sym low.1))
        by (inr top) = free_at x y level d all (let S : ℕ → Type 0 = λ t. Stage here t x y in subst S (sym top.0) fit.stage) top.2 free.0 free.1 free.2

  -- ---- a deed

  module _ (k : Contents) (watched : here v.name ≡ true) where
    record Both (st : State) (u : SplitState) : Type 0 where
      stands : Stands here inside within st.world u.world
      kept : (c : ℕ) → st.kept c ≡ u.kept c
      forgotten : (c : ℕ) → st.forgotten c ≡ u.forgotten c
      clear : AllWithin st.world

    record Done (st : State) (u : SplitState) : Type 0 where
      deed : Deed
      may : May k st deed
      both : Both (after_deed v st deed) u

    -- what is asked of a step of `specs/Names`
    abbrev Asked : State → Step → Type 0
    Asked st step = IsHere step × MayStep k st step

    easy : (st : State) (step : Step) → IsEasy here inside within step → Asked st step
    easy st (Enters s) is = (tt, tt)
    easy st (JournalLate s place) is = (tt, tt)
    easy st (PageLate s place) is = (tt, tt)
    easy st (Begins s name bytes) is = absurd is
    easy st (Tidies s) is = (tt, tt)
    easy st (Repeats s) is = (tt, tt)
    easy st (Sees s t) is = (tt, tt)
    easy st (Chooses s more goes ask) is = absurd is
    easy st (ClientWrites s answered) is = (tt, tt)
    easy st (Asks r) is = (tt, tt)
    easy st (Finds r t) is = (tt, tt)
    easy st (Tells r) is = (tt, tt)

    kept_for : (st : State) (u : SplitState) → Both st u → (c : Client) (hand : Hand) → ClientOf here inside within c hand → ChoosesOnly k u hand → ChoosesKept k st c
    kept_for st u both (Knows i) hand like only = tt
    kept_for st u both (Announces i op) hand like only = tt
    kept_for st u both (Carries i op) hand like only = tt
    kept_for st u both (Looks i change looked seen) (At level signed (Looks j also did more)) like only = λ content named. of content like.1 named
      where
        of : (content : ℕ) → AlikeChange here change also → k.names change.bytes content ≡ true → st.kept content ≡ true
        of content (inl same) named = both.kept content ∙ only content (subst (λ (z : Change). k.names z.bytes content ≡ true) same named)
        of content (inr n) named = absurd (true≢false (sym (subst (λ (z : Change). k.names z.bytes content ≡ true) n.none named) ∙ k.nothing content))
    kept_for st u both (Looks i change looked seen) (At level signed (Knows j)) like only = absurd like
    kept_for st u both (Looks i change looked seen) (At level signed (Announces j op)) like only = absurd like
    kept_for st u both (Looks i change looked seen) (At level signed (Carries j op)) like only = absurd like
    kept_for st u both (Looks i change looked seen) (GoesOn level) like only = absurd like

    hard : (st : State) (u : SplitState) → Both st u → (step : SplitStep) → MaySplit k inside u (DoesStep step) → Hard here inside within v watched (Asked st) (easy st) st.world u.world step
    hard st u both (Puts s name bytes) may = λ is. (is, λ content named. (let it = may (in_all name is) content named in record { owner = it.0; is_new = both.forgotten content ∙ it.1 }))
    hard st u both (ChoosesLine s more goes ask) may = λ like. (tt, kept_for st u both (st.world.session s).client (u.world.session s).hand like may)
    hard st u both (StartsAnew s) may = tt
    hard st u both (EntersLevel s) may = tt
    hard st u both (LevelJournalLate s level place) may = tt
    hard st u both (LevelPageLate s level place) may = tt
    hard st u both (TidiesUp s) may = tt
    hard st u both (SeesLevel s t level sign) may = tt
    hard st u both (HandWrites s answered) may = tt
    hard st u both (Signs s) may = tt
    hard st u both (Clears s level goes) may = tt
    hard st u both (ClearingWrites s level answered) may = tt
    hard st u both (AsksFor r) may = tt
    hard st u both (FindsLevel r t level sign) may = tt
    hard st u both (TellsOf r) may = tt

    and_same : (content : ℕ) (f g : ℕ → Bool) → ((c : ℕ) → f c ≡ g c) → (c : ℕ) → and_content content f c ≡ and_content content g c
    and_same content f g same c = by (eqb c content)
      where
        by : (b : Bool) → (if b then true else f c) ≡ (if b then true else g c)
        by true = refl
        by false = same c

    done : (st : State) (u : SplitState) (deed : SplitDeed) → MaySplit k inside u deed → Both st u → Done st (after_split_deed v inside u deed)
    done st u (DoesStep step) may both =
        let one = goes_step here inside within v watched (Asked st) (easy st) st.world u.world step (hard st u both step may) both.stands in
        record { deed = Does one.plain; may = one.may.1; both = record { stands = one.stands; kept = both.kept; forgotten = both.forgotten; clear = within_step st.world both.clear one.plain one.may.0 } }
    done st u (KeepsContent content) may both = record { deed = Keeps content; may = tt; both = record { stands = both.stands; kept = and_same content st.kept u.kept both.kept; forgotten = both.forgotten; clear = both.clear } }
    done st u (ForgetsContent content) may both = record {
      deed = Forgets content;
      may = (let s : ℕ = k.owner content in free_of k content (st.world.session s) (u.world.session s) (both.clear s) (both.stands.sessions s) (u.world.session s).hand refl may);
      both = record { stands = both.stands; kept = both.kept; forgotten = and_same content st.forgotten u.forgotten both.forgotten; clear = both.clear };
    }

    record All (st : State) (u : SplitState) : Type 0 where
      deeds : List Deed
      may : AllMay v k st deeds
      both : Both (state_after v st deeds) u

    all_done : (deeds : List SplitDeed) (st : State) (u : SplitState) → AllSplitMay v k inside u deeds → Both st u → All st (split_state_after v inside u deeds)
    all_done [] st u may both = record { deeds = []; may = tt; both = both }
    all_done (deed ∷ deeds) st u may both =
        let one = done st u deed may.0 both in
        let rest = all_done deeds (after_deed v st one.deed) (after_split_deed v inside u deed) may.1 one.both in
        record { deeds = one.deed ∷ rest.deeds; may = (one.may, rest.may); both = rest.both }

    at_first : Both new_state first_state
    at_first = record {
      stands = first_stands here inside within v watched (Asked new_state) (easy new_state);
      kept = λ c. refl;
      forgotten = λ c. refl;
      clear = λ s. record { journal = λ n out. refl; journals = tt; page = λ n out. refl; pages = tt; client = λ n out. refl };
    }

    is_it : (files : ℕ → LevelFiles) (level : ℕ) (q : SignedPage) → (files level).page ≡ Some q → q.page ≡ page_of inside files level
    is_it files zero q some = rw some refl
    is_it files (suc level) q some = rw some refl

    -- what the top begins with says what the session's page says, until it is written
    before_top : (x : Session) (y : Files) (level : ℕ) → Stage here (suc level) x y → (y.level (suc level)).page ≡ None → AlikePage here x.page (page_of inside y.level level)
    before_top x y level a none = by (y.level level).page refl
      where
        by : (page : Option SignedPage) → (y.level level).page ≡ page → AlikePage here x.page (page_of inside y.level level)
        by None is = absurd (signed_some (y.level level).page (a.left level (omega arith)).page is)
        by (Some q) some = subst (AlikePage here x.page) (is_it y.level level q some) (a.last.its_page q some none)

    at_top : (x : Session) (y : Files) (top : ℕ) → Stage here top x y → (page : Option SignedPage) → (y.level top).page ≡ page → AlikePage here x.page (page_of inside y.level top)
    at_top x y top a (Some q) some = subst (AlikePage here x.page) (is_it y.level top q some) (a.its_top.page q some)
    at_top x y zero a None none = rw none (part_alike here (inside 0) (within 0) x.page new_page (a.last.1 none))
    at_top x y (suc level) a None none = rw none (part_alike here (inside (suc level)) (within (suc level)) x.page (page_of inside y.level level) (before_top x y level a none))

    -- from the top on, what counts at a level says that too
    page_like : (x : Session) (y : Files) (top level : ℕ) → Stage here top x y → (level ≡ top) ⊎ (level ≢ top) → top ≤ level → AlikePage here x.page (page_of inside y.level level)
    page_like x y top level a (inl same) high = let A : ℕ → Type 0 = λ l. AlikePage here x.page (page_of inside y.level l) in subst A (sym same) (at_top x y top a (y.level top).page refl)
    page_like x y top zero a (inr other) high = absurd (omega (arith, high, other))
    page_like x y top (suc level) a (inr other) high =
        let none : (y.level (suc level)).page ≡ None = ap (λ (b : LevelFiles). b.page) (a.none (suc level) (omega (arith, high, other))) in
        rw none (part_alike here (inside (suc level)) (within (suc level)) x.page (page_of inside y.level level) (page_like x y top level a (cases_eq level top) (omega (arith, high, other))))

    counts_at : (x : Session) (y : Files) (level : ℕ) → Counts here x y → shows_signpost (y.level level).page ≡ false → AlikePage here x.page (page_of inside y.level level)
    counts_at x y level fit unsigned = by (cases_lt level fit.top)
      where
        by : (level < fit.top) ⊎ (fit.top ≤ level) → AlikePage here x.page (page_of inside y.level level)
        by (inl low) = absurd (true≢false (sym (fit.stage.left level low).page ∙ unsigned))
        by (inr high) = page_like x y fit.top level fit.stage (cases_eq level fit.top) high

    pub shown_are_there : (deeds : List SplitDeed) → AllSplitMay v k inside first_state deeds → (s level : ℕ) → shows_signpost (((split_state_after v inside first_state deeds).world.session s).level level).page ≡ false → (name content : ℕ) → here name ≡ true →
        k.names (shown (page_of inside ((split_state_after v inside first_state deeds).world.session s).level level) name).bytes content ≡ true →
        ((split_state_after v inside first_state deeds).kept content ≡ true) × ((split_state_after v inside first_state deeds).forgotten content ≡ false)
    shown_are_there deeds may s level unsigned name content is named = (sym (run.both.kept content) ∙ there.kept, sym (run.both.forgotten content) ∙ there.stays)
      where
        run : All new_state (split_state_after v inside first_state deeds)
        run = all_done deeds new_state first_state may at_first

        there : IsThere (state_after v new_state run.deeds) content
        there = all_shown_are_there v k run.deeds run.may s name content
            (subst (λ (z : StoredCopy). k.names z.bytes content ≡ true) (sym (shown_alike here ((state_after v new_state run.deeds).world.session s).page (page_of inside ((split_state_after v inside first_state deeds).world.session s).level level) name is
            (counts_at ((state_after v new_state run.deeds).world.session s) ((split_state_after v inside first_state deeds).world.session s) level (run.both.stands.sessions s) unsigned))) named)

-- for each name: by a run in which that one and the watched one are put alone
pub all_split_shown_are_there : AllSplitShownAreThere
all_split_shown_are_there v inside k deeds watched may s level unsigned name content in_all named = shown_are_there v here inside within k (rw (eq-eqb v.name v.name refl) refl) deeds may s level unsigned name content (it (eqb name v.name)) named
  where
    here : ℕ → Bool
    here n = eqb n v.name || eqb n name

    it : (b : Bool) → (b || eqb name name) ≡ true
    it true = refl
    it false = eq-eqb name name refl

    within : (l n : ℕ) → here n ≡ true → inside l n ≡ true
    within l n is = by (cases_Bool (eqb n v.name))
      where
        by : (eqb n v.name ≡ true) ⊎ (eqb n v.name ≡ false) → inside l n ≡ true
        by (inl same) = subst (λ m. inside l m ≡ true) (sym (eqb-true n v.name same)) (watched l)
        by (inr other) = subst (λ m. inside l m ≡ true) (sym (eqb-true n name (rw other at is))) (in_all l)
