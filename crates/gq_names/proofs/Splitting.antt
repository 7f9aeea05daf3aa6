-- Where pages split, what counts goes on as `specs/Names` has it: each step is one of those, or it changes nothing that counts.
use Rattle.std.proofs.Common.{◌≡◌, ◌≢◌, ◌⊎◌, ℕ, zero, suc, ◌+◌, ◌<◌, ◌≤◌, Bool, true, false, List, [], ◌∷◌, ◌++◌, refl, sym, ap, ◌∙◌, subst, inl, inr, Option, Some, None, arith, eqb, ltb}
use Rattle.std.specs.Prelude.{slice_get, map, fold, if◌then◌else◌, ◌||◌, ⊤}
use Rattle.std.specs.List.{range_with_len}
use Rattle.std.proofs.lemmas.Bool.{cases_eq, cases_lt, ne_eqb, eq-eqb, eqb-true, ltb-true, true≢false}
use Rattle.gq_laws.specs.declared.ops.Kind.TheVariants.{Read as Reads}
use Rattle.gq_laws.specs.declared.ops.Op.{Op}
use Rattle.gq_laws.specs.Operations.{Tagged}
use Rattle.gq_laws.specs.Orders.{order}
use Rattle.gq_laws.proofs.Ordering.{order_legal}
use Rattle.gq_laws.proofs.Sorting.{order_is}
use Rattle.gq_names.specs.Names.{Setting, Page, Journal, Change, Client, Knows, Looks, Announces, Carries, Session, Reader, Idle, Searches, World, Step, Enters, JournalLate, PageLate, Begins, Tidies, Repeats, Sees, Chooses, ClientWrites, Asks, Finds, Tells, new_world, new_page, new_journal, with_session, with_reader, with_op, with_new_op, with_tag, with_end, new_put, new_get, looking, tidying, begins_by, tidies_by, repeats_by, sees_by, chooses_by, writes_by, told, finds_by, tells_by, changed, highest, new_line, version_told, no_page, none_seen, and_page, and_seen, greatest_shown, has_seen, behind, tick, after_step, world_after, operations_of}
use Rattle.gq_names.specs.Contents.{Each}
use Rattle.gq_names.specs.Splitting.{Levels, SignedPage, SignedJournal, Hand, At, GoesOn, Clearing, Rests, ClearsJournal, ClearsPage, LevelFiles, Files, no_files, SplitWorld, first_world, first_signs, SplitStep, StartsAnew, EntersLevel, LevelJournalLate, LevelPageLate, Puts, TidiesUp, SeesLevel, ChoosesLine, HandWrites, Signs, Clears, ClearingWrites, AsksFor, FindsLevel, TellsOf, with_files, with_asker, with_split_op, with_next_op, with_version, with_ended, with_sign, with_level, with_known, with_clearing, with_hand, level_page, level_of, level_journal_late, level_page_late, known_before, has_signpost, shows_signpost, is_written, started, a_put, first_look, begins_as, puts_by, tidies_up_by, looks_more, counts, sees_as, sees_level_by, chooses_as, chooses_line_by, hand_writes_by, signs_as, signs_by, begun_with, enters_by, cleared, clears_as, clearing_writes_by, a_get, asks_for, finds_as, finds_level_by, tells_of_by, splits, tick_of, after_split_step, split_world_after, split_operations_of, AllSplitsLegal}
use Rattle.gq_names.proofs.Lists.{each_at, each_behind, each_push, each_map}
use Rattle.gq_names.proofs.Alike.{AlikePage, AlikeJournal, AlikeChange, AlikeClient, AlikeReader, AtPlace, last_at, last_push, last_all, page_self, page_turns, page_on, page_back, journal_self, journal_turns, journal_on, journal_back, part_alike, part_journal, has_alike, greatest_shown_alike, version_alike, chosen_alike, chosen_nameless, looked_alike, seen_alike}
use Rattle.gq_names.proofs.Counts.{stands, signed_stands, signed_some, Quiet, QuietHand, Has, SignedHand, OnlyKnows, CarriesNot, NotCarrying, HandFits, ClearingFits, Left, Fits, Last, LastOf, SpareJournal, SparePage, LikeJournal, LikePage, JournalFirst, Signed, Phase, Stage, Counts, SignFits, signed_hand_map, its_page, signed_map, signed_none, signed_at, signed_push, signed_all, level_other, cleared_alike, hand_map, hand_turns, top_turns, left_turns, goes_on, same_keeps, page_keeps, top_keeps}
use Rattle.gq_names.proofs.Steps.{all_names_tagged}

-- the names here are inside at each level
module _ (here : ℕ → Bool) (inside : Levels) (within : (level name : ℕ) → here name ≡ true → inside level name ≡ true) where
  pub record Stands (w : World) (u : SplitWorld) : Type 0 where
    pub now : w.now ≡ u.now
    pub begun : w.begun ≡ u.begun
    pub ops : (i : ℕ) → w.op i ≡ u.op i
    pub sessions : (s : ℕ) → Counts here (w.session s) (u.session s)
    pub signs : (s level : ℕ) → Each (SignFits here level (w.session s) (u.session s)) (u.signs s level)
    pub readers : (r : ℕ) → AlikeReader here (w.reader r) (u.reader r)

  -- ---- operations

  op_stands : (w : World) (u : SplitWorld) (k : ℕ) (a b : Op) → a ≡ b → Stands w u → Stands (with_op k a w) (with_split_op k b u)
  op_stands w u k a b same st = record { now = st.now; begun = st.begun; ops = λ i. by i (eqb i k); sessions = st.sessions; signs = st.signs; readers = st.readers }
    where
      by : (i : ℕ) (here : Bool) → (if here then a else w.op i) ≡ (if here then b else u.op i)
      by i true = same
      by i false = st.ops i

  new_op_stands : (w : World) (u : SplitWorld) (a b : Op) → a ≡ b → Stands w u → Stands (with_new_op a w) (with_next_op b u)
  new_op_stands w u a b same st = record { now = st.now; begun = ap (λ z. z + 1) st.begun; ops = λ i. rw st.begun (by i (eqb i u.begun)); sessions = st.sessions; signs = st.signs; readers = st.readers }
    where
      by : (i : ℕ) (here : Bool) → (if here then a else w.op i) ≡ (if here then b else u.op i)
      by i true = same
      by i false = st.ops i

  tick_stands : (w : World) (u : SplitWorld) → Stands w u → Stands (tick w) (tick_of u)
  tick_stands w u st = record { now = ap (λ z. z + 1) st.now; begun = st.begun; ops = st.ops; sessions = st.sessions; signs = st.signs; readers = st.readers }

  -- ---- one session, or one reader, has others

  session_stands : (w : World) (u : SplitWorld) (s : ℕ) (x : Session) (y : Files) → Counts here x y → ((level : ℕ) (p : Page) → SignFits here level (w.session s) (u.session s) p → SignFits here level x y p) → Stands w u → Stands (with_session s x w) (with_files s y u)
  session_stands w u s x y fit keeps st = record { now = st.now; begun = st.begun; ops = st.ops; sessions = λ t. by t (cases_eq t s); signs = λ t level. sign t level (cases_eq t s); readers = st.readers }
    where
      by : (t : ℕ) → (t ≡ s) ⊎ (t ≢ s) → Counts here ((with_session s x w).session t) ((with_files s y u).session t)
      by t (inl same) = rw (eq-eqb t s same) fit
      by t (inr ne) = rw (ne_eqb t s ne) (st.sessions t)

      own : (level : ℕ) → Each (SignFits here level x y) (u.signs s level)
      own level = each_map (SignFits here level (w.session s) (u.session s)) (SignFits here level x y) (u.signs s level) (keeps level) (st.signs s level)

      sign : (t level : ℕ) → (t ≡ s) ⊎ (t ≢ s) → Each (SignFits here level ((with_session s x w).session t) ((with_files s y u).session t)) (u.signs t level)
      sign t level (inl same) = rw (eq-eqb t s same) (subst (λ z. Each (SignFits here level x y) (u.signs z level)) (sym same) (own level))
      sign t level (inr ne) = rw (ne_eqb t s ne) (st.signs t level)

  -- nothing changes that counts
  files_stand : (w : World) (u : SplitWorld) (s : ℕ) (y : Files) → Counts here (w.session s) y → ((level : ℕ) (p : Page) → SignFits here level (w.session s) (u.session s) p → SignFits here level (w.session s) y p) → Stands w u → Stands w (with_files s y u)
  files_stand w u s y fit keeps st = record { now = st.now; begun = st.begun; ops = st.ops; sessions = λ t. by t (cases_eq t s); signs = λ t level. sign t level (cases_eq t s); readers = st.readers }
    where
      by : (t : ℕ) → (t ≡ s) ⊎ (t ≢ s) → Counts here (w.session t) ((with_files s y u).session t)
      by t (inl same) = rw (eq-eqb t s same) (subst (λ z. Counts here (w.session z) y) (sym same) fit)
      by t (inr ne) = rw (ne_eqb t s ne) (st.sessions t)

      own : (level : ℕ) → Each (SignFits here level (w.session s) y) (u.signs s level)
      own level = each_map (SignFits here level (w.session s) (u.session s)) (SignFits here level (w.session s) y) (u.signs s level) (keeps level) (st.signs s level)

      sign : (t level : ℕ) → (t ≡ s) ⊎ (t ≢ s) → Each (SignFits here level (w.session t) ((with_files s y u).session t)) (u.signs t level)
      sign t level (inl same) = rw (eq-eqb t s same) (subst (λ z. Each (SignFits here level (w.session z) y) (u.signs z level)) (sym same) (own level))
      sign t level (inr ne) = rw (ne_eqb t s ne) (st.signs t level)

  reader_stands : (w : World) (u : SplitWorld) (r : ℕ) (x y : Reader) → AlikeReader here x y → Stands w u → Stands (with_reader r x w) (with_asker r y u)
  reader_stands w u r x y fit st = record { now = st.now; begun = st.begun; ops = st.ops; sessions = st.sessions; signs = st.signs; readers = λ q. by q (eqb q r) }
    where
      by : (q : ℕ) (is : Bool) → AlikeReader here (if is then x else w.reader q) (if is then y else u.reader q)
      by q true = fit
      by q false = st.readers q

  -- what was seen that a level begins with
  sign_stands : (w : World) (u : SplitWorld) (t level : ℕ) (p : Page) → SignFits here level (w.session t) (u.session t) p → Stands w u → Stands w (with_sign t level p u)
  sign_stands w u t level p fits st = record { now = st.now; begun = st.begun; ops = st.ops; sessions = st.sessions; signs = λ s k. by s k (cases_eq s t) (cases_eq k level); readers = st.readers }
    where
      by : (s k : ℕ) → (s ≡ t) ⊎ (s ≢ t) → (k ≡ level) ⊎ (k ≢ level) → Each (SignFits here k (w.session s) (u.session s)) ((with_sign t level p u).signs s k)
      by s k (inl same) (inl it) = rw (eq-eqb s t same) (rw (eq-eqb k level it) (subst (λ z. SignFits here z (w.session s) (u.session s) p) (sym it) (subst (λ z. SignFits here level (w.session z) (u.session z) p) (sym same) fits), st.signs s k))
      by s k (inl same) (inr ne) = rw (eq-eqb s t same) (rw (ne_eqb k level ne) (st.signs s k))
      by s k (inr other) any = rw (ne_eqb s t other) (st.signs s k)

  both : (b : Bool) (w x : World) (u y : SplitWorld) → Stands w u → Stands x y → Stands (if b then w else x) (if b then u else y)
  both true w x u y one other = one
  both false w x u y one other = other

  -- steps of which nothing is asked: all but those that begin to put a name, or choose
  abbrev pub IsEasy : Step → Type 0
  IsEasy (Begins s name bytes) = ⊥
  IsEasy (Chooses s more goes ask) = ⊥
  IsEasy _ = ⊤

  -- the client of a session is like that of its hand
  abbrev pub ClientOf : Client → Hand → Type 0
  ClientOf c (GoesOn level) = ⊥
  ClientOf c (At level signed d) = AlikeClient here c d

  module _ (v : Setting) (watched : here v.name ≡ true) (Q : Step → Type 0) (easy : (step : Step) → IsEasy step → Q step) where
    -- a step of `specs/Names` does the same, and is such
    pub record Goes (w : World) (u : SplitWorld) : Type 0 where
      pub plain : Step
      pub may : Q plain
      pub stands : Stands (after_step v w plain) (tick_of u)

    not_less : (n : ℕ) → ltb n n ≡ false
    not_less n = by (ltb n n) refl
      where
        by : (b : Bool) → ltb n n ≡ b → b ≡ false
        by true e = absurd (let low = ltb-true n n e in omega (arith, low))
        by false e = refl

    -- one that does not fit
    rests : (w : World) (u : SplitWorld) → Stands w u → Goes w u
    rests w u st = record { plain = Tidies v.sessions; may = easy (Tidies v.sessions) tt; stands = rw (not_less v.sessions) (tick_stands w u st) }

    module _ (w : World) (u : SplitWorld) (st : Stands w u) (s : ℕ) where
      abbrev x : Session
      x = w.session s

      abbrev y : Files
      y = u.session s

      fit : Counts here x y
      fit = st.sessions s

      -- it has come to this level, and what is said of such journals
      abbrev P : (top : ℕ) → Journal → Type 0
      P top = Fits here x.journal x.page (y.level top)

      no_some : {A : Type 0} (z : A) → Some z ≡ None → ⊥
      no_some z bad = cc

      last_is : (k top : ℕ) → suc k ≡ top → LastOf here top x.journal x.page (y.level top) y.level → Last here x.journal x.page (y.level top) (y.level k)
      last_is k top is last = let L : ℕ → Type 0 = λ t. LastOf here t x.journal x.page (y.level top) y.level in subst L (sym is) last

      -- ---- a new client

      starts : Goes w (with_files s (started y) u)
      starts = rests w (with_files s (started y) u) (files_stand w u s (started y) (record { top = fit.top; stage = of fit.top fit.stage }) (λ level p one. one) st)
        where
          hand : (top : ℕ) → LastOf here top x.journal x.page (y.level top) y.level → HandFits here top (P top) (known_before y.known top) x.client (GoesOn 0)
          hand zero last = inr (refl, last)
          hand (suc top) last = inl (omega arith)

          of : (top : ℕ) → Stage here top x y → Stage here top x (started y)
          of top a = record {
            none = a.none;
            left = a.left;
            last = a.last;
            its_top = a.its_top;
            first = λ none. let n = a.first none in (n.0, n.1, tt);
            clearing = λ k. tt;
            hand = hand top a.last;
            phase = phase a.phase;
          }
            where
              phase : Phase here top x.journal (y.level top) y.hand → Phase here top x.journal (y.level top) (GoesOn 0)
              phase (inl un) = inl (record { page = un.page; pages = un.pages; hand = tt })
              phase (inr si) = inr (record { journal = si.journal; journals = si.journals; hand = tt; pages = si.pages })

      -- ---- at the top, or below

      other_hand : (top : ℕ) → Stage here top x y → (hand : Hand) → HandFits here top (P top) (known_before y.known top) x.client hand → NotCarrying here top hand → Phase here top x.journal (y.level top) hand → Counts here x (record y { hand = hand })
      other_hand top a hand fits not_it phase = record { top = top; stage = hand_turns here top x y x.client hand a fits not_it phase }

      record AtTop (k : ℕ) (hand : Hand) : Type 0 where
        stage : Stage here k x y
        known : P k (known_before y.known k)
        is : y.hand ≡ hand

      top_at : (k : ℕ) (hand : Hand) → y.hand ≡ hand → k ≡ fit.top → P fit.top (known_before y.known fit.top) → AtTop k hand
      top_at k hand is same known = record {
        stage = let S : ℕ → Type 0 = λ t. Stage here t x y in subst S (sym same) fit.stage;
        known = let K : ℕ → Type 0 = λ t. P t (known_before y.known t) in subst K (sym same) known;
        is = is;
      }

      -- a hand that acts is at the top
      record Acts (k : ℕ) (signed : Bool) (d : Client) : Type 0 where
        at : AtTop k (At k signed d)
        like : AlikeClient here x.client d

      acts : (k : ℕ) (signed : Bool) (d : Client) → y.hand ≡ At k signed d → ((signed ≡ true) → OnlyKnows here (λ j. suc k ≡ fit.top → P fit.top j) d → ⊥) → Acts k signed d
      acts k signed d is never = by (subst (HandFits here fit.top (P fit.top) (known_before y.known fit.top) x.client) is fit.stage.hand)
        where
          by : HandFits here fit.top (P fit.top) (known_before y.known fit.top) x.client (At k signed d) → Acts k signed d
          by (inl low) = absurd (never low.1 low.2)
          by (inr top) = record { at = top_at k (At k signed d) is top.0 top.1; like = top.2 }

      quiet : (k : ℕ) (d : Client) → y.hand ≡ At k false d → Acts k false d
      quiet k d is = acts k false d is (λ bad has. true≢false (sym bad))

      signed_of : (k : ℕ) (signed : Bool) (d : Client) → y.hand ≡ At k signed d → Signed here k x.journal (y.level k) y.hand → (signed ≡ true) × Has here (AlikeJournal here x.journal) d
      signed_of k signed d is si = (subst (SignedHand here k (AlikeJournal here x.journal)) is si.hand) refl

      -- ---- it reads its journal of a level

      enters : (hand : Hand) → y.hand ≡ hand → Goes w (enters_by inside u s hand)
      enters (At k signed d) is = rests w u st
      enters (GoesOn k) is = by (subst (HandFits here fit.top (P fit.top) (known_before y.known fit.top) x.client) is fit.stage.hand)
        where
          read : Journal
          read = begun_with (inside k) (y.level k).journal (known_before y.known k)

          entered : Hand
          entered = At k (has_signpost (y.level k).journal) (Knows read)

          below : k < fit.top → Counts here x (record y { hand = entered })
          below low = other_hand fit.top fit.stage entered (inl (low, (fit.stage.left k low).journal, λ same. of same (y.level k).journal refl)) (λ same. tt) (phase fit.stage.phase)
            where
              of : suc k ≡ fit.top → (journal : Option SignedJournal) → (y.level k).journal ≡ journal → P fit.top (begun_with (inside k) journal (known_before y.known k))
              of same None none = absurd (true≢false (sym (fit.stage.left k low).journal ∙ ap has_signpost none))
              of same (Some j) some = (last_is k fit.top same fit.stage.last).journal j some

              phase : Phase here fit.top x.journal (y.level fit.top) y.hand → Phase here fit.top x.journal (y.level fit.top) entered
              phase (inl un) = inl (record { page = un.page; pages = un.pages; hand = λ same. tt })
              phase (inr si) = inr (record { journal = si.journal; journals = si.journals; hand = λ same. absurd (omega (arith, low, same)); pages = si.pages })

          by : HandFits here fit.top (P fit.top) (known_before y.known fit.top) x.client (GoesOn k) → Goes w (enters_by inside u s (GoesOn k))
          by (inl low) = rests w (with_hand s entered u) (files_stand w u s (record y { hand = entered }) (below low) (λ level p one. one) st)
          by (inr top) = record {
            plain = Enters s;
            may = easy (Enters s) tt;
            stands = tick_stands _ _ (session_stands w u s (record x { client = Knows x.journal }) (record y { hand = entered }) (record { top = k; stage = hand_turns here k x y (Knows x.journal) entered a.stage (inr (refl, a.known, like)) (λ same. tt) (phase a.stage.phase) }) (λ level p one. one) st);
          }
            where
              a : AtTop k (GoesOn k)
              a = top_at k (GoesOn k) is top.0 top.1

              of : (journal : Option SignedJournal) → (y.level k).journal ≡ journal → AlikeJournal here x.journal (begun_with (inside k) journal (known_before y.known k))
              of None none = part_journal here (inside k) (within k) x.journal (known_before y.known k) (a.known.0 none)
              of (Some j) some = a.stage.its_top.journal j some

              like : AlikeJournal here x.journal read
              like = of (y.level k).journal refl

              phase : Phase here k x.journal (y.level k) y.hand → Phase here k x.journal (y.level k) entered
              phase (inl un) = inl (record { page = un.page; pages = un.pages; hand = λ same. tt })
              phase (inr si) = inr (record { journal = si.journal; journals = si.journals; hand = λ same. (si.journal, like); pages = si.pages })

      -- ---- pending writes

      -- nothing is pending above the top
      no_late : {A : Type 0} (xs : List A) (place : ℕ) (z : A) → xs ≡ [] → slice_get xs place ≡ Some z → ⊥
      no_late [] place z none at = let bad : None ≡ Some z = at in cc
      no_late (a ∷ xs) place z none at = cc

      journal_comes : (k place : ℕ) (found : Option SignedJournal) → slice_get (y.level k).journal_pending place ≡ found → Goes w (level_journal_late u s k place found)
      journal_comes k place None at = rests w u st
      journal_comes k place (Some j) at = by (cases_eq k fit.top) (cases_lt k fit.top)
        where
          z : LevelFiles
          z = record (y.level k) { journal = Some j; journal_pending = behind (y.level k).journal_pending place }

          below : k < fit.top → Stage here fit.top x (with_level k z y)
          below low = left_turns here fit.top k x y z fit.stage low (record { journal = each_at (λ (i : SignedJournal). i.signed ≡ true) (y.level k).journal_pending place j left.journals at; journals = each_behind (λ (i : SignedJournal). i.signed ≡ true) (y.level k).journal_pending place left.journals; page = left.page; pages = left.pages })
              (λ same. of (last_is k fit.top same fit.stage.last))
            where
              left : Left here (y.level k)
              left = fit.stage.left k low

              of : Last here x.journal x.page (y.level fit.top) (y.level k) → Last here x.journal x.page (y.level fit.top) z
              of last = record {
                journal = λ i some. let same : j ≡ i = cc in subst (λ (q : SignedJournal). P fit.top q.journal) same (each_at (λ (q : SignedJournal). P fit.top q.journal) (y.level k).journal_pending place j last.journals at);
                journals = each_behind (λ (q : SignedJournal). P fit.top q.journal) (y.level k).journal_pending place last.journals;
                its_page = last.its_page;
                pages = last.pages;
              }

          top : Stage here k x y → Goes w (with_files s (with_level k z y) u)
          top a = of (last_at (SpareJournal here x.journal (y.level k).journal) (LikeJournal here) x.journal_pending (y.level k).journal_pending place j a.its_top.journals at)
            where
              of : AtPlace (LikeJournal here) x.journal_pending j (behind (y.level k).journal_pending place) → Goes w (with_files s (with_level k z y) u)
              of r = record {
                plain = JournalLate s r.place;
                may = easy (JournalLate s r.place) tt;
                stands = rw r.at (tick_stands (with_session s next w) (with_files s (with_level k z y) u) (session_stands w u s next (with_level k z y) (record {
                  top = k;
                  stage = top_turns here k x next y z y.hand a fits (λ p one. one) (record {
                    journal = λ i some. let same : j ≡ i = cc in subst (λ (q : SignedJournal). AlikeJournal here r.x q.journal) same r.fits;
                    journals = last_all (SpareJournal here r.x (Some j)) (LikeJournal here) (behind x.journal_pending r.place) (behind (y.level k).journal_pending place) r.rest;
                    page = a.its_top.page;
                    pages = a.its_top.pages;
                  }) (λ none. absurd (no_some j none)) (hand_map here (P k) (Fits here r.x x.page z) k (known_before y.known k) (known_before y.known k) x.client (fits (known_before y.known k)) fits y.hand a.hand) (phase a.phase);
                }) (same_keeps here k z x next y refl refl) st));
              }
                where
                  next : Session
                  next = record x { journal = r.x; journal_pending = behind x.journal_pending r.place }

                  fits : (i : Journal) → P k i → Fits here r.x x.page z i
                  fits i one = (λ none. absurd (no_some j none), one.1)

                  phase : Phase here k x.journal (y.level k) y.hand → Phase here k r.x z y.hand
                  phase (inl un) = inl (record { page = un.page; pages = un.pages; hand = un.hand })
                  phase (inr si) = inr (record {
                    journal = one.0;
                    journals = each_map (λ (i : SignedJournal). (i.signed ≡ true) × AlikeJournal here x.journal i.journal) (λ (i : SignedJournal). (i.signed ≡ true) × AlikeJournal here r.x i.journal) (behind (y.level k).journal_pending place)
                        (λ i so. (so.0, turn i.journal so.1)) (each_behind (λ (i : SignedJournal). (i.signed ≡ true) × AlikeJournal here x.journal i.journal) (y.level k).journal_pending place si.journals);
                    hand = signed_hand_map here k (AlikeJournal here x.journal) (AlikeJournal here r.x) turn y.hand si.hand;
                    pages = signed_map here (AlikePage here x.journal.page) (AlikePage here r.x.page) (λ p like. page_turns here x.journal.page r.x.page p same.page like) (stands (y.level k).page) (y.level k).page_pending si.pages;
                  })
                    where
                      one : (j.signed ≡ true) × AlikeJournal here x.journal j.journal
                      one = each_at (λ (i : SignedJournal). (i.signed ≡ true) × AlikeJournal here x.journal i.journal) (y.level k).journal_pending place j si.journals at

                      same : AlikeJournal here x.journal r.x
                      same = journal_on here x.journal j.journal r.x one.1 (journal_back here r.x j.journal r.fits)

                      turn : (i : Journal) → AlikeJournal here x.journal i → AlikeJournal here r.x i
                      turn i like = journal_turns here x.journal r.x i same like

          by : (k ≡ fit.top) ⊎ (k ≢ fit.top) → (k < fit.top) ⊎ (fit.top ≤ k) → Goes w (with_files s (with_level k z y) u)
          by (inl same) any = top (let S : ℕ → Type 0 = λ t. Stage here t x y in subst S (sym same) fit.stage)
          by (inr other) (inl low) = rests w (with_files s (with_level k z y) u) (files_stand w u s (with_level k z y) (record { top = fit.top; stage = below low }) (same_keeps here k z x x y refl refl) st)
          by (inr other) (inr high) = absurd (no_late (y.level k).journal_pending place j (ap (λ (a : LevelFiles). a.journal_pending) (fit.stage.none k (omega (arith, high, other)))) at)

      page_comes : (k place : ℕ) (found : Option SignedPage) → slice_get (y.level k).page_pending place ≡ found → Goes w (level_page_late u s k place found)
      page_comes k place None at = rests w u st
      page_comes k place (Some q) at = by (cases_eq k fit.top) (cases_lt k fit.top)
        where
          z : LevelFiles
          z = record (y.level k) { page = Some q; page_pending = behind (y.level k).page_pending place }

          signed : k < fit.top → q.signed ≡ true
          signed low = each_at (λ (p : SignedPage). p.signed ≡ true) (y.level k).page_pending place q (fit.stage.left k low).pages at

          below : k < fit.top → Stage here fit.top x (with_level k z y)
          below low = left_turns here fit.top k x y z fit.stage low (record { journal = left.journal; journals = left.journals; page = signed low; pages = each_behind (λ (p : SignedPage). p.signed ≡ true) (y.level k).page_pending place left.pages }) (λ same. of (last_is k fit.top same fit.stage.last))
            where
              left : Left here (y.level k)
              left = fit.stage.left k low

              of : Last here x.journal x.page (y.level fit.top) (y.level k) → Last here x.journal x.page (y.level fit.top) z
              of last = record {
                journal = last.journal;
                journals = last.journals;
                its_page = λ p some none. let same : q ≡ p = cc in subst (λ (r : SignedPage). AlikePage here x.page r.page) same (each_at (λ (r : SignedPage). (y.level fit.top).page ≡ None → AlikePage here x.page r.page) (y.level k).page_pending place q last.pages at none);
                pages = each_behind (λ (r : SignedPage). (y.level fit.top).page ≡ None → AlikePage here x.page r.page) (y.level k).page_pending place last.pages;
              }

          top : Stage here k x y → Goes w (with_files s (with_level k z y) u)
          top a = of (last_at (SparePage here x.page (y.level k).page) (LikePage here) x.page_pending (y.level k).page_pending place q a.its_top.pages at)
            where
              of : AtPlace (LikePage here) x.page_pending q (behind (y.level k).page_pending place) → Goes w (with_files s (with_level k z y) u)
              of r = record {
                plain = PageLate s r.place;
                may = easy (PageLate s r.place) tt;
                stands = rw r.at (tick_stands (with_session s next w) (with_files s (with_level k z y) u) (session_stands w u s next (with_level k z y) (record {
                  top = k;
                  stage = top_turns here k x next y z y.hand a fits (λ p one none. absurd (no_some q none)) (record {
                    journal = a.its_top.journal;
                    journals = a.its_top.journals;
                    page = λ p some. let same : q ≡ p = cc in subst (λ (o : SignedPage). AlikePage here r.x o.page) same r.fits;
                    pages = last_all (SparePage here r.x (Some q)) (LikePage here) (behind x.page_pending r.place) (behind (y.level k).page_pending place) r.rest;
                  }) (λ none. absurd (no_late (y.level k).page_pending place q (a.first none).1 at)) (hand_map here (P k) (Fits here x.journal r.x z) k (known_before y.known k) (known_before y.known k) x.client (fits (known_before y.known k)) fits y.hand a.hand) (phase a.phase);
                })
                    (top_keeps here k z x next y q a refl (λ is. turns is a.phase)) st));
              }
                where
                  next : Session
                  next = record x { page = r.x; page_pending = behind x.page_pending r.place }

                  fits : (i : Journal) → P k i → Fits here x.journal r.x z i
                  fits i one = (one.0, λ none. absurd (no_some q none))

                  phase : Phase here k x.journal (y.level k) y.hand → Phase here k x.journal z y.hand
                  phase (inl un) = inl (record { page = each_at (λ (p : SignedPage). p.signed ≡ false) (y.level k).page_pending place q un.pages at; pages = each_behind (λ (p : SignedPage). p.signed ≡ false) (y.level k).page_pending place un.pages; hand = un.hand })
                  phase (inr si) = inr (record { journal = si.journal; journals = si.journals; hand = si.hand; pages = signed_at here (AlikePage here x.journal.page) (stands (y.level k).page) (y.level k).page_pending place q si.pages at })

                  turns : shows_signpost (y.level k).page ≡ true → Phase here k x.journal (y.level k) y.hand → (q.signed ≡ true) × ((p : Page) → AlikePage here x.page p → AlikePage here r.x p)
                  turns is (inl un) = absurd (true≢false (sym is ∙ un.page))
                  turns is (inr si) = (one.0, λ p like. page_turns here x.journal.page r.x p (page_on here x.journal.page q.page r.x one.1 (page_back here r.x q.page r.fits)) (page_on here x.journal.page x.page p (its_page here k x y a si is) like))
                    where
                      one : (q.signed ≡ true) × AlikePage here x.journal.page q.page
                      one = each_at (λ (p : SignedPage). (p.signed ≡ true) × AlikePage here x.journal.page p.page) (y.level k).page_pending place q (signed_all here (AlikePage here x.journal.page) (stands (y.level k).page) (y.level k).page_pending si.pages (signed_stands (y.level k).page ∙ is)).1 at

          by : (k ≡ fit.top) ⊎ (k ≢ fit.top) → (k < fit.top) ⊎ (fit.top ≤ k) → Goes w (with_files s (with_level k z y) u)
          by (inl same) any = top (let S : ℕ → Type 0 = λ t. Stage here t x y in subst S (sym same) fit.stage)
          by (inr other) (inl low) = rests w (with_files s (with_level k z y) u) (files_stand w u s (with_level k z y) (record { top = fit.top; stage = below low }) (page_keeps here k z x x y q refl (λ is. signed low) (λ level p ne one. one.1)) st)
          by (inr other) (inr high) = absurd (no_late (y.level k).page_pending place q (ap (λ (a : LevelFiles). a.page_pending) (fit.stage.none k (omega (arith, high, other)))) at)

      -- ---- its client goes on

      abbrev Turns : (at : Client → Hand) → Type 0
      Turns at = (c d : Client) → AlikeClient here c d → CarriesNot here d → Counts here (record x { client = c }) (record y { hand = at d })

      quiet_unsigned : (d : Client) → Quiet here false d
      quiet_unsigned (Knows journal) = tt
      quiet_unsigned (Looks journal change looked seen) = tt
      quiet_unsigned (Announces journal op) = tt
      quiet_unsigned (Carries journal op) = refl

      turns_at : (k : ℕ) (d : Client) → y.hand ≡ At k false d → Turns (At k false)
      turns_at k d is c e like not_it = record { top = k; stage = hand_turns here k x y c (At k false e) a.at.stage (inr (refl, a.at.known, like)) (λ same. not_it) (phase a.at.stage.phase) }
        where
          a : Acts k false d
          a = quiet k d is

          phase : Phase here k x.journal (y.level k) y.hand → Phase here k x.journal (y.level k) (At k false e)
          phase (inl un) = inl (record { page = un.page; pages = un.pages; hand = λ same. quiet_unsigned e })
          phase (inr si) = absurd (true≢false (sym (signed_of k false d is si).0))

      like_at : (k : ℕ) (d : Client) → y.hand ≡ At k false d → AlikeClient here x.client d
      like_at k d is = (quiet k d is).like

      hand_stands : (k : Client) (hand : Hand) → Counts here (record x { client = k }) (record y { hand = hand }) → Stands (with_session s (record x { client = k }) w) (with_hand s hand u)
      hand_stands k hand fits = session_stands w u s (record x { client = k }) (record y { hand = hand }) fits (λ level p one. one) st

      -- ---- it begins

      first_alike : (i j : Journal) (change other : Change) → AlikeChange here change other → AlikeJournal here i j → AlikeClient here (Looks i change (and_page s no_page) (and_seen s i.page none_seen)) (first_look s j other)
      first_alike i j change other same like = (like, same, λ t. refl, seen_alike here s i.page j.page none_seen none_seen like.page (λ t. page_self here (none_seen t)))

      begins : ltb s v.sessions ≡ true → (name : ℕ) (bytes : List ℕ) → Q (Begins s name bytes) → (level : ℕ) (j : Journal) → Turns (At level false) → (c : Client) → x.client ≡ c → AlikeClient here c (Knows j) → Goes w (begins_as v u s name bytes level j)
      begins low name bytes may level j turns (Knows i) is like = record {
        plain = Begins s name bytes;
        may = may;
        stands = rw low (subst (λ c. Stands (tick (begins_by v w s name bytes c)) (tick_of (begins_as v u s name bytes level j))) (sym is) (tick_stands _ _ (both (eqb name v.name) _ _ _ _ watches others)));
      }
        where
          at : Client → Hand
          at = At level false

          fits : (change : Change) → Counts here (looking w s i change) (record y { hand = at (first_look s j change) })
          fits change = turns (Looks i change (and_page s no_page) (and_seen s i.page none_seen)) (first_look s j change) (first_alike i j change change (inl refl) like) tt

          put : new_put w s bytes ≡ a_put u s bytes
          put = rw st.begun (rw st.now refl)

          watches : Stands (with_session s (looking w s i (record { name = Some name; bytes = bytes; op = Some w.begun })) (with_new_op (new_put w s bytes) w))
              (with_hand s (at (first_look s j (record { name = Some name; bytes = bytes; op = Some u.begun }))) (with_next_op (a_put u s bytes) u))
          watches = session_stands (with_new_op (new_put w s bytes) w) (with_next_op (a_put u s bytes) u) s (looking w s i (record { name = Some name; bytes = bytes; op = Some w.begun })) (record y { hand = at (first_look s j (record { name = Some name; bytes = bytes; op = Some u.begun })) })
              (subst (λ k. Counts here (looking w s i (record { name = Some name; bytes = bytes; op = Some k })) (record y { hand = at (first_look s j (record { name = Some name; bytes = bytes; op = Some u.begun })) })) (sym st.begun) (fits (record { name = Some name; bytes = bytes; op = Some u.begun })))
              (λ k p one. one) (new_op_stands w u (new_put w s bytes) (a_put u s bytes) put st)

          others : Stands (with_session s (looking w s i (record { name = Some name; bytes = bytes; op = None })) w) (with_hand s (at (first_look s j (record { name = Some name; bytes = bytes; op = None }))) u)
          others = hand_stands (Looks i (record { name = Some name; bytes = bytes; op = None }) (and_page s no_page) (and_seen s i.page none_seen)) (at (first_look s j (record { name = Some name; bytes = bytes; op = None }))) (fits (record { name = Some name; bytes = bytes; op = None }))
      begins low name bytes may level j turns (Looks i change looked seen) is like = absurd like
      begins low name bytes may level j turns (Announces i op) is like = absurd like
      begins low name bytes may level j turns (Carries i op) is like = absurd like

      tidies_as : ltb s v.sessions ≡ true → (at : Client → Hand) (j : Journal) (change : Change) → AlikeChange here tidying change → Turns at → (c : Client) → x.client ≡ c → AlikeClient here c (Knows j) → Goes w (with_hand s (at (first_look s j change)) u)
      tidies_as low at j change nameless turns (Knows i) is like = record {
        plain = Tidies s;
        may = easy (Tidies s) tt;
        stands = rw low (subst (λ c. Stands (tick (tidies_by w s c)) (tick_of (with_hand s (at (first_look s j change)) u))) (sym is)
            (tick_stands _ _ (hand_stands (Looks i tidying (and_page s no_page) (and_seen s i.page none_seen)) (at (first_look s j change)) (turns _ _ (first_alike i j tidying change nameless like) tt))));
      }
      tidies_as low at j change nameless turns (Looks i also looked seen) is like = absurd like
      tidies_as low at j change nameless turns (Announces i op) is like = absurd like
      tidies_as low at j change nameless turns (Carries i op) is like = absurd like

      puts : ltb s v.sessions ≡ true → (name : ℕ) (bytes : List ℕ) → (here name ≡ true → Q (Begins s name bytes)) → (hand : Hand) → y.hand ≡ hand → Goes w (puts_by v inside u s name bytes hand)
      puts low name bytes hard (GoesOn k) is = rests w u st
      puts low name bytes hard (At k true d) is = rests w u st
      puts low name bytes hard (At k false (Knows j)) is = either (inside k name) (of (here name) refl)
        where
          of : (b : Bool) → here name ≡ b → Goes w (begins_as v u s name bytes k j)
          of true e = begins low name bytes (hard e) k j (turns_at k (Knows j) is) x.client refl (like_at k (Knows j) is)
          of false e = rw (ne_eqb name v.name (λ same. true≢false (sym watched ∙ ap here (sym same) ∙ e)))
              (tidies_as low (At k false) j (record { name = Some name; bytes = bytes; op = None }) (inr (record { name = name; bytes = bytes; out = e; none = refl; other = refl })) (turns_at k (Knows j) is) x.client refl (like_at k (Knows j) is))

          either : (b : Bool) → Goes w (begins_as v u s name bytes k j) → Goes w (if b then begins_as v u s name bytes k j else u)
          either true goes = goes
          either false goes = rests w u st
      puts low name bytes hard (At k false (Looks j change looked seen)) is = rests w u st
      puts low name bytes hard (At k false (Announces j op)) is = rests w u st
      puts low name bytes hard (At k false (Carries j op)) is = rests w u st

      tidies : ltb s v.sessions ≡ true → (hand : Hand) → y.hand ≡ hand → Goes w (tidies_up_by u s hand)
      tidies low (GoesOn k) is = rests w u st
      tidies low (At k true d) is = rests w u st
      tidies low (At k false (Knows j)) is = tidies_as low (At k false) j tidying (inl refl) (turns_at k (Knows j) is) x.client refl (like_at k (Knows j) is)
      tidies low (At k false (Looks j change looked seen)) is = rests w u st
      tidies low (At k false (Announces j op)) is = rests w u st
      tidies low (At k false (Carries j op)) is = rests w u st

      -- ---- it looks at one page more

      -- what the register holds that was read: what counts behind a page with the signpost, where that shows none itself
      counts_like : (t level : ℕ) (sign : Page) → SignFits here level (w.session t) (u.session t) sign → shows_signpost (level_page u t level) ≡ false → AlikePage here (w.session t).page (counts (inside level) (level_page u t level) sign)
      counts_like t level sign fits unsigned = by (level_page u t level) refl
        where
          c : Counts here (w.session t) (u.session t)
          c = st.sessions t

          at_top : (q : SignedPage) → level_page u t level ≡ Some q → (level ≡ c.top) ⊎ (level ≢ c.top) → (level < c.top) ⊎ (c.top ≤ level) → AlikePage here (w.session t).page q.page
          at_top q some (inl same) any = c.stage.its_top.page q (ap (λ k. level_page u t k) (sym same) ∙ some)
          at_top q some (inr other) (inl low) = absurd (true≢false (sym (c.stage.left level low).page ∙ unsigned))
          at_top q some (inr other) (inr high) = absurd (no_some q (sym some ∙ ap (λ (a : LevelFiles). a.page) (c.stage.none level (omega (arith, high, other)))))

          by : (page : Option SignedPage) → level_page u t level ≡ page → AlikePage here (w.session t).page (counts (inside level) page sign)
          by None none = part_alike here (inside level) (within level) (w.session t).page sign (fits.1 none)
          by (Some q) some = at_top q some (cases_eq level c.top) (cases_lt level c.top)

      -- where it shows one, the next level begins with it
      sign_on : (t level : ℕ) (sign : Page) → shows_signpost (level_page u t level) ≡ true → SignFits here (suc level) (w.session t) (u.session t) (counts (inside level) (level_page u t level) sign)
      sign_on t level sign is = (is, λ none. by none (level_page u t level) refl)
        where
          c : Counts here (w.session t) (u.session t)
          c = st.sessions t

          of : level_page u t (suc level) ≡ None → (q : SignedPage) → level_page u t level ≡ Some q → (level ≡ c.top) ⊎ (level ≢ c.top) → (suc level ≡ c.top) ⊎ (suc level ≢ c.top) → (level < c.top) ⊎ (c.top ≤ level) → AlikePage here (w.session t).page q.page
          of none q some (inl same) next any = c.stage.its_top.page q (ap (λ k. level_page u t k) (sym same) ∙ some)
          of none q some (inr other) (inl same) any =
              let L : ℕ → Type 0 = λ k. LastOf here k (w.session t).journal (w.session t).page ((u.session t).level c.top) (u.session t).level in
              let last : Last here (w.session t).journal (w.session t).page ((u.session t).level c.top) ((u.session t).level level) = subst L (sym same) c.stage.last in
              last.its_page q some (ap (λ k. level_page u t k) (sym same) ∙ none)
          of none q some (inr other) (inr more) (inl low) = absurd (signed_some (level_page u t (suc level)) (c.stage.left (suc level) (omega (arith, low, more))).page none)
          of none q some (inr other) (inr more) (inr high) = absurd (no_some q (sym some ∙ ap (λ (a : LevelFiles). a.page) (c.stage.none level (omega (arith, high, other)))))

          by : level_page u t (suc level) ≡ None → (page : Option SignedPage) → level_page u t level ≡ page → AlikePage here (w.session t).page (counts (inside level) page sign)
          by none None is_none = absurd (signed_some (level_page u t level) is is_none)
          by none (Some q) some = of none q some (cases_eq level c.top) (cases_eq (suc level) c.top) (cases_lt level c.top)

      sees_page : (t : ℕ) → ltb t v.sessions ≡ true → (at : Client → Hand) (j : Journal) (change : Change) (looked : ℕ → Bool) (seen : ℕ → Page) → Turns at → (c : Client) → x.client ≡ c → AlikeClient here c (Looks j change looked seen) →
          t ≢ s → (page : Page) → AlikePage here (w.session t).page page → Goes w (with_hand s (at (looks_more j change looked seen t page)) u)
      sees_page t low at j change looked seen turns (Looks i also did more) is like ne page one = record {
        plain = Sees s t;
        may = easy (Sees s t) tt;
        stands = rw low (subst (λ c. Stands (tick (sees_by w s t c)) (tick_of (with_hand s (at (looks_more j change looked seen t page)) u))) (sym is)
            (rw (ne_eqb t s ne) (tick_stands _ _ (hand_stands (Looks i also (and_page t did) (and_seen t (w.session t).page more)) (at (looks_more j change looked seen t page))
            (turns (Looks i also (and_page t did) (and_seen t (w.session t).page more)) (looks_more j change looked seen t page) (like.0, like.1, looked_alike t did looked like.2, seen_alike here t (w.session t).page page more seen one like.3) tt)))));
      }
      sees_page t low at j change looked seen turns (Knows i) is like ne page one = absurd like
      sees_page t low at j change looked seen turns (Announces i op) is like ne page one = absurd like
      sees_page t low at j change looked seen turns (Carries i op) is like ne page one = absurd like

      sees : (t level : ℕ) → ltb t v.sessions ≡ true → (at : Client → Hand) (j : Journal) (change : Change) (looked : ℕ → Bool) (seen : ℕ → Page) → Turns at → AlikeClient here x.client (Looks j change looked seen) →
          (place : ℕ) (sign : Option Page) → slice_get (u.signs t level) place ≡ sign → Goes w (sees_as inside u s t level at j change looked seen sign)
      sees t level low at j change looked seen turns like place None is = rests w u st
      sees t level low at j change looked seen turns like place (Some sign) is = by (cases_eq t s)
        where
          fits : SignFits here level (w.session t) (u.session t) sign
          fits = each_at (SignFits here level (w.session t) (u.session t)) (u.signs t level) place sign (st.signs t level) is

          found : Page
          found = counts (inside level) (level_page u t level) sign

          of : t ≢ s → (b : Bool) → shows_signpost (level_page u t level) ≡ b → Goes w (if b then with_sign t (suc level) found u else with_hand s (at (looks_more j change looked seen t found)) u)
          of ne true e = rests w (with_sign t (suc level) found u) (sign_stands w u t (suc level) found (sign_on t level sign e) st)
          of ne false e = sees_page t low at j change looked seen turns x.client refl like ne found (counts_like t level sign fits e)

          by : (t ≡ s) ⊎ (t ≢ s) → Goes w (sees_as inside u s t level at j change looked seen (Some sign))
          by (inl same) = rw (eq-eqb t s same) (rests w u st)
          by (inr ne) = rw (ne_eqb t s ne) (of ne (shows_signpost (level_page u t level)) refl)

      sees_hand : (t level place : ℕ) → ltb t v.sessions ≡ true → (hand : Hand) → y.hand ≡ hand → Goes w (sees_level_by inside u s t level place hand)
      sees_hand t level place low (GoesOn k) is = rests w u st
      sees_hand t level place low (At k true d) is = rests w u st
      sees_hand t level place low (At k false (Knows j)) is = rests w u st
      sees_hand t level place low (At k false (Looks j change looked seen)) is =
          sees t level low (At k false) j change looked seen (turns_at k (Looks j change looked seen) is) (like_at k (Looks j change looked seen) is) place (slice_get (u.signs t level) place) refl
      sees_hand t level place low (At k false (Announces j op)) is = rests w u st
      sees_hand t level place low (At k false (Carries j op)) is = rests w u st

      -- ---- it chooses

      chooses : (more_by : ℕ) (goes ask : ℕ → Bool) → Q (Chooses s more_by goes ask) → (at : Client → Hand) (j : Journal) (change : Change) (looked : ℕ → Bool) (seen : ℕ → Page) → Turns at → (c : Client) → x.client ≡ c → AlikeClient here c (Looks j change looked seen) →
          Goes w (chooses_as v u s more_by goes ask at j change looked seen)
      chooses more_by goes ask may at j change looked seen turns (Looks i also did more) is like = record {
        plain = Chooses s more_by goes ask;
        may = may;
        stands = subst (λ c. Stands (tick (chooses_by v w s more_by goes ask c)) (tick_of (chooses_as v u s more_by goes ask at j change looked seen))) (sym is)
            (rw (has_alike here v more seen like.3 did looked like.2) (tick_stands _ _ (both (has_seen v looked seen) _ _ _ _ (hand_stands (announced also) (at (Announces (changed v goes ask seen s j change (new_line s more_by change (highest v j.page seen))) change.op)) fits) st)));
      }
        where
          announced : Change → Client
          announced ch = Announces (changed v goes ask more s i ch (new_line s more_by ch (highest v i.page more))) ch.op

          chosen : Change → Client
          chosen ch = Announces (changed v goes ask seen s j ch (new_line s more_by ch (highest v j.page seen))) ch.op

          same : AlikeChange here also change → AlikeClient here (announced also) (chosen change)
          same (inl is_it) = subst (λ ch. AlikeClient here (announced ch) (chosen change)) (sym is_it) (chosen_alike here v more seen like.3 goes ask s more_by change i j like.0, refl)
          same (inr n) = subst (λ ch. AlikeClient here (announced ch) (chosen change)) (sym n.none) (subst (λ ch. AlikeClient here (announced tidying) (chosen ch)) (sym n.other) (chosen_nameless here v more seen like.3 goes ask s more_by n.name n.bytes i j n.out like.0, refl))

          one : AlikeClient here (announced also) (chosen change)
          one = same like.1

          fits : Counts here (record x { client = announced also }) (record y { hand = at (Announces (changed v goes ask seen s j change (new_line s more_by change (highest v j.page seen))) change.op) })
          fits = turns (announced also) (Announces (changed v goes ask seen s j change (new_line s more_by change (highest v j.page seen))) change.op) one tt
      chooses more_by goes ask may at j change looked seen turns (Knows i) is like = absurd like
      chooses more_by goes ask may at j change looked seen turns (Announces i op) is like = absurd like
      chooses more_by goes ask may at j change looked seen turns (Carries i op) is like = absurd like

      chooses_hand : (more_by : ℕ) (goes ask : ℕ → Bool) → (ClientOf x.client y.hand → Q (Chooses s more_by goes ask)) → (hand : Hand) → y.hand ≡ hand → Goes w (chooses_line_by v u s more_by goes ask hand)
      chooses_hand more_by goes ask hard (GoesOn k) is = rests w u st
      chooses_hand more_by goes ask hard (At k true d) is = rests w u st
      chooses_hand more_by goes ask hard (At k false (Knows j)) is = rests w u st
      chooses_hand more_by goes ask hard (At k false (Looks j change looked seen)) is =
          chooses more_by goes ask (hard (subst (ClientOf x.client) (sym is) (like_at k (Looks j change looked seen) is))) (At k false) j change looked seen (turns_at k (Looks j change looked seen) is) x.client refl (like_at k (Looks j change looked seen) is)
      chooses_hand more_by goes ask hard (At k false (Announces j op)) is = rests w u st
      chooses_hand more_by goes ask hard (At k false (Carries j op)) is = rests w u st

      -- ---- it writes

      announced_stand : (op : Option ℕ) (i j : Journal) (z : Session) (after : Files) → AlikeJournal here i j → Counts here z after → ((level : ℕ) (p : Page) → SignFits here level x y p → SignFits here level z after p) →
          Stands (with_session s z (with_tag v i op w)) (with_files s after (with_version v j op u))
      announced_stand None i j z after like fits keeps = session_stands w u s z after fits keeps st
      announced_stand (Some k) i j z after like fits keeps = session_stands (with_op k (record (w.op k) { tag = Some (i.page.line v.name).tag }) w) (with_split_op k (record (u.op k) { tag = Some (j.page.line v.name).tag }) u) s z after fits keeps
          (op_stands w u k (record (w.op k) { tag = Some (i.page.line v.name).tag }) (record (u.op k) { tag = Some (j.page.line v.name).tag }) (rw (st.ops k) (rw (like.page.line v.name watched) refl)) st)

      carried_stand : (op : Option ℕ) (z : Session) (after : Files) → Counts here z after → ((level : ℕ) (p : Page) → SignFits here level x y p → SignFits here level z after p) → Stands (with_session s z (with_end op w)) (with_files s after (with_ended op u))
      carried_stand None z after fits keeps = session_stands w u s z after fits keeps st
      carried_stand (Some k) z after fits keeps = session_stands (with_op k (record (w.op k) { end = Some w.now }) w) (with_split_op k (record (u.op k) { end = Some u.now }) u) s z after fits keeps
          (op_stands w u k (record (w.op k) { end = Some w.now }) (record (u.op k) { end = Some u.now }) (rw (st.ops k) (rw st.now refl)) st)

      module _ (k : ℕ) (signed : Bool) (j : Journal) (op : Option ℕ) where
        abbrev z : LevelFiles
        z = y.level k

        announces : (answered : Bool) → AtTop k (At k signed (Announces j op)) → (c : Client) → x.client ≡ c → AlikeClient here c (Announces j op) → Stands (tick (writes_by v w s answered c)) (tick_of (hand_writes_by v u s answered (At k signed (Announces j op))))
        announces true a (Announces i also) at like = tick_stands _ _ (subst (λ o. Stands (with_session s next (with_tag v i i.op w)) (with_files s then_files (with_version v j o u))) like.0.op
            (announced_stand i.op i j next then_files like.0 (record {
              top = k;
              stage = top_turns here k x next y after (At k signed (Carries j op)) a.stage fits (λ p one. one) (record {
                journal = λ q some. let same : record { journal = j; signed = signed } ≡ q = cc in subst (λ (o : SignedJournal). AlikeJournal here i o.journal) same like.0;
                journals = tt;
                page = a.stage.its_top.page;
                pages = a.stage.its_top.pages;
              }) (λ none. absurd (no_some (record { journal = j; signed = signed }) none)) (inr (refl, fits (known_before y.known k) a.known, like)) (phase a.stage.phase);
            }) (same_keeps here k after x next y refl refl)))
          where
            next : Session
            next = record x { journal = i; journal_pending = []; client = Carries i also }

            after : LevelFiles
            after = record z { journal = Some (record { journal = j; signed = signed }); journal_pending = [] }

            then_files : Files
            then_files = record (with_level k after y) { hand = At k signed (Carries j op) }

            fits : (q : Journal) → P k q → Fits here i x.page after q
            fits q one = (λ none. absurd (no_some (record { journal = j; signed = signed }) none), one.1)

            -- the first one with the signpost that is answered, or one more
            phase : Phase here k x.journal z y.hand → Phase here k i after (At k signed (Carries j op))
            phase (inl un) = by signed refl
              where
                by : (b : Bool) → signed ≡ b → Phase here k i after (At k signed (Carries j op))
                by true e = inr (record { journal = e; journals = tt; hand = λ same. (e, like.0); pages = signed_none here (AlikePage here i.page) (stands z.page) z.page_pending (signed_stands z.page ∙ un.page) un.pages })
                by false e = inl (record { page = un.page; pages = un.pages; hand = λ same. e })
            phase (inr si) = inr (record {
              journal = known.0;
              journals = tt;
              hand = λ same. (known.0, like.0);
              pages = signed_map here (AlikePage here x.journal.page) (AlikePage here i.page) (λ p one. page_turns here x.journal.page i.page p same one) (stands z.page) z.page_pending si.pages;
            })
              where
                known : (signed ≡ true) × AlikeJournal here x.journal j
                known = signed_of k signed (Announces j op) a.is si

                same : AlikePage here x.journal.page i.page
                same = (journal_on here x.journal j i known.1 (journal_back here i j like.0)).page
        announces false a (Announces i also) at like = tick_stands _ _ (session_stands w u s next (with_level k after y) (record {
          top = k;
          stage = top_turns here k x next y after y.hand a.stage (λ q one. one) (λ p one. one) (record {
            journal = a.stage.its_top.journal;
            journals = last_push (SpareJournal here x.journal z.journal) (LikeJournal here) x.journal_pending z.journal_pending i (record { journal = j; signed = signed }) a.stage.its_top.journals like.0;
            page = a.stage.its_top.page;
            pages = a.stage.its_top.pages;
          }) a.stage.first a.stage.hand (phase a.stage.phase);
        }) (same_keeps here k after x next y refl refl) st)
          where
            next : Session
            next = record x { journal_pending = x.journal_pending ++ i ∷ [] }

            after : LevelFiles
            after = record z { journal_pending = z.journal_pending ++ record { journal = j; signed = signed } ∷ [] }

            phase : Phase here k x.journal z y.hand → Phase here k x.journal after y.hand
            phase (inl un) = inl (record { page = un.page; pages = un.pages; hand = un.hand })
            phase (inr si) = inr (record {
              journal = si.journal;
              journals = each_push (λ (q : SignedJournal). (q.signed ≡ true) × AlikeJournal here x.journal q.journal) z.journal_pending (record { journal = j; signed = signed }) si.journals (signed_of k signed (Announces j op) a.is si);
              hand = si.hand;
              pages = si.pages;
            })
        announces answered a (Knows i) at like = absurd like
        announces answered a (Looks i change looked seen) at like = absurd like
        announces answered a (Carries i also) at like = absurd like

        -- its journal was written
        some_journal : AtTop k (At k signed (Carries j op)) → z.journal ≡ None → ⊥
        some_journal a none = (subst (NotCarrying here k) a.is (a.stage.first none).2) refl

        carries : (answered : Bool) → AtTop k (At k signed (Carries j op)) → (c : Client) → x.client ≡ c → AlikeClient here c (Carries j op) → Stands (tick (writes_by v w s answered c)) (tick_of (hand_writes_by v u s answered (At k signed (Carries j op))))
        carries true a (Carries i also) at like = tick_stands _ _ (subst (λ o. Stands (with_session s next (with_end also w)) (with_files s then_files (with_ended o u))) like.1
            (carried_stand also next then_files (record {
              top = k;
              stage = top_turns here k x next y after (At k signed (Knows j)) a.stage fits (λ p one none. absurd (no_some its none)) (record {
                journal = a.stage.its_top.journal;
                journals = a.stage.its_top.journals;
                page = λ q some. let same : its ≡ q = cc in subst (λ (o : SignedPage). AlikePage here i.page o.page) same like.0.page;
                pages = tt;
              }) (λ none. absurd (some_journal a none)) (inr (refl, fits (known_before y.known k) a.known, like.0)) (phase a.stage.phase);
            }) (top_keeps here k after x next y its a.stage refl (λ is. turns is a.stage.phase))))
          where
            its : SignedPage
            its = record { page = j.page; signed = signed }

            next : Session
            next = record x { page = i.page; page_pending = []; client = Knows i }

            after : LevelFiles
            after = record z { page = Some its; page_pending = [] }

            then_files : Files
            then_files = record (with_level k after y) { hand = At k signed (Knows j) }

            fits : (q : Journal) → P k q → Fits here x.journal i.page after q
            fits q one = (one.0, λ none. absurd (no_some its none))

            known : Signed here k x.journal z y.hand → (signed ≡ true) × AlikeJournal here x.journal j
            known si = signed_of k signed (Carries j op) a.is si

            phase : Phase here k x.journal z y.hand → Phase here k x.journal after (At k signed (Knows j))
            phase (inl un) = inl (record { page = (subst (QuietHand here k) a.is un.hand) refl; pages = tt; hand = λ same. tt })
            phase (inr si) = inr (record { journal = si.journal; journals = si.journals; hand = λ same. known si; pages = λ is. (known si).1.page })

            turns : shows_signpost z.page ≡ true → Phase here k x.journal z y.hand → (signed ≡ true) × ((p : Page) → AlikePage here x.page p → AlikePage here i.page p)
            turns is (inl un) = absurd (true≢false (sym is ∙ un.page))
            turns is (inr si) = ((known si).0, λ p one. page_turns here x.journal.page i.page p (page_on here x.journal.page j.page i.page (known si).1.page (page_back here i.page j.page like.0.page)) (page_on here x.journal.page x.page p (its_page here k x y a.stage si is) one))
        carries false a (Carries i also) at like = tick_stands _ _ (session_stands w u s next (with_level k after y) (record {
          top = k;
          stage = top_turns here k x next y after y.hand a.stage (λ q one. one) (λ p one. one) (record {
            journal = a.stage.its_top.journal;
            journals = a.stage.its_top.journals;
            page = a.stage.its_top.page;
            pages = last_push (SparePage here x.page z.page) (LikePage here) x.page_pending z.page_pending i.page (record { page = j.page; signed = signed }) a.stage.its_top.pages like.0.page;
          }) (λ none. absurd (some_journal a none)) a.stage.hand (phase a.stage.phase);
        }) (same_keeps here k after x next y refl refl) st)
          where
            next : Session
            next = record x { page_pending = x.page_pending ++ i.page ∷ [] }

            after : LevelFiles
            after = record z { page_pending = z.page_pending ++ record { page = j.page; signed = signed } ∷ [] }

            phase : Phase here k x.journal z y.hand → Phase here k x.journal after y.hand
            phase (inl un) = inl (record { page = un.page; pages = each_push (λ (q : SignedPage). q.signed ≡ false) z.page_pending (record { page = j.page; signed = signed }) un.pages ((subst (QuietHand here k) a.is un.hand) refl); hand = un.hand })
            phase (inr si) = let known : (signed ≡ true) × AlikeJournal here x.journal j = signed_of k signed (Carries j op) a.is si in inr (record {
              journal = si.journal;
              journals = si.journals;
              hand = si.hand;
              pages = signed_push here (AlikePage here x.journal.page) (stands z.page) z.page_pending (record { page = j.page; signed = signed }) si.pages known.0 known.1.page;
            })
        carries answered a (Knows i) at like = absurd like
        carries answered a (Looks i change looked seen) at like = absurd like
        carries answered a (Announces i also) at like = absurd like

      writes : (answered : Bool) (hand : Hand) → y.hand ≡ hand → Goes w (hand_writes_by v u s answered hand)
      writes answered (At k signed (Announces j op)) is =
          let a = acts k signed (Announces j op) is (λ any bad. bad) in
          record { plain = ClientWrites s answered; may = easy (ClientWrites s answered) tt; stands = announces k signed j op answered a.at x.client refl a.like }
      writes answered (At k signed (Carries j op)) is =
          let a = acts k signed (Carries j op) is (λ any bad. bad) in
          record { plain = ClientWrites s answered; may = easy (ClientWrites s answered) tt; stands = carries k signed j op answered a.at x.client refl a.like }
      writes true (At k signed (Knows j)) is = rests w u st
      writes false (At k signed (Knows j)) is = rests w u st
      writes true (At k signed (Looks j change looked seen)) is = rests w u st
      writes false (At k signed (Looks j change looked seen)) is = rests w u st
      writes true (GoesOn k) is = rests w u st
      writes false (GoesOn k) is = rests w u st

      -- ---- it splits its page

      repeats : (k : ℕ) (signed : Bool) (j : Journal) → AtTop k (At k signed (Knows j)) → AlikeClient here x.client (Knows j) → Goes w (with_hand s (At k true (Announces j None)) u)
      repeats k signed j a like = of x.client refl like
        where
          of : (c : Client) → x.client ≡ c → AlikeClient here c (Knows j) → Goes w (with_hand s (At k true (Announces j None)) u)
          of (Knows i) at same = record {
            plain = Repeats s;
            may = easy (Repeats s) tt;
            stands = subst (λ c. Stands (tick (repeats_by w s c)) (tick_of (with_hand s (At k true (Announces j None)) u))) (sym at)
                (tick_stands _ _ (hand_stands (Announces i None) (At k true (Announces j None)) (record { top = k; stage = hand_turns here k x y (Announces i None) (At k true (Announces j None)) a.stage (inr (refl, a.known, (same, refl))) (λ it. tt) (phase a.stage.phase) })));
          }
            where
              phase : Phase here k x.journal (y.level k) y.hand → Phase here k x.journal (y.level k) (At k true (Announces j None))
              phase (inl un) = inl (record { page = un.page; pages = un.pages; hand = λ it. tt })
              phase (inr si) = inr (record { journal = si.journal; journals = si.journals; hand = λ it. (refl, (signed_of k signed (Knows j) a.is si).1); pages = si.pages })
          of (Looks i change looked seen) at same = absurd same
          of (Announces i op) at same = absurd same
          of (Carries i op) at same = absurd same

      signs_page : (k : ℕ) (signed : Bool) (j : Journal) → y.hand ≡ At k signed (Knows j) → Goes w (signs_as u s k signed (shows_signpost (y.level k).page || is_written (y.level (suc k)).journal) j)
      signs_page k signed j is = by (subst (HandFits here fit.top (P fit.top) (known_before y.known fit.top) x.client) is fit.stage.hand)
        where
          there : Bool
          there = shows_signpost (y.level k).page || is_written (y.level (suc k)).journal

          gone : Files
          gone = record (with_known k j y) { hand = GoesOn (suc k) }

          now_known : (with_known k j y).known k ≡ j
          now_known = rw (eq-eqb k k refl) refl

          -- below the top it only reads the next level
          below : k < fit.top → (suc k ≡ fit.top → P fit.top j) → Stage here fit.top x gone
          below low fits = record {
            none = fit.stage.none;
            left = fit.stage.left;
            last = fit.stage.last;
            its_top = fit.stage.its_top;
            first = λ none. let n = fit.stage.first none in (n.0, n.1, tt);
            clearing = fit.stage.clearing;
            hand = hand (cases_eq (suc k) fit.top);
            phase = phase fit.stage.phase;
          }
            where
              hand : (suc k ≡ fit.top) ⊎ (suc k ≢ fit.top) → HandFits here fit.top (P fit.top) (known_before gone.known fit.top) x.client (GoesOn (suc k))
              hand (inl same) = inr (same, let K : ℕ → Type 0 = λ t. P fit.top (known_before gone.known t) in subst K same (rw now_known (fits same)))
              hand (inr other) = inl (omega (arith, low, other))

              phase : Phase here fit.top x.journal (y.level fit.top) y.hand → Phase here fit.top x.journal (y.level fit.top) (GoesOn (suc k))
              phase (inl un) = inl (record { page = un.page; pages = un.pages; hand = tt })
              phase (inr si) = inr (record { journal = si.journal; journals = si.journals; hand = tt; pages = si.pages })

          goes_as : (signed_it there_it : Bool) → signed_it ≡ true → there_it ≡ true → Counts here x gone → Goes w (signs_as u s k signed_it there_it j)
          goes_as true true is_true also fits = rests w (with_files s gone u) (files_stand w u s gone fits (λ level p one. one) st)
          goes_as true false is_true bad fits = absurd (true≢false (sym bad))
          goes_as false any bad also fits = absurd (true≢false (sym bad))

          signs_it : (signed_it there_it : Bool) → there_it ≡ false → Goes w (with_hand s (At k true (Announces j None)) u) → Goes w (signs_as u s k signed_it there_it j)
          signs_it true false none goes = goes
          signs_it false false none goes = goes
          signs_it true true bad goes = absurd (true≢false bad)
          signs_it false true bad goes = absurd (true≢false bad)

          shows : shows_signpost (y.level k).page ≡ true → there ≡ true
          shows e = rw e refl

          by : HandFits here fit.top (P fit.top) (known_before y.known fit.top) x.client (At k signed (Knows j)) → Goes w (signs_as u s k signed there j)
          by (inl low) = goes_as signed there low.1 (shows (fit.stage.left k low.0).page) (record { top = fit.top; stage = below low.0 low.2 })
          by (inr top) = of (shows_signpost (y.level k).page) refl a.stage.phase
            where
              a : AtTop k (At k signed (Knows j))
              a = top_at k (At k signed (Knows j)) is top.0 top.1

              unwritten : is_written (y.level (suc k)).journal ≡ false
              unwritten = ap (λ (b : LevelFiles). is_written b.journal) (a.stage.none (suc k) (omega arith))

              of : (b : Bool) → shows_signpost (y.level k).page ≡ b → Phase here k x.journal (y.level k) y.hand → Goes w (signs_as u s k signed there j)
              of true e (inl un) = absurd (true≢false (sym e ∙ un.page))
              of true e (inr si) = goes_as signed there (signed_of k signed (Knows j) is si).0 (shows e) (record { top = suc k; stage = goes_on here k x y gone.known a.stage si (rw now_known (signed_of k signed (Knows j) is si).1) e })
              of false e phase = signs_it signed there (rw e unwritten) (repeats k signed j a top.2)

      -- ---- it clears a page

      hand_top : (k : ℕ) (hand : Hand) → HandFits here fit.top (P fit.top) (known_before y.known fit.top) x.client hand → k < level_of hand → (k < fit.top) × (suc k ≡ fit.top → P fit.top (known_before y.known fit.top))
      hand_top k (GoesOn level) (inl low) above = (omega (arith, low, above), λ same. absurd (omega (arith, low, above, same)))
      hand_top k (GoesOn level) (inr top) above = let same = top.0 in (omega (arith, same, above), λ it. top.1)
      hand_top k (At level signed d) (inl below) above = let low = below.0 in (omega (arith, low, above), λ same. absurd (omega (arith, low, above, same)))
      hand_top k (At level signed d) (inr top) above = let same = top.0 in (omega (arith, same, above), λ it. top.1)

      -- other lines are taken out of a level, or another journal is known of it
      clearing_turns : (k : ℕ) (clearing : Clearing) (z : Files) → Stage here fit.top x z → ClearingFits here fit.top k (Fits here x.journal x.page (z.level fit.top)) clearing → Stage here fit.top x (with_clearing k clearing z)
      clearing_turns k clearing z a fits = record {
        none = a.none;
        left = a.left;
        last = a.last;
        its_top = a.its_top;
        first = a.first;
        clearing = λ i. of i (cases_eq i k);
        hand = a.hand;
        phase = a.phase;
      }
        where
          of : (i : ℕ) → (i ≡ k) ⊎ (i ≢ k) → ClearingFits here fit.top i (Fits here x.journal x.page (z.level fit.top)) ((with_clearing k clearing z).clearing i)
          of i (inl same) = rw (eq-eqb i k same) (subst (λ l. ClearingFits here fit.top l (Fits here x.journal x.page (z.level fit.top)) clearing) (sym same) fits)
          of i (inr ne) = rw (ne_eqb i k ne) (a.clearing i)

      it_knows : (k : ℕ) (j : Journal) (z : Files) → Stage here fit.top x z → (suc k ≡ fit.top → Fits here x.journal x.page (z.level fit.top) j) → Stage here fit.top x (with_known k j z)
      it_knows k j z a fits = record {
        none = a.none;
        left = a.left;
        last = a.last;
        its_top = a.its_top;
        first = a.first;
        clearing = a.clearing;
        hand = hand_map here (Fits here x.journal x.page (z.level fit.top)) (Fits here x.journal x.page (z.level fit.top)) fit.top (known_before z.known fit.top) (known_before (with_known k j z).known fit.top) x.client (of fit.top refl) (λ i one. one) z.hand a.hand;
        phase = a.phase;
      }
        where
          of : (t : ℕ) → t ≡ fit.top → Fits here x.journal x.page (z.level fit.top) (known_before z.known t) → Fits here x.journal x.page (z.level fit.top) (known_before (with_known k j z).known t)
          of zero is one = one
          of (suc b) is one = by (cases_eq b k)
            where
              by : (b ≡ k) ⊎ (b ≢ k) → Fits here x.journal x.page (z.level fit.top) ((with_known k j z).known b)
              by (inl same) = rw (eq-eqb b k same) (fits (ap suc (sym same) ∙ is))
              by (inr ne) = rw (ne_eqb b k ne) one

      clears_from : (k : ℕ) (goes : ℕ → Bool) → k < level_of y.hand → (clearing : Clearing) → Goes w (clears_as inside u s k goes clearing)
      clears_from k goes above (ClearsJournal j) = rests w u st
      clears_from k goes above (ClearsPage j) = rests w u st
      clears_from k goes above Rests = rests w (with_files s after u) (files_stand w u s after (record { top = fit.top; stage = clearing_turns k (ClearsJournal without) y fit.stage (has.0, λ same. of fit.top same fit.stage (has.1 same)) }) (λ level p one. one) st)
        where
          without : Journal
          without = cleared (inside (suc k)) (level_page u s (suc k)) goes (y.known k)

          after : Files
          after = with_clearing k (ClearsJournal without) y

          has : (k < fit.top) × (suc k ≡ fit.top → P fit.top (known_before y.known fit.top))
          has = hand_top k y.hand fit.stage.hand above

          of : (t : ℕ) → suc k ≡ t → Stage here t x y → P t (known_before y.known t) → P t without
          of t same a one = let G : ℕ → Type 0 = λ l. P l without in subst G same (cleared_alike here (inside (suc k)) (within (suc k)) x.journal (y.known k) x.page (y.level (suc k)) goes (λ none. (first none).0) (let K : ℕ → Type 0 = λ l. P l (known_before y.known l) in subst K (sym same) one))
            where
              first : (y.level (suc k)).journal ≡ None → ((y.level (suc k)).page ≡ None) × ((y.level (suc k)).page_pending ≡ []) × NotCarrying here (suc k) y.hand
              first = let F : ℕ → Type 0 = λ l. JournalFirst here l (y.level l) y.hand in subst F (sym same) a.first

      clearing_writes : (k : ℕ) (answered : Bool) (clearing : Clearing) → y.clearing k ≡ clearing → Goes w (clearing_writes_by u s k answered clearing)
      clearing_writes k true Rests is = rests w u st
      clearing_writes k false Rests is = rests w u st
      clearing_writes k answered (ClearsJournal j) is = by answered
        where
          has : (k < fit.top) × (suc k ≡ fit.top → P fit.top j)
          has = subst (ClearingFits here fit.top k (P fit.top)) is (fit.stage.clearing k)

          left : Left here (y.level k)
          left = fit.stage.left k has.0

          its : SignedJournal
          its = record { journal = j; signed = true }

          wrote : LevelFiles
          wrote = record (y.level k) { journal = Some its; journal_pending = [] }

          asked : LevelFiles
          asked = record (y.level k) { journal_pending = (y.level k).journal_pending ++ its ∷ [] }

          -- below the top
          at_top : (a : LevelFiles) → (with_level k a y).level fit.top ≡ y.level fit.top
          at_top a = level_other here k fit.top a y (λ same. let low = has.0 in omega (arith, low, same))

          fits_of : (a : LevelFiles) → suc k ≡ fit.top → Fits here x.journal x.page ((with_level k a y).level fit.top) j
          fits_of a same = subst (λ b. Fits here x.journal x.page b j) (sym (at_top a)) (has.1 same)

          written : Stage here fit.top x (with_level k wrote y)
          written = left_turns here fit.top k x y wrote fit.stage has.0 (record { journal = refl; journals = tt; page = left.page; pages = left.pages })
              (λ same. let last = last_is k fit.top same fit.stage.last in record { journal = λ i some. (let e : its ≡ i = cc in subst (λ (q : SignedJournal). P fit.top q.journal) e (has.1 same)); journals = tt; its_page = last.its_page; pages = last.pages })

          pending : Stage here fit.top x (with_level k asked y)
          pending = left_turns here fit.top k x y asked fit.stage has.0 (record { journal = left.journal; journals = each_push (λ (q : SignedJournal). q.signed ≡ true) (y.level k).journal_pending its left.journals refl; page = left.page; pages = left.pages })
              (λ same. let last = last_is k fit.top same fit.stage.last in record { journal = last.journal; journals = each_push (λ (q : SignedJournal). P fit.top q.journal) (y.level k).journal_pending its last.journals (has.1 same); its_page = last.its_page; pages = last.pages })

          by : (b : Bool) → Goes w (clearing_writes_by u s k b (ClearsJournal j))
          by true = rests w (with_files s then_files u) (files_stand w u s then_files (record { top = fit.top; stage = it_knows k j (with_clearing k (ClearsPage j) (with_level k wrote y)) (clearing_turns k (ClearsPage j) (with_level k wrote y) written (has.0, fits_of wrote)) (fits_of wrote) }) (same_keeps here k wrote x x y refl refl) st)
            where
              then_files : Files
              then_files = with_known k j (with_clearing k (ClearsPage j) (with_level k wrote y))
          by false = rests w (with_files s (with_level k asked y) u) (files_stand w u s (with_level k asked y) (record { top = fit.top; stage = pending }) (same_keeps here k asked x x y refl refl) st)
      clearing_writes k answered (ClearsPage j) is = by answered
        where
          has : (k < fit.top) × (suc k ≡ fit.top → P fit.top j)
          has = subst (ClearingFits here fit.top k (P fit.top)) is (fit.stage.clearing k)

          left : Left here (y.level k)
          left = fit.stage.left k has.0

          its : SignedPage
          its = record { page = j.page; signed = true }

          wrote : LevelFiles
          wrote = record (y.level k) { page = Some its; page_pending = [] }

          asked : LevelFiles
          asked = record (y.level k) { page_pending = (y.level k).page_pending ++ its ∷ [] }

          written : Stage here fit.top x (with_level k wrote y)
          written = left_turns here fit.top k x y wrote fit.stage has.0 (record { journal = left.journal; journals = left.journals; page = refl; pages = tt })
              (λ same. let last = last_is k fit.top same fit.stage.last in record { journal = last.journal; journals = last.journals; its_page = λ q some. (let e : its ≡ q = cc in subst (λ (o : SignedPage). (y.level fit.top).page ≡ None → AlikePage here x.page o.page) e (has.1 same).1); pages = tt })

          pending : Stage here fit.top x (with_level k asked y)
          pending = left_turns here fit.top k x y asked fit.stage has.0 (record { journal = left.journal; journals = left.journals; page = left.page; pages = each_push (λ (q : SignedPage). q.signed ≡ true) (y.level k).page_pending its left.pages refl })
              (λ same. let last = last_is k fit.top same fit.stage.last in record { journal = last.journal; journals = last.journals; its_page = last.its_page; pages = each_push (λ (q : SignedPage). (y.level fit.top).page ≡ None → AlikePage here x.page q.page) (y.level k).page_pending its last.pages (has.1 same).1 })

          by : (b : Bool) → Goes w (clearing_writes_by u s k b (ClearsPage j))
          by true = rests w (with_files s then_files u) (files_stand w u s then_files (record { top = fit.top; stage = clearing_turns k Rests (with_level k wrote y) written tt }) (page_keeps here k wrote x x y its refl (λ it. refl) (λ level p ne one. one.1)) st)
            where
              then_files : Files
              then_files = with_clearing k Rests (with_level k wrote y)
          by false = rests w (with_files s (with_level k asked y) u) (files_stand w u s (with_level k asked y) (record { top = fit.top; stage = pending }) (same_keeps here k asked x x y refl refl) st)

    -- ---- gets

    module _ (w : World) (u : SplitWorld) (st : Stands w u) (r : ℕ) where
      asks_on : Goes w (asks_for u r)
      asks_on = record {
        plain = Asks r;
        may = easy (Asks r) tt;
        stands = tick_stands _ _ (reader_stands (with_new_op (new_get w r) w) (with_next_op (a_get u r) u) r (Searches w.begun no_page none_seen) (Searches u.begun no_page none_seen) (st.begun, (λ t. refl), λ t. page_self here (none_seen t))
            (new_op_stands w u (new_get w r) (a_get u r) (rw st.begun (rw st.now refl)) st));
      }

      finds_page : (t : ℕ) → ltb t v.sessions ≡ true → (k : ℕ) (looked : ℕ → Bool) (seen : ℕ → Page) (page : Page) → AlikePage here (w.session t).page page → (reader : Reader) → w.reader r ≡ reader → AlikeReader here reader (Searches k looked seen) →
          Goes w (with_asker r (Searches k (and_page t looked) (and_seen t page seen)) u)
      finds_page t low k looked seen page one (Searches also did more) is like = record {
        plain = Finds r t;
        may = easy (Finds r t) tt;
        stands = rw low (subst (λ z. Stands (tick (finds_by w r t z)) (tick_of (with_asker r (Searches k (and_page t looked) (and_seen t page seen)) u))) (sym is)
            (tick_stands _ _ (reader_stands w u r (Searches also (and_page t did) (and_seen t (w.session t).page more)) (Searches k (and_page t looked) (and_seen t page seen))
            (like.0, looked_alike t did looked like.1, seen_alike here t (w.session t).page page more seen one like.2) st)));
      }
      finds_page t low k looked seen page one Idle is like = absurd like

      finds_behind : (t level : ℕ) → ltb t v.sessions ≡ true → (k : ℕ) (looked : ℕ → Bool) (seen : ℕ → Page) → AlikeReader here (w.reader r) (Searches k looked seen) → (place : ℕ) (sign : Option Page) → slice_get (u.signs t level) place ≡ sign → Goes w (finds_as inside u r t level k looked seen sign)
      finds_behind t level low k looked seen like place None is = rests w u st
      finds_behind t level low k looked seen like place (Some sign) is = by (shows_signpost (level_page u t level)) refl
        where
          found : Page
          found = counts (inside level) (level_page u t level) sign

          by : (b : Bool) → shows_signpost (level_page u t level) ≡ b → Goes w (if b then with_sign t (suc level) found u else with_asker r (Searches k (and_page t looked) (and_seen t found seen)) u)
          by true e = rests w (with_sign t (suc level) found u) (sign_stands w u t (suc level) found (sign_on w u st t t level sign e) st)
          by false e = finds_page t low k looked seen found (counts_like w u st t t level sign (each_at (SignFits here level (w.session t) (u.session t)) (u.signs t level) place sign (st.signs t level) is) e) (w.reader r) refl like

      finds : (t level place : ℕ) → ltb t v.sessions ≡ true → (reader : Reader) → u.reader r ≡ reader → AlikeReader here (w.reader r) reader → Goes w (finds_level_by inside u r t level place reader)
      finds t level place low Idle is like = rests w u st
      finds t level place low (Searches k looked seen) is like = finds_behind t level low k looked seen like place (slice_get (u.signs t level) place) refl

      tells_all : (reader : Reader) → AlikeReader here (w.reader r) reader → Goes w (tells_of_by v u r reader)
      tells_all Idle like = rests w u st
      tells_all (Searches k looked seen) like = by (w.reader r) refl like
        where
          by : (other : Reader) → w.reader r ≡ other → AlikeReader here other (Searches k looked seen) → Goes w (tells_of_by v u r (Searches k looked seen))
          by Idle is none = absurd none
          by (Searches also did more) is both_like = record {
            plain = Tells r;
            may = easy (Tells r) tt;
            stands = subst (λ z. Stands (tick (tells_by v w r z)) (tick_of (tells_of_by v u r (Searches k looked seen)))) (sym is)
                (rw (has_alike here v more seen both_like.2 did looked both_like.1) (tick_stands _ _ (both (has_seen v looked seen) _ _ _ _ (rw both_like.0 ended) st)));
          }
            where
              ended : Stands (with_reader r Idle (with_op k (told w (greatest_shown v more v.name).bytes (version_told v more) (w.op k)) w))
                  (with_asker r Idle (with_split_op k (record (u.op k) { kind = Reads (Some (greatest_shown v seen v.name).bytes); end = Some u.now; tag = Some (version_told v seen) }) u))
              ended = reader_stands _ _ r Idle Idle tt (op_stands w u k (told w (greatest_shown v more v.name).bytes (version_told v more) (w.op k)) (record (u.op k) { kind = Reads (Some (greatest_shown v seen v.name).bytes); end = Some u.now; tag = Some (version_told v seen) })
                  (rw (version_alike here v more seen both_like.2 watched) (rw (greatest_shown_alike here v more seen both_like.2 v.name watched) (rw (st.ops k) (rw st.now refl)))) st)

    -- ---- each step

    low_or : (b : Bool) (w : World) (u also : SplitWorld) → Stands w u → (b ≡ true → Goes w also) → Goes w (if b then also else u)
    low_or true w u also st goes = goes refl
    low_or false w u also st goes = rests w u st

    -- what is asked of a step
    abbrev pub Hard : World → SplitWorld → SplitStep → Type 0
    Hard w u (Puts s name bytes) = here name ≡ true → Q (Begins s name bytes)
    Hard w u (ChoosesLine s more goes ask) = ClientOf (w.session s).client (u.session s).hand → Q (Chooses s more goes ask)
    Hard w u _ = ⊤

    pub goes_step : (w : World) (u : SplitWorld) (step : SplitStep) → Hard w u step → Stands w u → Goes w (splits v inside u step)
    goes_step w u (StartsAnew s) hard st = starts w u st s
    goes_step w u (EntersLevel s) hard st = enters w u st s (u.session s).hand refl
    goes_step w u (LevelJournalLate s level place) hard st = journal_comes w u st s level place (slice_get ((u.session s).level level).journal_pending place) refl
    goes_step w u (LevelPageLate s level place) hard st = page_comes w u st s level place (slice_get ((u.session s).level level).page_pending place) refl
    goes_step w u (Puts s name bytes) hard st = low_or (ltb s v.sessions) w u (puts_by v inside u s name bytes (u.session s).hand) st (λ low. puts w u st s low name bytes hard (u.session s).hand refl)
    goes_step w u (TidiesUp s) hard st = low_or (ltb s v.sessions) w u (tidies_up_by u s (u.session s).hand) st (λ low. tidies w u st s low (u.session s).hand refl)
    goes_step w u (SeesLevel s t level sign) hard st = low_or (ltb t v.sessions) w u (sees_level_by inside u s t level sign (u.session s).hand) st (λ low. sees_hand w u st s t level sign low (u.session s).hand refl)
    goes_step w u (ChoosesLine s more goes ask) hard st = chooses_hand w u st s more goes ask hard (u.session s).hand refl
    goes_step w u (HandWrites s answered) hard st = writes w u st s answered (u.session s).hand refl
    goes_step w u (Signs s) hard st = by (u.session s).hand refl
      where
        by : (hand : Hand) → (u.session s).hand ≡ hand → Goes w (signs_by u s hand)
        by (GoesOn level) is = rests w u st
        by (At level signed (Knows j)) is = signs_page w u st s level signed j is
        by (At level signed (Looks j change looked seen)) is = rests w u st
        by (At level signed (Announces j op)) is = rests w u st
        by (At level signed (Carries j op)) is = rests w u st
    goes_step w u (Clears s level goes) hard st = low_or (ltb level (level_of (u.session s).hand)) w u (clears_as inside u s level goes ((u.session s).clearing level)) st
        (λ low. clears_from w u st s level goes (ltb-true level (level_of (u.session s).hand) low) ((u.session s).clearing level))
    goes_step w u (ClearingWrites s level answered) hard st = clearing_writes w u st s level answered ((u.session s).clearing level) refl
    goes_step w u (AsksFor r) hard st = asks_on w u st r
    goes_step w u (FindsLevel r t level sign) hard st = low_or (ltb t v.sessions) w u (finds_level_by inside u r t level sign (u.reader r)) st (λ low. finds w u st r t level sign low (u.reader r) refl (st.readers r))
    goes_step w u (TellsOf r) hard st = tells_all w u st r (u.reader r) (st.readers r)

    pub first_stands : Stands new_world first_world
    first_stands = record {
      now = refl;
      begun = refl;
      ops = λ i. refl;
      sessions = λ s. record {
        top = 0;
        stage = record {
          none = λ level low. refl;
          left = λ level low. absurd (omega (arith, low));
          last = at_first;
          its_top = record { journal = λ j some. absurd (let bad : None ≡ Some j = some in cc); journals = tt; page = λ q some. absurd (let bad : None ≡ Some q = some in cc); pages = tt };
          first = λ none. (refl, refl, tt);
          clearing = λ level. tt;
          hand = inr (refl, at_first);
          phase = inl (record { page = refl; pages = tt; hand = tt });
        };
      };
      signs = λ s level. begins level;
      readers = λ r. tt;
    }
      where
        at_first : Fits here new_journal new_page no_files new_journal
        at_first = (λ none. journal_self here new_journal, λ none. page_self here new_page)

        begins : (level : ℕ) → Each (SignFits here level (new_world.session 0) (first_world.session 0)) (first_signs level)
        begins zero = ((tt, λ none. page_self here new_page), tt)
        begins (suc level) = tt

  -- ---- a whole run, of which nothing is asked

  module _ (v : Setting) (watched : here v.name ≡ true) where
    abbrev Any : Step → Type 0
    Any step = ⊤

    any : (step : Step) → IsEasy step → Any step
    any step is = tt

    hard_any : (w : World) (u : SplitWorld) (step : SplitStep) → Hard v watched Any any w u step
    hard_any w u (Puts s name bytes) = λ is. tt
    hard_any w u (ChoosesLine s more goes ask) = λ is. tt
    hard_any w u (StartsAnew s) = tt
    hard_any w u (EntersLevel s) = tt
    hard_any w u (LevelJournalLate s level place) = tt
    hard_any w u (LevelPageLate s level place) = tt
    hard_any w u (TidiesUp s) = tt
    hard_any w u (SeesLevel s t level sign) = tt
    hard_any w u (HandWrites s answered) = tt
    hard_any w u (Signs s) = tt
    hard_any w u (Clears s level goes) = tt
    hard_any w u (ClearingWrites s level answered) = tt
    hard_any w u (AsksFor r) = tt
    hard_any w u (FindsLevel r t level sign) = tt
    hard_any w u (TellsOf r) = tt

    record Run (w : World) (u : SplitWorld) : Type 0 where
      steps : List Step
      stands : Stands (fold (after_step v) w steps) u

    goes_all : (steps : List SplitStep) (w : World) (u : SplitWorld) → Stands w u → Run w (fold (after_split_step v inside) u steps)
    goes_all [] w u st = record { steps = []; stands = st }
    goes_all (step ∷ steps) w u st =
        let one = goes_step v watched Any any w u step (hard_any w u step) st in
        let rest = goes_all steps (after_step v w one.plain) (after_split_step v inside u step) one.stands in
        record { steps = one.plain ∷ rest.steps; stands = rest.stands }

    map_alike : (f g : ℕ → Op) → ((i : ℕ) → f i ≡ g i) → (xs : List ℕ) → map f xs ≡ map g xs
    map_alike f g same [] = refl
    map_alike f g same (i ∷ xs) = rw (same i) (rw (map_alike f g same xs) refl)

    pub all_tagged : (steps : List SplitStep) → Tagged (split_operations_of (split_world_after v inside steps))
    all_tagged steps = subst Tagged same (all_names_tagged v run.steps)
      where
        run : Run new_world (split_world_after v inside steps)
        run = goes_all steps new_world first_world (first_stands v watched Any any)

        same : operations_of (world_after v run.steps) ≡ split_operations_of (split_world_after v inside steps)
        same = rw run.stands.begun (map_alike (world_after v run.steps).op (split_world_after v inside steps).op run.stands.ops (range_with_len 0 (split_world_after v inside steps).begun))

pub all_splits_legal : AllSplitsLegal
all_splits_legal v inside steps in_all = order_legal (split_operations_of (split_world_after v inside steps)) (order (split_operations_of (split_world_after v inside steps)))
    (all_tagged (λ n. eqb n v.name) inside (λ level name is. subst (λ n. inside level n ≡ true) (sym (eqb-true name v.name is)) (in_all level)) v (eq-eqb v.name v.name refl) steps) (order_is (split_operations_of (split_world_after v inside steps)))
