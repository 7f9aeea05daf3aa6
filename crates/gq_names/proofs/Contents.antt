-- What sessions name, step by step.
use Rattle.std.proofs.Common.{◌≡◌, ◌≢◌, ◌⊎◌, ◌∙◌, ℕ, List, [], ◌∷◌, ◌++◌, Bool, true, false, refl, sym, ap, subst, inl, inr, Option, Some, None}
use Rattle.std.specs.Prelude.{◌==◌, ◌||◌, fold, slice_get, nat_lt, cond, ⊤}
use Rattle.std.proofs.lemmas.Bool.{cases_Bool, cases_eq, eqb-true, ne_eqb}
use Rattle.gq_tag.specs.declared.StoredCopy.{StoredCopy}
use Rattle.gq_tag.specs.Tag.{first_copy}
use Rattle.gq_laws.specs.declared.ops.Kind.TheVariants.{Write as Writes, Read as Reads}
use Rattle.gq_laws.specs.declared.ops.Op.{Op}
use Rattle.gq_names.specs.Names.{Setting, Page, Journal, Client, Knows, Looks, Announces, Carries, Session, Reader, Idle, Searches, World, Step, Enters, JournalLate, PageLate, Begins, Tidies, Repeats, Sees, Chooses, ClientWrites, Asks, Finds, Tells, with_session, with_reader, with_op, with_tag, with_end, with_new_op, new_world, new_session, new_page, new_put, looking, shown, is_of, goes_now, changed_page, changed, new_line, highest, has_seen, and_page, and_seen, no_page, none_seen, behind, greatest_shown, journal_late, page_late, begins_by, tidies_by, repeats_by, sees_by, chooses_by, writes_by, asks, new_get, finds_by, told as told_op, version_told, tells_by, after_step}
use Rattle.gq_names.specs.Contents.{Contents, ShowsOnly, Each, WritesOnly, HasOnly, IsFree, Deed, Does, Keeps, Forgets, State, new_state, and_content, after_deed, state_after, ChoosesKept, MayPut, MayStep, May, AllMay, IsThere, AllShownAreThere, AllToldWereKept, PutsNot, NonePuts, CarriesWithout, AllStayFree}
use Rattle.gq_names.proofs.Lists.{each_at, each_behind, each_push, greatest_is, Chosen}
use Rattle.gq_names.proofs.Moves.{with_here, with_away}

-- ---- a page that is changed

no_name : (k : Contents) (content : ℕ) {A : Type 0} → k.names [] content ≡ true → A
no_name k content named = absurd (let bad : true ≡ false = sym named ∙ k.nothing content in cc)

-- its lines are those of before, or have gone, or are the new one
shows_changed : (k : Contents) (P : ℕ → Type 0) (v : Setting) (goes asks : ℕ → Bool) (seen : ℕ → Page) (s : ℕ) (page : Page) (name : Option ℕ) (line : StoredCopy) → ShowsOnly k P page → ((content : ℕ) → k.names line.bytes content ≡ true → P content) →
    ShowsOnly k P (changed_page v goes asks seen s page name line)
shows_changed k P v goes asks seen s page name line old new n content = by (is_of name n) (page.gone n) refl (goes_now v goes asks seen s page n)
  where
    by : (own gone : Bool) → page.gone n ≡ gone → (goes_on : Bool) → k.names (cond (cond own false (gone || goes_on)) first_copy (cond own line (page.line n))).bytes content ≡ true → P content
    by true gone is goes_on named = new content named
    by false true is goes_on named = no_name k content named
    by false false is true named = no_name k content named
    by false false is false named = old n content (rw is named)

-- ---- what one session has

module _ (k : Contents) (P Q : ℕ → Type 0) where
  knows_only : (client : Client) → (x : Session) → HasOnly k P Q x → WritesOnly k P Q client → HasOnly k P Q (record x { client = client })
  knows_only client x has writes = record { journal = has.journal; journal_pending = has.journal_pending; page = has.page; page_pending = has.page_pending; client = writes }

  late_journal : (x : Session) (place : ℕ) (j : Journal) → slice_get x.journal_pending place ≡ Some j → HasOnly k P Q x → HasOnly k P Q (record x { journal = j; journal_pending = behind x.journal_pending place })
  late_journal x place j at has = record {
    journal = each_at (λ j. ShowsOnly k P j.page) x.journal_pending place j has.journal_pending at;
    journal_pending = each_behind (λ j. ShowsOnly k P j.page) x.journal_pending place has.journal_pending;
    page = has.page;
    page_pending = has.page_pending;
    client = has.client;
  }

  late_page : (x : Session) (place : ℕ) (d : Page) → slice_get x.page_pending place ≡ Some d → HasOnly k P Q x → HasOnly k P Q (record x { page = d; page_pending = behind x.page_pending place })
  late_page x place d at has = record {
    journal = has.journal;
    journal_pending = has.journal_pending;
    page = each_at (ShowsOnly k P) x.page_pending place d has.page_pending at;
    page_pending = each_behind (ShowsOnly k P) x.page_pending place has.page_pending;
    client = has.client;
  }

  new_only : HasOnly k P Q new_session
  new_only = record { journal = none; journal_pending = tt; page = none; page_pending = tt; client = none }
    where
      none : ShowsOnly k P new_page
      none name content named = no_name k content named

-- where all is such
module _ (k : Contents) (P Q : ℕ → Type 0) (all : (content : ℕ) → P content) (every : (content : ℕ) → Q content) where
  each_any : {A : Type 0} (X : A → Type 0) (xs : List A) → ((x : A) → X x) → Each X xs
  each_any X [] any = tt
  each_any X (x ∷ xs) any = (any x, each_any X xs any)

  shows_any : (page : Page) → ShowsOnly k P page
  shows_any page name content named = all content

  writes_any : (client : Client) → WritesOnly k P Q client
  writes_any (Knows journal) = shows_any journal.page
  writes_any (Looks journal change looked seen) = (shows_any journal.page, λ content named. every content)
  writes_any (Announces journal op) = shows_any journal.page
  writes_any (Carries journal op) = shows_any journal.page

  has_any : (x : Session) → HasOnly k P Q x
  has_any x = record {
    journal = shows_any x.journal.page;
    journal_pending = each_any (λ j. ShowsOnly k P j.page) x.journal_pending (λ j. shows_any j.page);
    page = shows_any x.page;
    page_pending = each_any (ShowsOnly k P) x.page_pending shows_any;
    client = writes_any x.client;
  }

-- what is such in two ways is such in a third
module _ (k : Contents) (P Q P2 Q2 P3 Q3 : ℕ → Type 0) (more : (content : ℕ) → P content → P2 content → P3 content) (every : (content : ℕ) → Q content → Q2 content → Q3 content) where
  each_two : {A : Type 0} (X X2 X3 : A → Type 0) (xs : List A) → ((x : A) → X x → X2 x → X3 x) → Each X xs → Each X2 xs → Each X3 xs
  each_two X X2 X3 [] both one two = tt
  each_two X X2 X3 (x ∷ xs) both one two = (both x one.0 two.0, each_two X X2 X3 xs both one.1 two.1)

  shows_two : (page : Page) → ShowsOnly k P page → ShowsOnly k P2 page → ShowsOnly k P3 page
  shows_two page one two name content named = more content (one name content named) (two name content named)

  writes_two : (client : Client) → WritesOnly k P Q client → WritesOnly k P2 Q2 client → WritesOnly k P3 Q3 client
  writes_two (Knows journal) one two = shows_two journal.page one two
  writes_two (Looks journal change looked seen) one two = (shows_two journal.page one.0 two.0, λ content named. every content (one.1 content named) (two.1 content named))
  writes_two (Announces journal op) one two = shows_two journal.page one two
  writes_two (Carries journal op) one two = shows_two journal.page one two

  has_two : (x : Session) → HasOnly k P Q x → HasOnly k P2 Q2 x → HasOnly k P3 Q3 x
  has_two x one two = record {
    journal = shows_two x.journal.page one.journal two.journal;
    journal_pending = each_two (λ j. ShowsOnly k P j.page) (λ j. ShowsOnly k P2 j.page) (λ j. ShowsOnly k P3 j.page) x.journal_pending (λ j. shows_two j.page) one.journal_pending two.journal_pending;
    page = shows_two x.page one.page two.page;
    page_pending = each_two (ShowsOnly k P) (ShowsOnly k P2) (ShowsOnly k P3) x.page_pending shows_two one.page_pending two.page_pending;
    client = writes_two x.client one.client two.client;
  }

has_more : (k : Contents) (P Q P3 Q3 : ℕ → Type 0) → ((content : ℕ) → P content → P3 content) → ((content : ℕ) → Q content → Q3 content) → (x : Session) → HasOnly k P Q x → HasOnly k P3 Q3 x
has_more k P Q P3 Q3 more every x has = has_two k P Q P Q P3 Q3 (λ content one two. more content one) (λ content one two. every content one) x has has

-- ---- what all sessions have

-- where a get tells what it has found
abbrev told_on : Setting → World → (r op : ℕ) → (seen : ℕ → Page) → World
told_on v w r op seen = with_reader r Idle (with_op op (told_op w (greatest_shown v seen v.name).bytes (version_told v seen) (w.op op)) w)

-- each session is such; and so it stays where one is another one, which is such too
abbrev pub AllAre : ((s : ℕ) → Session → Type 0) → World → Type 0
AllAre X w = (s : ℕ) → X s (w.session s)

turned_to : (X : (s : ℕ) → Session → Type 0) (w u : World) (s : ℕ) (x : Session) → ((t : ℕ) → u.session t ≡ w.session t) → AllAre X w → X s x → AllAre X (with_session s x u)
turned_to X w u s x alike all has t = by (cases_eq t s)
  where
    by : (t ≡ s) ⊎ (t ≢ s) → X t ((with_session s x u).session t)
    by (inl same) = subst (X t) (sym (with_here s x u t same)) (subst (λ z. X z x) (sym same) has)
    by (inr other) = subst (X t) (sym (with_away s x u t other ∙ alike t)) (all t)

tagged_alike : (v : Setting) (j : Journal) (op : Option ℕ) (w : World) (t : ℕ) → (with_tag v j op w).session t ≡ w.session t
tagged_alike v j None w t = refl
tagged_alike v j (Some i) w t = refl

ended_alike : (op : Option ℕ) (w : World) (t : ℕ) → (with_end op w).session t ≡ w.session t
ended_alike None w t = refl
ended_alike (Some i) w t = refl

module _ (v : Setting) (k : Contents) (P Q : (s : ℕ) → ℕ → Type 0) where
  abbrev pub AllHave : World → Type 0
  AllHave w = AllAre (λ s. HasOnly k (P s) (Q s)) w

  turned : (w u : World) (s : ℕ) (x : Session) → ((t : ℕ) → u.session t ≡ w.session t) → AllHave w → HasOnly k (P s) (Q s) x → AllHave (with_session s x u)
  turned w u s x alike all has = turned_to (λ s. HasOnly k (P s) (Q s)) w u s x alike all has

  journal_comes : (w : World) (s place : ℕ) (late : Option Journal) → slice_get (w.session s).journal_pending place ≡ late → AllHave w → AllHave (journal_late w s place late)
  journal_comes w s place None at all = all
  journal_comes w s place (Some j) at all = turned w w s _ (λ t. refl) all (late_journal k (P s) (Q s) (w.session s) place j at (all s))

  page_comes : (w : World) (s place : ℕ) (late : Option Page) → slice_get (w.session s).page_pending place ≡ late → AllHave w → AllHave (page_late w s place late)
  page_comes w s place None at all = all
  page_comes w s place (Some d) at all = turned w w s _ (λ t. refl) all (late_page k (P s) (Q s) (w.session s) place d at (all s))

  begun : (w : World) (s name : ℕ) (bytes : List ℕ) (client : Client) → (w.session s).client ≡ client → ((content : ℕ) → k.names bytes content ≡ true → Q s content) → AllHave w → AllHave (begins_by v w s name bytes client)
  begun w s name bytes (Knows journal) is may all = by (name == v.name)
    where
      known : ShowsOnly k (P s) journal.page
      known = subst (WritesOnly k (P s) (Q s)) is (all s).client

      by : (watched : Bool) → AllHave (cond watched (with_session s (looking w s journal (record { name = Some name; bytes = bytes; op = Some w.begun })) (with_new_op (new_put w s bytes) w)) (with_session s (looking w s journal (record { name = Some name; bytes = bytes; op = None })) w))
      by true = turned w (with_new_op (new_put w s bytes) w) s _ (λ t. refl) all (knows_only k (P s) (Q s) _ (w.session s) (all s) (known, may))
      by false = turned w w s _ (λ t. refl) all (knows_only k (P s) (Q s) _ (w.session s) (all s) (known, may))
  begun w s name bytes (Looks journal change looked seen) is may all = all
  begun w s name bytes (Announces journal op) is may all = all
  begun w s name bytes (Carries journal op) is may all = all

  tidied : (w : World) (s : ℕ) (client : Client) → (w.session s).client ≡ client → AllHave w → AllHave (tidies_by w s client)
  tidied w s (Knows journal) is all = turned w w s _ (λ t. refl) all (knows_only k (P s) (Q s) _ (w.session s) (all s) (subst (WritesOnly k (P s) (Q s)) is (all s).client, λ content named. no_name k content named))
  tidied w s (Looks journal change looked seen) is all = all
  tidied w s (Announces journal op) is all = all
  tidied w s (Carries journal op) is all = all

  repeated : (w : World) (s : ℕ) (client : Client) → (w.session s).client ≡ client → AllHave w → AllHave (repeats_by w s client)
  repeated w s (Knows journal) is all = turned w w s _ (λ t. refl) all (knows_only k (P s) (Q s) _ (w.session s) (all s) (subst (WritesOnly k (P s) (Q s)) is (all s).client))
  repeated w s (Looks journal change looked seen) is all = all
  repeated w s (Announces journal op) is all = all
  repeated w s (Carries journal op) is all = all

  sees : (w : World) (s t : ℕ) (client : Client) → (w.session s).client ≡ client → AllHave w → AllHave (sees_by w s t client)
  sees w s t (Looks journal change looked seen) is all = by (t == s)
    where
      by : (own : Bool) → AllHave (cond own w (with_session s (record (w.session s) { client = Looks journal change (and_page t looked) (and_seen t (w.session t).page seen) }) w))
      by true = all
      by false = turned w w s _ (λ t. refl) all (knows_only k (P s) (Q s) _ (w.session s) (all s) (subst (WritesOnly k (P s) (Q s)) is (all s).client))
  sees w s t (Knows journal) is all = all
  sees w s t (Announces journal op) is all = all
  sees w s t (Carries journal op) is all = all

  -- what is chosen names only what the session may show
  abbrev pub MayShow : (s : ℕ) → Client → Type 0
  MayShow s (Looks journal change looked seen) = (content : ℕ) → k.names change.bytes content ≡ true → Q s content → P s content
  MayShow s _ = ⊤

  chosen : (w : World) (s more : ℕ) (goes asks : ℕ → Bool) (client : Client) → (w.session s).client ≡ client → MayShow s client → AllHave w → AllHave (chooses_by v w s more goes asks client)
  chosen w s more goes asks (Looks journal change looked seen) is may all = by (has_seen v looked seen)
    where
      known : ShowsOnly k (P s) journal.page × ((content : ℕ) → k.names change.bytes content ≡ true → Q s content)
      known = subst (WritesOnly k (P s) (Q s)) is (all s).client

      by : (seen_all : Bool) → AllHave (cond seen_all (with_session s (record (w.session s) { client = Announces (changed v goes asks seen s journal change (new_line s more change (highest v journal.page seen))) change.op }) w) w)
      by true = turned w w s _ (λ t. refl) all (knows_only k (P s) (Q s) _ (w.session s) (all s)
          (shows_changed k (P s) v goes asks seen s journal.page change.name (new_line s more change (highest v journal.page seen)) known.0 (λ content named. may content named (known.1 content named))))
      by false = all
  chosen w s more goes asks (Knows journal) is may all = all
  chosen w s more goes asks (Announces journal op) is may all = all
  chosen w s more goes asks (Carries journal op) is may all = all

  written : (w : World) (s : ℕ) (answered : Bool) (client : Client) → (w.session s).client ≡ client → AllHave w → AllHave (writes_by v w s answered client)
  written w s true (Announces journal op) is all =
      let told : ShowsOnly k (P s) journal.page = subst (WritesOnly k (P s) (Q s)) is (all s).client in
      turned w (with_tag v journal journal.op w) s _ (tagged_alike v journal journal.op w) all (record { journal = told; journal_pending = tt; page = (all s).page; page_pending = (all s).page_pending; client = told })
  written w s false (Announces journal op) is all =
      let told : ShowsOnly k (P s) journal.page = subst (WritesOnly k (P s) (Q s)) is (all s).client in
      turned w w s _ (λ t. refl) all (record { journal = (all s).journal; journal_pending = each_push (λ j. ShowsOnly k (P s) j.page) (w.session s).journal_pending journal (all s).journal_pending told; page = (all s).page; page_pending = (all s).page_pending; client = (all s).client })
  written w s true (Carries journal op) is all =
      let told : ShowsOnly k (P s) journal.page = subst (WritesOnly k (P s) (Q s)) is (all s).client in
      turned w (with_end op w) s _ (ended_alike op w) all (record { journal = (all s).journal; journal_pending = (all s).journal_pending; page = told; page_pending = tt; client = told })
  written w s false (Carries journal op) is all =
      let told : ShowsOnly k (P s) journal.page = subst (WritesOnly k (P s) (Q s)) is (all s).client in
      turned w w s _ (λ t. refl) all (record { journal = (all s).journal; journal_pending = (all s).journal_pending; page = (all s).page; page_pending = each_push (ShowsOnly k (P s)) (w.session s).page_pending journal.page (all s).page_pending told; client = (all s).client })
  written w s true (Knows journal) is all = all
  written w s false (Knows journal) is all = all
  written w s true (Looks journal change looked seen) is all = all
  written w s false (Looks journal change looked seen) is all = all

  -- where a step may be done
  abbrev pub StepMay : World → Step → Type 0
  StepMay w (Begins s name bytes) = (content : ℕ) → k.names bytes content ≡ true → Q s content
  StepMay w (Chooses s more goes ask) = MayShow s (w.session s).client
  StepMay w _ = ⊤

  either : (b : Bool) (u w : World) → AllHave u → AllHave w → AllHave (cond b u w)
  either true u w one other = one
  either false u w one other = other

  pub all_have_on : (w : World) (step : Step) → StepMay w step → AllHave w → AllHave (after_step v w step)
  all_have_on w (Enters s) may all = turned w w s _ (λ t. refl) all (knows_only k (P s) (Q s) _ (w.session s) (all s) (all s).journal)
  all_have_on w (JournalLate s place) may all = journal_comes w s place (slice_get (w.session s).journal_pending place) refl all
  all_have_on w (PageLate s place) may all = page_comes w s place (slice_get (w.session s).page_pending place) refl all
  all_have_on w (Begins s name bytes) may all = either (nat_lt s v.sessions) (begins_by v w s name bytes (w.session s).client) w (begun w s name bytes (w.session s).client refl may all) all
  all_have_on w (Tidies s) may all = either (nat_lt s v.sessions) (tidies_by w s (w.session s).client) w (tidied w s (w.session s).client refl all) all
  all_have_on w (Repeats s) may all = repeated w s (w.session s).client refl all
  all_have_on w (Sees s t) may all = either (nat_lt t v.sessions) (sees_by w s t (w.session s).client) w (sees w s t (w.session s).client refl all) all
  all_have_on w (Chooses s more goes ask) may all = chosen w s more goes ask (w.session s).client refl may all
  all_have_on w (ClientWrites s answered) may all = written w s answered (w.session s).client refl all
  all_have_on w (Asks r) may all = all
  all_have_on w (Finds r t) may all = either (nat_lt t v.sessions) (finds_by w r t (w.reader r)) w (found (w.reader r)) all
    where
      found : (reader : Reader) → AllHave (finds_by w r t reader)
      found Idle = all
      found (Searches op looked seen) = all
  all_have_on w (Tells r) may all = told (w.reader r)
    where
      told : (reader : Reader) → AllHave (tells_by v w r reader)
      told Idle = all
      told (Searches op looked seen) = by (has_seen v looked seen)
        where
          by : (seen_all : Bool) → AllHave (cond seen_all (told_on v w r op seen) w)
          by true = all
          by false = all

  pub none_have : AllHave new_world
  none_have s = new_only k (P s) (Q s)

-- ---- a client that carries, carries the journal that is in force, behind which none is pending

abbrev CarriesOwn : Journal → List Journal → Client → Type 0
CarriesOwn journal pending (Carries carried op) = (journal ≡ carried) × (pending ≡ [])
CarriesOwn journal pending _ = ⊤

abbrev OwnIsCarried : (s : ℕ) → Session → Type 0
OwnIsCarried s x = CarriesOwn x.journal x.journal_pending x.client

module _ (v : Setting) where
  abbrev AllOwn : World → Type 0
  AllOwn w = AllAre OwnIsCarried w

  own_turned : (w u : World) (s : ℕ) (x : Session) → ((t : ℕ) → u.session t ≡ w.session t) → AllOwn w → OwnIsCarried s x → AllOwn (with_session s x u)
  own_turned w u s x alike all has = turned_to OwnIsCarried w u s x alike all has

  -- a journal that is pending is none of a client that carries
  none_late : (journal : Journal) (pending : List Journal) (place : ℕ) (j : Journal) (client : Client) → slice_get pending place ≡ Some j → CarriesOwn journal pending client → CarriesOwn j (behind pending place) client
  none_late journal pending place j (Knows known) at own = tt
  none_late journal pending place j (Looks known change looked seen) at own = tt
  none_late journal pending place j (Announces known op) at own = tt
  none_late journal pending place j (Carries carried op) at own = absurd (nothing pending own.1 at)
    where
      nothing : (pending : List Journal) → pending ≡ [] → slice_get pending place ≡ Some j → ⊥
      nothing [] none at = (let bad : None ≡ Some j = at in cc)
      nothing (x ∷ xs) none at = (let bad : x ∷ xs ≡ [] = none in cc)

  own_journal : (w : World) (s place : ℕ) (late : Option Journal) → slice_get (w.session s).journal_pending place ≡ late → AllOwn w → AllOwn (journal_late w s place late)
  own_journal w s place None at all = all
  own_journal w s place (Some j) at all = own_turned w w s _ (λ t. refl) all (none_late (w.session s).journal (w.session s).journal_pending place j (w.session s).client at (all s))

  own_page : (w : World) (s place : ℕ) (late : Option Page) → AllOwn w → AllOwn (page_late w s place late)
  own_page w s place None all = all
  own_page w s place (Some d) all = own_turned w w s _ (λ t. refl) all (all s)

  own_begun : (w : World) (s name : ℕ) (bytes : List ℕ) (client : Client) → AllOwn w → AllOwn (begins_by v w s name bytes client)
  own_begun w s name bytes (Knows journal) all = by (name == v.name)
    where
      by : (watched : Bool) → AllOwn (cond watched (with_session s (looking w s journal (record { name = Some name; bytes = bytes; op = Some w.begun })) (with_new_op (new_put w s bytes) w)) (with_session s (looking w s journal (record { name = Some name; bytes = bytes; op = None })) w))
      by true = own_turned w (with_new_op (new_put w s bytes) w) s _ (λ t. refl) all tt
      by false = own_turned w w s _ (λ t. refl) all tt
  own_begun w s name bytes (Looks journal change looked seen) all = all
  own_begun w s name bytes (Announces journal op) all = all
  own_begun w s name bytes (Carries journal op) all = all

  own_tidied : (w : World) (s : ℕ) (client : Client) → AllOwn w → AllOwn (tidies_by w s client)
  own_tidied w s (Knows journal) all = own_turned w w s _ (λ t. refl) all tt
  own_tidied w s (Looks journal change looked seen) all = all
  own_tidied w s (Announces journal op) all = all
  own_tidied w s (Carries journal op) all = all

  own_repeated : (w : World) (s : ℕ) (client : Client) → AllOwn w → AllOwn (repeats_by w s client)
  own_repeated w s (Knows journal) all = own_turned w w s _ (λ t. refl) all tt
  own_repeated w s (Looks journal change looked seen) all = all
  own_repeated w s (Announces journal op) all = all
  own_repeated w s (Carries journal op) all = all

  own_sees : (w : World) (s t : ℕ) (client : Client) → AllOwn w → AllOwn (sees_by w s t client)
  own_sees w s t (Looks journal change looked seen) all = by (t == s)
    where
      by : (own : Bool) → AllOwn (cond own w (with_session s (record (w.session s) { client = Looks journal change (and_page t looked) (and_seen t (w.session t).page seen) }) w))
      by true = all
      by false = own_turned w w s _ (λ t. refl) all tt
  own_sees w s t (Knows journal) all = all
  own_sees w s t (Announces journal op) all = all
  own_sees w s t (Carries journal op) all = all

  own_chosen : (w : World) (s more : ℕ) (goes asks : ℕ → Bool) (client : Client) → AllOwn w → AllOwn (chooses_by v w s more goes asks client)
  own_chosen w s more goes asks (Looks journal change looked seen) all = by (has_seen v looked seen)
    where
      by : (seen_all : Bool) → AllOwn (cond seen_all (with_session s (record (w.session s) { client = Announces (changed v goes asks seen s journal change (new_line s more change (highest v journal.page seen))) change.op }) w) w)
      by true = own_turned w w s _ (λ t. refl) all tt
      by false = all
  own_chosen w s more goes asks (Knows journal) all = all
  own_chosen w s more goes asks (Announces journal op) all = all
  own_chosen w s more goes asks (Carries journal op) all = all

  own_written : (w : World) (s : ℕ) (answered : Bool) (client : Client) → (w.session s).client ≡ client → AllOwn w → AllOwn (writes_by v w s answered client)
  own_written w s true (Announces journal op) is all = own_turned w (with_tag v journal journal.op w) s _ (tagged_alike v journal journal.op w) all (refl, refl)
  own_written w s false (Announces journal op) is all = own_turned w w s _ (λ t. refl) all (subst (CarriesOwn (w.session s).journal ((w.session s).journal_pending ++ journal ∷ [])) (sym is) tt)
  own_written w s true (Carries journal op) is all = own_turned w (with_end op w) s _ (ended_alike op w) all tt
  own_written w s false (Carries journal op) is all = own_turned w w s _ (λ t. refl) all (all s)
  own_written w s true (Knows journal) is all = all
  own_written w s false (Knows journal) is all = all
  own_written w s true (Looks journal change looked seen) is all = all
  own_written w s false (Looks journal change looked seen) is all = all

  own_either : (b : Bool) (u w : World) → AllOwn u → AllOwn w → AllOwn (cond b u w)
  own_either true u w one other = one
  own_either false u w one other = other

  own_on : (w : World) (step : Step) → AllOwn w → AllOwn (after_step v w step)
  own_on w (Enters s) all = own_turned w w s _ (λ t. refl) all tt
  own_on w (JournalLate s place) all = own_journal w s place (slice_get (w.session s).journal_pending place) refl all
  own_on w (PageLate s place) all = own_page w s place (slice_get (w.session s).page_pending place) all
  own_on w (Begins s name bytes) all = own_either (nat_lt s v.sessions) (begins_by v w s name bytes (w.session s).client) w (own_begun w s name bytes (w.session s).client all) all
  own_on w (Tidies s) all = own_either (nat_lt s v.sessions) (tidies_by w s (w.session s).client) w (own_tidied w s (w.session s).client all) all
  own_on w (Repeats s) all = own_repeated w s (w.session s).client all
  own_on w (Sees s t) all = own_either (nat_lt t v.sessions) (sees_by w s t (w.session s).client) w (own_sees w s t (w.session s).client all) all
  own_on w (Chooses s more goes ask) all = own_chosen w s more goes ask (w.session s).client all
  own_on w (ClientWrites s answered) all = own_written w s answered (w.session s).client refl all
  own_on w (Asks r) all = all
  own_on w (Finds r t) all = own_either (nat_lt t v.sessions) (finds_by w r t (w.reader r)) w (found (w.reader r)) all
    where
      found : (reader : Reader) → AllOwn (finds_by w r t reader)
      found Idle = all
      found (Searches op looked seen) = all
  own_on w (Tells r) all = told (w.reader r)
    where
      told : (reader : Reader) → AllOwn (tells_by v w r reader)
      told Idle = all
      told (Searches op looked seen) = by (has_seen v looked seen)
        where
          by : (seen_all : Bool) → AllOwn (cond seen_all (told_on v w r op seen) w)
          by true = all
          by false = all

  own_all : (w : World) (steps : List Step) → AllOwn w → AllOwn (fold (after_step v) w steps)
  own_all w [] all = all
  own_all w (step ∷ steps) all = own_all (after_step v w step) steps (own_on w step all)

  none_own : AllOwn new_world
  none_own s = tt

-- ---- free, and stays so

fold_parts : (v : Setting) (w : World) (xs ys : List Step) → fold (after_step v) w (xs ++ ys) ≡ fold (after_step v) (fold (after_step v) w xs) ys
fold_parts v w [] ys = refl
fold_parts v w (x ∷ xs) ys = fold_parts v (after_step v w x) xs ys

module _ (v : Setting) (k : Contents) (s content : ℕ) where
  -- of the session, another content
  abbrev Others : (t : ℕ) → ℕ → Type 0
  Others t c = t ≡ s → (c == content) ≡ false

  other_named : (bytes : List ℕ) (c : ℕ) → k.names bytes content ≡ false → k.names bytes c ≡ true → (c == content) ≡ false
  other_named bytes c not named = by (cases_Bool (c == content))
    where
      by : ((c == content) ≡ true) ⊎ ((c == content) ≡ false) → (c == content) ≡ false
      by (inl same) = absurd (let bad : true ≡ false = sym named ∙ ap (k.names bytes) (eqb-true c content same) ∙ not in cc)
      by (inr other) = other

  may_step : (w : World) (step : Step) → PutsNot k s content step → StepMay v k Others Others w step
  may_step w (Begins t name bytes) puts = λ c named own. other_named bytes c (puts own) named
  may_step w (Chooses t more goes ask) puts = by (w.session t).client
    where
      by : (client : Client) → MayShow v k Others Others t client
      by (Knows journal) = tt
      by (Looks journal change looked seen) = λ c named other. other
      by (Announces journal op) = tt
      by (Carries journal op) = tt
  may_step w (Enters t) puts = tt
  may_step w (JournalLate t place) puts = tt
  may_step w (PageLate t place) puts = tt
  may_step w (Tidies t) puts = tt
  may_step w (Repeats t) puts = tt
  may_step w (Sees t other) puts = tt
  may_step w (ClientWrites t answered) puts = tt
  may_step w (Asks r) puts = tt
  may_step w (Finds r t) puts = tt
  may_step w (Tells r) puts = tt

  free_on : (w : World) (steps : List Step) → NonePuts k s content steps → AllHave v k Others Others w → AllHave v k Others Others (fold (after_step v) w steps)
  free_on w [] none all = all
  free_on w (step ∷ steps) none all = free_on (after_step v w step) steps none.1 (all_have_on v k Others Others w step (may_step w step none.0) all)

  -- the session that is free has others only; of other sessions nothing is said
  as_others : (w : World) → IsFree k content (w.session s) → AllHave v k Others Others w
  as_others w free t = by (cases_eq t s)
    where
      by : (t ≡ s) ⊎ (t ≢ s) → HasOnly k (Others t) (Others t) (w.session t)
      by (inl same) = has_more k (λ c. (c == content) ≡ false) (λ c. (c == content) ≡ false) (Others t) (Others t) (λ c other own. other) (λ c other own. other) (w.session t) (subst (λ z. IsFree k content (w.session z)) (sym same) free)
      by (inr other) = has_any k (Others t) (Others t) (λ c own. absurd (other own)) (λ c own. absurd (other own)) (w.session t)

  as_free : (w : World) → AllHave v k Others Others w → IsFree k content (w.session s)
  as_free w all = has_more k (Others s) (Others s) (λ c. (c == content) ≡ false) (λ c. (c == content) ≡ false) (λ c other. other refl) (λ c other. other refl) (w.session s) (all s)

  -- a page without it was carried
  carried_free : (w : World) (client : Client) → (w.session s).client ≡ client → AllOwn v w → CarriesWithout k content client → IsFree k content ((after_step v w (ClientWrites s true)).session s)
  carried_free w (Carries journal op) is own without = subst (IsFree k content) (sym here) (record {
    journal = subst (λ (j : Journal). ShowsOnly k (λ c. (c == content) ≡ false) j.page) (sym in_force.0) without;
    journal_pending = subst (Each (λ j. ShowsOnly k (λ c. (c == content) ≡ false) j.page)) (sym in_force.1) tt;
    page = without;
    page_pending = tt;
    client = without;
  })
    where
      in_force : ((w.session s).journal ≡ journal) × ((w.session s).journal_pending ≡ [])
      in_force = subst (CarriesOwn (w.session s).journal (w.session s).journal_pending) is (own s)

      here : (after_step v w (ClientWrites s true)).session s ≡ record (w.session s) { page = journal.page; page_pending = []; client = Knows journal }
      here = ap (λ client. (writes_by v w s true client).session s) is ∙ with_here s (record (w.session s) { page = journal.page; page_pending = []; client = Knows journal }) (with_end op w) s refl
  carried_free w (Knows journal) is own without = absurd without
  carried_free w (Looks journal change looked seen) is own without = absurd without
  carried_free w (Announces journal op) is own without = absurd without

pub all_stay_free : AllStayFree
all_stay_free v k before after s content without none =
    let w : World = fold (after_step v) new_world before in
    let own : AllOwn v w = own_all v new_world before (none_own v) in
    let then : World = after_step v w (ClientWrites s true) in
    let free : IsFree k content (then.session s) = carried_free v k s content w (w.session s).client refl own without in
    subst (λ (u : World). IsFree k content (u.session s)) (sym (fold_parts v new_world before (ClientWrites s true ∷ after)))
    (as_free v k s content (fold (after_step v) then after) (free_on v k s content then after none (as_others v k s content then free)))

-- ---- what is shown is there

-- what a session shows is its own, and is there; and what it is to put it may
abbrev Own : Contents → State → (s : ℕ) → ℕ → Type 0
Own k st s content = (k.owner content ≡ s) × IsThere st content

-- what a reader has seen shows only what is kept
abbrev ReadsKept : Contents → State → Reader → Type 0
ReadsKept k st Idle = ⊤
ReadsKept k st (Searches op looked seen) = (t : ℕ) → ShowsOnly k (λ c. st.kept c ≡ true) (seen t)

-- and so does what a get told
abbrev ToldKept : Contents → State → Op → Type 0
ToldKept k st a = (content : ℕ) (bytes : List ℕ) → a.kind ≡ Reads (Some bytes) → k.names bytes content ≡ true → st.kept content ≡ true

record Keeping (v : Setting) (k : Contents) (st : State) : Type 0 where
  have : AllHave v k (Own k st) (MayPut k st) st.world
  read : (r : ℕ) → ReadsKept k st (st.world.reader r)
  told : (i : ℕ) → ToldKept k st (st.world.op i)

module _ (v : Setting) (k : Contents) (st : State) where
  may_do : (step : Step) → MayStep k st step → StepMay v k (Own k st) (MayPut k st) st.world step
  may_do (Begins s name bytes) may = may
  may_do (Chooses s more goes ask) may = by (st.world.session s).client may
    where
      by : (client : Client) → ChoosesKept k st client → MayShow v k (Own k st) (MayPut k st) s client
      by (Knows journal) kept = tt
      by (Looks journal change looked seen) kept = λ c named put. (put.owner, record { kept = kept c named; stays = put.is_new })
      by (Announces journal op) kept = tt
      by (Carries journal op) kept = tt
  may_do (Enters s) may = tt
  may_do (JournalLate s place) may = tt
  may_do (PageLate s place) may = tt
  may_do (Tidies s) may = tt
  may_do (Repeats s) may = tt
  may_do (Sees s t) may = tt
  may_do (ClientWrites s answered) may = tt
  may_do (Asks r) may = tt
  may_do (Finds r t) may = tt
  may_do (Tells r) may = tt

  -- ---- readers, and what they tell

  record Telling (w : World) : Type 0 where
    read : (r : ℕ) → ReadsKept k st (w.reader r)
    told : (i : ℕ) → ToldKept k st (w.op i)

  -- an operation that is another one
  with_told : (i : ℕ) (a : Op) (w : World) → ((j : ℕ) → ToldKept k st (w.op j)) → ToldKept k st a → (j : ℕ) → ToldKept k st ((with_op i a w).op j)
  with_told i a w all own j = by (j == i)
    where
      by : (b : Bool) → ToldKept k st (cond b a (w.op j))
      by true = own
      by false = all j

  with_read : (r : ℕ) (x : Reader) (w : World) → ((q : ℕ) → ReadsKept k st (w.reader q)) → ReadsKept k st x → (q : ℕ) → ReadsKept k st ((with_reader r x w).reader q)
  with_read r x w all own q = by (q == r)
    where
      by : (b : Bool) → ReadsKept k st (cond b x (w.reader q))
      by true = own
      by false = all q

  -- one that has told nothing yet
  nothing_told : (a : Op) → a.kind ≡ Reads None → ToldKept k st a
  nothing_told a is content bytes told named = absurd (let bad : Reads None ≡ Reads (Some bytes) = sym is ∙ told in cc)

  a_put : (a : Op) (bytes : List ℕ) → a.kind ≡ Writes bytes → ToldKept k st a
  a_put a written is content bytes told named = absurd (let bad : Writes written ≡ Reads (Some bytes) = sym is ∙ told in cc)

  tagged_told : (j : Journal) (op : Option ℕ) (w : World) → ((i : ℕ) → ToldKept k st (w.op i)) → (i : ℕ) → ToldKept k st ((with_tag v j op w).op i)
  tagged_told j None w all = all
  tagged_told j (Some o) w all = with_told o _ w all (all o)

  ended_told : (op : Option ℕ) (w : World) → ((i : ℕ) → ToldKept k st (w.op i)) → (i : ℕ) → ToldKept k st ((with_end op w).op i)
  ended_told None w all = all
  ended_told (Some o) w all = with_told o _ w all (all o)

  -- the greatest line of what was seen is one of these
  greatest_kept : (seen : ℕ → Page) (name content : ℕ) → ((t : ℕ) → ShowsOnly k (λ c. st.kept c ≡ true) (seen t)) → k.names (greatest_shown v seen name).bytes content ≡ true → st.kept content ≡ true
  greatest_kept seen name content all named = by (greatest_is v.sessions (λ t. shown (seen t) name))
    where
      by : (greatest_shown v seen name ≡ first_copy) ⊎ Chosen v.sessions (λ t. shown (seen t) name) (greatest_shown v seen name) → st.kept content ≡ true
      by (inl none) = no_name k content (subst (λ (c : StoredCopy). k.names c.bytes content ≡ true) none named)
      by (inr one) = all one.session name content (subst (λ (c : StoredCopy). k.names c.bytes content ≡ true) one.is named)

  module _ (w : World) (all : AllHave v k (Own k st) (MayPut k st) w) (t : Telling w) where
    tells_either : (b : Bool) (u : World) → Telling u → Telling (cond b u w)
    tells_either true u one = one
    tells_either false u one = t

    tells_begun : (s name : ℕ) (bytes : List ℕ) (client : Client) → Telling (begins_by v w s name bytes client)
    tells_begun s name bytes (Knows journal) = by (name == v.name)
      where
        by : (watched : Bool) → Telling (cond watched (with_session s (looking w s journal (record { name = Some name; bytes = bytes; op = Some w.begun })) (with_new_op (new_put w s bytes) w)) (with_session s (looking w s journal (record { name = Some name; bytes = bytes; op = None })) w))
        by true = record { read = t.read; told = with_told w.begun (new_put w s bytes) w t.told (a_put (new_put w s bytes) bytes refl) }
        by false = record { read = t.read; told = t.told }
    tells_begun s name bytes (Looks journal change looked seen) = t
    tells_begun s name bytes (Announces journal op) = t
    tells_begun s name bytes (Carries journal op) = t

    tells_tidied : (s : ℕ) (client : Client) → Telling (tidies_by w s client)
    tells_tidied s (Knows journal) = record { read = t.read; told = t.told }
    tells_tidied s (Looks journal change looked seen) = t
    tells_tidied s (Announces journal op) = t
    tells_tidied s (Carries journal op) = t

    tells_repeated : (s : ℕ) (client : Client) → Telling (repeats_by w s client)
    tells_repeated s (Knows journal) = record { read = t.read; told = t.told }
    tells_repeated s (Looks journal change looked seen) = t
    tells_repeated s (Announces journal op) = t
    tells_repeated s (Carries journal op) = t

    tells_sees : (s other : ℕ) (client : Client) → Telling (sees_by w s other client)
    tells_sees s other (Looks journal change looked seen) = by (other == s)
      where
        by : (own : Bool) → Telling (cond own w (with_session s (record (w.session s) { client = Looks journal change (and_page other looked) (and_seen other (w.session other).page seen) }) w))
        by true = t
        by false = record { read = t.read; told = t.told }
    tells_sees s other (Knows journal) = t
    tells_sees s other (Announces journal op) = t
    tells_sees s other (Carries journal op) = t

    tells_chosen : (s more : ℕ) (goes asks : ℕ → Bool) (client : Client) → Telling (chooses_by v w s more goes asks client)
    tells_chosen s more goes asks (Looks journal change looked seen) = by (has_seen v looked seen)
      where
        by : (seen_all : Bool) → Telling (cond seen_all (with_session s (record (w.session s) { client = Announces (changed v goes asks seen s journal change (new_line s more change (highest v journal.page seen))) change.op }) w) w)
        by true = record { read = t.read; told = t.told }
        by false = t
    tells_chosen s more goes asks (Knows journal) = t
    tells_chosen s more goes asks (Announces journal op) = t
    tells_chosen s more goes asks (Carries journal op) = t

    tells_written : (s : ℕ) (answered : Bool) (client : Client) → Telling (writes_by v w s answered client)
    tells_written s true (Announces journal op) = record { read = tagged_read journal.op; told = tagged_told journal journal.op w t.told }
      where
        tagged_read : (op : Option ℕ) (r : ℕ) → ReadsKept k st ((with_tag v journal op w).reader r)
        tagged_read None = t.read
        tagged_read (Some o) = t.read
    tells_written s false (Announces journal op) = record { read = t.read; told = t.told }
    tells_written s true (Carries journal op) = record { read = ended_read op; told = ended_told op w t.told }
      where
        ended_read : (op : Option ℕ) (r : ℕ) → ReadsKept k st ((with_end op w).reader r)
        ended_read None = t.read
        ended_read (Some o) = t.read
    tells_written s false (Carries journal op) = record { read = t.read; told = t.told }
    tells_written s true (Knows journal) = t
    tells_written s false (Knows journal) = t
    tells_written s true (Looks journal change looked seen) = t
    tells_written s false (Looks journal change looked seen) = t

    tells_journal : (s place : ℕ) (late : Option Journal) → Telling (journal_late w s place late)
    tells_journal s place None = t
    tells_journal s place (Some j) = record { read = t.read; told = t.told }

    tells_page : (s place : ℕ) (late : Option Page) → Telling (page_late w s place late)
    tells_page s place None = t
    tells_page s place (Some d) = record { read = t.read; told = t.told }

    tells_found : (r other : ℕ) (reader : Reader) → w.reader r ≡ reader → Telling (finds_by w r other reader)
    tells_found r other Idle is = t
    tells_found r other (Searches op looked seen) is = record { read = with_read r (Searches op (and_page other looked) (and_seen other (w.session other).page seen)) w t.read more; told = t.told }
      where
        before : (u : ℕ) → ShowsOnly k (λ c. st.kept c ≡ true) (seen u)
        before = subst (ReadsKept k st) is (t.read r)

        more : (u : ℕ) → ShowsOnly k (λ c. st.kept c ≡ true) (and_seen other (w.session other).page seen u)
        more u = by (u == other)
          where
            by : (b : Bool) → ShowsOnly k (λ c. st.kept c ≡ true) (cond b (w.session other).page (seen u))
            by true = λ name content named. ((all other).page name content named).1.kept
            by false = before u

    tells_told : (r : ℕ) (reader : Reader) → w.reader r ≡ reader → Telling (tells_by v w r reader)
    tells_told r Idle is = t
    tells_told r (Searches op looked seen) is = by (has_seen v looked seen)
      where
        before : (u : ℕ) → ShowsOnly k (λ c. st.kept c ≡ true) (seen u)
        before = subst (ReadsKept k st) is (t.read r)

        by : (seen_all : Bool) → Telling (cond seen_all (told_on v w r op seen) w)
        by true = record {
          read = with_read r Idle w t.read tt;
          told = with_told op (told_op w (greatest_shown v seen v.name).bytes (version_told v seen) (w.op op)) w t.told (λ content bytes told named. greatest_kept seen v.name content before (let same : (greatest_shown v seen v.name).bytes ≡ bytes = cc in subst (λ (bs : List ℕ). k.names bs content ≡ true) (sym same) named));
        }
        by false = t

    tells_on : (step : Step) → Telling (after_step v w step)
    tells_on (Enters s) = record { read = t.read; told = t.told }
    tells_on (JournalLate s place) = (let it = tells_journal s place (slice_get (w.session s).journal_pending place) in record { read = it.read; told = it.told })
    tells_on (PageLate s place) = (let it = tells_page s place (slice_get (w.session s).page_pending place) in record { read = it.read; told = it.told })
    tells_on (Begins s name bytes) = (let it = tells_either (nat_lt s v.sessions) (begins_by v w s name bytes (w.session s).client) (tells_begun s name bytes (w.session s).client) in record { read = it.read; told = it.told })
    tells_on (Tidies s) = (let it = tells_either (nat_lt s v.sessions) (tidies_by w s (w.session s).client) (tells_tidied s (w.session s).client) in record { read = it.read; told = it.told })
    tells_on (Repeats s) = (let it = tells_repeated s (w.session s).client in record { read = it.read; told = it.told })
    tells_on (Sees s other) = (let it = tells_either (nat_lt other v.sessions) (sees_by w s other (w.session s).client) (tells_sees s other (w.session s).client) in record { read = it.read; told = it.told })
    tells_on (Chooses s more goes ask) = (let it = tells_chosen s more goes ask (w.session s).client in record { read = it.read; told = it.told })
    tells_on (ClientWrites s answered) = (let it = tells_written s answered (w.session s).client in record { read = it.read; told = it.told })
    tells_on (Asks r) = record {
      read = with_read r (Searches w.begun no_page none_seen) w t.read (λ u name content named. no_name k content named);
      told = with_told w.begun (new_get w r) w t.told (nothing_told (new_get w r) refl);
    }
    tells_on (Finds r other) = (let it = tells_either (nat_lt other v.sessions) (finds_by w r other (w.reader r)) (tells_found r other (w.reader r) refl) in record { read = it.read; told = it.told })
    tells_on (Tells r) = (let it = tells_told r (w.reader r) refl in record { read = it.read; told = it.told })

  -- ---- a deed

  kept_more : (content c : ℕ) → st.kept c ≡ true → and_content content st.kept c ≡ true
  kept_more content c kept = by (c == content)
    where
      by : (b : Bool) → cond b true (st.kept c) ≡ true
      by true = refl
      by false = kept

  read_more : (content : ℕ) (reader : Reader) → ReadsKept k st reader → ReadsKept k (after_deed v st (Keeps content)) reader
  read_more content Idle read = tt
  read_more content (Searches op looked seen) read = λ u name c named. kept_more content c (read u name c named)

  keeps : (content : ℕ) → Keeping v k st → Keeping v k (after_deed v st (Keeps content))
  keeps content it = record {
    have = λ s. has_more k (Own k st s) (MayPut k st s) (Own k (after_deed v st (Keeps content)) s) (MayPut k (after_deed v st (Keeps content)) s)
        (λ c own. (own.0, record { kept = kept_more content c own.1.kept; stays = own.1.stays })) (λ c put. record { owner = put.owner; is_new = put.is_new }) (st.world.session s) (it.have s);
    read = λ r. read_more content (st.world.reader r) (it.read r);
    told = λ i c bytes told named. kept_more content c (it.told i c bytes told named);
  }

  still : (content c : ℕ) → (c == content) ≡ false → st.forgotten c ≡ false → and_content content st.forgotten c ≡ false
  still content c other stays = rw other stays

  read_still : (content : ℕ) (reader : Reader) → ReadsKept k st reader → ReadsKept k (after_deed v st (Forgets content)) reader
  read_still content Idle read = tt
  read_still content (Searches op looked seen) read = read

  -- what another session has is another content
  not_own : (content c s : ℕ) → s ≢ k.owner content → k.owner c ≡ s → (c == content) ≡ false
  not_own content c s other own = ne_eqb c content (λ same. other (sym own ∙ ap k.owner same))

  forgets : (content : ℕ) → IsFree k content (st.world.session (k.owner content)) → Keeping v k st → Keeping v k (after_deed v st (Forgets content))
  forgets content free it = record {
    have = λ s. by s (cases_eq s (k.owner content));
    read = λ r. read_still content (st.world.reader r) (it.read r);
    told = λ i c bytes told named. it.told i c bytes told named;
  }
    where
      by : (s : ℕ) → (s ≡ k.owner content) ⊎ (s ≢ k.owner content) → HasOnly k (Own k (after_deed v st (Forgets content)) s) (MayPut k (after_deed v st (Forgets content)) s) (st.world.session s)
      by s (inl same) = has_two k (Own k st s) (MayPut k st s) (λ c. (c == content) ≡ false) (λ c. (c == content) ≡ false) (Own k (after_deed v st (Forgets content)) s) (MayPut k (after_deed v st (Forgets content)) s)
          (λ c own other. (own.0, record { kept = own.1.kept; stays = still content c other own.1.stays })) (λ c put other. record { owner = put.owner; is_new = still content c other put.is_new })
          (st.world.session s) (it.have s) (subst (λ z. IsFree k content (st.world.session z)) (sym same) free)
      by s (inr other) = has_more k (Own k st s) (MayPut k st s) (Own k (after_deed v st (Forgets content)) s) (MayPut k (after_deed v st (Forgets content)) s)
          (λ c own. (own.0, record { kept = own.1.kept; stays = still content c (not_own content c s other own.0) own.1.stays })) (λ c put. record { owner = put.owner; is_new = still content c (not_own content c s other put.owner) put.is_new })
          (st.world.session s) (it.have s)

  does : (step : Step) → MayStep k st step → Keeping v k st → Keeping v k (after_deed v st (Does step))
  does step may it =
      let all : AllHave v k (Own k st) (MayPut k st) (after_step v st.world step) = all_have_on v k (Own k st) (MayPut k st) st.world step (may_do step may) it.have in
      let t : Telling (after_step v st.world step) = tells_on st.world it.have (record { read = it.read; told = it.told }) step in
      record {
        have = λ s. has_more k (Own k st s) (MayPut k st s) (Own k (after_deed v st (Does step)) s) (MayPut k (after_deed v st (Does step)) s)
            (λ c own. (own.0, record { kept = own.1.kept; stays = own.1.stays })) (λ c put. record { owner = put.owner; is_new = put.is_new }) ((after_step v st.world step).session s) (all s);
        read = λ r. as_read ((after_step v st.world step).reader r) (t.read r);
        told = λ i c bytes told named. t.told i c bytes told named;
      }
    where
      as_read : (reader : Reader) → ReadsKept k st reader → ReadsKept k (after_deed v st (Does step)) reader
      as_read Idle read = tt
      as_read (Searches op looked seen) read = read

deed_keeps : (v : Setting) (k : Contents) (st : State) (deed : Deed) → May k st deed → Keeping v k st → Keeping v k (after_deed v st deed)
deed_keeps v k st (Does step) may it = does v k st step may it
deed_keeps v k st (Keeps content) may it = keeps v k st content it
deed_keeps v k st (Forgets content) may it = forgets v k st content may it

deeds_keep : (v : Setting) (k : Contents) (st : State) (deeds : List Deed) → AllMay v k st deeds → Keeping v k st → Keeping v k (state_after v st deeds)
deeds_keep v k st [] may it = it
deeds_keep v k st (deed ∷ deeds) may it = deeds_keep v k (after_deed v st deed) deeds may.1 (deed_keeps v k st deed may.0 it)

at_first : (v : Setting) (k : Contents) → Keeping v k new_state
at_first v k = record {
  have = none_have v k (Own k new_state) (MayPut k new_state);
  read = λ r. tt;
  told = λ i content bytes told named. absurd (let bad : Reads None ≡ Reads (Some bytes) = told in cc);
}

pub all_shown_are_there : AllShownAreThere
all_shown_are_there v k deeds may s name content named = (((deeds_keep v k new_state deeds may (at_first v k)).have s).page name content named).1

pub all_told_were_kept : AllToldWereKept
all_told_were_kept v k deeds may i content bytes told named = (deeds_keep v k new_state deeds may (at_first v k)).told i content bytes told named
