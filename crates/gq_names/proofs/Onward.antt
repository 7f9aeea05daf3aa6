-- No page goes back: a later page of a session follows each earlier one.
use Rattle.std.proofs.Common.{◌≡◌, ◌≢◌, ◌⊎◌, ℕ, ◌≤◌, Bool, true, false, List, [], ◌∷◌, ◌++◌, refl, sym, ◌∙◌, subst, inl, inr, Option, Some, None, eqb, ltb}
use Rattle.std.specs.Prelude.{slice_get, fold, if◌then◌else◌}
use Rattle.std.proofs.lemmas.Bool.{cases_eq}
use Rattle.gq_names.specs.Names.{Setting, Page, Journal, Client, Knows, Looks, Announces, Carries, Session, Reader, Idle, Searches, World, new_world, Step, Enters, JournalLate, PageLate, Begins, Tidies, Repeats, Sees, Chooses, ClientWrites, Asks, Finds, Tells, with_session, with_reader, with_op, with_new_op, with_tag, with_end, told, new_put, looking, begins_by, tidying, tidies_by, repeats_by, sees_by, chooses_by, writes_by, finds_by, tells_by, journal_late, page_late, changed, highest, new_line, version_told, and_page, and_seen, greatest_shown, has_seen, behind, changes, after_step, world_after}
use Rattle.gq_names.specs.Laws.{AllPagesRise}
use Rattle.gq_names.proofs.Lists.{each_at}
use Rattle.gq_names.proofs.Views.{Among, Follows, follows_refl, follows_trans, follows_rises}
use Rattle.gq_names.proofs.Standing.{Lines, Sound}
use Rattle.gq_names.proofs.Moves.{with_here, with_away}
use Rattle.gq_names.proofs.Counting.{numbers_at, AllCounted, first_counted, counted_from}
use Rattle.gq_names.proofs.Steps.{carrying, mine, sound_from, sound_after}

module _ (v : Setting) (w : World) (sound : Sound v w) (all : AllCounted w) where
  abbrev Up : World → Type 0
  Up u = (t : ℕ) → Follows v (w.session t).page (u.session t).page

  no_less : Up w
  no_less t = follows_refl v (w.session t).page

  -- one session has another page
  up_with : (s : ℕ) (x : Session) (u : World) → ((t : ℕ) → u.session t ≡ w.session t) → Follows v (w.session s).page x.page → Up (with_session s x u)
  up_with s x u same up t = by (cases_eq t s)
    where
      P : Session → Type 0
      P z = Follows v (w.session t).page z.page

      by : (t ≡ s) ⊎ (t ≢ s) → Follows v (w.session t).page ((with_session s x u).session t).page
      by (inl here) = subst P (sym (with_here s x u t here)) (let Q : ℕ → Type 0 = λ z. Follows v (w.session z).page x.page in subst Q (sym here) up)
      by (inr ne) = subst P (sym (with_away s x u t ne ∙ same t)) (no_less t)

  up_kept : (s : ℕ) (x : Session) (u : World) → ((t : ℕ) → u.session t ≡ w.session t) → (w.session s).page ≡ x.page → Up (with_session s x u)
  up_kept s x u same page = up_with s x u same (let P : Page → Type 0 = λ z. Follows v (w.session s).page z in subst P page (follows_refl v (w.session s).page))

  tag_same : (j : Journal) (op : Option ℕ) (t : ℕ) → (with_tag v j op w).session t ≡ w.session t
  tag_same j None t = refl
  tag_same j (Some k) t = refl

  end_same : (op : Option ℕ) (t : ℕ) → (with_end op w).session t ≡ w.session t
  end_same None t = refl
  end_same (Some k) t = refl

  up_begins : (s name : ℕ) (bytes : List ℕ) (client : Client) → Up (begins_by v w s name bytes client)
  up_begins s name bytes (Knows j) = by (eqb name v.name)
    where
      by : (b : Bool) → Up (if b then with_session s (looking w s j (record { name = Some name; bytes = bytes; op = Some w.begun })) (with_new_op (new_put w s bytes) w) else with_session s (looking w s j (record { name = Some name; bytes = bytes; op = None })) w)
      by true = up_kept s (looking w s j (record { name = Some name; bytes = bytes; op = Some w.begun })) (with_new_op (new_put w s bytes) w) (λ t. refl) refl
      by false = up_kept s (looking w s j (record { name = Some name; bytes = bytes; op = None })) w (λ t. refl) refl
  up_begins s name bytes (Looks j change looked seen) = no_less
  up_begins s name bytes (Announces j op) = no_less
  up_begins s name bytes (Carries j op) = no_less

  up_tidies : (s : ℕ) (client : Client) → Up (tidies_by w s client)
  up_tidies s (Knows j) = up_kept s (looking w s j tidying) w (λ t. refl) refl
  up_tidies s (Looks j change looked seen) = no_less
  up_tidies s (Announces j op) = no_less
  up_tidies s (Carries j op) = no_less

  up_repeats : (s : ℕ) (client : Client) → Up (repeats_by w s client)
  up_repeats s (Knows j) = up_kept s (record (w.session s) { client = Announces j None }) w (λ t. refl) refl
  up_repeats s (Looks j change looked seen) = no_less
  up_repeats s (Announces j op) = no_less
  up_repeats s (Carries j op) = no_less

  up_sees : (s t : ℕ) (client : Client) → Up (sees_by w s t client)
  up_sees s t (Looks j change looked seen) = by (eqb t s)
    where
      next : Session
      next = record (w.session s) { client = Looks j change (and_page t looked) (and_seen t (w.session t).page seen) }

      by : (b : Bool) → Up (if b then w else with_session s (record (w.session s) { client = Looks j change (and_page t looked) (and_seen t (w.session t).page seen) }) w)
      by true = no_less
      by false = up_kept s (record (w.session s) { client = Looks j change (and_page t looked) (and_seen t (w.session t).page seen) }) w (λ i. refl) refl
  up_sees s t (Knows j) = no_less
  up_sees s t (Announces j op) = no_less
  up_sees s t (Carries j op) = no_less

  up_chooses : (s more : ℕ) (goes asks : ℕ → Bool) (client : Client) → Up (chooses_by v w s more goes asks client)
  up_chooses s more goes asks (Looks j change looked seen) = by (has_seen v looked seen)
    where
      by : (b : Bool) → Up (if b then with_session s (record (w.session s) { client = Announces (changed v goes asks seen s j change (new_line s more change (highest v j.page seen))) change.op }) w else w)
      by true = up_kept s (record (w.session s) { client = Announces (changed v goes asks seen s j change (new_line s more change (highest v j.page seen))) change.op }) w (λ i. refl) refl
      by false = no_less
  up_chooses s more goes asks (Knows j) = no_less
  up_chooses s more goes asks (Announces j op) = no_less
  up_chooses s more goes asks (Carries j op) = no_less

  up_writes : (s : ℕ) (answered : Bool) (client : Client) → (w.session s).client ≡ client → Up (writes_by v w s answered client)
  up_writes s true (Announces j op) is = up_kept s (record (w.session s) { journal = j; journal_pending = []; client = Carries j op }) (with_tag v j j.op w) (tag_same j j.op) refl
  up_writes s false (Announces j op) is = up_kept s (record (w.session s) { journal_pending = (w.session s).journal_pending ++ j ∷ [] }) w (λ t. refl) refl
  up_writes s true (Carries j op) is = up_with s (record (w.session s) { page = j.page; page_pending = []; client = Knows j }) (with_end op w) (end_same op)
      (let own : Lines v w sound.past s j (w.session s) = mine v w sound s j (carrying v w sound s j op is) in (own.paged.past_of.pages.most (w.session s).page own.paged.was).1)
  up_writes s false (Carries j op) is = up_kept s (record (w.session s) { page_pending = (w.session s).page_pending ++ j.page ∷ [] }) w (λ t. refl) refl
  up_writes s true (Knows j) is = no_less
  up_writes s false (Knows j) is = no_less
  up_writes s true (Looks j change looked seen) is = no_less
  up_writes s false (Looks j change looked seen) is = no_less

  up_journal : (s place : ℕ) (found : Option Journal) → Up (journal_late w s place found)
  up_journal s place None = no_less
  up_journal s place (Some j) = up_kept s (record (w.session s) { journal = j; journal_pending = behind (w.session s).journal_pending place }) w (λ t. refl) refl

  up_page : (s place : ℕ) (found : Option Page) → slice_get (w.session s).page_pending place ≡ found → Up (page_late w s place found)
  up_page s place None at = no_less
  up_page s place (Some p) at = up_with s (record (w.session s) { page = p; page_pending = behind (w.session s).page_pending place }) w (λ t. refl)
      (let own : Lines v w sound.past s (sound.base s) (w.session s) = sound.lines s in
      own.paged.past_of.pages.rises (w.session s).page p own.paged.was (each_at (λ d. Among d (sound.past s)) (w.session s).page_pending place p own.paged.pending at)
      (numbers_at (w.session s).page.number (w.session s).page_pending (all s).0 place p (all s).1.chain at).0)

  up_finds : (r t : ℕ) (reader : Reader) → Up (finds_by w r t reader)
  up_finds r t Idle = no_less
  up_finds r t (Searches k looked seen) = no_less

  up_tells : (r : ℕ) (reader : Reader) → Up (tells_by v w r reader)
  up_tells r Idle = no_less
  up_tells r (Searches k looked seen) = by (has_seen v looked seen)
    where
      by : (b : Bool) → Up (if b then with_reader r Idle (with_op k (told w (greatest_shown v seen v.name).bytes (version_told v seen) (w.op k)) w) else w)
      by true = no_less
      by false = no_less

  up_step : (step : Step) → Up (changes v w step)
  up_step (Enters s) = up_kept s (record (w.session s) { client = Knows (w.session s).journal }) w (λ t. refl) refl
  up_step (JournalLate s place) = up_journal s place (slice_get (w.session s).journal_pending place)
  up_step (PageLate s place) = up_page s place (slice_get (w.session s).page_pending place) refl
  up_step (Begins s name bytes) = by (ltb s v.sessions)
    where
      by : (b : Bool) → Up (if b then begins_by v w s name bytes (w.session s).client else w)
      by true = up_begins s name bytes (w.session s).client
      by false = no_less
  up_step (Tidies s) = by (ltb s v.sessions)
    where
      by : (b : Bool) → Up (if b then tidies_by w s (w.session s).client else w)
      by true = up_tidies s (w.session s).client
      by false = no_less
  up_step (Repeats s) = up_repeats s (w.session s).client
  up_step (Sees s t) = by (ltb t v.sessions)
    where
      by : (b : Bool) → Up (if b then sees_by w s t (w.session s).client else w)
      by true = up_sees s t (w.session s).client
      by false = no_less
  up_step (Chooses s more goes asks) = up_chooses s more goes asks (w.session s).client
  up_step (ClientWrites s answered) = up_writes s answered (w.session s).client refl
  up_step (Asks r) = no_less
  up_step (Finds r t) = by (ltb t v.sessions)
    where
      by : (b : Bool) → Up (if b then finds_by w r t (w.reader r) else w)
      by true = up_finds r t (w.reader r)
      by false = no_less
  up_step (Tells r) = up_tells r (w.reader r)

-- ---- along a run

-- what all worlds keep
pub record Kept (v : Setting) (w : World) : Type 0 where
  pub sound : Sound v w
  pub counted : AllCounted w

pub kept_after : (v : Setting) (steps : List Step) → Kept v (world_after v steps)
kept_after v steps = record { sound = sound_after v steps; counted = counted_from v steps new_world first_counted }

pub kept_from : (v : Setting) (steps : List Step) (w : World) → Kept v w → Kept v (fold (after_step v) w steps)
kept_from v steps w kept = record { sound = sound_from v steps w kept.sound; counted = counted_from v steps w kept.counted }

pub pages_follow : (v : Setting) (steps : List Step) (w : World) → Kept v w → (s : ℕ) → Follows v (w.session s).page ((fold (after_step v) w steps).session s).page
pages_follow v [] w kept s = follows_refl v (w.session s).page
pages_follow v (step ∷ steps) w kept s =
    let next : World = after_step v w step in
    follows_trans v (w.session s).page (next.session s).page ((fold (after_step v) next steps).session s).page (up_step v w kept.sound kept.counted step s)
    (pages_follow v steps next (kept_from v (step ∷ []) w kept) s)

-- no line has a greater number than its page
pub line_number : (v : Setting) (w : World) → Kept v w → (s name : ℕ) → ((w.session s).page.line name).tag.number ≤ (w.session s).page.number
line_number v w kept s name =
    let own : Lines v w kept.sound.past s (kept.sound.base s) (w.session s) = kept.sound.lines s in
    (own.paged.past_of.gone (w.session s).page own.paged.was name).0

pub all_pages_rise : AllPagesRise
all_pages_rise v steps step s =
    let kept : Kept v (world_after v steps) = kept_after v steps in
    follows_rises v ((world_after v steps).session s).page ((changes v (world_after v steps) step).session s).page (up_step v (world_after v steps) kept.sound kept.counted step s)
