-- What a client saw since it began: of each page that it looked at, one that the page's session has had since then.
use Rattle.std.proofs.Common.{◌≡◌, ◌≢◌, ◌⊎◌, ℕ, ◌≤◌, Bool, true, false, List, [], ◌∷◌, ◌++◌, refl, sym, ap, ◌∙◌, subst, inl, inr, Option, Some, None, eqb, ltb}
use Rattle.std.specs.Prelude.{slice_get, ⊤, fold, if◌then◌else◌}
use Rattle.std.proofs.lemmas.Bool.{cases_eq, ne_eqb, eq-eqb, true≢false}
use Rattle.gq_tag.specs.Tag.{first_copy}
use Rattle.gq_names.specs.Names.{Setting, Page, Journal, Change, Client, Knows, Looks, Announces, Carries, Session, Reader, Idle, Searches, World, Step, Enters, JournalLate, PageLate, Begins, Tidies, Repeats, Sees, Chooses, ClientWrites, Asks, Finds, Tells, with_session, with_reader, with_op, with_new_op, with_tag, with_end, told, new_put, looking, begins_by, tidying, tidies_by, repeats_by, sees_by, chooses_by, writes_by, finds_by, tells_by, journal_late, page_late, changed, highest, new_line, version_told, no_page, and_page, and_seen, greatest_shown, has_seen, behind, changes, after_step}
use Rattle.gq_names.proofs.Views.{Follows, follows_refl, follows_trans}
use Rattle.gq_names.proofs.Moves.{with_here, with_away}
use Rattle.gq_names.proofs.Onward.{Kept, kept_from, pages_follow, line_number}

-- session t has had this page since the world w, and its page in the world u follows it
pub record Since (v : Setting) (w u : World) (t : ℕ) (page : Page) : Type 0 where
  pub from : Follows v (w.session t).page page
  pub to : Follows v page (u.session t).page
  pub lines : (name : ℕ) → (page.line name ≡ first_copy) ⊎ ((page.line name).tag.session ≡ t)
  pub numbers : (name : ℕ) → (page.line name).tag.number ≤ page.number

pub since_on : (v : Setting) (w u z : World) (t : ℕ) (page : Page) → Follows v (u.session t).page (z.session t).page → Since v w u t page → Since v w z t page
since_on v w u z t page up old = record { from = old.from; to = follows_trans v page (u.session t).page (z.session t).page old.to up; lines = old.lines; numbers = old.numbers }

pub since_back : (v : Setting) (a w u : World) (t : ℕ) (page : Page) → Follows v (a.session t).page (w.session t).page → Since v w u t page → Since v a u t page
since_back v a w u t page up old = record { from = follows_trans v (a.session t).page (w.session t).page page up old.from; to = old.to; lines = old.lines; numbers = old.numbers }

-- so it is of each page at which the client of session s has looked
abbrev pub SeenSince : Setting → World → World → ℕ → Client → Type 0
SeenSince v w u s (Looks j change looked seen) = (t : ℕ) → looked t ≡ true → t ≢ s → Since v w u t (seen t)
SeenSince v w u s (Knows j) = ⊤
SeenSince v w u s (Announces j op) = ⊤
SeenSince v w u s (Carries j op) = ⊤

seen_on : (v : Setting) (w u z : World) (s : ℕ) (client : Client) → ((t : ℕ) → Follows v (u.session t).page (z.session t).page) → SeenSince v w u s client → SeenSince v w z s client
seen_on v w u z s (Looks j change looked seen) up old = λ t did ne. since_on v w u z t (seen t) (up t) (old t did ne)
seen_on v w u z s (Knows j) up old = tt
seen_on v w u z s (Announces j op) up old = tt
seen_on v w u z s (Carries j op) up old = tt

-- ---- each step

module _ (v : Setting) (w u z : World) (kept : Kept v u) (from : (t : ℕ) → Follows v (w.session t).page (u.session t).page) (up : (t : ℕ) → Follows v (u.session t).page (z.session t).page)
    (s : ℕ) (old : SeenSince v w u s (u.session s).client) where
  abbrev Well : World → Type 0
  Well x = SeenSince v w z s (x.session s).client

  same : Well u
  same = seen_on v w u z s (u.session s).client up old

  -- session i does something
  one : (i : ℕ) (x : Session) (y : World) → ((t : ℕ) → y.session t ≡ u.session t) → (s ≡ i → SeenSince v w z s x.client) → Well (with_session i x y)
  one i x y alike new = by (cases_eq s i)
    where
      P : Session → Type 0
      P a = SeenSince v w z s a.client

      by : (s ≡ i) ⊎ (s ≢ i) → SeenSince v w z s ((with_session i x y).session s).client
      by (inl here) = subst P (sym (with_here i x y s here)) (new here)
      by (inr ne) = subst P (sym (with_away i x y s ne ∙ alike s)) same

  -- and its client stays
  stays : (i : ℕ) (x : Session) (y : World) → ((t : ℕ) → y.session t ≡ u.session t) → x.client ≡ (u.session i).client → Well (with_session i x y)
  stays i x y alike is = one i x y alike (λ here. subst (λ a. SeenSince v w z s a) (ap (λ n. (u.session n).client) here ∙ sym is) same)

  tag_same : (j : Journal) (op : Option ℕ) (t : ℕ) → (with_tag v j op u).session t ≡ u.session t
  tag_same j None t = refl
  tag_same j (Some k) t = refl

  end_same : (op : Option ℕ) (t : ℕ) → (with_end op u).session t ≡ u.session t
  end_same None t = refl
  end_same (Some k) t = refl

  -- who begins has looked at no other page
  looks_none : (i : ℕ) (j : Journal) (change : Change) (y : World) → ((t : ℕ) → y.session t ≡ u.session t) → Well (with_session i (looking u i j change) y)
  looks_none i j change y alike = one i (looking u i j change) y alike (λ here t did ne. absurd (true≢false (sym did ∙ none t (λ is. ne (is ∙ sym here)))))
    where
      none : (t : ℕ) → t ≢ i → and_page i no_page t ≡ false
      none t ne = rw (ne_eqb t i ne) refl

  begins : (i name : ℕ) (bytes : List ℕ) (client : Client) → Well (begins_by v u i name bytes client)
  begins i name bytes (Knows j) = by (eqb name v.name)
    where
      by : (b : Bool) → Well (if b then with_session i (looking u i j (record { name = Some name; bytes = bytes; op = Some u.begun })) (with_new_op (new_put u i bytes) u) else with_session i (looking u i j (record { name = Some name; bytes = bytes; op = None })) u)
      by true = looks_none i j (record { name = Some name; bytes = bytes; op = Some u.begun }) (with_new_op (new_put u i bytes) u) (λ t. refl)
      by false = looks_none i j (record { name = Some name; bytes = bytes; op = None }) u (λ t. refl)
  begins i name bytes (Looks j change looked seen) = same
  begins i name bytes (Announces j op) = same
  begins i name bytes (Carries j op) = same

  tidies : (i : ℕ) (client : Client) → Well (tidies_by u i client)
  tidies i (Knows j) = looks_none i j tidying u (λ t. refl)
  tidies i (Looks j change looked seen) = same
  tidies i (Announces j op) = same
  tidies i (Carries j op) = same

  repeats : (i : ℕ) (client : Client) → Well (repeats_by u i client)
  repeats i (Knows j) = one i (record (u.session i) { client = Announces j None }) u (λ n. refl) (λ here. tt)
  repeats i (Looks j change looked seen) = same
  repeats i (Announces j op) = same
  repeats i (Carries j op) = same

  sees : (i t : ℕ) (client : Client) → (u.session i).client ≡ client → Well (sees_by u i t client)
  sees i t (Looks j change looked seen) is = by (eqb t i)
    where
      more : s ≡ i → (n : ℕ) → and_page t looked n ≡ true → n ≢ s → Since v w z n (and_seen t (u.session t).page seen n)
      more here n did ne = at (cases_eq n t)
        where
          before : SeenSince v w z s (Looks j change looked seen)
          before = subst (λ a. SeenSince v w z s a) (ap (λ m. (u.session m).client) here ∙ is) same

          now : Since v w z t (u.session t).page
          now = record { from = from t; to = up t; lines = (kept.counted t).1.page.lines; numbers = line_number v u kept t }

          at : (n ≡ t) ⊎ (n ≢ t) → Since v w z n (and_seen t (u.session t).page seen n)
          at (inl is) = rw (eq-eqb n t is) (subst (λ m. Since v w z m (u.session t).page) (sym is) now)
          at (inr away) = rw (ne_eqb n t away) (before n (sym looked_is ∙ did) ne)
            where
              looked_is : and_page t looked n ≡ looked n
              looked_is = rw (ne_eqb n t away) refl

      by : (b : Bool) → Well (if b then u else with_session i (record (u.session i) { client = Looks j change (and_page t looked) (and_seen t (u.session t).page seen) }) u)
      by true = same
      by false = one i (record (u.session i) { client = Looks j change (and_page t looked) (and_seen t (u.session t).page seen) }) u (λ n. refl) more
  sees i t (Knows j) is = same
  sees i t (Announces j op) is = same
  sees i t (Carries j op) is = same

  chooses : (i more : ℕ) (goes asks : ℕ → Bool) (client : Client) → Well (chooses_by v u i more goes asks client)
  chooses i more goes asks (Looks j change looked seen) = by (has_seen v looked seen)
    where
      by : (b : Bool) → Well (if b then with_session i (record (u.session i) { client = Announces (changed v goes asks seen i j change (new_line i more change (highest v j.page seen))) change.op }) u else u)
      by true = one i (record (u.session i) { client = Announces (changed v goes asks seen i j change (new_line i more change (highest v j.page seen))) change.op }) u (λ n. refl) (λ here. tt)
      by false = same
  chooses i more goes asks (Knows j) = same
  chooses i more goes asks (Announces j op) = same
  chooses i more goes asks (Carries j op) = same

  writes : (i : ℕ) (answered : Bool) (client : Client) → Well (writes_by v u i answered client)
  writes i true (Announces j op) = one i (record (u.session i) { journal = j; journal_pending = []; client = Carries j op }) (with_tag v j j.op u) (tag_same j j.op) (λ here. tt)
  writes i false (Announces j op) = stays i (record (u.session i) { journal_pending = (u.session i).journal_pending ++ j ∷ [] }) u (λ n. refl) refl
  writes i true (Carries j op) = one i (record (u.session i) { page = j.page; page_pending = []; client = Knows j }) (with_end op u) (end_same op) (λ here. tt)
  writes i false (Carries j op) = stays i (record (u.session i) { page_pending = (u.session i).page_pending ++ j.page ∷ [] }) u (λ n. refl) refl
  writes i true (Knows j) = same
  writes i false (Knows j) = same
  writes i true (Looks j change looked seen) = same
  writes i false (Looks j change looked seen) = same

  journal_comes : (i place : ℕ) (found : Option Journal) → Well (journal_late u i place found)
  journal_comes i place None = same
  journal_comes i place (Some j) = stays i (record (u.session i) { journal = j; journal_pending = behind (u.session i).journal_pending place }) u (λ n. refl) refl

  page_comes : (i place : ℕ) (found : Option Page) → Well (page_late u i place found)
  page_comes i place None = same
  page_comes i place (Some p) = stays i (record (u.session i) { page = p; page_pending = behind (u.session i).page_pending place }) u (λ n. refl) refl

  finds : (r t : ℕ) (reader : Reader) → Well (finds_by u r t reader)
  finds r t Idle = same
  finds r t (Searches k looked seen) = same

  tells : (r : ℕ) (reader : Reader) → Well (tells_by v u r reader)
  tells r Idle = same
  tells r (Searches k looked seen) = by (has_seen v looked seen)
    where
      by : (b : Bool) → Well (if b then with_reader r Idle (with_op k (told u (greatest_shown v seen v.name).bytes (version_told v seen) (u.op k)) u) else u)
      by true = same
      by false = same

  step_well : (step : Step) → Well (changes v u step)
  step_well (Enters i) = one i (record (u.session i) { client = Knows (u.session i).journal }) u (λ n. refl) (λ here. tt)
  step_well (JournalLate i place) = journal_comes i place (slice_get (u.session i).journal_pending place)
  step_well (PageLate i place) = page_comes i place (slice_get (u.session i).page_pending place)
  step_well (Begins i name bytes) = by (ltb i v.sessions)
    where
      by : (b : Bool) → Well (if b then begins_by v u i name bytes (u.session i).client else u)
      by true = begins i name bytes (u.session i).client
      by false = same
  step_well (Tidies i) = by (ltb i v.sessions)
    where
      by : (b : Bool) → Well (if b then tidies_by u i (u.session i).client else u)
      by true = tidies i (u.session i).client
      by false = same
  step_well (Repeats i) = repeats i (u.session i).client
  step_well (Sees i t) = by (ltb t v.sessions)
    where
      by : (b : Bool) → Well (if b then sees_by u i t (u.session i).client else u)
      by true = sees i t (u.session i).client refl
      by false = same
  step_well (Chooses i more goes asks) = chooses i more goes asks (u.session i).client
  step_well (ClientWrites i answered) = writes i answered (u.session i).client
  step_well (Asks r) = same
  step_well (Finds r t) = by (ltb t v.sessions)
    where
      by : (b : Bool) → Well (if b then finds_by u r t (u.reader r) else u)
      by true = finds r t (u.reader r)
      by false = same
  step_well (Tells r) = tells r (u.reader r)

-- ---- along a run

seen_along : (v : Setting) (w u : World) (s : ℕ) (steps : List Step) → Kept v u → ((t : ℕ) → Follows v (w.session t).page (u.session t).page) → SeenSince v w u s (u.session s).client →
    SeenSince v w (fold (after_step v) u steps) s ((fold (after_step v) u steps).session s).client
seen_along v w u s [] kept from old = old
seen_along v w u s (step ∷ steps) kept from old =
    let next : World = after_step v u step in
    let up : (t : ℕ) → Follows v (u.session t).page (next.session t).page = λ t. pages_follow v (step ∷ []) u kept t in
    seen_along v w next s steps (kept_from v (step ∷ []) u kept) (λ t. follows_trans v (w.session t).page (u.session t).page (next.session t).page (from t) (up t)) (step_well v w u next kept from up s old step)

-- from where its client had nothing to do
pub seen_since : (v : Setting) (w : World) (s : ℕ) (known : Journal) (steps : List Step) → Kept v w → (w.session s).client ≡ Knows known → SeenSince v w (fold (after_step v) w steps) s ((fold (after_step v) w steps).session s).client
seen_since v w s known steps kept idle = seen_along v w w s steps kept (λ t. follows_refl v (w.session t).page) (subst (λ z. SeenSince v w w s z) (sym idle) tt)
