-- Lines that go: who sees pages that ask for one another sees a line at least as great as each that ever stood in one of them.
use Rattle.std.proofs.Common.{◌≡◌, ◌≢◌, ◌⊎◌, ℕ, ◌<◌, ◌≤◌, Bool, true, false, List, [], ◌∷◌, Option, refl, sym, ap, ◌∙◌, subst, inl, inr, arith, eqb, ltb, max}
use Rattle.std.specs.Prelude.{not, ◌||◌, ◌&&◌, if◌then◌else◌}
use Rattle.std.proofs.lemmas.Bool.{cases_eq, cases_Bool, cases_lt, lt-ltb, ne_eqb, true≢false, and_parts}
use Rattle.gq_tag.specs.declared.Tag.{Tag}
use Rattle.gq_tag.specs.declared.StoredCopy.{StoredCopy}
use Rattle.gq_tag.specs.Tag.{first_tag, first_copy, is_less}
use Rattle.gq_names.specs.Names.{Setting, Page, shown, all_below, greatest_of, greatest_shown, greatest_line, greatest_asked, is_beaten, is_nothing, is_past, is_forgotten, goes_now, is_of, changed_page, is_closed}
use Rattle.gq_names.specs.Laws.{IsRisen, Rises}
use Rattle.gq_tag.proofs.Order.{IsAtMost, at_most_refl, at_most_trans, at_most_less, less_at_most, less_from, at_most-parts}
use Rattle.gq_names.proofs.Lists.{risen_at_most, first_least, all_at, greatest_least, Chosen, greatest_is}

-- ---- what pages a session had

abbrev pub Among : Page → List Page → Type 0
Among d [] = ⊥
Among d (p ∷ ps) = (d ≡ p) ⊎ Among d ps

-- what becomes of a page's line in a later page of its session: it stays as it is, or as gone as it is, or has a version above all numbers that
-- the page asks for
abbrev pub IsFollowed : Setting → (e d : Page) → (name : ℕ) → Type 0
IsFollowed v e d n = ((d.line n ≡ e.line n) × (e.gone n ≡ true → d.gone n ≡ true)) ⊎ ((is_less (e.line n).tag (d.line n).tag ≡ true) × ((t : ℕ) → t < v.sessions → e.after t < (d.line n).tag.number))

pub record Follows (v : Setting) (e d : Page) : Type 0 where
  pub after : (t : ℕ) → e.after t ≤ d.after t
  pub lines : (name : ℕ) → IsFollowed v e d name

pub follows_refl : (v : Setting) (e : Page) → Follows v e e
follows_refl v e = record { after = λ t. omega arith; lines = λ n. inl (refl, λ is. is) }

pub follows_trans : (v : Setting) (e d f : Page) → Follows v e d → Follows v d f → Follows v e f
follows_trans v e d f h k = record {
  after = λ t. let a = h.after t in let b = k.after t in omega (arith, a, b);
  lines = λ n. by n (h.lines n) (k.lines n);
}
  where
    by : (n : ℕ) → IsFollowed v e d n → IsFollowed v d f n → IsFollowed v e f n
    by n (inl a) (inl b) = inl (b.0 ∙ a.0, λ is. b.1 (a.1 is))
    by n (inl a) (inr b) = inr (
      (let P : StoredCopy → Type 0 = λ z. is_less z.tag (f.line n).tag ≡ true in subst P a.0 b.0),
      λ t low. (let x = h.after t in let y = b.1 t low in omega (arith, x, y)),
    )
    by n (inr a) (inl b) = inr (
      (let P : StoredCopy → Type 0 = λ z. is_less (e.line n).tag z.tag ≡ true in subst P (sym b.0) a.0),
      λ t low. (let same : (f.line n).tag.number ≡ (d.line n).tag.number = ap (λ z. z.tag.number) b.0 in let y = a.1 t low in omega (arith, same, y)),
    )
    by n (inr a) (inr b) = inr (
      at_most_less (e.line n).tag (d.line n).tag (f.line n).tag (less_at_most (e.line n).tag (d.line n).tag a.0) b.0,
      λ t low. (let x = h.after t in let y = b.1 t low in omega (arith, x, y)),
    )

pub follows_rises : (v : Setting) (e d : Page) → Follows v e d → Rises e d
follows_rises v e d h n = by (h.lines n)
  where
    by : IsFollowed v e d n → IsRisen (e.line n) (d.line n)
    by (inl a) = inl (sym a.0)
    by (inr a) = inr a.0

-- the pages of journals that were answered, of which the base is the last
pub record Past (v : Setting) (pages : List Page) (base : Page) : Type 0 where
  pub most : (d : Page) → Among d pages → (d.number ≤ base.number) × Follows v d base
  pub rises : (d e : Page) → Among d pages → Among e pages → d.number ≤ e.number → Follows v d e
  pub here : Among base pages

-- the line of the name is less than that of a page that is asked for
pub record Beaten (v : Setting) (past : ℕ → List Page) (c : Page) (name : ℕ) : Type 0 where
  pub session : ℕ
  pub low : session < v.sessions
  pub page : Page
  pub was : Among page (past session)
  pub after : page.number ≤ c.after session
  pub less : is_less (c.line name).tag (page.line name).tag ≡ true

-- a page of the other session that is asked for was made beside one of session s that had the line, and shows nothing of the name
pub record Knew (v : Setting) (past : ℕ → List Page) (s : ℕ) (c : Page) (name u : ℕ) : Type 0 where
  pub page : Page
  pub was : Among page (past u)
  pub after : page.number ≤ c.after u
  pub knows : (c.line name).tag.number ≤ page.after s
  pub shows : IsAtMost (shown page name).tag first_tag

-- nothing stands in the line, and so it is of all other sessions
pub record Forgotten (v : Setting) (past : ℕ → List Page) (s : ℕ) (c : Page) (name : ℕ) : Type 0 where
  pub low : s < v.sessions
  pub nothing : (c.line name).bytes ≡ []
  pub others : (u : ℕ) → u < v.sessions → u ≢ s → Knew v past s c name u

abbrev pub Gone : Setting → (ℕ → List Page) → (s : ℕ) → Page → Type 0
Gone v past s c = (name : ℕ) → ((c.line name).tag.number ≤ c.number) × (c.gone name ≡ true → Beaten v past c name ⊎ Forgotten v past s c name)

abbrev pub Grows : (past more : ℕ → List Page) → Type 0
Grows past more = (s : ℕ) (d : Page) → Among d (past s) → Among d (more s)

pub gone_on : (v : Setting) (past more : ℕ → List Page) (s : ℕ) (c : Page) → Grows past more → Gone v past s c → Gone v more s c
gone_on v past more s c grows gone name = ((gone name).0, λ is. by ((gone name).1 is))
  where
    by : Beaten v past c name ⊎ Forgotten v past s c name → Beaten v more c name ⊎ Forgotten v more s c name
    by (inl b) = inl (record { session = b.session; low = b.low; page = b.page; was = grows b.session b.page b.was; after = b.after; less = b.less })
    by (inr f) = inr (record {
      low = f.low;
      nothing = f.nothing;
      others = λ u low other. let k = f.others u low other in record { page = k.page; was = grows u k.page k.was; after = k.after; knows = k.knows; shows = k.shows };
    })

-- ---- views that are closed

pub not_less_first : (x : Tag) → is_less x first_tag ≡ true → ⊥
not_less_first x less = true≢false (sym less ∙ first_least x)

pub not_less_self : (x : Tag) → is_less x x ≡ true → ⊥
not_less_self x less = true≢false (sym less ∙ at_most_refl x)

not_lt : (a b : ℕ) → not (ltb a b) ≡ true → b ≤ a
not_lt a b test = by (cases_lt a b)
  where
    by : (a < b) ⊎ (b ≤ a) → b ≤ a
    by (inl low) = absurd (true≢false (sym test ∙ ap not (lt-ltb a b low)))
    by (inr high) = high

pub closed_at : (v : Setting) (seen : ℕ → Page) (s t : ℕ) → is_closed v seen ≡ true → s < v.sessions → t < v.sessions → (seen s).after t ≤ (seen t).number
closed_at v seen s t closed low_s low_t =
    let row : all_below v.sessions (λ u. not (ltb (seen u).number ((seen s).after u))) ≡ true = all_at v.sessions (λ u. all_below v.sessions (λ z. not (ltb (seen z).number ((seen u).after z)))) s closed low_s in
    not_lt (seen t).number ((seen s).after t) (all_at v.sessions (λ u. not (ltb (seen u).number ((seen s).after u))) t row low_t)

pub shown_is : (p : Page) (name : ℕ) → p.gone name ≡ false → shown p name ≡ p.line name
shown_is p name still = rw still refl

pub at_most_first : (t : Tag) → IsAtMost t first_tag → t ≡ first_tag
at_most_first t low = by (at_most-parts first_tag t low)
  where
    same : t.number ≡ 0 → t.session ≡ 0 → t ≡ first_tag
    same n s = λ z. record { number = n z; session = s z }

    by : (t.number < 0) ⊎ ((0 ≡ t.number) × (t.session ≤ 0)) → t ≡ first_tag
    by (inl less) = absurd (omega (arith, less))
    by (inr parts) = let n = parts.0 in let s = parts.1 in same (omega (arith, n)) (omega (arith, s))

module _ (v : Setting) (past : ℕ → List Page) (seen : ℕ → Page) (name : ℕ) (gone : (t : ℕ) → t < v.sessions → Gone v past t (seen t))
    (over : (t : ℕ) (d : Page) → t < v.sessions → Among d (past t) → d.number ≤ (seen t).number → Follows v d (seen t)) (closed : is_closed v seen ≡ true) where
  line : ℕ → StoredCopy
  line s = (seen s).line name

  top : StoredCopy
  top = greatest_of v.sessions (λ s. (seen s).line name)

  below : (s : ℕ) → s < v.sessions → IsAtMost ((seen s).line name).tag top.tag
  unfolding top
  below s low = greatest_least v.sessions (λ z. (seen z).line name) s low

  abbrev best : StoredCopy
  best = greatest_shown v seen name

  -- the greatest of all lines is not less than that of a page that is asked for
  not_beaten : (i : ℕ) → i < v.sessions → top ≡ (seen i).line name → Beaten v past (seen i) name → ⊥
  not_beaten i low is b =
      let c = closed_at v seen i b.session closed low b.low in
      let enough : b.page.number ≤ (seen b.session).number = (let a = b.after in omega (arith, a, c)) in
      let up : IsAtMost (b.page.line name).tag ((seen b.session).line name).tag = risen_at_most (b.page.line name) ((seen b.session).line name) (follows_rises v b.page (seen b.session) (over b.session b.page b.low b.was enough) name) in
      let more : IsAtMost (b.page.line name).tag top.tag = at_most_trans (b.page.line name).tag ((seen b.session).line name).tag top.tag up (below b.session b.low) in
      let same : IsAtMost (b.page.line name).tag ((seen i).line name).tag = subst (λ z. IsAtMost (b.page.line name).tag z.tag) is more in
      not_less_self (b.page.line name).tag (at_most_less (b.page.line name).tag ((seen i).line name).tag (b.page.line name).tag same b.less)

  top_is : (top ≡ first_copy) ⊎ Chosen v.sessions (λ z. (seen z).line name) top
  unfolding top
  top_is = greatest_is v.sessions (λ z. (seen z).line name)

  best_is : (best ≡ first_copy) ⊎ Chosen v.sessions (λ z. shown (seen z) name) best
  best_is = greatest_is v.sessions (λ z. shown (seen z) name)

  shown_below : (i : ℕ) → i < v.sessions → IsAtMost (shown (seen i) name).tag best.tag
  shown_below i low = greatest_least v.sessions (λ z. shown (seen z) name) i low

  still_shown : (i : ℕ) → i < v.sessions → (seen i).gone name ≡ false → top ≡ (seen i).line name → IsAtMost top.tag best.tag
  still_shown i low still is =
      let P : StoredCopy → Type 0 = λ z. IsAtMost z.tag best.tag in
      subst P (sym is) (subst P (shown_is (seen i) name still) (shown_below i low))

  -- where something is shown, what was forgotten is less than that
  module _ (some : is_less first_tag best.tag ≡ true) where
    not_first : best ≡ first_copy → ⊥
    not_first first = not_less_first first_tag (subst (λ z. is_less first_tag z.tag ≡ true) first some)

    forgotten_below : (i : ℕ) → i < v.sessions → top ≡ (seen i).line name → (seen i).gone name ≡ true → Forgotten v past i (seen i) name → IsAtMost top.tag best.tag
    forgotten_below i low is went f = by best_is
      where
        at : (b : ℕ) → b < v.sessions → best ≡ (seen b).line name → (seen b).gone name ≡ false → b ≢ i → IsAtMost top.tag best.tag
        at b low_b shows stays other = step (follows.lines name)
          where
            k : Knew v past i (seen i) name b
            k = f.others b low_b other

            follows : Follows v k.page (seen b)
            follows = over b k.page low_b k.was (let a = k.after in let c = closed_at v seen i b closed low low_b in omega (arith, a, c))

            first_then : (g : Bool) → k.page.gone name ≡ g → (k.page.gone name ≡ true → (seen b).gone name ≡ true) → (seen b).line name ≡ k.page.line name → ⊥
            first_then true e sticky same = true≢false (sym (sticky e) ∙ stays)
            first_then false e sticky same =
                let low_line : IsAtMost (k.page.line name).tag first_tag = subst (λ z. IsAtMost z.tag first_tag) (shown_is k.page name e) k.shows in
                let low_best : IsAtMost best.tag first_tag = subst (λ z. IsAtMost z.tag first_tag) (sym (shows ∙ same)) low_line in
                true≢false (sym some ∙ low_best)

            step : IsFollowed v k.page (seen b) name → IsAtMost top.tag best.tag
            step (inl a) = absurd (first_then (k.page.gone name) refl a.1 a.0)
            step (inr a) =
                let x = a.1 i low in
                let y = k.knows in
                let p : top.tag.number ≡ ((seen i).line name).tag.number = ap (λ z. z.tag.number) is in
                let q : best.tag.number ≡ ((seen b).line name).tag.number = ap (λ z. z.tag.number) shows in
                less_at_most top.tag best.tag (less_from top.tag best.tag (inl (omega (arith, x, y, p, q))))

        of : (b : ℕ) → b < v.sessions → (g : Bool) → (seen b).gone name ≡ g → best ≡ (if g then first_copy else (seen b).line name) → IsAtMost top.tag best.tag
        of b low_b true e shows = absurd (not_first shows)
        of b low_b false e shows = at b low_b shows e (λ same. true≢false (sym went ∙ ap (λ z. (seen z).gone name) (sym same) ∙ e))

        by : (best ≡ first_copy) ⊎ Chosen v.sessions (λ z. shown (seen z) name) best → IsAtMost top.tag best.tag
        by (inl first) = absurd (not_first first)
        by (inr chosen) = of chosen.session chosen.low ((seen chosen.session).gone name) refl chosen.is

    top_shown : IsAtMost top.tag best.tag
    top_shown = by top_is
      where
        went : (i : ℕ) → i < v.sessions → top ≡ (seen i).line name → (seen i).gone name ≡ true → Beaten v past (seen i) name ⊎ Forgotten v past i (seen i) name → IsAtMost top.tag best.tag
        went i low is e (inl b) = absurd (not_beaten i low is b)
        went i low is e (inr f) = forgotten_below i low is e f

        of : (i : ℕ) → i < v.sessions → (g : Bool) → (seen i).gone name ≡ g → top ≡ (seen i).line name → IsAtMost top.tag best.tag
        of i low false still is = still_shown i low still is
        of i low true e is = went i low is e ((gone i low name).1 e)

        by : (top ≡ first_copy) ⊎ Chosen v.sessions (λ z. (seen z).line name) top → IsAtMost top.tag best.tag
        by (inl first) = subst (λ z. IsAtMost z.tag best.tag) (sym first) (first_least best.tag)
        by (inr chosen) = of chosen.session chosen.low ((seen chosen.session).gone name) refl chosen.is

    pub at_most_shown : (s : ℕ) → s < v.sessions → IsAtMost ((seen s).line name).tag (greatest_shown v seen name).tag
    at_most_shown s low = at_most_trans ((seen s).line name).tag top.tag best.tag (below s low) top_shown

  -- where nothing is shown, the greatest line is one that was forgotten, or there is none
  pub top_nothing : IsAtMost (greatest_shown v seen name).tag first_tag → ((greatest_line v seen name).tag ≡ first_tag) ⊎ ((i : ℕ) × (i < v.sessions) × (greatest_line v seen name ≡ (seen i).line name) × (((seen i).line name).bytes ≡ []))
  unfolding top
  top_nothing none = by top_is
    where
      went : (i : ℕ) → i < v.sessions → top ≡ (seen i).line name → Beaten v past (seen i) name ⊎ Forgotten v past i (seen i) name → (top.tag ≡ first_tag) ⊎ ((i : ℕ) × (i < v.sessions) × (top ≡ (seen i).line name) × (((seen i).line name).bytes ≡ []))
      went i low is (inl b) = absurd (not_beaten i low is b)
      went i low is (inr f) = inr (i, low, is, f.nothing)

      of : (i : ℕ) → i < v.sessions → (g : Bool) → (seen i).gone name ≡ g → top ≡ (seen i).line name → (top.tag ≡ first_tag) ⊎ ((i : ℕ) × (i < v.sessions) × (top ≡ (seen i).line name) × (((seen i).line name).bytes ≡ []))
      of i low false still is = inl (at_most_first top.tag (at_most_trans top.tag best.tag first_tag (still_shown i low still is) none))
      of i low true e is = went i low is ((gone i low name).1 e)

      by : (top ≡ first_copy) ⊎ Chosen v.sessions (λ z. (seen z).line name) top → (top.tag ≡ first_tag) ⊎ ((i : ℕ) × (i < v.sessions) × (top ≡ (seen i).line name) × (((seen i).line name).bytes ≡ []))
      by (inl first) = inl (ap (λ z. z.tag) first)
      by (inr chosen) = of chosen.session chosen.low ((seen chosen.session).gone name) refl chosen.is

  pub line_below : (s : ℕ) → s < v.sessions → IsAtMost ((seen s).line name).tag (greatest_line v seen name).tag
  unfolding top
  line_below s low = below s low

-- ---- a page that is changed

or_cases : (a b : Bool) → a || b ≡ true → (a ≡ true) ⊎ (b ≡ true)
or_cases true b is = inl refl
or_cases false b is = inr is

is_none : (bytes : List ℕ) → is_nothing bytes ≡ true → bytes ≡ []
is_none [] is = refl
is_none (b ∷ bs) is = absurd (true≢false (sym is))

not_true : (a : Bool) → not a ≡ true → a ≡ false
not_true true is = absurd (true≢false (sym is))
not_true false is = refl

module _ (v : Setting) (past : ℕ → List Page) (s : ℕ) (goes asks : ℕ → Bool) (seen : ℕ → Page) (page : Page) (name : Option ℕ) (line : StoredCopy) (within : s < v.sessions) (own : seen s ≡ page) (was : (t : ℕ) → t < v.sessions → t ≢ s → Among (seen t) (past t))
    (above : page.number ≤ line.tag.number) where
  abbrev next : Page
  next = changed_page v goes asks seen s page name line

  after_up : (t : ℕ) → page.after t ≤ next.after t
  after_up t = by (asks t)
    where
      by : (b : Bool) → page.after t ≤ (if b then max (page.after t) (seen t).number else page.after t)
      by true = omega arith
      by false = omega arith

  same_line : (n : ℕ) → is_of name n ≡ false → next.line n ≡ page.line n
  same_line n ne = rw ne refl

  or_left : (a b : Bool) → a ≡ true → (a || b) ≡ true
  or_left true b is = refl
  or_left false b is = absurd (true≢false (sym is))

  pub changed_follows : ((n : ℕ) → is_less (page.line n).tag line.tag ≡ true) → ((t : ℕ) → t < v.sessions → page.after t < line.tag.number) → Follows v page next
  changed_follows less high = record { after = after_up; lines = λ n. by n (cases_Bool (is_of name n)) }
    where
      by : (n : ℕ) → (is_of name n ≡ true) ⊎ (is_of name n ≡ false) → IsFollowed v page next n
      by n (inl same) =
          let here : next.line n ≡ line = rw same refl in
          inr (
            (let P : StoredCopy → Type 0 = λ z. is_less (page.line n).tag z.tag ≡ true in subst P (sym here) (less n)),
            λ t low. (let e : (next.line n).tag.number ≡ line.tag.number = ap (λ z. z.tag.number) here in let h = high t low in omega (arith, e, h)),
          )
      by n (inr ne) = inl (same_line n ne, λ went. rw ne (or_left (page.gone n) (goes_now v goes asks seen s page n) went))

  old_beaten : (n : ℕ) → is_of name n ≡ false → Beaten v past page n → Beaten v past next n
  old_beaten n ne b = record {
    session = b.session;
    low = b.low;
    page = b.page;
    was = b.was;
    after = let a = b.after in let u = after_up b.session in omega (arith, a, u);
    less = subst (λ z. is_less z.tag (b.page.line n).tag ≡ true) (sym (same_line n ne)) b.less;
  }

  old_forgotten : (n : ℕ) → is_of name n ≡ false → Forgotten v past s page n → Forgotten v past s next n
  old_forgotten n ne f = record {
    low = f.low;
    nothing = ap (λ z. z.bytes) (same_line n ne) ∙ f.nothing;
    others = λ u low other. let k = f.others u low other in record {
      page = k.page;
      was = k.was;
      after = let a = k.after in let up = after_up u in omega (arith, a, up);
      knows = let e : (next.line n).tag.number ≡ (page.line n).tag.number = ap (λ z. z.tag.number) (same_line n ne) in let l = k.knows in omega (arith, e, l);
      shows = k.shows;
    };
  }

  asked_number : (i : ℕ) → asks i ≡ true → (seen i).number ≤ next.after i
  asked_number i asking = rw asking (omega arith)

  new_beaten : (n : ℕ) → is_of name n ≡ false → is_beaten v asks seen page n ≡ true → Beaten v past next n
  new_beaten n ne less = by (greatest_is v.sessions (λ t. if asks t then shown (seen t) n else first_copy))
    where
      not_first : greatest_asked v asks seen n ≡ first_copy → ⊥
      not_first first = not_less_first (page.line n).tag (subst (λ z. is_less (page.line n).tag z.tag ≡ true) first less)

      at : (i : ℕ) → i < v.sessions → greatest_asked v asks seen n ≡ (seen i).line n → (seen i).number ≤ next.after i → (i ≡ s) ⊎ (i ≢ s) → Beaten v past next n
      at i low is asked (inl same) =
          let mine : (seen i).line n ≡ page.line n = ap (λ z. (seen z).line n) same ∙ ap (λ z. z.line n) own in
          absurd (not_less_self (page.line n).tag (subst (λ z. is_less (page.line n).tag z.tag ≡ true) (is ∙ mine) less))
      at i low is asked (inr other) = record {
        session = i;
        low = low;
        page = seen i;
        was = was i low other;
        after = asked;
        less = subst (λ z. is_less z.tag ((seen i).line n).tag ≡ true) (sym (same_line n ne)) (subst (λ z. is_less (page.line n).tag z.tag ≡ true) is less);
      }

      of : (i : ℕ) → i < v.sessions → (a g : Bool) → asks i ≡ a → (seen i).gone n ≡ g → greatest_asked v asks seen n ≡ (if a then (if g then first_copy else (seen i).line n) else first_copy) → Beaten v past next n
      of i low false g e f is = absurd (not_first is)
      of i low true true e f is = absurd (not_first is)
      of i low true false e f is = at i low is (asked_number i e) (cases_eq i s)

      by : (greatest_asked v asks seen n ≡ first_copy) ⊎ Chosen v.sessions (λ t. if asks t then shown (seen t) n else first_copy) (greatest_asked v asks seen n) → Beaten v past next n
      by (inl first) = absurd (not_first first)
      by (inr chosen) = of chosen.session chosen.low (asks chosen.session) ((seen chosen.session).gone n) refl refl chosen.is

  new_forgotten : (n : ℕ) → is_of name n ≡ false → is_forgotten v asks seen s page n ≡ true → Forgotten v past s next n
  new_forgotten n ne forgot = record {
    low = within;
    nothing = ap (λ z. z.bytes) (same_line n ne) ∙ is_none (page.line n).bytes parts.0;
    others = λ u low other. knew u low other (and_parts (asks u) (not (ltb ((seen u).after s) (page.line n).tag.number) && not (is_less first_copy.tag (shown (seen u) n).tag)) (past_at u low other));
  }
    where
      parts : (is_nothing (page.line n).bytes ≡ true) × (all_below v.sessions (λ t. eqb t s || is_past asks seen s page n t) ≡ true)
      parts = and_parts (is_nothing (page.line n).bytes) (all_below v.sessions (λ t. eqb t s || is_past asks seen s page n t)) forgot

      past_at : (u : ℕ) → u < v.sessions → u ≢ s → is_past asks seen s page n u ≡ true
      past_at u low other = by (or_cases (eqb u s) (is_past asks seen s page n u) (all_at v.sessions (λ t. eqb t s || is_past asks seen s page n t) u parts.1 low))
        where
          by : (eqb u s ≡ true) ⊎ (is_past asks seen s page n u ≡ true) → is_past asks seen s page n u ≡ true
          by (inl same) = absurd (true≢false (sym same ∙ ne_eqb u s other))
          by (inr is) = is

      knew : (u : ℕ) → u < v.sessions → u ≢ s → (asks u ≡ true) × ((not (ltb ((seen u).after s) (page.line n).tag.number) && not (is_less first_copy.tag (shown (seen u) n).tag)) ≡ true) → Knew v past s next n u
      knew u low other is =
          let two = and_parts (not (ltb ((seen u).after s) (page.line n).tag.number)) (not (is_less first_copy.tag (shown (seen u) n).tag)) is.1 in
          record {
            page = seen u;
            was = was u low other;
            after = asked_number u is.0;
            knows = let e : (next.line n).tag.number ≡ (page.line n).tag.number = ap (λ z. z.tag.number) (same_line n ne) in let l = not_lt ((seen u).after s) (page.line n).tag.number two.0 in omega (arith, e, l);
            shows = not_true (is_less first_copy.tag (shown (seen u) n).tag) two.1;
          }

  pub changed_gone : Gone v past s page → Gone v past s next
  changed_gone gone n = (number (cases_Bool (is_of name n)), λ is. by is (cases_Bool (is_of name n)))
    where
      number : (is_of name n ≡ true) ⊎ (is_of name n ≡ false) → (next.line n).tag.number ≤ line.tag.number
      number (inl same) = let e : (next.line n).tag.number ≡ line.tag.number = rw same refl in omega (arith, e)
      number (inr ne) = let e : (next.line n).tag.number ≡ (page.line n).tag.number = ap (λ z. z.tag.number) (same_line n ne) in let l = (gone n).0 in omega (arith, e, l, above)

      by : next.gone n ≡ true → (is_of name n ≡ true) ⊎ (is_of name n ≡ false) → Beaten v past next n ⊎ Forgotten v past s next n
      by is (inl same) = absurd (true≢false (sym is ∙ gone_here))
        where
          gone_here : next.gone n ≡ false
          gone_here = rw same refl
      by is (inr ne) = of (or_cases (page.gone n) (goes_now v goes asks seen s page n) (sym gone_there ∙ is))
        where
          gone_there : next.gone n ≡ (page.gone n || goes_now v goes asks seen s page n)
          gone_there = rw ne refl

          old : Beaten v past page n ⊎ Forgotten v past s page n → Beaten v past next n ⊎ Forgotten v past s next n
          old (inl b) = inl (old_beaten n ne b)
          old (inr f) = inr (old_forgotten n ne f)

          new : (is_beaten v asks seen page n ≡ true) ⊎ (is_forgotten v asks seen s page n ≡ true) → Beaten v past next n ⊎ Forgotten v past s next n
          new (inl less) = inl (new_beaten n ne less)
          new (inr forgot) = inr (new_forgotten n ne forgot)

          of : (page.gone n ≡ true) ⊎ (goes_now v goes asks seen s page n ≡ true) → Beaten v past next n ⊎ Forgotten v past s next n
          of (inl before) = old ((gone n).1 before)
          of (inr now) = new (or_cases (is_beaten v asks seen page n) (is_forgotten v asks seen s page n) (and_parts (goes n) (is_beaten v asks seen page n || is_forgotten v asks seen s page n) now).1)
