-- After two rounds that nobody disturbs no page shows a removal, and of each name at most one page shows a line.
use Rattle.std.proofs.Common.{◌≡◌, ◌≢◌, ◌⊎◌, ℕ, ◌<◌, ◌≤◌, true, false, List, [], ◌∷◌, ◌++◌, map, refl, sym, ap, ◌∙◌, subst, inl, inr, None, arith, append_assoc}
use Rattle.std.specs.Prelude.{All, Contains}
use Rattle.std.proofs.lemmas.Bool.{cases_eq, cases_Bool, true≢false}
use Rattle.std.proofs.lemmas.List.Elements.{All-append, All-cons, All-head, All-tail, Contains-append_cases, Contains-push_cases}
use Rattle.gq_tag.specs.declared.StoredCopy.{StoredCopy}
use Rattle.gq_tag.specs.Tag.{first_tag, first_copy, is_less}
use Rattle.gq_names.specs.Names.{Setting, Page, World, shown, is_of, world_after}
use Rattle.gq_names.specs.Sweeping.{after_turn, after_turns, IsRemoval, AreTurns, alone, Shows, AllSweepsClear}
use Rattle.gq_tag.proofs.Order.{IsAtMost, at_most-parts, less_from}
use Rattle.gq_names.proofs.Views.{IsFollowed, follows_trans, not_less_self, shown_is}
use Rattle.gq_names.proofs.Onward.{Kept, kept_after}
use Rattle.gq_names.proofs.Since.{Since}
use Rattle.gq_names.proofs.Sweeping.{Took, Has, Over, either_on, over_on, not_both, shown_same, not_beaten, kept_turn, took, took_name, kept_turns, follows_turns, turns_append, Takes, two_rounds}
use Rattle.gq_names.proofs.Alone.{alone_turn, alone_change, alone_rest, alone_settled, alone_lines, alone_turns}

-- ---- lists of sessions

abbrev Member : ℕ → List ℕ → Type 0
Member s [] = ⊥
Member s (x ∷ xs) = (x ≡ s) ⊎ Member s xs

member_from : (s : ℕ) (xs : List ℕ) → Contains xs s → Member s xs
member_from s [] within = let low = within.1 in absurd (omega (arith, low))
member_from s (x ∷ xs) within = by (member_from s xs) (Contains-append_cases (x ∷ []) xs s within)
  where
    first : Contains [] s ⊎ (x ≡ s) → Member s (x ∷ xs)
    first (inl none) = let low = none.1 in absurd (omega (arith, low))
    first (inr is) = inl is

    by : (Contains xs s → Member s xs) → Contains (x ∷ []) s ⊎ Contains xs s → Member s (x ∷ xs)
    by rest (inl here) = first (Contains-push_cases [] x s here)
    by rest (inr later) = inr (rest later)

-- the list parted at the session
record Parted (s : ℕ) (xs : List ℕ) : Type 0 where
  before : List ℕ
  behind : List ℕ
  is : xs ≡ before ++ s ∷ behind

parted : (s : ℕ) (xs : List ℕ) → Member s xs → Parted s xs
parted s [] none = absurd none
parted s (x ∷ xs) (inl is) = record { before = []; behind = xs; is = ap (λ z. z ∷ xs) is }
parted s (x ∷ xs) (inr later) = let rest = parted s xs later in record { before = x ∷ rest.before; behind = rest.behind; is = ap (λ z. x ∷ z) rest.is }

-- another one is before it or behind
member_append : (t : ℕ) (xs ys : List ℕ) → Member t (xs ++ ys) → Member t xs ⊎ Member t ys
member_append t [] ys in_ys = inr in_ys
member_append t (x ∷ xs) ys (inl is) = inl (inl is)
member_append t (x ∷ xs) ys (inr later) = by (member_append t xs ys later)
  where
    by : Member t xs ⊎ Member t ys → Member t (x ∷ xs) ⊎ Member t ys
    by (inl a) = inl (inr a)
    by (inr b) = inr b

member_left : (t : ℕ) (xs ys : List ℕ) → Member t xs → Member t (xs ++ ys)
member_left t [] ys none = absurd none
member_left t (x ∷ xs) ys (inl is) = inl is
member_left t (x ∷ xs) ys (inr later) = inr (member_left t xs ys later)

member_right : (t : ℕ) (xs ys : List ℕ) → Member t ys → Member t (xs ++ ys)
member_right t [] ys here = here
member_right t (x ∷ xs) ys here = inr (member_right t xs ys here)

others_member : (s t : ℕ) (xs ys : List ℕ) → t ≢ s → Member t (xs ++ s ∷ ys) → Member t (ys ++ xs)
others_member s t xs ys ne member = by (member_append t xs (s ∷ ys) member)
  where
    by : Member t xs ⊎ Member t (s ∷ ys) → Member t (ys ++ xs)
    by (inl a) = member_right t ys xs a
    by (inr (inl is)) = absurd (ne (sym is))
    by (inr (inr b)) = member_left t ys xs b

takes_member : (v : Setting) (t : ℕ) (xs : List ℕ) → Member t xs → Takes t (map (alone v) xs)
takes_member v t [] none = absurd none
takes_member v t (x ∷ xs) (inl is) = inl is
takes_member v t (x ∷ xs) (inr later) = inr (takes_member v t xs later)

abbrev Inside : Setting → List ℕ → Type 0
Inside v xs = All (λ s. s < v.sessions) xs

-- ---- what such turns leave of a session that had one

-- the journal has the page as it is
abbrev Settled : World → ℕ → Type 0
Settled w s = (w.session s).journal.page ≡ (w.session s).page

module _ (v : Setting) (s : ℕ) where
  settled_turn : (w : World) → Kept v w → (t : ℕ) → t < v.sessions → Settled w s → Settled (after_turn v w (alone v t)) s × ((name : ℕ) → ((after_turn v w (alone v t)).session s).page.line name ≡ (w.session s).page.line name)
  settled_turn w kept t low settled = by (cases_eq s t)
    where
      by : (s ≡ t) ⊎ (s ≢ t) → Settled (after_turn v w (alone v t)) s × ((name : ℕ) → ((after_turn v w (alone v t)).session s).page.line name ≡ (w.session s).page.line name)
      by (inl same) =
          let P : ℕ → Type 0 = λ z. Settled (after_turn v w (alone v t)) z in
          let Q : ℕ → Type 0 = λ z. (name : ℕ) → ((after_turn v w (alone v t)).session z).page.line name ≡ (w.session z).journal.page.line name in
          let lines : Q s = subst Q (sym same) (alone_lines v w kept t low) in
          (subst P (sym same) (alone_settled v w kept t low), λ name. lines name ∙ ap (λ z. z.line name) settled)
      by (inr ne) =
          let is : (after_turn v w (alone v t)).session s ≡ w.session s = alone_rest v w kept t low s ne in
          (ap (λ z. z.journal.page) is ∙ (settled ∙ sym (ap (λ z. z.page) is)), λ name. ap (λ z. z.page.line name) is)

  settled_turns : (xs : List ℕ) (w : World) → Kept v w → Inside v xs → Settled w s → Settled (after_turns v w (map (alone v) xs)) s × ((name : ℕ) → ((after_turns v w (map (alone v) xs)).session s).page.line name ≡ (w.session s).page.line name)
  settled_turns [] w kept low settled = (settled, λ name. refl)
  settled_turns (t ∷ xs) w kept low settled =
      let here = settled_turn w kept t (All-head (λ i. i < v.sessions) t xs low) settled in
      let rest = settled_turns xs (after_turn v w (alone v t)) (kept_turn v w kept (alone v t)) (All-tail (λ i. i < v.sessions) t xs low) here.0 in
      (rest.0, λ name. rest.1 name ∙ here.1 name)

  -- what it shows in the end it has shown from its turn on
  showed : (xs : List ℕ) (w : World) → Kept v w → Inside v xs → Settled w s → (name : ℕ) → ((after_turns v w (map (alone v) xs)).session s).page.gone name ≡ false → (w.session s).page.gone name ≡ false
  showed xs w kept low settled name stays = by ((follows_turns v (map (alone v) xs) w kept s).lines name) (cases_Bool ((w.session s).page.gone name))
    where
      by : IsFollowed v (w.session s).page ((after_turns v w (map (alone v) xs)).session s).page name → ((w.session s).page.gone name ≡ true) ⊎ ((w.session s).page.gone name ≡ false) → (w.session s).page.gone name ≡ false
      by any (inr is) = is
      by (inl a) (inl gone) = absurd (true≢false (sym (a.1 gone) ∙ stays))
      by (inr a) (inl gone) = absurd (not_less_self ((w.session s).page.line name).tag
          (subst (λ z. is_less ((w.session s).page.line name).tag z.tag ≡ true) ((settled_turns xs w kept low settled).1 name) a.0))

-- who has had a turn is settled
settled_member : (v : Setting) (t : ℕ) (xs : List ℕ) (w : World) → Kept v w → Inside v xs → Member t xs → Settled (after_turns v w (map (alone v) xs)) t
settled_member v t [] w kept low none = absurd none
settled_member v t (x ∷ xs) w kept low (inl is) =
    let here : Settled (after_turn v w (alone v x)) x = alone_settled v w kept x (All-head (λ i. i < v.sessions) x xs low) in
    (settled_turns v t xs (after_turn v w (alone v x)) (kept_turn v w kept (alone v x)) (All-tail (λ i. i < v.sessions) x xs low) (subst (λ z. Settled (after_turn v w (alone v x)) z) is here)).0
settled_member v t (x ∷ xs) w kept low (inr later) = settled_member v t xs (after_turn v w (alone v x)) (kept_turn v w kept (alone v x)) (All-tail (λ i. i < v.sessions) x xs low) later

alone_append : (v : Setting) (xs ys : List ℕ) (w : World) → after_turns v w (map (alone v) (xs ++ ys)) ≡ after_turns v (after_turns v w (map (alone v) xs)) (map (alone v) ys)
alone_append v [] ys w = refl
alone_append v (x ∷ xs) ys w = alone_append v xs ys (after_turn v w (alone v x))

map_append : (v : Setting) (xs ys : List ℕ) → map (alone v) (xs ++ ys) ≡ map (alone v) xs ++ map (alone v) ys
map_append v [] ys = refl
map_append v (x ∷ xs) ys = ap (λ z. alone v x ∷ z) (map_append v xs ys)

inside_left : (v : Setting) (xs ys : List ℕ) → Inside v (xs ++ ys) → Inside v xs
inside_left v [] ys low = λ k d none. absurd (omega (arith, none))
inside_left v (x ∷ xs) ys low = All-cons (λ i. i < v.sessions) x xs (All-head (λ i. i < v.sessions) x (xs ++ ys) low) (inside_left v xs ys (All-tail (λ i. i < v.sessions) x (xs ++ ys) low))

inside_right : (v : Setting) (xs ys : List ℕ) → Inside v (xs ++ ys) → Inside v ys
inside_right v [] ys low = low
inside_right v (x ∷ xs) ys low = inside_right v xs ys (All-tail (λ i. i < v.sessions) x (xs ++ ys) low)

shows_line : (page : Page) (name : ℕ) → is_less first_tag (shown page name).tag ≡ true → (page.gone name ≡ false) × (shown page name ≡ page.line name)
shows_line page name shows = by (cases_Bool (page.gone name))
  where
    by : (page.gone name ≡ true) ⊎ (page.gone name ≡ false) → (page.gone name ≡ false) × (shown page name ≡ page.line name)
    by (inl gone) =
        let nothing : shown page name ≡ first_copy = rw gone refl in
        absurd (not_less_self first_tag (subst (λ z. is_less first_tag z.tag ≡ true) nothing shows))
    by (inr stays) = (stays, shown_is page name stays)

-- ---- from the session's first turn on: the others' turns, and its second one

module _ (v : Setting) (s : ℕ) (low : s < v.sessions) (between behind : List ℕ) (w : World) (kept : Kept v w) (settled : Settled w s) (inside : Inside v (between ++ s ∷ behind)) (others : (t : ℕ) → t < v.sessions → t ≢ s → Member t between) where
  abbrev second : World
  second = after_turns v w (map (alone v) between)

  abbrev end : World
  end = after_turns v second (map (alone v) (s ∷ behind))

  in_between : Inside v between
  in_between = inside_left v between (s ∷ behind) inside

  in_rest : Inside v (s ∷ behind)
  in_rest = inside_right v between (s ∷ behind) inside

  in_behind : Inside v behind
  in_behind = All-tail (λ i. i < v.sessions) s behind in_rest

  kept_second : Kept v second
  kept_second = kept_turns v (map (alone v) between) w kept

  abbrev turned : World
  turned = after_turn v second (alone v s)

  kept_turned : Kept v turned
  kept_turned = kept_turn v second kept_second (alone v s)

  settled_second : Settled second s
  settled_second = (settled_turns v s between w kept in_between settled).0

  settled_turned : Settled turned s
  settled_turned = alone_settled v second kept_second s low

  no_removal : (name : ℕ) → IsRemoval (shown (end.session s).page name) → ⊥
  no_removal name removal = not_both v s name low old (end.session s).page (sym line.1, line.0) over
    where
      old : StoredCopy
      old = shown (end.session s).page name

      line : ((end.session s).page.gone name ≡ false) × (shown (end.session s).page name ≡ (end.session s).page.line name)
      line = shows_line (end.session s).page name removal.0

      line_same : (end.session s).page.line name ≡ (w.session s).page.line name
      line_same = (settled_turns v s (s ∷ behind) second kept_second in_rest settled_second).1 name ∙ (settled_turns v s between w kept in_between settled).1 name

      stayed : (w.session s).page.gone name ≡ false
      stayed = showed v s between w kept in_between settled name (showed v s (s ∷ behind) second kept_second in_rest settled_second name line.0)

      are : AreTurns v w (map (alone v) between ++ map (alone v) (s ∷ behind))
      are = subst (λ z. AreTurns v w z) (map_append v between (s ∷ behind)) (alone_turns v (between ++ s ∷ behind) w kept inside)

      over : Over v s name low (shown (end.session s).page name) (end.session s).page
      over = subst (λ z. Over v s name low (shown (end.session s).page name) (z.session s).page) (turns_append v (map (alone v) between) (map (alone v) (s ∷ behind)) w)
          (two_rounds v s name low (shown (end.session s).page name) removal w kept (map (alone v) between) (map (alone v) (s ∷ behind)) (λ t inside ne. takes_member v t between (others t inside ne)) (inl refl) are
          (sym line_same ∙ sym line.1, stayed))

  abbrev its : Took v second turned s
  its = took v second kept_second (alone v s) (alone_turn v second kept_second s low)

  no_name : (name : ℕ) → is_of its.name name ≡ false
  no_name name =
      let is : its.name ≡ None = took_name v second kept_second (alone v s) (alone_turn v second kept_second s low) ∙ ap (λ z. z.name) (alone_change v second kept_second s low) in
      rw is refl

  -- its line is not older than that of another session, which it saw
  not_older : (t name : ℕ) → t < v.sessions → t ≢ s → Shows end s name → Shows end t name → is_less (shown (end.session s).page name).tag (shown (end.session t).page name).tag ≡ true → ⊥
  not_older t name low_t ne shows_s shows_t older = true≢false (sym older ∙ most)
    where
      mine : ((end.session s).page.gone name ≡ false) × (shown (end.session s).page name ≡ (end.session s).page.line name)
      mine = shows_line (end.session s).page name shows_s

      line : ((end.session t).page.gone name ≡ false) × (shown (end.session t).page name ≡ (end.session t).page.line name)
      line = shows_line (end.session t).page name shows_t

      -- its page behind its second turn
      stays : its.next.gone name ≡ false
      stays = subst (λ z. z.gone name ≡ false) its.carried (showed v s behind turned kept_turned in_behind settled_turned name mine.0)

      next_shown : shown its.next name ≡ shown (end.session s).page name
      next_shown =
          shown_is its.next name stays ∙ (ap (λ z. z.line name) (sym its.carried)
          ∙ (sym ((settled_turns v s behind turned kept_turned in_behind settled_turned).1 name) ∙ sym mine.1))

      page_shown : shown its.page name ≡ shown (end.session s).page name
      page_shown = sym (shown_same v s name low (shown (end.session t).page name) second turned s its (no_name name) stays) ∙ next_shown

      -- the other one's line, as it saw it
      settled_other : Settled second t
      settled_other = settled_member v t between w kept in_between (others t low_t ne)

      has_other : Has v t name low_t (shown (end.session t).page name) (second.session t).page
      has_other = (sym ((settled_turns v t (s ∷ behind) second kept_second in_rest settled_other).1 name) ∙ sym line.1, showed v t (s ∷ behind) second kept_second in_rest settled_other name line.0)

      since : Since v second turned t (its.seen t)
      since = its.since t low_t ne

      saw : shown (its.seen t) name ≡ shown (end.session t).page name
      saw = by (either_on v t name low_t (shown (end.session t).page name) (second.session t).page (its.seen t) since.from (inl has_other))
        where
          by : Has v t name low_t (shown (end.session t).page name) (its.seen t) ⊎ Over v t name low_t (shown (end.session t).page name) (its.seen t) → shown (its.seen t) name ≡ shown (end.session t).page name
          by (inl has) = shown_is (its.seen t) name has.1 ∙ has.0
          by (inr over) = absurd (not_both v t name low_t (shown (end.session t).page name) (end.session t).page (sym line.1, line.0)
              (over_on v t name low_t (shown (end.session t).page name) (its.seen t) (end.session t).page
              (follows_trans v (its.seen t) (turned.session t).page (end.session t).page since.to (follows_turns v (map (alone v) behind) turned kept_turned t)) over))

      shows : is_less first_tag (shown its.page name).tag ≡ true
      shows = subst (λ z. is_less first_tag z.tag ≡ true) (sym page_shown) shows_s

      page_line : its.page.line name ≡ shown (end.session s).page name
      page_line = sym (shows_line its.page name shows).1 ∙ page_shown

      most : IsAtMost (shown (end.session t).page name).tag (shown (end.session s).page name).tag
      most =
          let beaten : IsAtMost (shown (its.seen t) name).tag (its.page.line name).tag = not_beaten v s name low (shown (end.session t).page name) second turned s its (no_name name) stays shows t low_t in
          subst (λ z. IsAtMost z.tag (shown (end.session s).page name).tag) saw (subst (λ z. IsAtMost (shown (its.seen t) name).tag z.tag) page_line beaten)

-- ---- so after both rounds

module _ (v : Setting) (w : World) (kept : Kept v w) (sessions : List ℕ) (inside : Inside v sessions) (all : (s : ℕ) → s < v.sessions → Contains sessions s) where
  abbrev swept : World
  swept = after_turns v w (map (alone v) (sessions ++ sessions))

  module _ (s : ℕ) (low : s < v.sessions) where
    at : Parted s sessions
    at = parted s sessions (member_from s sessions (all s low))

    abbrev first : World
    first = after_turns v w (map (alone v) at.before)

    -- the same turns, from the session's first one on
    lists : sessions ++ sessions ≡ at.before ++ (s ∷ ((at.behind ++ at.before) ++ (s ∷ at.behind)))
    lists = by sessions at.is
      where
        by : (xs : List ℕ) → xs ≡ at.before ++ s ∷ at.behind → xs ++ xs ≡ at.before ++ (s ∷ ((at.behind ++ at.before) ++ (s ∷ at.behind)))
        by xs is = rw is (simp append_assoc)

    in_lists : Inside v (at.before ++ (s ∷ ((at.behind ++ at.before) ++ (s ∷ at.behind))))
    in_lists = subst (λ z. Inside v z) lists (All-append (λ i. i < v.sessions) sessions sessions inside inside)

    in_later : Inside v (s ∷ ((at.behind ++ at.before) ++ (s ∷ at.behind)))
    in_later = inside_right v at.before (s ∷ ((at.behind ++ at.before) ++ (s ∷ at.behind))) in_lists

    kept_first : Kept v first
    kept_first = kept_turns v (map (alone v) at.before) w kept

    abbrev passed : World
    passed = after_turn v first (alone v s)

    kept_passed : Kept v passed
    kept_passed = kept_turn v first kept_first (alone v s)

    others : (t : ℕ) → t < v.sessions → t ≢ s → Member t (at.behind ++ at.before)
    others t low_t ne = others_member s t at.before at.behind ne (subst (λ z. Member t z) at.is (member_from t sessions (all t low_t)))

    in_rest_of_both : Inside v ((at.behind ++ at.before) ++ s ∷ at.behind)
    in_rest_of_both = All-tail (λ i. i < v.sessions) s ((at.behind ++ at.before) ++ s ∷ at.behind) in_later

    settled_passed : Settled passed s
    settled_passed = alone_settled v first kept_first s low

    ends : swept ≡ after_turns v (after_turns v passed (map (alone v) (at.behind ++ at.before))) (map (alone v) (s ∷ at.behind))
    ends =
        ap (λ z. after_turns v w (map (alone v) z)) lists
        ∙ (alone_append v at.before (s ∷ ((at.behind ++ at.before) ++ (s ∷ at.behind))) w
        ∙ alone_append v (at.behind ++ at.before) (s ∷ at.behind) passed)

    clear : (name : ℕ) → IsRemoval (shown (swept.session s).page name) → ⊥
    clear name removal = no_removal v s low (at.behind ++ at.before) at.behind passed kept_passed settled_passed in_rest_of_both others name (subst (λ z. IsRemoval (shown (z.session s).page name)) ends removal)

    newest : (t name : ℕ) → t < v.sessions → t ≢ s → Shows swept s name → Shows swept t name → is_less (shown (swept.session s).page name).tag (shown (swept.session t).page name).tag ≡ true → ⊥
    newest t name low_t ne shows_s shows_t older =
        not_older v s low (at.behind ++ at.before) at.behind passed kept_passed settled_passed in_rest_of_both others t name low_t ne (subst (λ z. Shows z s name) ends shows_s) (subst (λ z. Shows z t name) ends shows_t)
        (subst (λ z. is_less (shown (z.session s).page name).tag (shown (z.session t).page name).tag ≡ true) ends older)

  kept_swept : Kept v swept
  kept_swept = kept_turns v (map (alone v) (sessions ++ sessions)) w kept

  -- the session of a line that is shown
  session_shown : (s name : ℕ) → Shows swept s name → (shown (swept.session s).page name).tag.session ≡ s
  session_shown s name shows = by ((kept_swept.counted s).1.page.lines name)
    where
      line : ((swept.session s).page.gone name ≡ false) × (shown (swept.session s).page name ≡ (swept.session s).page.line name)
      line = shows_line (swept.session s).page name shows

      by : ((swept.session s).page.line name ≡ first_copy) ⊎ (((swept.session s).page.line name).tag.session ≡ s) → (shown (swept.session s).page name).tag.session ≡ s
      by (inl first) = absurd (not_less_self first_tag (subst (λ z. is_less first_tag z.tag ≡ true) (line.1 ∙ first) shows))
      by (inr its) = ap (λ z. z.tag.session) line.1 ∙ its

  one : (s t name : ℕ) → s < v.sessions → t < v.sessions → Shows swept s name → Shows swept t name → s ≡ t
  one s t name low_s low_t shows_s shows_t = by (cases_eq s t)
    where
      differ : s ≢ t → (is_less (shown (swept.session s).page name).tag (shown (swept.session t).page name).tag ≡ true) ⊎ (is_less (shown (swept.session s).page name).tag (shown (swept.session t).page name).tag ≡ false) → s ≡ t
      differ ne (inl less) = absurd (newest s low_s t name low_t (λ same. ne (sym same)) shows_s shows_t less)
      differ ne (inr most) = absurd (newest t low_t s name low_s ne shows_t shows_s (less_from (shown (swept.session t).page name).tag (shown (swept.session s).page name).tag (of (at_most-parts (shown (swept.session s).page name).tag (shown (swept.session t).page name).tag most))))
        where
          of : ((shown (swept.session t).page name).tag.number < (shown (swept.session s).page name).tag.number) ⊎ (((shown (swept.session s).page name).tag.number ≡ (shown (swept.session t).page name).tag.number) × ((shown (swept.session t).page name).tag.session ≤ (shown (swept.session s).page name).tag.session)) →
              ((shown (swept.session t).page name).tag.number < (shown (swept.session s).page name).tag.number) ⊎ (((shown (swept.session t).page name).tag.number ≡ (shown (swept.session s).page name).tag.number) × ((shown (swept.session t).page name).tag.session < (shown (swept.session s).page name).tag.session))
          of (inl less) = inl less
          of (inr parts) =
              let mine = session_shown s name shows_s in
              let its = session_shown t name shows_t in
              let low = parts.1 in
              inr (sym parts.0, omega (arith, mine, its, low, ne))

      by : (s ≡ t) ⊎ (s ≢ t) → s ≡ t
      by (inl same) = same
      by (inr ne) = differ ne (cases_Bool (is_less (shown (swept.session s).page name).tag (shown (swept.session t).page name).tag))

pub all_sweeps_clear : AllSweepsClear
all_sweeps_clear v steps sessions inside all = record {
  removals = λ s name low removal. clear v (world_after v steps) (kept_after v steps) sessions inside all s low name removal;
  lines = one v (world_after v steps) (kept_after v steps) sessions inside all;
}
