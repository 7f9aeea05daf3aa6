-- Two rounds of changes, and no page shows a removal that it showed before.
use Rattle.std.proofs.Common.{◌≡◌, ◌≢◌, ◌⊎◌, ℕ, ◌<◌, ◌≤◌, Bool, true, false, List, [], ◌∷◌, ◌++◌, map, refl, sym, ap, ◌∙◌, subst, inl, inr, Option, Some, None, arith, eqb, ltb}
use Rattle.std.proofs.lemmas.List.Elements.{Contains-append_cases, Contains-push_cases}
use Rattle.std.specs.Prelude.{Contains, not, ◌||◌, if◌then◌else◌}
use Rattle.std.proofs.lemmas.Bool.{cases_eq, cases_Bool, eq-eqb, true≢false, and_parts, and_from, or_left, or_right, or_parts}
use Rattle.gq_tag.specs.declared.Tag.{Tag}
use Rattle.gq_tag.specs.declared.StoredCopy.{StoredCopy}
use Rattle.gq_tag.specs.Tag.{first_tag, first_copy, is_less}
use Rattle.gq_names.specs.Names.{Setting, Page, Journal, Change, Client, Knows, Looks, Announces, Carries, World, Chooses, ClientWrites, shown, all_below, greatest_asked, is_beaten, is_nothing, is_past, is_forgotten, goes_now, is_of, changed, highest, new_line, has_seen, is_closed, with_tag, with_end, chooses_by, writes_by, tick, greatest_number, after_step, world_after}
use Rattle.gq_names.specs.Sweeping.{Choice, Turn, after_steps, when_begun, when_looked, when_chosen, when_announcing, when_announced, when_carrying, after_choice, after_turn, after_turns, every_name, every_page, can_go, IsRemoval, AsksForAll, Does, IsTurn, AreTurns, AllSweepsForget}
use Rattle.gq_tag.proofs.Order.{IsAtMost, at_most_refl, at_most_trans, at_most_less, at_most-parts, less-parts, less_from, less_at_most}
use Rattle.gq_names.proofs.Lists.{all_at, greatest_least, number_least}
use Rattle.gq_names.proofs.Views.{Follows, IsFollowed, follows_refl, follows_trans, not_less_self, shown_is}
use Rattle.gq_names.proofs.Counting.{all_true, not_below}
use Rattle.gq_names.proofs.Onward.{Kept, kept_after, kept_from, pages_follow}
use Rattle.gq_names.proofs.Since.{Since, since_back, since_on, SeenSince, seen_since}
use Rattle.gq_names.proofs.Pages.{known_by}
use Rattle.gq_names.proofs.Standing.{Lines}
use Rattle.gq_names.proofs.Moves.{with_here}

-- ---- what a turn does

-- Of session t's turn from the world w to the world u: the page as its journal had it, what it saw, and the page that it left
pub record Took (v : Setting) (w u : World) (t : ℕ) : Type 0 where
  pub page : Page
  pub name : Option ℕ
  pub line : StoredCopy
  pub seen : ℕ → Page
  pub from : Follows v (w.session t).page page
  pub since : (i : ℕ) → i < v.sessions → i ≢ t → Since v w u i (seen i)
  pub own_lines : (n : ℕ) → (page.line n ≡ first_copy) ⊎ ((page.line n).tag.session ≡ t)
  pub own_numbers : (n : ℕ) → (page.line n).tag.number < line.tag.number
  pub high : (i : ℕ) → i < v.sessions → (seen i).number < line.tag.number
  pub next : Page
  pub carried : (u.session t).page ≡ next
  -- the line of the name that it changed, and those of other names
  pub new : (n : ℕ) → is_of name n ≡ true → (next.line n ≡ line) × (next.gone n ≡ false)
  pub lines : (n : ℕ) → is_of name n ≡ false → next.line n ≡ page.line n
  pub gone : (n : ℕ) → is_of name n ≡ false → page.gone n ≡ true → next.gone n ≡ true
  pub stays : (n : ℕ) → is_of name n ≡ false → next.gone n ≡ false → can_go v seen t page n ≡ false
  pub removals : AsksForAll v t seen next.after

gone_shows : (page : Page) (n : ℕ) → page.gone n ≡ true → shown page n ≡ first_copy
gone_shows page n is = rw is refl

less_number : (a b : Tag) → is_less a b ≡ true → a.number ≤ b.number
less_number a b less = by (less-parts a b less)
  where
    by : (a.number < b.number) ⊎ ((a.number ≡ b.number) × (a.session < b.session)) → a.number ≤ b.number
    by (inl low) = omega (arith, low)
    by (inr parts) = let same = parts.0 in omega (arith, same)

-- ---- one line, and what becomes of it

module _ (v : Setting) (s name : ℕ) (low : s < v.sessions) (old : StoredCopy) where
  -- the page shows it
  abbrev pub Has : Page → Type 0
  Has page = (page.line name ≡ old) × (page.gone name ≡ false)

  -- the page had it, and does not show it any more, or has a newer line
  abbrev pub Over : Page → Type 0
  Over page = ((page.line name ≡ old) × (page.gone name ≡ true)) ⊎ (is_less old.tag (page.line name).tag ≡ true)

  pub over_on : (p q : Page) → Follows v p q → Over p → Over q
  over_on p q follows = by (follows.lines name)
    where
      by : IsFollowed v p q name → Over p → Over q
      by (inl a) (inl h) = inl (a.0 ∙ h.0, a.1 h.1)
      by (inl a) (inr newer) = inr (subst (λ z. is_less old.tag z.tag ≡ true) (sym a.0) newer)
      by (inr a) (inl h) = inr (subst (λ z. is_less z.tag (q.line name).tag ≡ true) h.0 a.0)
      by (inr a) (inr newer) = inr (at_most_less old.tag (p.line name).tag (q.line name).tag (less_at_most old.tag (p.line name).tag newer) a.0)

  pub either_on : (p q : Page) → Follows v p q → Has p ⊎ Over p → Has q ⊎ Over q
  either_on p q follows (inr over) = inr (over_on p q follows over)
  either_on p q follows (inl has) = by (cases_Bool (q.gone name)) (follows.lines name)
    where
      by : (q.gone name ≡ true) ⊎ (q.gone name ≡ false) → IsFollowed v p q name → Has q ⊎ Over q
      by (inl gone) (inl a) = inr (inl (a.0 ∙ has.0, gone))
      by (inr stays) (inl a) = inl (a.0 ∙ has.0, stays)
      by gone (inr a) = inr (inr (subst (λ z. is_less z.tag (q.line name).tag ≡ true) has.0 a.0))

  pub not_both : (p : Page) → Has p → Over p → ⊥
  not_both p has (inl h) = true≢false (sym h.1 ∙ has.1)
  not_both p has (inr newer) = not_less_self old.tag (subst (λ z. is_less old.tag z.tag ≡ true) has.0 newer)

  has_shows : (p : Page) → Has p → shown p name ≡ old
  has_shows p has = shown_is p name has.1 ∙ has.0

  over_shows : (p : Page) → Over p → (shown p name ≡ first_copy) ⊎ (is_less old.tag (shown p name).tag ≡ true)
  over_shows p over = by (cases_Bool (p.gone name)) over
    where
      by : (p.gone name ≡ true) ⊎ (p.gone name ≡ false) → Over p → (shown p name ≡ first_copy) ⊎ (is_less old.tag (shown p name).tag ≡ true)
      by (inl gone) any = inl (gone_shows p name gone)
      by (inr stays) (inl h) = absurd (true≢false (sym h.1 ∙ stays))
      by (inr stays) (inr newer) = inr (subst (λ z. is_less old.tag z.tag ≡ true) (sym (shown_is p name stays)) newer)

  -- it is nothing, or a newer line
  abbrev Newer : StoredCopy → Type 0
  Newer line = IsAtMost line.tag first_tag ⊎ (is_less old.tag line.tag ≡ true)

  none_shown : (p : Page) → p.gone name ≡ true → Newer (shown p name)
  none_shown p gone = inl (let P : StoredCopy → Type 0 = λ z. IsAtMost z.tag first_tag in subst P (sym (gone_shows p name gone)) (at_most_refl first_tag))

  -- a page of another session minds a removal: it says that it was made beside it, and shows nothing of the name, or a newer line
  record Minds (page : Page) : Type 0 where
    asks : old.tag.number ≤ page.after s
    shows : Newer (shown page name)

  minds_on : (p q : Page) → Follows v p q → Minds p → Minds q
  minds_on p q follows minds = record { asks = let a = minds.asks in let b = follows.after s in omega (arith, a, b); shows = by (cases_Bool (q.gone name)) (follows.lines name) }
    where
      stayed : (g : Bool) → p.gone name ≡ g → q.gone name ≡ false → (p.gone name ≡ true → q.gone name ≡ true) → q.line name ≡ p.line name → Newer (shown q name)
      stayed true e stays sticky same = absurd (true≢false (sym (sticky e) ∙ stays))
      stayed false e stays sticky same =
          let is : shown p name ≡ shown q name = shown_is p name e ∙ (sym same ∙ sym (shown_is q name stays)) in
          subst Newer is minds.shows

      by : (q.gone name ≡ true) ⊎ (q.gone name ≡ false) → IsFollowed v p q name → Newer (shown q name)
      by (inl gone) any = none_shown q gone
      by (inr stays) (inl a) = stayed (p.gone name) refl stays a.1 a.0
      by (inr stays) (inr a) =
          let asked = minds.asks in
          let above = a.1 s low in
          inr (subst (λ z. is_less old.tag z.tag ≡ true) (sym (shown_is q name stays)) (less_from old.tag (q.line name).tag (inl (omega (arith, asked, above)))))

  -- ---- turns

  module _ (w u : World) (t : ℕ) (took : Took v w u t) (none : is_of took.name name ≡ false) (stays : took.next.gone name ≡ false) where
    -- the line had not gone before
    stayed : took.page.gone name ≡ false
    stayed = by (cases_Bool (took.page.gone name))
      where
        by : (took.page.gone name ≡ true) ⊎ (took.page.gone name ≡ false) → took.page.gone name ≡ false
        by (inl gone) = absurd (true≢false (sym (took.gone name none gone) ∙ stays))
        by (inr is) = is

    pub shown_same : shown took.next name ≡ shown took.page name
    shown_same = shown_is took.next name stays ∙ (took.lines name none ∙ sym (shown_is took.page name stayed))

    module _ (shows : is_less first_tag (shown took.page name).tag ≡ true) where
      -- it is not beaten, nor forgotten
      parts : (is_beaten v every_page took.seen took.page name ≡ false) × (is_forgotten v every_page took.seen t took.page name ≡ false)
      parts = by (cases_Bool (is_beaten v every_page took.seen took.page name || is_forgotten v every_page took.seen t took.page name))
        where
          by : (is_beaten v every_page took.seen took.page name || is_forgotten v every_page took.seen t took.page name ≡ true) ⊎ (is_beaten v every_page took.seen took.page name || is_forgotten v every_page took.seen t took.page name ≡ false) →
              (is_beaten v every_page took.seen took.page name ≡ false) × (is_forgotten v every_page took.seen t took.page name ≡ false)
          by (inl could) = absurd (true≢false (sym (and_from (is_less first_tag (shown took.page name).tag) (goes_now v every_name every_page took.seen t took.page name) shows could) ∙ took.stays name none stays))
          by (inr is) = or_parts (is_beaten v every_page took.seen took.page name) (is_forgotten v every_page took.seen t took.page name) is

      pub not_beaten : (i : ℕ) → i < v.sessions → IsAtMost (shown (took.seen i) name).tag (took.page.line name).tag
      not_beaten i inside =
          at_most_trans (shown (took.seen i) name).tag (greatest_asked v every_page took.seen name).tag (took.page.line name).tag
          (greatest_least v.sessions (λ z. if every_page z then shown (took.seen z) name else first_copy) i inside) parts.0

  -- a turn of another session: it minds the removal, where that is still shown
  minds_turn : IsRemoval old → (w u : World) (t : ℕ) → t ≢ s → Took v w u t → Has (w.session s).page ⊎ Over (w.session s).page → Over (u.session s).page ⊎ Minds (u.session t).page
  minds_turn removal w u t other took before = by (either_on (w.session s).page (took.seen s) since.from before)
    where
      since : Since v w u s (took.seen s)
      since = took.since s low (λ same. other (sym same))

      minds : Has (took.seen s) → Minds took.next
      minds has = record { asks = asks; shows = shows (cases_Bool (is_of took.name name)) }
        where
          here : shown (took.seen s) name ≡ old
          here = has_shows (took.seen s) has

          asks : old.tag.number ≤ took.next.after s
          asks =
              let is : IsRemoval (shown (took.seen s) name) = subst IsRemoval (sym here) removal in
              let number : (shown (took.seen s) name).tag.number ≡ old.tag.number = ap (λ z. z.tag.number) here in
              let asked = took.removals s name low (λ same. other (sym same)) is in
              omega (arith, number, asked)

          older : (took.page.line name ≡ first_copy) ⊎ ((took.page.line name).tag.session ≡ t) → IsAtMost old.tag (took.page.line name).tag → is_less old.tag (took.page.line name).tag ≡ true
          older (inl first) most = absurd (true≢false (sym removal.0 ∙ subst (λ z. IsAtMost old.tag z.tag) first most))
          older (inr its) most = of (at_most-parts (took.page.line name).tag old.tag most) (since.lines name)
            where
              of : (old.tag.number < (took.page.line name).tag.number) ⊎ (((took.page.line name).tag.number ≡ old.tag.number) × (old.tag.session ≤ (took.page.line name).tag.session)) →
                  ((took.seen s).line name ≡ first_copy) ⊎ (((took.seen s).line name).tag.session ≡ s) → is_less old.tag (took.page.line name).tag ≡ true
              of (inl less) any = less_from old.tag (took.page.line name).tag (inl less)
              of (inr parts) (inl first) = absurd (not_less_self first_tag (subst (λ z. is_less first_tag z.tag ≡ true) (sym has.0 ∙ first) removal.0))
              of (inr parts) (inr session) =
                  let mine : old.tag.session ≡ s = sym (ap (λ z. z.tag.session) has.0) ∙ session in
                  let most = parts.1 in
                  let same = parts.0 in
                  less_from old.tag (took.page.line name).tag (inr (omega (arith, same), omega (arith, mine, its, most, other)))

          kept : (none : is_of took.name name ≡ false) (stays : took.next.gone name ≡ false) → (is_less first_tag (shown took.page name).tag ≡ true) ⊎ (is_less first_tag (shown took.page name).tag ≡ false) → Newer (shown took.next name)
          kept none stays (inr nothing) = subst Newer (sym (shown_same w u t took none stays)) (inl nothing)
          kept none stays (inl some) =
              let most : IsAtMost old.tag (took.page.line name).tag = subst (λ z. IsAtMost z.tag (took.page.line name).tag) here (not_beaten w u t took none stays some s low) in
              inr (subst (λ z. is_less old.tag z.tag ≡ true) (sym (shown_is took.next name stays ∙ took.lines name none)) (older (took.own_lines name) most))

          shows : (is_of took.name name ≡ true) ⊎ (is_of took.name name ≡ false) → Newer (shown took.next name)
          shows (inl is) =
              let new = took.new name is in
              let number : ((took.seen s).line name).tag.number ≡ old.tag.number = ap (λ z. z.tag.number) has.0 in
              let numbers = since.numbers name in
              let high = took.high s low in
              inr (subst (λ z. is_less old.tag z.tag ≡ true) (sym (shown_is took.next name new.1 ∙ new.0)) (less_from old.tag took.line.tag (inl (omega (arith, number, numbers, high)))))
          shows (inr none) = of (cases_Bool (took.next.gone name))
            where
              of : (took.next.gone name ≡ true) ⊎ (took.next.gone name ≡ false) → Newer (shown took.next name)
              of (inl gone) = none_shown took.next gone
              of (inr stays) = kept none stays (cases_Bool (is_less first_tag (shown took.page name).tag))

      by : Has (took.seen s) ⊎ Over (took.seen s) → Over (u.session s).page ⊎ Minds (u.session t).page
      by (inl has) = inr (subst Minds (sym took.carried) (minds has))
      by (inr over) = inl (over_on (took.seen s) (u.session s).page since.to over)

  -- a turn of its own session, where all others mind it: it goes
  over_turn : IsRemoval old → (w u : World) → Took v w u s → Has (w.session s).page ⊎ Over (w.session s).page → ((t : ℕ) → t < v.sessions → t ≢ s → Minds (w.session t).page) → Over (u.session s).page
  over_turn removal w u took before others = subst Over (sym took.carried) (by (cases_Bool (is_of took.name name)) (either_on (w.session s).page took.page took.from before))
    where
      reached : Has took.page ⊎ Over took.page → old.tag.number ≤ (took.page.line name).tag.number
      reached (inl has) = let number : (took.page.line name).tag.number ≡ old.tag.number = ap (λ z. z.tag.number) has.0 in omega (arith, number)
      reached (inr (inl h)) = let number : (took.page.line name).tag.number ≡ old.tag.number = ap (λ z. z.tag.number) h.0 in omega (arith, number)
      reached (inr (inr newer)) = less_number old.tag (took.page.line name).tag newer

      -- where it would stay it is forgotten
      forgotten : Has took.page → (none : is_of took.name name ≡ false) (stays : took.next.gone name ≡ false) → (some : is_less first_tag (shown took.page name).tag ≡ true) → is_forgotten v every_page took.seen s took.page name ≡ true
      forgotten has none stays some = and_from (is_nothing (took.page.line name).bytes) (all_below v.sessions (λ t. eqb t s || is_past every_page took.seen s took.page name t))
          (nothing (took.page.line name).bytes (ap (λ z. z.bytes) has.0 ∙ removal.1))
          (all_true v.sessions (λ t. eqb t s || is_past every_page took.seen s took.page name t) (λ t inside. past t inside (cases_eq t s)))
        where
          nothing : (bytes : List ℕ) → bytes ≡ [] → is_nothing bytes ≡ true
          nothing bytes none = rw none refl

          minded : (t : ℕ) → t < v.sessions → t ≢ s → Minds (took.seen t)
          minded t inside ne = minds_on (w.session t).page (took.seen t) (took.since t inside ne).from (others t inside ne)

          shows : (t : ℕ) → t < v.sessions → Newer (shown (took.seen t) name) → not (is_less first_tag (shown (took.seen t) name).tag) ≡ true
          shows t inside (inl nothing) = ap not nothing
          shows t inside (inr newer) =
              let most : IsAtMost (shown (took.seen t) name).tag old.tag = subst (λ z. IsAtMost (shown (took.seen t) name).tag z.tag) has.0 (not_beaten w u s took none stays some t inside) in
              absurd (true≢false (sym newer ∙ most))

          past : (t : ℕ) → t < v.sessions → (t ≡ s) ⊎ (t ≢ s) → (eqb t s || is_past every_page took.seen s took.page name t) ≡ true
          past t inside (inl same) = or_left (eqb t s) (is_past every_page took.seen s took.page name t) (eq-eqb t s same)
          past t inside (inr ne) =
              let minds = minded t inside ne in
              let asked = minds.asks in
              let number : (took.page.line name).tag.number ≡ old.tag.number = ap (λ z. z.tag.number) has.0 in
              or_right (eqb t s) (is_past every_page took.seen s took.page name t)
              (and_from (not (ltb ((took.seen t).after s) (took.page.line name).tag.number)) (not (is_less first_tag (shown (took.seen t) name).tag))
              (not_below ((took.seen t).after s) (took.page.line name).tag.number (omega (arith, asked, number))) (shows t inside minds.shows))

      goes : Has took.page → (none : is_of took.name name ≡ false) → (took.next.gone name ≡ true) ⊎ (took.next.gone name ≡ false) → Over took.next
      goes has none (inl gone) = inl (took.lines name none ∙ has.0, gone)
      goes has none (inr stays) =
          let some : is_less first_tag (shown took.page name).tag ≡ true = subst (λ z. is_less first_tag z.tag ≡ true) (sym (has_shows took.page has)) removal.0 in
          absurd (true≢false (sym (forgotten has none stays some) ∙ (parts w u s took none stays some).1))

      by : (is_of took.name name ≡ true) ⊎ (is_of took.name name ≡ false) → Has took.page ⊎ Over took.page → Over took.next
      by (inl is) either =
          let new = took.new name is in
          let number = reached either in
          let high = took.own_numbers name in
          inr (subst (λ z. is_less old.tag z.tag ≡ true) (sym new.0) (less_from old.tag took.line.tag (inl (omega (arith, number, high)))))
      by (inr none) (inr (inl h)) = inl (took.lines name none ∙ h.0, took.gone name none h.1)
      by (inr none) (inr (inr newer)) = inr (subst (λ z. is_less old.tag z.tag ≡ true) (sym (took.lines name none)) newer)
      by (inr none) (inl has) = goes has none (cases_Bool (took.next.gone name))

-- ---- a turn, step by step

then_announces : (v : Setting) (x : World) (s more : ℕ) (goes asks : ℕ → Bool) (j : Journal) (change : Change) (looked : ℕ → Bool) (seen : ℕ → Page) → (x.session s).client ≡ Looks j change looked seen → has_seen v looked seen ≡ true →
    ((after_step v x (Chooses s more goes asks)).session s).client ≡ Announces (changed v goes asks seen s j change (new_line s more change (highest v j.page seen))) change.op
then_announces v x s more goes asks j change looked seen is has =
    let next : Journal = changed v goes asks seen s j change (new_line s more change (highest v j.page seen)) in
    let P : Client → Type 0 = λ z. ((tick (chooses_by v x s more goes asks z)).session s).client ≡ Announces next change.op in
    subst P (sym is) (rw has (ap (λ z. z.client) (with_here s (record (x.session s) { client = Announces next change.op }) x s refl)))

then_carries : (v : Setting) (x : World) (s : ℕ) (j : Journal) (op : Option ℕ) → (x.session s).client ≡ Announces j op → ((after_step v x (ClientWrites s true)).session s).client ≡ Carries j op
then_carries v x s j op is =
    let P : Client → Type 0 = λ z. ((tick (writes_by v x s true z)).session s).client ≡ Carries j op in
    subst P (sym is) (ap (λ z. z.client) (with_here s (record (x.session s) { journal = j; journal_pending = []; client = Carries j op }) (with_tag v j j.op x) s refl))

then_page : (v : Setting) (x : World) (s : ℕ) (j : Journal) (op : Option ℕ) → (x.session s).client ≡ Carries j op → ((after_step v x (ClientWrites s true)).session s).page ≡ j.page
then_page v x s j op is =
    let P : Client → Type 0 = λ z. ((tick (writes_by v x s true z)).session s).page ≡ j.page in
    subst P (sym is) (ap (λ z. z.page) (with_here s (record (x.session s) { page = j.page; page_pending = []; client = Knows j }) (with_end op x) s refl))

-- what is so of the journal that a client knows
knows_follows : (v : Setting) (x : World) → Kept v x → (s : ℕ) (client : Client) → (x.session s).client ≡ client → Follows v (x.session s).page (known_by client).page
knows_follows v x kept s client is =
    let own : Lines v x kept.sound.past s (kept.sound.base s) (x.session s) = kept.sound.lines s in
    subst (λ z. Follows v (x.session s).page (known_by z).page) is
    (follows_trans v (x.session s).page (kept.sound.base s).page (known_by (x.session s).client).page (own.paged.past_of.pages.most (x.session s).page own.paged.was).1 own.paged.above.known.rises)

knows_numbers : (v : Setting) (x : World) → Kept v x → (s : ℕ) (client : Client) → (x.session s).client ≡ client → (n : ℕ) → ((known_by client).page.line n).tag.number ≤ (known_by client).page.number
knows_numbers v x kept s client is n =
    let own : Lines v x kept.sound.past s (kept.sound.base s) (x.session s) = kept.sound.lines s in
    subst (λ z. ((known_by z).page.line n).tag.number ≤ (known_by z).page.number) is (own.paged.above.known.gone n).0

knows_lines : (v : Setting) (x : World) → Kept v x → (s : ℕ) (client : Client) → (x.session s).client ≡ client → (n : ℕ) → ((known_by client).page.line n ≡ first_copy) ⊎ (((known_by client).page.line n).tag.session ≡ s)
knows_lines v x kept s client is n =
    let P : Client → Type 0 = λ z. ((known_by z).page.line n ≡ first_copy) ⊎ (((known_by z).page.line n).tag.session ≡ s) in
    subst P is ((kept.counted s).1.journals.known.there.lines n)

-- ---- its choice, from the world in which it has looked

module _ (v : Setting) (w : World) (kept : Kept v w) (s : ℕ) (choice : Choice) where
  kept_chosen : Kept v (when_chosen v w s choice)
  kept_chosen = kept_from v (Chooses s choice.more choice.goes choice.asks ∷ []) w kept

  kept_announcing : Kept v (when_announcing v w s choice)
  kept_announcing = kept_from v choice.announcing (when_chosen v w s choice) kept_chosen

  kept_announced : Kept v (when_announced v w s choice)
  kept_announced = kept_from v (ClientWrites s true ∷ []) (when_announcing v w s choice) kept_announcing

  kept_carrying : Kept v (when_carrying v w s choice)
  kept_carrying = kept_from v choice.carrying (when_announced v w s choice) kept_announced

  kept_carried : Kept v (after_choice v w s (Some choice))
  kept_carried = kept_from v (ClientWrites s true ∷ []) (when_carrying v w s choice) kept_carrying

  follows_carried : (t : ℕ) → Follows v (w.session t).page ((after_choice v w s (Some choice)).session t).page
  follows_carried t =
      let page : World → Page = λ z. (z.session t).page in
      let a : Follows v (page w) (page (when_chosen v w s choice)) = pages_follow v (Chooses s choice.more choice.goes choice.asks ∷ []) w kept t in
      let b : Follows v (page (when_chosen v w s choice)) (page (when_announcing v w s choice)) = pages_follow v choice.announcing (when_chosen v w s choice) kept_chosen t in
      let c : Follows v (page (when_announcing v w s choice)) (page (when_announced v w s choice)) = pages_follow v (ClientWrites s true ∷ []) (when_announcing v w s choice) kept_announcing t in
      let d : Follows v (page (when_announced v w s choice)) (page (when_carrying v w s choice)) = pages_follow v choice.carrying (when_announced v w s choice) kept_announced t in
      let e : Follows v (page (when_carrying v w s choice)) (page (after_choice v w s (Some choice))) = pages_follow v (ClientWrites s true ∷ []) (when_carrying v w s choice) kept_carrying t in
      let ab = follows_trans v (page w) (page (when_chosen v w s choice)) (page (when_announcing v w s choice)) a b in
      let cd = follows_trans v (page (when_announcing v w s choice)) (page (when_announced v w s choice)) (page (when_carrying v w s choice)) c d in
      let abcd = follows_trans v (page w) (page (when_announcing v w s choice)) (page (when_carrying v w s choice)) ab cd in
      follows_trans v (page w) (page (when_carrying v w s choice)) (page (after_choice v w s (Some choice))) abcd e

kept_choice : (v : Setting) (w : World) → Kept v w → (s : ℕ) (choice : Option Choice) → Kept v (after_choice v w s choice)
kept_choice v w kept s None = kept
kept_choice v w kept s (Some choice) = kept_carried v w kept s choice

follows_choice : (v : Setting) (w : World) → Kept v w → (s : ℕ) (choice : Option Choice) (t : ℕ) → Follows v (w.session t).page ((after_choice v w s choice).session t).page
follows_choice v w kept s None t = follows_refl v (w.session t).page
follows_choice v w kept s (Some choice) t = follows_carried v w kept s choice t

-- the page that is left
record Left (v : Setting) (s : ℕ) (page : Page) (name : Option ℕ) (line : StoredCopy) (seen : ℕ → Page) (now : Page) : Type 0 where
  next : Page
  carried : now ≡ next
  new : (n : ℕ) → is_of name n ≡ true → (next.line n ≡ line) × (next.gone n ≡ false)
  lines : (n : ℕ) → is_of name n ≡ false → next.line n ≡ page.line n
  gone : (n : ℕ) → is_of name n ≡ false → page.gone n ≡ true → next.gone n ≡ true
  stays : (n : ℕ) → is_of name n ≡ false → next.gone n ≡ false → can_go v seen s page n ≡ false
  removals : AsksForAll v s seen next.after

-- the name that it changed; none where it changed nothing
abbrev pub name_changed : Change → Option Choice → Option ℕ
name_changed change None = None
name_changed change (Some choice) = change.name

more_of : Option Choice → ℕ
more_of None = 0
more_of (Some choice) = choice.more

left : (v : Setting) (w : World) (s : ℕ) (journal : Journal) (change : Change) (looked : ℕ → Bool) (seen : ℕ → Page) (choice : Option Choice) → (w.session s).client ≡ Looks journal change looked seen → has_seen v looked seen ≡ true → Does v w s journal change seen choice →
    Left v s journal.page (name_changed change choice) (new_line s (more_of choice) change (highest v journal.page seen)) seen ((after_choice v w s choice).session s).page
unfolding more_of
left v w s journal change looked seen None is has tidy = record {
  next = journal.page;
  carried = tidy.carried;
  new = λ n is. absurd (true≢false (sym is));
  lines = λ n none. refl;
  gone = λ n none gone. gone;
  stays = λ n none stays. tidy.lines n;
  removals = tidy.removals;
}
left v w s journal change looked seen (Some choice) is has does = record {
  next = next.page;
  carried = then_page v (when_carrying v w s choice) s next change.op (does.carries ∙ then_carries v (when_announcing v w s choice) s next change.op (does.announces ∙ then_announces v w s choice.more choice.goes choice.asks journal change looked seen is has));
  new = λ n is. (rw is refl, rw is refl);
  lines = λ n none. rw none refl;
  gone = λ n none gone. gone_is n none ∙ or_left (journal.page.gone n) (goes_now v choice.goes choice.asks seen s journal.page n) gone;
  stays = λ n none still. stays n none (or_parts (journal.page.gone n) (goes_now v choice.goes choice.asks seen s journal.page n) (sym (gone_is n none) ∙ still)).1 (cases_Bool (can_go v seen s journal.page n));
  removals = does.removals;
}
  where
    next : Journal
    next = changed v choice.goes choice.asks seen s journal change (new_line s choice.more change (highest v journal.page seen))

    gone_is : (n : ℕ) → is_of change.name n ≡ false → next.page.gone n ≡ (journal.page.gone n || goes_now v choice.goes choice.asks seen s journal.page n)
    gone_is n none = rw none refl

    stays : (n : ℕ) → is_of change.name n ≡ false → goes_now v choice.goes choice.asks seen s journal.page n ≡ false → (can_go v seen s journal.page n ≡ true) ⊎ (can_go v seen s journal.page n ≡ false) → can_go v seen s journal.page n ≡ false
    stays n none not (inl can) = absurd (true≢false (sym (does.lines n none can) ∙ not))
    stays n none not (inr is) = is

module _ (v : Setting) (w : World) (kept : Kept v w) (turn : Turn) where
  kept_begun : Kept v (when_begun v w turn)
  kept_begun = kept_from v turn.before w kept

  kept_looked : Kept v (when_looked v w turn)
  kept_looked = kept_from v turn.looking (when_begun v w turn) kept_begun

  pub kept_turn : Kept v (after_turn v w turn)
  kept_turn = kept_choice v (when_looked v w turn) kept_looked turn.session turn.choice

  -- pages follow, until its client has looked, and from then on
  follows_looked : (t : ℕ) → Follows v (w.session t).page ((when_looked v w turn).session t).page
  follows_looked t = follows_trans v (w.session t).page ((when_begun v w turn).session t).page ((when_looked v w turn).session t).page (pages_follow v turn.before w kept t) (pages_follow v turn.looking (when_begun v w turn) kept_begun t)

  follows_rest : (t : ℕ) → Follows v ((when_looked v w turn).session t).page ((after_turn v w turn).session t).page
  follows_rest t = follows_choice v (when_looked v w turn) kept_looked turn.session turn.choice t

  follows_turn : (t : ℕ) → Follows v (w.session t).page ((after_turn v w turn).session t).page
  follows_turn t = follows_trans v (w.session t).page ((when_looked v w turn).session t).page ((after_turn v w turn).session t).page (follows_looked t) (follows_rest t)

  pub took : IsTurn v w turn → Took v w (after_turn v w turn) turn.session
  took is = record {
    page = is.journal.page;
    name = name_changed is.change turn.choice;
    line = line;
    seen = is.seen;
    from = follows_trans v (w.session turn.session).page ((when_looked v w turn).session turn.session).page is.journal.page (follows_looked turn.session) (knows_follows v (when_looked v w turn) kept_looked turn.session client is.looks);
    since = since;
    own_lines = knows_lines v (when_looked v w turn) kept_looked turn.session client is.looks;
    own_numbers = λ n. (let low = knows_numbers v (when_looked v w turn) kept_looked turn.session client is.looks n in let high = own_high in omega (arith, low, high));
    high = λ i inside. (let low = number_least v.sessions (λ z. (is.seen z).number) i inside in let high = others_high in omega (arith, low, high));
    next = leaves.next;
    carried = leaves.carried;
    new = leaves.new;
    lines = leaves.lines;
    gone = leaves.gone;
    stays = leaves.stays;
    removals = leaves.removals;
  }
    where
      client : Client
      client = Looks is.journal is.change is.looked is.seen

      line : StoredCopy
      line = new_line turn.session (more_of turn.choice) is.change (highest v is.journal.page is.seen)

      leaves : Left v turn.session is.journal.page (name_changed is.change turn.choice) line is.seen ((after_turn v w turn).session turn.session).page
      leaves = left v (when_looked v w turn) turn.session is.journal is.change is.looked is.seen turn.choice is.looks is.has is.does

      own_high : is.journal.page.number < line.tag.number
      own_high = omega arith

      others_high : greatest_number v.sessions (λ z. (is.seen z).number) < line.tag.number
      others_high = omega arith

      parts : (all_below v.sessions is.looked ≡ true) × (is_closed v is.seen ≡ true)
      parts = and_parts (all_below v.sessions is.looked) (is_closed v is.seen) is.has

      since : (i : ℕ) → i < v.sessions → i ≢ turn.session → Since v w (after_turn v w turn) i (is.seen i)
      since i inside ne =
          let all : SeenSince v (when_begun v w turn) (when_looked v w turn) turn.session client =
          subst (λ z. SeenSince v (when_begun v w turn) (when_looked v w turn) turn.session z) is.looks (seen_since v (when_begun v w turn) turn.session is.known turn.looking kept_begun is.idle) in
          let here : Since v (when_begun v w turn) (when_looked v w turn) i (is.seen i) = all i (all_at v.sessions is.looked i parts.0 inside) ne in
          since_on v w (when_looked v w turn) (after_turn v w turn) i (is.seen i) (follows_rest i) (since_back v w (when_begun v w turn) (when_looked v w turn) i (is.seen i) (pages_follow v turn.before w kept i) here)

  pub took_name : (is : IsTurn v w turn) → (took is).name ≡ name_changed is.change turn.choice
  unfolding took
  took_name is = refl

-- ---- rounds

pub kept_turns : (v : Setting) (turns : List Turn) (w : World) → Kept v w → Kept v (after_turns v w turns)
kept_turns v [] w kept = kept
kept_turns v (turn ∷ turns) w kept = kept_turns v turns (after_turn v w turn) (kept_turn v w kept turn)

pub follows_turns : (v : Setting) (turns : List Turn) (w : World) → Kept v w → (t : ℕ) → Follows v (w.session t).page ((after_turns v w turns).session t).page
follows_turns v [] w kept t = follows_refl v (w.session t).page
follows_turns v (turn ∷ turns) w kept t =
    let next : World = after_turn v w turn in
    follows_trans v (w.session t).page (next.session t).page ((after_turns v next turns).session t).page (follows_turn v w kept turn t) (follows_turns v turns next (kept_turn v w kept turn) t)

pub turns_append : (v : Setting) (xs ys : List Turn) (w : World) → after_turns v w (xs ++ ys) ≡ after_turns v (after_turns v w xs) ys
turns_append v [] ys w = refl
turns_append v (x ∷ xs) ys w = turns_append v xs ys (after_turn v w x)

pub turns_split : (v : Setting) (xs ys : List Turn) (w : World) → AreTurns v w (xs ++ ys) → AreTurns v w xs × AreTurns v (after_turns v w xs) ys
turns_split v [] ys w are = (tt, are)
turns_split v (x ∷ xs) ys w are = let rest = turns_split v xs ys (after_turn v w x) are.1 in ((are.0, rest.0), rest.1)

-- one of the turns is that of the session
abbrev pub Takes : ℕ → List Turn → Type 0
Takes t [] = ⊥
Takes t (turn ∷ turns) = (turn.session ≡ t) ⊎ Takes t turns

takes_from : (t : ℕ) (turns : List Turn) → Contains (map (λ turn. turn.session) turns) t → Takes t turns
takes_from t [] within = let low = within.1 in absurd (omega (arith, low))
takes_from t (turn ∷ turns) within = by (takes_from t turns) (Contains-append_cases (turn.session ∷ []) (map (λ z. z.session) turns) t within)
  where
    first : Contains [] t ⊎ (turn.session ≡ t) → Takes t (turn ∷ turns)
    first (inl none) = let low = none.1 in absurd (omega (arith, low))
    first (inr is) = inl is

    by : (Contains (map (λ z. z.session) turns) t → Takes t turns) → Contains (turn.session ∷ []) t ⊎ Contains (map (λ z. z.session) turns) t → Takes t (turn ∷ turns)
    by rest (inl here) = first (Contains-push_cases [] turn.session t here)
    by rest (inr later) = inr (rest later)

module _ (v : Setting) (s name : ℕ) (low : s < v.sessions) (old : StoredCopy) (removal : IsRemoval old) where
  abbrev Status : Page → Type 0
  Status page = Has v s name low old page ⊎ Over v s name low old page

  status_turn : (w : World) → Kept v w → (turn : Turn) → Status (w.session s).page → Status ((after_turn v w turn).session s).page
  status_turn w kept turn = either_on v s name low old (w.session s).page ((after_turn v w turn).session s).page (follows_turn v w kept turn s)

  over_turns : (w : World) → Kept v w → (turns : List Turn) → Over v s name low old (w.session s).page → Over v s name low old ((after_turns v w turns).session s).page
  over_turns w kept turns = over_on v s name low old (w.session s).page ((after_turns v w turns).session s).page (follows_turns v turns w kept s)

  -- in the first round each other session says that it was made beside the removal
  first_round : (turns : List Turn) (w : World) → Kept v w → Status (w.session s).page → AreTurns v w turns → (t : ℕ) → t ≢ s → Takes t turns →
      Over v s name low old ((after_turns v w turns).session s).page ⊎ Minds v s name low old ((after_turns v w turns).session t).page
  first_round [] w kept status are t other none = absurd none
  first_round (turn ∷ turns) w kept status are t other (inl is) = by (minds_turn v s name low old removal w next t other (subst (λ z. Took v w next z) is (took v w kept turn are.0)) status)
    where
      next : World
      next = after_turn v w turn

      by : Over v s name low old ((after_turn v w turn).session s).page ⊎ Minds v s name low old ((after_turn v w turn).session t).page →
          Over v s name low old ((after_turns v (after_turn v w turn) turns).session s).page ⊎ Minds v s name low old ((after_turns v (after_turn v w turn) turns).session t).page
      by (inl over) = inl (over_turns (after_turn v w turn) (kept_turn v w kept turn) turns over)
      by (inr minds) = inr (minds_on v s name low old ((after_turn v w turn).session t).page ((after_turns v (after_turn v w turn) turns).session t).page (follows_turns v turns (after_turn v w turn) (kept_turn v w kept turn) t) minds)
  first_round (turn ∷ turns) w kept status are t other (inr later) = first_round turns (after_turn v w turn) (kept_turn v w kept turn) (status_turn w kept turn status) are.1 t other later

  -- in the second round it goes
  second_round : (turns : List Turn) (w : World) → Kept v w → Status (w.session s).page → AreTurns v w turns → ((t : ℕ) → t < v.sessions → t ≢ s → Minds v s name low old (w.session t).page) → Takes s turns →
      Over v s name low old ((after_turns v w turns).session s).page
  second_round [] w kept status are minds none = absurd none
  second_round (turn ∷ turns) w kept status are minds (inl is) =
      over_turns (after_turn v w turn) (kept_turn v w kept turn) turns
      (over_turn v s name low old removal w (after_turn v w turn) (subst (λ z. Took v w (after_turn v w turn) z) is (took v w kept turn are.0)) status minds)
  second_round (turn ∷ turns) w kept status are minds (inr later) =
      second_round turns (after_turn v w turn) (kept_turn v w kept turn) (status_turn w kept turn status) are.1
      (λ t inside ne. minds_on v s name low old (w.session t).page ((after_turn v w turn).session t).page (follows_turn v w kept turn t) (minds t inside ne)) later

  pub two_rounds : (w : World) → Kept v w → (first second : List Turn) → ((t : ℕ) → t < v.sessions → t ≢ s → Takes t first) → Takes s second → AreTurns v w (first ++ second) → Has v s name low old (w.session s).page →
      Over v s name low old ((after_turns v w (first ++ second)).session s).page
  two_rounds w kept first second round again are has = subst (λ z. Over v s name low old (z.session s).page) (sym (turns_append v first second w)) (by status)
    where
      kept_mid : Kept v (after_turns v w first)
      kept_mid = kept_turns v first w kept

      parts : AreTurns v w first × AreTurns v (after_turns v w first) second
      parts = turns_split v first second w are

      status : Status ((after_turns v w first).session s).page
      status = either_on v s name low old (w.session s).page ((after_turns v w first).session s).page (follows_turns v first w kept s) (inl has)

      minds : Has v s name low old ((after_turns v w first).session s).page → (t : ℕ) → t < v.sessions → t ≢ s → Minds v s name low old ((after_turns v w first).session t).page
      minds still t inside ne = of (first_round first w kept (inl has) parts.0 t ne (round t inside ne))
        where
          of : Over v s name low old ((after_turns v w first).session s).page ⊎ Minds v s name low old ((after_turns v w first).session t).page → Minds v s name low old ((after_turns v w first).session t).page
          of (inl over) = absurd (not_both v s name low old ((after_turns v w first).session s).page still over)
          of (inr is) = is

      by : Status ((after_turns v w first).session s).page → Over v s name low old ((after_turns v (after_turns v w first) second).session s).page
      by (inl still) = second_round second (after_turns v w first) kept_mid (inl still) parts.1 (minds still) again
      by (inr over) = over_turns (after_turns v w first) kept_mid second over

pub all_sweeps_forget : AllSweepsForget
all_sweeps_forget v steps first second later round again are s low name removal = of (cases_Bool (page.gone name))
  where
    page : Page
    page = ((world_after v steps).session s).page

    swept : World
    swept = after_turns v (world_after v steps) (first ++ second)

    kept : Kept v (world_after v steps)
    kept = kept_after v steps

    kept_swept : Kept v (after_turns v (world_after v steps) (first ++ second))
    kept_swept = kept_turns v (first ++ second) (world_after v steps) kept

    of : (page.gone name ≡ true) ⊎ (page.gone name ≡ false) → (shown ((after_steps v swept later).session s).page name ≡ first_copy) ⊎ (is_less (shown page name).tag (shown ((after_steps v swept later).session s).page name).tag ≡ true)
    of (inl gone) = absurd (not_less_self first_tag (subst (λ z. is_less first_tag z.tag ≡ true) (gone_shows page name gone) removal.0))
    of (inr stays) =
        let has : Has v s name low (shown page name) page = (sym (shown_is page name stays), stays) in
        let over = two_rounds v s name low (shown page name) removal (world_after v steps) kept first second (λ t inside ne. takes_from t first (round t inside)) (takes_from s second (again s low)) are has in
        over_shows v s name low (shown page name) ((after_steps v swept later).session s).page
        (over_on v s name low (shown page name) (swept.session s).page ((after_steps v swept later).session s).page (pages_follow v later swept kept_swept s) over)
