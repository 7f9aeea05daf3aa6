-- What a session's step does to what is so of its lines, where no operation is told of.
use Rattle.std.proofs.Common.{◌≡◌, ◌≢◌, ◌⊎◌, ℕ, ◌<◌, ◌≤◌, Bool, true, false, List, [], ◌∷◌, ◌++◌, refl, sym, ap, ◌∙◌, subst, inl, inr, Option, Some, None, arith}
use Rattle.std.specs.Prelude.{slice_get, if◌then◌else◌}
use Rattle.std.proofs.lemmas.Bool.{cases_eq, ne_eqb, eq-eqb, true≢false, and_parts}
use Rattle.gq_tag.specs.declared.Tag.{Tag}
use Rattle.gq_tag.specs.declared.StoredCopy.{StoredCopy}
use Rattle.gq_tag.specs.Tag.{first_tag, is_less}
use Rattle.gq_names.specs.Names.{Setting, Page, Journal, Change, Client, Knows, Looks, Announces, Session, World, behind, highest, new_line, is_of, changed, all_below, version_told, greatest_line, no_page, none_seen, and_page, and_seen, greatest_shown, is_closed, has_seen}
use Rattle.gq_tag.proofs.Order.{IsAtMost, at_most_refl, at_most_trans, at_most_less, less_from}
use Rattle.gq_names.proofs.Lists.{risen_at_most, first_least, each_at, each_behind, each_push, all_at, greatest_least, number_least}
use Rattle.gq_names.proofs.Views.{Among, Gone, Follows, follows_trans, follows_rises, closed_at, at_most_shown, changed_follows, changed_gone}
use Rattle.gq_names.proofs.Pages.{known_by, at_least, Minds, Above, PastOf, paged_client, paged_journal_late, paged_page_late, paged_asked, paged_carried, paged_carries}
use Rattle.gq_names.proofs.Standing.{Ended, Open, line_at, view, Reached, Seen, LookedAt, Lined, LooksFor, LooksWell, HasOp, Acts, Lines}
use Rattle.gq_names.proofs.GoingOn.{reached_on}

-- ---- looking at one page more

and_seen_here : (t : ℕ) (page : Page) (seen : ℕ → Page) (s : ℕ) → s ≡ t → and_seen t page seen s ≡ page
and_seen_here t page seen s same = rw (eq-eqb s t same) refl

and_seen_away : (t : ℕ) (page : Page) (seen : ℕ → Page) (s : ℕ) → s ≢ t → and_seen t page seen s ≡ seen s
and_seen_away t page seen s ne = rw (ne_eqb s t ne) refl

and_page_here : (t : ℕ) (looked : ℕ → Bool) (s : ℕ) → s ≡ t → and_page t looked s ≡ true
and_page_here t looked s same = rw (eq-eqb s t same) refl

and_page_away : (t : ℕ) (looked : ℕ → Bool) (s : ℕ) → s ≢ t → and_page t looked s ≡ looked s
and_page_away t looked s ne = rw (ne_eqb s t ne) refl

pub view_seen : (v : Setting) (w : World) (looked : ℕ → Bool) (seen : ℕ → Page) (t s : ℕ) → (looked t ≡ true → IsAtMost ((seen t).line v.name).tag (line_at v w t).tag) →
    IsAtMost (view v w looked seen s).tag (view v w (and_page t looked) (and_seen t (w.session t).page seen) s).tag
view_seen v w looked seen t s still = by (cases_eq s t)
  where
    here : (b : Bool) → looked s ≡ b → s ≡ t → IsAtMost (if b then (seen s).line v.name else line_at v w s).tag (line_at v w t).tag
    here true e same = let P : ℕ → Type 0 = λ z. IsAtMost ((seen z).line v.name).tag (line_at v w t).tag in subst P (sym same) (still (sym (ap looked same) ∙ e))
    here false e same = let P : ℕ → Type 0 = λ z. IsAtMost (line_at v w z).tag (line_at v w t).tag in subst P (sym same) (at_most_refl (line_at v w t).tag)

    by : (s ≡ t) ⊎ (s ≢ t) → IsAtMost (view v w looked seen s).tag (view v w (and_page t looked) (and_seen t (w.session t).page seen) s).tag
    by (inl same) = rw (eq-eqb s t same) (here (looked s) refl same)
    by (inr ne) = rw (ne_eqb s t ne) (at_most_refl (view v w looked seen s).tag)

pub seen_more : (v : Setting) (w : World) (begin : ℕ) (looked : ℕ → Bool) (seen : ℕ → Page) (t : ℕ) → (looked t ≡ true → IsAtMost ((seen t).line v.name).tag (line_at v w t).tag) → Seen v w begin looked seen →
    Seen v w begin (and_page t looked) (and_seen t (w.session t).page seen)
seen_more v w begin looked seen t still all e tag ended low = reached_on v (view v w looked seen) (view v w (and_page t looked) (and_seen t (w.session t).page seen)) tag (λ s. view_seen v w looked seen t s still) (all e tag ended low)

looked_as : (v : Setting) (w : World) (past : ℕ → List Page) (seen more : ℕ → Page) (t : ℕ) → more t ≡ seen t → LookedAt v w past seen t → LookedAt v w past more t
looked_as v w past seen more t same at = record {
  was = let P : Page → Type 0 = λ z. Among z (past t) in subst P (sym same) at.was;
  still = let P : Page → Type 0 = λ z. IsAtMost (z.line v.name).tag (line_at v w t).tag in subst P (sym same) at.still;
}

-- of each page that was looked at, or of this one
pub looked_more : (v : Setting) (w : World) (past : ℕ → List Page) (looked : ℕ → Bool) (seen : ℕ → Page) (t s : ℕ) → Among (w.session t).page (past t) → (looked s ≡ true → LookedAt v w past seen s) →
    and_page t looked s ≡ true → LookedAt v w past (and_seen t (w.session t).page seen) s
looked_more v w past looked seen t s among before did = by (cases_eq s t)
  where
    by : (s ≡ t) ⊎ (s ≢ t) → LookedAt v w past (and_seen t (w.session t).page seen) s
    by (inl same) = subst (λ z. LookedAt v w past (and_seen t (w.session t).page seen) z) (sym same) (record {
      was = let P : Page → Type 0 = λ z. Among z (past t) in subst P (sym (and_seen_here t (w.session t).page seen t refl)) among;
      still = let P : Page → Type 0 = λ z. IsAtMost (z.line v.name).tag (line_at v w t).tag in subst P (sym (and_seen_here t (w.session t).page seen t refl)) (at_most_refl (line_at v w t).tag);
    })
    by (inr ne) = looked_as v w past seen (and_seen t (w.session t).page seen) s (and_seen_away t (w.session t).page seen s ne) (before (sym (and_page_away t looked s ne) ∙ did))

-- ---- who has looked at all pages

-- each page that is seen is one that its session had, or what its client's journal says
pub record Whole (v : Setting) (past : ℕ → List Page) (seen : ℕ → Page) : Type 0 where
  pub gone : (t : ℕ) → t < v.sessions → Gone v past t (seen t)
  pub over : (t : ℕ) (d : Page) → t < v.sessions → Among d (past t) → d.number ≤ (seen t).number → Follows v d (seen t)

-- where something is shown
pub whole_at : (v : Setting) (past : ℕ → List Page) (seen : ℕ → Page) (name : ℕ) → Whole v past seen → is_closed v seen ≡ true → is_less first_tag (greatest_shown v seen name).tag ≡ true → (s : ℕ) → s < v.sessions → IsAtMost ((seen s).line name).tag (greatest_shown v seen name).tag
whole_at v past seen name whole closed some s low = at_most_shown v past seen name whole.gone whole.over closed some s low

-- he has seen what ended before he began: one of the pages that he saw has its line, or a greater one
pub seen_at : (v : Setting) (w : World) (begin : ℕ) (looked : ℕ → Bool) (seen : ℕ → Page) → has_seen v looked seen ≡ true → Seen v w begin looked seen →
    (e : ℕ) (t : Tag) → Ended w e t → e < begin → (t ≡ first_tag) ⊎ ((s : ℕ) × (s < v.sessions) × IsAtMost t ((seen s).line v.name).tag)
seen_at v w begin looked seen has all e t ended low = by (all e t ended low)
  where
    by : Reached v (view v w looked seen) t → (t ≡ first_tag) ⊎ ((s : ℕ) × (s < v.sessions) × IsAtMost t ((seen s).line v.name).tag)
    by (inl first) = inl first
    by (inr r) =
        let parts = and_parts (all_below v.sessions looked) (is_closed v seen) has in
        let here : looked r.session ≡ true = all_at v.sessions looked r.session parts.0 r.low in
        inr (r.session, r.low, rw here at r.most)

-- so the version that is told is no less
pub seen_all : (v : Setting) (w : World) (past : ℕ → List Page) (begin : ℕ) (looked : ℕ → Bool) (seen : ℕ → Page) → Whole v past seen → has_seen v looked seen ≡ true → Seen v w begin looked seen →
    (e : ℕ) (t : Tag) → Ended w e t → e < begin → IsAtMost t (version_told v seen)
seen_all v w past begin looked seen whole has all e t ended low = by (is_less first_tag (greatest_shown v seen v.name).tag) refl (seen_at v w begin looked seen has all e t ended low)
  where
    by : (b : Bool) → is_less first_tag (greatest_shown v seen v.name).tag ≡ b → (t ≡ first_tag) ⊎ ((s : ℕ) × (s < v.sessions) × IsAtMost t ((seen s).line v.name).tag) → IsAtMost t (if b then (greatest_shown v seen v.name).tag else (greatest_line v seen v.name).tag)
    by true some (inl first) = subst (λ z. IsAtMost z (greatest_shown v seen v.name).tag) (sym first) (first_least (greatest_shown v seen v.name).tag)
    by false none (inl first) = subst (λ z. IsAtMost z (greatest_line v seen v.name).tag) (sym first) (first_least (greatest_line v seen v.name).tag)
    by true some (inr (s, high, most)) =
        at_most_trans t ((seen s).line v.name).tag (greatest_shown v seen v.name).tag most (whole_at v past seen v.name whole (and_parts (all_below v.sessions looked) (is_closed v seen) has).1 some s high)
    by false none (inr (s, high, most)) = at_most_trans t ((seen s).line v.name).tag (greatest_line v seen v.name).tag most (greatest_least v.sessions (λ z. (seen z).line v.name) s high)

-- ---- journals

pub lined_as : (v : Setting) (w : World) (s : ℕ) (base x y : Journal) → y.op ≡ x.op → y.page.line v.name ≡ x.page.line v.name → Lined v w s base x → Lined v w s base y
lined_as v w s base x y ops lines (inl kept) = inl (record { op = ops ∙ kept.op; line = lines ∙ kept.line })
lined_as v w s base x y ops lines (inr f) = inr (record {
  op = f.op;
  is = ops ∙ f.is;
  still = subst (λ z. Open w s f.op z.bytes) (sym lines) f.still;
  more = subst (λ z. is_less (base.page.line v.name).tag z.tag ≡ true) (sym lines) f.more;
  own = ap (λ z. z.tag.session) lines ∙ f.own;
  later = λ e t ended low. subst (λ z. is_less t z.tag ≡ true) (sym lines) (f.later e t ended low);
})

pub lined_self : (v : Setting) (w : World) (s : ℕ) (j : Journal) → Lined v w s j j
lined_self v w s j = inl (record { op = refl; line = refl })

-- the name that a change is of, if it is of one
not_of : (name : Option ℕ) (n : ℕ) → name ≢ Some n → is_of name n ≡ false
not_of None n other = refl
not_of (Some name) n other = ne_eqb n name (λ same. other (ap Some (sym same)))

its_of : (name : Option ℕ) (n : ℕ) → name ≡ Some n → is_of name n ≡ true
its_of name n same = rw same (eq-eqb n n refl)

-- a version is above the numbers of pages, and so above their lines
less_new : (s more : ℕ) (change : Change) (high : ℕ) (t : Tag) → t.number ≤ high → is_less t (new_line s more change high).tag ≡ true
less_new s more change high t low = less_from t (new_line s more change high).tag (inl (omega (arith, low)))

module _ (v : Setting) (w : World) (past : ℕ → List Page) (s : ℕ) (base : Journal) (x : Session) (lines : Lines v w past s base x) where
  -- the client is another one
  pub lines_client : (client : Client) → Above v past s base (known_by client) → Minds base client → Lined v w s base (known_by client) → Acts v w past s client → Lines v w past s base (record x { client = client })
  lines_client client up minds lined acts = record {
    paged = paged_client v past s base x client lines.paged up minds;
    lined = record { now = lines.lined.now; pending = lines.lined.pending; known = lined };
    based = lines.based;
    sourced = lines.sourced;
    acts = acts;
  }

  pub knows : (client : Client) → x.client ≡ client → Above v past s base (known_by client)
  knows client is = let P : Client → Type 0 = λ z. Above v past s base (known_by z) in subst P is lines.paged.above.known

  pub minding : (client : Client) → x.client ≡ client → Minds base client
  minding client is = let P : Client → Type 0 = λ z. Minds base z in subst P is lines.paged.minds

  pub knows_line : (client : Client) → x.client ≡ client → Lined v w s base (known_by client)
  knows_line client is = let P : Client → Type 0 = λ z. Lined v w s base (known_by z) in subst P is lines.lined.known

  pub acting : (client : Client) → x.client ≡ client → Acts v w past s client
  acting client is = let P : Client → Type 0 = λ z. Acts v w past s z in subst P is lines.acts

  pub lines_enters : Lines v w past s base (record x { client = Knows x.journal })
  lines_enters = lines_client (Knows x.journal) lines.paged.above.now tt lines.lined.now tt

  pub lines_journal_late : (place : ℕ) (j : Journal) → slice_get x.journal_pending place ≡ Some j → Lines v w past s base (record x { journal = j; journal_pending = behind x.journal_pending place })
  lines_journal_late place j at = record {
    paged = paged_journal_late v past s base x place j lines.paged at;
    lined = record {
      now = each_at (Lined v w s base) x.journal_pending place j lines.lined.pending at;
      pending = each_behind (Lined v w s base) x.journal_pending place lines.lined.pending;
      known = lines.lined.known;
    };
    based = lines.based;
    sourced = lines.sourced;
    acts = lines.acts;
  }

  pub lines_page_late : (place : ℕ) (p : Page) → slice_get x.page_pending place ≡ Some p → Lines v w past s base (record x { page = p; page_pending = behind x.page_pending place })
  lines_page_late place p at = record {
    paged = paged_page_late v past s base x place p lines.paged at;
    lined = record { now = lines.lined.now; pending = lines.lined.pending; known = lines.lined.known };
    based = lines.based;
    sourced = lines.sourced;
    acts = lines.acts;
  }

  -- ---- a put

  -- it begins with what the journal says
  pub looks_first : (j : Journal) (change : Change) → s < v.sessions → LooksFor v w s change (and_page s no_page) (and_seen s j.page none_seen) change.op → LooksWell v w past s j change (and_page s no_page) (and_seen s j.page none_seen)
  looks_first j change low for = record {
    within = low;
    own = and_seen_here s j.page none_seen s refl;
    pages = λ t did other. absurd (true≢false (sym did ∙ and_page_away s no_page t other));
    for = for;
  }

  pub lines_begins_other : (j : Journal) (change : Change) → s < v.sessions → x.client ≡ Knows j → change.op ≡ None → change.name ≢ Some v.name → Lines v w past s base (record x { client = Looks j change (and_page s no_page) (and_seen s j.page none_seen) })
  lines_begins_other j change low is none other =
      lines_client (Looks j change (and_page s no_page) (and_seen s j.page none_seen)) (knows (Knows j) is) tt (knows_line (Knows j) is)
      (looks_first j change low (let P : Option ℕ → Type 0 = λ z. LooksFor v w s change (and_page s no_page) (and_seen s j.page none_seen) z in subst P (sym none) other))

  pub lines_repeats : (j : Journal) → x.client ≡ Knows j → Lines v w past s base (record x { client = Announces j None })
  lines_repeats j is = lines_client (Announces j None) (knows (Knows j) is) (knows (Knows j) is).number (knows_line (Knows j) is) (λ k some. absurd (let bad : None ≡ Some k = some in cc))

  pub lines_sees : (t : ℕ) (j : Journal) (change : Change) (looked : ℕ → Bool) (seen : ℕ → Page) → x.client ≡ Looks j change looked seen → t ≢ s → Among (w.session t).page (past t) →
      Lines v w past s base (record x { client = Looks j change (and_page t looked) (and_seen t (w.session t).page seen) })
  lines_sees t j change looked seen is other among =
      lines_client (Looks j change (and_page t looked) (and_seen t (w.session t).page seen)) (knows client is) tt (knows_line client is) (record {
        within = old.within;
        own = and_seen_away t (w.session t).page seen s (λ same. other (sym same)) ∙ old.own;
        pages = λ i did ne. looked_more v w past looked seen t i among (λ before. old.pages i before ne) did;
        for = looks change.op old.for;
      })
    where
      client : Client
      client = Looks j change looked seen

      old : LooksWell v w past s j change looked seen
      old = acting client is

      looks : (op : Option ℕ) → LooksFor v w s change looked seen op → LooksFor v w s change (and_page t looked) (and_seen t (w.session t).page seen) op
      looks None none = none
      looks (Some k) looking = record {
        name = looking.name;
        still = looking.still;
        all = seen_more v w (w.op k).begin looked seen t (λ did. (old.pages t did other).still) looking.all;
      }

  module _ (bases : ℕ → Journal) (others : (t : ℕ) → PastOf v past t (bases t)) (j : Journal) (change : Change) (looked : ℕ → Bool) (seen : ℕ → Page) (is : x.client ≡ Looks j change looked seen) (has : has_seen v looked seen ≡ true) where
    abbrev looker : Client
    looker = Looks j change looked seen

    well : LooksWell v w past s j change looked seen
    well = acting (Looks j change looked seen) is

    mine : Above v past s base j
    mine = knows (Looks j change looked seen) is

    closed : is_closed v seen ≡ true
    closed = (and_parts (all_below v.sessions looked) (is_closed v seen) has).1

    did : (t : ℕ) → t < v.sessions → looked t ≡ true
    did t low = all_at v.sessions looked t (and_parts (all_below v.sessions looked) (is_closed v seen) has).0 low

    pub was_seen : (t : ℕ) → t < v.sessions → t ≢ s → Among (seen t) (past t)
    was_seen t low ne = (well.pages t (did t low) ne).was

    pub whole : Whole v past seen
    whole = record { gone = λ t low. gone t low (cases_eq t s); over = λ t d low among below. over t d low among below (cases_eq t s) }
      where
        gone : (t : ℕ) → t < v.sessions → (t ≡ s) ⊎ (t ≢ s) → Gone v past t (seen t)
        gone t low (inl same) = let P : Page → Type 0 = λ z. Gone v past s z in subst (λ n. Gone v past n (seen t)) (sym same) (subst P (sym (ap seen same ∙ well.own)) mine.gone)
        gone t low (inr ne) = (others t).gone (seen t) (was_seen t low ne)

        over : (t : ℕ) (d : Page) → t < v.sessions → Among d (past t) → d.number ≤ (seen t).number → (t ≡ s) ⊎ (t ≢ s) → Follows v d (seen t)
        over t d low among below (inl same) =
            let P : Page → Type 0 = λ z. Follows v d z in
            let Q : ℕ → Type 0 = λ z. Among d (past z) in
            subst P (sym (ap seen same ∙ well.own)) (follows_trans v d base.page j.page (lines.paged.past_of.pages.most d (subst Q same among)).1 mine.rises)
        over t d low among below (inr ne) = (others t).pages.rises d (seen t) among (was_seen t low ne) below

    abbrev high : ℕ
    high = highest v j.page seen

    page_high : (t : ℕ) → t < v.sessions → (seen t).number ≤ high
    page_high t low = let n = number_least v.sessions (λ z. (seen z).number) t low in omega (arith, n)

    own_high : j.page.number ≤ high
    own_high = omega arith

    line_high : (t n : ℕ) → t < v.sessions → ((seen t).line n).tag.number ≤ high
    line_high t n low = let a = (whole.gone t low n).0 in let b = page_high t low in omega (arith, a, b)

    after_high : (t : ℕ) → t < v.sessions → j.page.after t ≤ high
    after_high t low =
        let c = closed_at v seen s t closed well.within low in
        let e : (seen s).after t ≡ j.page.after t = ap (λ z. z.after t) well.own in
        let b = page_high t low in
        omega (arith, c, e, b)

    module _ (more : ℕ) (goes asks : ℕ → Bool) where
      abbrev line : StoredCopy
      line = new_line s more change (highest v j.page seen)

      abbrev next : Journal
      next = changed v goes asks seen s j change line

      less : (n : ℕ) → is_less (j.page.line n).tag line.tag ≡ true
      less n = less_new s more change high (j.page.line n).tag (let a = (mine.gone n).0 in let b = own_high in omega (arith, a, b))

      above : j.page.number < line.tag.number
      above = let b = own_high in omega (arith, b)

      beyond : base.page.number < line.tag.number
      beyond = let n = at_least base.page j.page mine.number in let a = above in omega (arith, n, a)

      up : Above v past s base next
      up = record {
        rises = follows_trans v base.page j.page next.page mine.rises (changed_follows v past s goes asks seen j.page change.name line well.within well.own was_seen (let a = above in omega (arith, a)) less
            (λ t low. let a = after_high t low in omega (arith, a)));
        number = inr beyond;
        gone = changed_gone v past s goes asks seen j.page change.name line well.within well.own was_seen (let a = above in omega (arith, a)) mine.gone;
      }

      has_op : (op : Option ℕ) → change.op ≡ op → HasOp next op
      has_op None e k none = absurd (let bad : None ≡ Some k = none in cc)
      has_op (Some i) e k same = rw e same

      lined : (op : Option ℕ) → change.op ≡ op → LooksFor v w s change looked seen op → Lined v w s base next
      lined None e other = lined_as v w s base j next (rw e refl) (rw (not_of change.name v.name other) refl) (knows_line looker is)
      lined (Some k) e looking = inr (record {
        op = k;
        is = rw e refl;
        still = subst (λ z. Open w s k z.bytes) (sym here) looking.still;
        more = subst (λ z. is_less (base.page.line v.name).tag z.tag ≡ true) (sym here) (at_most_less (base.page.line v.name).tag (j.page.line v.name).tag line.tag (risen_at_most (base.page.line v.name) (j.page.line v.name) (follows_rises v base.page j.page mine.rises v.name)) (less v.name));
        own = ap (λ z. z.tag.session) here;
        later = λ e t ended low. subst (λ z. is_less t z.tag ≡ true) (sym here) (over t (seen_at v w (w.op k).begin looked seen has looking.all e t ended low));
      })
        where
          here : next.page.line v.name ≡ line
          here = rw (its_of change.name v.name looking.name) refl

          over : (t : Tag) → (t ≡ first_tag) ⊎ ((i : ℕ) × (i < v.sessions) × IsAtMost t ((seen i).line v.name).tag) → is_less t line.tag ≡ true
          over t (inl first) = subst (λ z. is_less z line.tag ≡ true) (sym first) (less_new s more change high first_tag (omega arith))
          over t (inr (i, low, most)) = at_most_less t ((seen i).line v.name).tag line.tag most (less_new s more change high ((seen i).line v.name).tag (line_high i v.name low))

      pub lines_chooses : Lines v w past s base (record x { client = Announces next change.op })
      lines_chooses = lines_client (Announces next change.op) up (inr beyond) (lined change.op refl well.for) (has_op change.op refl)

  -- ---- writes

  pub lines_asked : (j : Journal) (op : Option ℕ) → x.client ≡ Announces j op → Lines v w past s base (record x { journal_pending = x.journal_pending ++ j ∷ [] })
  lines_asked j op is = record {
    paged = paged_asked v past s base x j lines.paged (knows (Announces j op) is);
    lined = record { now = lines.lined.now; pending = each_push (Lined v w s base) x.journal_pending j lines.lined.pending (knows_line (Announces j op) is); known = lines.lined.known };
    based = lines.based;
    sourced = lines.sourced;
    acts = lines.acts;
  }

-- where the client carries the base
module _ (v : Setting) (w : World) (past : ℕ → List Page) (s : ℕ) (j : Journal) (x : Session) (lines : Lines v w past s j x) where
  pub lines_carried : Lines v w past s j (record x { page = j.page; page_pending = []; client = Knows j })
  lines_carried = record {
    paged = paged_carried v past s x j lines.paged;
    lined = record { now = lines.lined.now; pending = lines.lined.pending; known = lined_self v w s j };
    based = lines.based;
    sourced = lines.sourced;
    acts = tt;
  }

  pub lines_carries : Lines v w past s j (record x { page_pending = x.page_pending ++ j.page ∷ [] })
  lines_carries = record {
    paged = paged_carries v past s x j lines.paged;
    lined = record { now = lines.lined.now; pending = lines.lined.pending; known = lines.lined.known };
    based = lines.based;
    sourced = lines.sourced;
    acts = lines.acts;
  }
