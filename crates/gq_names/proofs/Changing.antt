-- A change that nobody disturbs: its client looks at each page once, chooses, and has two writes answered. The pages that it sees ask for nothing
-- more than there is, so it looks once.
use Rattle.std.proofs.Common.{◌≡◌, ◌≢◌, ◌⊎◌, ℕ, zero, suc, ◌<◌, ◌≤◌, Bool, true, List, [], ◌∷◌, ◌++◌, refl, sym, ap, ◌∙◌, subst, inl, inr, Option, Some, None, arith, eqb, ltb}
use Rattle.std.specs.Prelude.{fold, not, if◌then◌else◌}
use Rattle.std.proofs.lemmas.Bool.{cases_eq, ne_eqb, eq-eqb, lt-ltb, and_from}
use Rattle.gq_names.specs.Names.{Setting, Page, Journal, Change, Client, Knows, Looks, Announces, Carries, Session, World, Step, Enters, Sees, Chooses, ClientWrites, with_session, with_tag, with_end, sees_by, chooses_by, writes_by, looking, changed, highest, new_line, all_below, is_closed, no_page, none_seen, and_page, and_seen, has_seen, tick, after_step}
use Rattle.gq_names.specs.Completing.{looks_at}
use Rattle.gq_names.proofs.Counting.{numbers_ends, Ready, AllCounted, all_true, not_below}
use Rattle.gq_names.proofs.Moves.{with_here, with_away}

pub fold_append : (v : Setting) (w : World) (xs ys : List Step) → fold (after_step v) w (xs ++ ys) ≡ fold (after_step v) (fold (after_step v) w xs) ys
fold_append v w [] ys = refl
fold_append v w (x ∷ xs) ys = fold_append v (after_step v w x) xs ys

-- ---- a new client

pub entered_is : (v : Setting) (w : World) (s : ℕ) → ((after_step v w (Enters s)).session s) ≡ record (w.session s) { client = Knows (w.session s).journal }
entered_is v w s = with_here s (record (w.session s) { client = Knows (w.session s).journal }) w s refl

pub entered_rest : (v : Setting) (w : World) (s t : ℕ) → t ≢ s → (after_step v w (Enters s)).session t ≡ w.session t
entered_rest v w s t ne = with_away s (record (w.session s) { client = Knows (w.session s).journal }) w t ne

pub entered_page : (v : Setting) (w : World) (s t : ℕ) → ((after_step v w (Enters s)).session t).page ≡ (w.session t).page
entered_page v w s t = by (cases_eq t s)
  where
    by : (t ≡ s) ⊎ (t ≢ s) → ((after_step v w (Enters s)).session t).page ≡ (w.session t).page
    by (inl same) = ap (λ z. z.page) (with_here s (record (w.session s) { client = Knows (w.session s).journal }) w t same) ∙ ap (λ z. (w.session z).page) (sym same)
    by (inr ne) = ap (λ z. z.page) (with_away s (record (w.session s) { client = Knows (w.session s).journal }) w t ne)

-- what its client read in the journal, and pages, are those of `w`; it begins its change, and then the world is `start`
module _ (v : Setting) (w start : World) (s : ℕ) (low : s < v.sessions) (change : Change) where
  abbrev j : Journal
  j = (w.session s).journal

  -- it has looked at the first m pages
  pub record Sight (m : ℕ) (u : World) : Type 0 where
    pub begun : u.begun ≡ start.begun
    pub ops : u.op ≡ start.op
    pub looked : ℕ → Bool
    pub seen : ℕ → Page
    pub is : (u.session s).client ≡ Looks j change looked seen
    pub did : (i : ℕ) → (i < m) ⊎ (i ≡ s) → looked i ≡ true
    pub own : seen s ≡ j.page
    pub others : (i : ℕ) → i < m → i ≢ s → seen i ≡ (w.session i).page
    pub pages : (t : ℕ) → (u.session t).page ≡ (w.session t).page
    pub rest : (t : ℕ) → t ≢ s → u.session t ≡ w.session t

  -- nothing yet
  pub first_sight : (entered : World) → (start.session s) ≡ looking entered s j change → ((t : ℕ) → (start.session t).page ≡ (w.session t).page) → ((t : ℕ) → t ≢ s → start.session t ≡ w.session t) → Sight 0 start
  first_sight entered is pages rest = record {
    begun = refl;
    ops = refl;
    looked = and_page s no_page;
    seen = and_seen s j.page none_seen;
    is = ap (λ z. z.client) is;
    did = λ i first. did i first;
    own = rw (eq-eqb s s refl) refl;
    others = λ i less. absurd (omega (arith, less));
    pages = pages;
    rest = rest;
  }
    where
      did : (i : ℕ) → (i < 0) ⊎ (i ≡ s) → and_page s no_page i ≡ true
      did i (inl less) = absurd (omega (arith, less))
      did i (inr same) = rw (eq-eqb i s same) refl

  -- ---- it looks at one page more

  looks_on : (m : ℕ) (u : World) → m < v.sessions → Sight m u → Sight (suc m) (after_step v u (Sees s m))
  looks_on m u less sight = subst (λ z. Sight (suc m) z) (sym sees_is) (by (cases_eq m s))
    where
      more : Session
      more = record (u.session s) { client = Looks j change (and_page m sight.looked) (and_seen m (u.session m).page sight.seen) }

      sees_is : after_step v u (Sees s m) ≡ tick (if eqb m s then u else with_session s (record (u.session s) { client = Looks j change (and_page m sight.looked) (and_seen m (u.session m).page sight.seen) }) u)
      sees_is = rw (lt-ltb m v.sessions less) (let P : Client → Type 0 = λ z. tick (sees_by u s m z) ≡ tick (sees_by u s m (Looks j change sight.looked sight.seen)) in subst P (sym sight.is) refl)

      split : (i : ℕ) → i < suc m → (i < m) ⊎ (i ≡ m)
      split i before = of (cases_eq i m)
        where
          of : (i ≡ m) ⊎ (i ≢ m) → (i < m) ⊎ (i ≡ m)
          of (inl same) = inr same
          of (inr ne) = inl (omega (arith, before, ne))

      by : (m ≡ s) ⊎ (m ≢ s) → Sight (suc m) (tick (if eqb m s then u else with_session s (record (u.session s) { client = Looks j change (and_page m sight.looked) (and_seen m (u.session m).page sight.seen) }) u))
      by (inl here) = rw (eq-eqb m s here) (record {
        begun = sight.begun;
        ops = sight.ops;
        looked = sight.looked;
        seen = sight.seen;
        is = sight.is;
        did = λ i first. did i first;
        own = sight.own;
        others = λ i before ne. other i ne (split i before);
        pages = sight.pages;
        rest = sight.rest;
      })
        where
          did : (i : ℕ) → (i < suc m) ⊎ (i ≡ s) → sight.looked i ≡ true
          did i (inr same) = sight.did i (inr same)
          did i (inl before) = of (split i before)
            where
              of : (i < m) ⊎ (i ≡ m) → sight.looked i ≡ true
              of (inl first) = sight.did i (inl first)
              of (inr same) = sight.did i (inr (same ∙ here))

          other : (i : ℕ) → i ≢ s → (i < m) ⊎ (i ≡ m) → sight.seen i ≡ (w.session i).page
          other i ne (inl first) = sight.others i first ne
          other i ne (inr same) = absurd (ne (same ∙ here))
      by (inr away) = rw (ne_eqb m s away) (record {
        begun = sight.begun;
        ops = sight.ops;
        looked = and_page m sight.looked;
        seen = and_seen m (u.session m).page sight.seen;
        is = ap (λ z. z.client) (with_here s more u s refl);
        did = λ i first. did i first (cases_eq i m);
        own = rw (ne_eqb s m (λ same. away (sym same))) sight.own;
        others = λ i before ne. other i ne (split i before);
        pages = λ t. page t (cases_eq t s);
        rest = λ t ne. with_away s more u t ne ∙ sight.rest t ne;
      })
        where
          did : (i : ℕ) → (i < suc m) ⊎ (i ≡ s) → (i ≡ m) ⊎ (i ≢ m) → and_page m sight.looked i ≡ true
          did i first (inl same) = rw (eq-eqb i m same) refl
          did i (inl before) (inr ne) = rw (ne_eqb i m ne) (sight.did i (inl (omega (arith, before, ne))))
          did i (inr same) (inr ne) = rw (ne_eqb i m ne) (sight.did i (inr same))

          other : (i : ℕ) → i ≢ s → (i < m) ⊎ (i ≡ m) → and_seen m (u.session m).page sight.seen i ≡ (w.session i).page
          other i ne (inl first) = rw (ne_eqb i m (λ same. omega (arith, first, same))) (sight.others i first ne)
          other i ne (inr same) = rw (eq-eqb i m same) (sight.pages m ∙ ap (λ z. (w.session z).page) (sym same))

          page : (t : ℕ) → (t ≡ s) ⊎ (t ≢ s) → ((with_session s more u).session t).page ≡ (w.session t).page
          page t (inl same) = ap (λ z. z.page) (with_here s more u t same) ∙ (ap (λ z. (u.session z).page) (sym same) ∙ sight.pages t)
          page t (inr ne) = ap (λ z. z.page) (with_away s more u t ne) ∙ sight.pages t

  pub looks_all : Sight 0 start → (m : ℕ) → m ≤ v.sessions → Sight m (fold (after_step v) start (looks_at s m))
  looks_all first zero less = first
  looks_all first (suc m) less =
      subst (λ z. Sight (suc m) z) (sym (fold_append v start (looks_at s m) (Sees s m ∷ [])))
      (looks_on m (fold (after_step v) start (looks_at s m)) (omega (arith, less)) (looks_all first m (omega (arith, less))))

  -- ---- the pages ask for nothing more

  module _ (all : AllCounted w) (u : World) (sight : Sight v.sessions u) (more : ℕ) (goes asks : ℕ → Bool) where
    ready : Ready w s (all s).0 j
    ready = (all s).1.journals.now

    own_number : (w.session s).page.number ≤ j.page.number
    own_number = let a = numbers_ends (w.session s).page.number (w.session s).page_pending (all s).0 (all s).1.chain in let b = ready.number in omega (arith, a, b)

    enough : (a b : ℕ) → a < v.sessions → b < v.sessions → (a ≡ s) ⊎ (a ≢ s) → (b ≡ s) ⊎ (b ≢ s) → (sight.seen a).after b ≤ (sight.seen b).number
    enough a b low_a low_b (inl x) (inl y) =
        let e : (sight.seen a).after b ≡ j.page.after s = ap (λ z. (sight.seen z).after b) x ∙ (ap (λ z. z.after b) sight.own ∙ ap (λ z. j.page.after z) y) in
        let f : (sight.seen b).number ≡ j.page.number = ap (λ z. (sight.seen z).number) y ∙ ap (λ z. z.number) sight.own in
        let g = ready.there.own in
        omega (arith, e, f, g)
    enough a b low_a low_b (inl x) (inr y) =
        let e : (sight.seen a).after b ≡ j.page.after b = ap (λ z. (sight.seen z).after b) x ∙ ap (λ z. z.after b) sight.own in
        let f : (sight.seen b).number ≡ (w.session b).page.number = ap (λ z. z.number) (sight.others b low_b y) in
        let g = ready.there.others b y in
        omega (arith, e, f, g)
    enough a b low_a low_b (inr x) (inl y) =
        let e : (sight.seen a).after b ≡ (w.session a).page.after s = ap (λ z. z.after b) (sight.others a low_a x) ∙ ap (λ z. (w.session a).page.after z) y in
        let f : (sight.seen b).number ≡ j.page.number = ap (λ z. (sight.seen z).number) y ∙ ap (λ z. z.number) sight.own in
        let g = (all a).1.page.others s (λ same. x (sym same)) in
        let h = own_number in
        omega (arith, e, f, g, h)
    enough a b low_a low_b (inr x) (inr y) = of (cases_eq b a)
      where
        e : (sight.seen a).after b ≡ (w.session a).page.after b
        e = ap (λ z. z.after b) (sight.others a low_a x)

        f : (sight.seen b).number ≡ (w.session b).page.number
        f = ap (λ z. z.number) (sight.others b low_b y)

        of : (b ≡ a) ⊎ (b ≢ a) → (sight.seen a).after b ≤ (sight.seen b).number
        of (inl same) = let g = (all a).1.page.own in let h : (w.session a).page.after b ≡ (w.session a).page.after a = ap (λ z. (w.session a).page.after z) same in let i : (w.session b).page.number ≡ (w.session a).page.number = ap (λ z. (w.session z).page.number) same in let m = e in let n = f in omega (arith, m, n, g, h, i)
        of (inr ne) = let g = (all a).1.page.others b ne in let m = e in let n = f in omega (arith, m, n, g)

    pub has : has_seen v sight.looked sight.seen ≡ true
    has = and_from (all_below v.sessions sight.looked) (is_closed v sight.seen) (all_true v.sessions sight.looked (λ i less. sight.did i (inl less)))
        (all_true v.sessions (λ a. all_below v.sessions (λ b. not (ltb (sight.seen b).number ((sight.seen a).after b))))
        (λ a low_a. all_true v.sessions (λ b. not (ltb (sight.seen b).number ((sight.seen a).after b))) (λ b low_b. not_below (sight.seen b).number ((sight.seen a).after b) (enough a b low_a low_b (cases_eq a s) (cases_eq b s)))))

    -- ---- it chooses, and its two writes are answered

    unfoldable pub announced_journal : Journal
    announced_journal = changed v goes asks sight.seen s j change (new_line s more change (highest v j.page sight.seen))

    abbrev chosen : World
    chosen = tick (with_session s (record (u.session s) { client = Announces announced_journal change.op }) u)

    chooses_is : after_step v u (Chooses s more goes asks) ≡ chosen
    unfolding announced_journal
    chooses_is = let P : Client → Type 0 = λ z. tick (chooses_by v u s more goes asks z) ≡ chosen in subst P (sym sight.is) (rw has refl)

    abbrev pub announced_world : World
    announced_world = tick (with_session s (record (chosen.session s) { journal = announced_journal; journal_pending = []; client = Carries announced_journal change.op }) (with_tag v announced_journal announced_journal.op chosen))

    announces_is : after_step v chosen (ClientWrites s true) ≡ announced_world
    announces_is =
        let P : Client → Type 0 = λ z. tick (writes_by v chosen s true z) ≡ announced_world in
        let is : (chosen.session s).client ≡ Announces announced_journal change.op = ap (λ z. z.client) (with_here s (record (u.session s) { client = Announces announced_journal change.op }) u s refl) in
        subst P (sym is) refl

    abbrev pub carried_world : World
    carried_world = tick (with_session s (record (announced_world.session s) { page = announced_journal.page; page_pending = []; client = Knows announced_journal }) (with_end change.op announced_world))

    carries_is : after_step v announced_world (ClientWrites s true) ≡ carried_world
    carries_is =
        let P : Client → Type 0 = λ z. tick (writes_by v announced_world s true z) ≡ carried_world in
        let is : (announced_world.session s).client ≡ Carries announced_journal change.op = ap (λ z. z.client) (with_here s (record (chosen.session s) { journal = announced_journal; journal_pending = []; client = Carries announced_journal change.op }) (with_tag v announced_journal announced_journal.op chosen) s refl) in
        subst P (sym is) refl

    pub writes_are : fold (after_step v) u (Chooses s more goes asks ∷ ClientWrites s true ∷ ClientWrites s true ∷ []) ≡ carried_world
    writes_are =
        let last : after_step v (after_step v chosen (ClientWrites s true)) (ClientWrites s true) ≡ carried_world = ap (λ z. after_step v z (ClientWrites s true)) announces_is ∙ carries_is in
        ap (λ z. after_step v (after_step v z (ClientWrites s true)) (ClientWrites s true)) chooses_is ∙ last

    pub carried_page : (carried_world.session s).page ≡ announced_journal.page
    carried_page = ap (λ z. z.page) (with_here s (record (announced_world.session s) { page = announced_journal.page; page_pending = []; client = Knows announced_journal }) (with_end change.op announced_world) s refl)

    pub carried_journal : (carried_world.session s).journal.page ≡ announced_journal.page
    carried_journal =
        let x : Session = record (announced_world.session s) { page = announced_journal.page; page_pending = []; client = Knows announced_journal } in
        ap (λ z. z.journal.page) (with_here s x (with_end change.op announced_world) s refl)
        ∙ ap (λ z. z.journal.page) (with_here s (record (chosen.session s) { journal = announced_journal; journal_pending = []; client = Carries announced_journal change.op }) (with_tag v announced_journal announced_journal.op chosen) s refl)

    -- other sessions stay as they were
    pub carried_rest : (t : ℕ) → t ≢ s → carried_world.session t ≡ w.session t
    carried_rest t ne =
        with_away s (record (announced_world.session s) { page = announced_journal.page; page_pending = []; client = Knows announced_journal }) (with_end change.op announced_world) t ne
        ∙ (end_same change.op
        ∙ (with_away s (record (chosen.session s) { journal = announced_journal; journal_pending = []; client = Carries announced_journal change.op }) (with_tag v announced_journal announced_journal.op chosen) t ne
        ∙ (tag_same announced_journal.op
        ∙ (with_away s (record (u.session s) { client = Announces announced_journal change.op }) u t ne ∙ sight.rest t ne))))
      where
        end_same : (op : Option ℕ) → (with_end op announced_world).session t ≡ announced_world.session t
        end_same None = refl
        end_same (Some k) = refl

        tag_same : (op : Option ℕ) → (with_tag v announced_journal op chosen).session t ≡ chosen.session t
        tag_same None = refl
        tag_same (Some k) = refl
