-- What a client's look is in the law.
use Rattle.std.proofs.Common.{◌≡◌, ◌≢◌, ◌⊎◌, ◌∙◌, ℕ, zero, suc, ◌<◌, ◌≤◌, List, [], ◌∷◌, ◌++◌, length, Option, Some, None, Bool, true, false, refl, sym, ap, subst, inl, inr, arith, eq-eqb}
use Rattle.std.specs.Prelude.{◌==◌, ◌&&◌, ◌||◌, not, nat_lt, reverse, slice_get, slice_set, if◌then◌else◌}
use Rattle.std.specs.List.{list_any}
use Rattle.std.proofs.lemmas.Bool.{cases_eq, ne_eqb, eqb-true, lt-ltb, and_parts}
use Rattle.std.proofs.lemmas.List.{length-reverse}
use Rattle.gq_names.specs.Names.{Setting, Page, Journal, Change, World, Client as LawClient, Knows as LawKnows, Looks as LawLooks, Enters as LawEnters, Begins, Tidies, Sees as LawSees, all_below, is_closed, has_seen, and_page, and_seen, no_page, none_seen, begins_by, tidies_by, sees_by, changes}
use Rattle.gq_tag.specs.declared.Tag.{Tag}
use Rattle.gq_page.specs.declared.page.Page.{Page as SeenPage}
use Rattle.gq_page.specs.Page.{Sheet, sheet_of}
use Rattle.gq_client.specs.declared.view.Known.{Known}
use Rattle.gq_client.specs.declared.view.Wanted.{Wanted}
use Rattle.gq_client.specs.declared.client.Client.{Client}
use Rattle.gq_client.specs.declared.client.Doing.{Doing}
use Rattle.gq_client.specs.declared.client.Doing.TheVariants.{Knows, Enters, Lists, Reads, Looked, Announces, Carries}
use Rattle.gq_client.specs.Looking.{page_at, wanted_from, left_from, ReadsThese, GoesOnTo}
use Rattle.gq_client.specs.Steps.{IsListed, IsRead, HasRead, GoesOn, wanted_now}
use Rattle.gq_naming.specs.Standing.{Naming, Shows, HasSeen, Sees, IsLooked, IsLooking, is_awaited, HasJournal, HasOwn, LooksBy, LookedBy, StandsBy, Stands}
use Rattle.gq_naming.specs.Laws.{AllEntersStep, AllLooksBegin, AllRowsStep, AllListsStand, AllReadsStep, BeginsToLook, client_after}
use Rattle.gq_naming.proofs.Found.{place_is}
use Rattle.gq_naming.proofs.Closed.{looks_are_closed}

no : {A : Type 0} → true ≡ false → A
no h = absurd (none h)
  where
    none : true ≡ false → ⊥
    none k = cc

-- ---- it enters

pub enters_step : AllEntersStep
enters_step names v w known old new is shows =
    subst (λ d. StandsBy names v new d (client_after v w (LawEnters s) s)) (sym is.1)
    (subst (λ j. HasOwn names new (λ journal op. LawKnows journal) j (client_after v w (LawEnters s) s)) (sym is.0)
    (record { journal = (w.session s).journal; op = None; is = ap (λ b. (if b then record (w.session s) { client = LawKnows (w.session s).journal } else w.session s).client) (eq-eqb s s refl); shows = subst (λ t. Shows names t (sheet_of known.page) ((w.session s).journal).page) (sym is.2) shows }))
  where
    s : ℕ
    s = old.session

-- ---- it begins

begins : (v : Setting) (w : World) (s name : ℕ) (bytes : List ℕ) (j : Journal) (x : LawClient) → x ≡ LawKnows j → (c : Change) × (((begins_by v w s name bytes x).session s).client ≡ LawLooks j c (and_page s no_page) (and_seen s j.page none_seen))
begins v w s name bytes j x is = by (name == v.name) refl
  where
    by : (b : Bool) → (name == v.name) ≡ b → (c : Change) × (((begins_by v w s name bytes x).session s).client ≡ LawLooks j c (and_page s no_page) (and_seen s j.page none_seen))
    by true e = (record { name = Some name; bytes = bytes; op = Some w.begun }, subst (λ y. ((begins_by v w s name bytes y).session s).client ≡ LawLooks j (record { name = Some name; bytes = bytes; op = Some w.begun }) (and_page s no_page) (and_seen s j.page none_seen)) (sym is) (rw (e, eq-eqb s s refl) refl))
    by false e = (record { name = Some name; bytes = bytes; op = None }, subst (λ y. ((begins_by v w s name bytes y).session s).client ≡ LawLooks j (record { name = Some name; bytes = bytes; op = None }) (and_page s no_page) (and_seen s j.page none_seen)) (sym is) (rw (e, eq-eqb s s refl) refl))

tidies : (w : World) (s : ℕ) (j : Journal) (x : LawClient) → x ≡ LawKnows j → ((tidies_by w s x).session s).client ≡ LawLooks j (record { name = None; bytes = []; op = None }) (and_page s no_page) (and_seen s j.page none_seen)
tidies w s j x is = subst (λ y. ((tidies_by w s y).session s).client ≡ LawLooks j (record { name = None; bytes = []; op = None }) (and_page s no_page) (and_seen s j.page none_seen)) (sym is) (rw (eq-eqb s s refl) refl)

pub looks_begin : AllLooksBegin
looks_begin names v w old new stands k many low = (of_name, of_none)
  where
    s : ℕ
    s = old.session

    known : HasJournal names old k.page (λ journal op. LawKnows journal) (w.session s).client
    known = subst (λ j. HasOwn names old (λ journal op. LawKnows journal) j (w.session s).client) k.knows (subst (λ d. StandsBy names v old d (w.session s).client) k.idle stands)

    in_range : nat_lt s v.sessions ≡ true
    in_range = lt-ltb s v.sessions low

    looking : (c : Change) (x : LawClient) → x ≡ LawLooks known.journal c (and_page s no_page) (and_seen s known.journal.page none_seen) → Stands names v new x
    looking c x is =
        subst (λ d. StandsBy names v new d x) (sym k.doing)
        (subst (λ j. LooksBy names v new false (λ t. true) j x) (sym (k.journal ∙ k.knows))
        (subst (λ t. IsLooking names v t new.seen.items k.page (λ u. true) x) (sym k.session)
        (subst (λ xs. IsLooking names v s xs k.page (λ u. true) x) (sym k.seen)
        (record {
          journal = known.journal;
          change = c;
          looked = and_page s no_page;
          pages = and_seen s known.journal.page none_seen;
          is = is;
          many = many;
          low = low;
          own = rw (eq-eqb s s refl) refl;
          own_looked = rw (eq-eqb s s refl) refl;
          shows = known.shows;
          each = λ t z at other. inl refl;
        }))))

    of_name : (name : ℕ) (bytes : List ℕ) → Stands names v new (client_after v w (Begins s name bytes) s)
    of_name name bytes =
        let b = begins v w s name bytes known.journal (w.session s).client known.is in
        let step : client_after v w (Begins s name bytes) s ≡ ((begins_by v w s name bytes (w.session s).client).session s).client = ap (λ b. ((if b then begins_by v w s name bytes (w.session s).client else w).session s).client) in_range in
        looking b.0 (client_after v w (Begins s name bytes) s) (step ∙ b.1)

    of_none : Stands names v new (client_after v w (Tidies s) s)
    of_none =
        let step : client_after v w (Tidies s) s ≡ ((tidies_by w s (w.session s).client).session s).client = ap (λ b. ((if b then tidies_by w s (w.session s).client else w).session s).client) in_range in
        looking (record { name = None; bytes = []; op = None }) (client_after v w (Tidies s) s) (step ∙ tidies w s known.journal (w.session s).client known.is)

-- ---- it sees a page

sees_page : (w : World) (s t : ℕ) (j : Journal) (c : Change) (looked : ℕ → Bool) (pages : ℕ → Page) (x : LawClient) → x ≡ LawLooks j c looked pages → t ≢ s
    → ((sees_by w s t x).session s).client ≡ LawLooks j c (and_page t looked) (and_seen t (w.session t).page pages)
sees_page w s t j c looked pages x is other = subst (λ y. ((sees_by w s t y).session s).client ≡ LawLooks j c (and_page t looked) (and_seen t (w.session t).page pages)) (sym is) (rw (ne_eqb t s other, eq-eqb s s refl) refl)

-- what was seen of that page may be new, and of no other
sees : (names : Naming) (v : Setting) (w : World) (s t : ℕ) (seen now : List Known) (page : SeenPage) (awaits : ℕ → Bool) → IsLooking names v s seen page awaits (w.session s).client → t < v.sessions → t ≢ s → length now ≡ length seen
    → ((u : ℕ) (z : Known) → slice_get now u ≡ Some z → u ≢ t → slice_get seen u ≡ Some z) → ((z : Known) → slice_get now t ≡ Some z → Shows names t (sheet_of z.page) (w.session t).page)
    → IsLooking names v s now page (λ u. awaits u && not (u == t)) (client_after v w (LawSees s t) s)
sees names v w s t seen now page awaits k low other same_count same_others here = record {
  journal = k.journal;
  change = k.change;
  looked = and_page t k.looked;
  pages = and_seen t (w.session t).page k.pages;
  is = step ∙ sees_page w s t k.journal k.change k.looked k.pages (w.session s).client k.is other;
  many = same_count ∙ k.many;
  low = k.low;
  own = ap (λ b. if b then (w.session t).page else k.pages s) not_own ∙ k.own;
  own_looked = ap (λ b. if b then true else k.looked s) not_own ∙ k.own_looked;
  shows = k.shows;
  each = each;
}
  where
    step : client_after v w (LawSees s t) s ≡ ((sees_by w s t (w.session s).client).session s).client
    step = ap (λ b. ((if b then sees_by w s t (w.session s).client else w).session s).client) (lt-ltb t v.sessions low)

    not_own : (s == t) ≡ false
    not_own = ne_eqb s t (λ e. other (sym e))

    each : (u : ℕ) (z : Known) → slice_get now u ≡ Some z → u ≢ s → ((awaits u && not (u == t)) ≡ true) ⊎ ((and_page t k.looked u ≡ true) × Shows names u (sheet_of z.page) (and_seen t (w.session t).page k.pages u))
    each u z at not_s = by (cases_eq u t)
      where
        by : (u ≡ t) ⊎ (u ≡ t → ⊥) → ((awaits u && not (u == t)) ≡ true) ⊎ ((and_page t k.looked u ≡ true) × Shows names u (sheet_of z.page) (and_seen t (w.session t).page k.pages u))
        by (inl same) =
            let on : (u == t) ≡ true = eq-eqb u t same in
            inr (rw on refl, subst (λ b. Shows names u (sheet_of z.page) (if b then (w.session t).page else k.pages u)) (sym on) (subst (λ j. Shows names j (sheet_of z.page) (w.session t).page) (sym same) (here z (subst (λ j. slice_get now j ≡ Some z) same at))))
        by (inr apart) = old (k.each u z (same_others u z at apart) not_s)
          where
            off : (u == t) ≡ false
            off = ne_eqb u t apart

            old : (awaits u ≡ true) ⊎ ((k.looked u ≡ true) × Shows names u (sheet_of z.page) (k.pages u)) → ((awaits u && not (u == t)) ≡ true) ⊎ ((and_page t k.looked u ≡ true) × Shows names u (sheet_of z.page) (and_seen t (w.session t).page k.pages u))
            old (inl still) = inl (rw (still, off) refl)
            old (inr saw) = inr (rw off saw.0, subst (λ b. Shows names u (sheet_of z.page) (if b then (w.session t).page else k.pages u)) (sym off) saw.1)

some_low : {A : Type 0} (xs : List A) (t : ℕ) (x : A) → slice_get xs t ≡ Some x → t < length xs
some_low xs t x at = by (place_is xs t)
  where
    by : (slice_get xs t ≡ None) × (length xs ≤ t) ⊎ ((y : _) × (slice_get xs t ≡ Some y) × (t < length xs)) → t < length xs
    by (inl past) = absurd (none (sym at ∙ past.0))
      where
        none : Some x ≡ None → ⊥
        none h = cc
    by (inr here) = here.2

pub rows_step : AllRowsStep
rows_step names v w s t seen page awaits known k at other shows =
    sees names v w s t seen seen page awaits k (let low : t < length seen = some_low seen t known at in let many : length seen ≡ v.sessions = k.many in omega arith) other refl (λ u z here apart. here)
    (λ z here. subst (λ y. Shows names t (sheet_of y.page) (w.session t).page) (the z (sym at ∙ here)) shows)
  where
    the : (z : Known) → Some known ≡ Some z → known ≡ z
    the z h = cc

-- ---- the look goes on

none_reversed : (xs : List Wanted) → reverse xs ≡ [] → xs ≡ []
none_reversed [] is = refl
none_reversed (x ∷ xs) is = absurd (let same : length (reverse (x ∷ xs)) ≡ suc (length xs) = length-reverse (x ∷ xs) in let none : length (reverse (x ∷ xs)) ≡ 0 = ap length is in omega arith)

all_from : (n : ℕ) (test : ℕ → Bool) → ((t : ℕ) → t < n → test t ≡ true) → all_below n test ≡ true
all_from zero test each = refl
all_from (suc n) test each = rw (each n (omega arith)) (all_from n test (λ t low. each t (omega arith)))

module _ (names : Naming) (v : Setting) (new : Client) (page : SeenPage) (x : LawClient) (knows : new.journal ≡ Some page) where
  -- nobody is awaited any more
  saw : (awaits : ℕ → Bool) → (k : IsLooking names v new.session new.seen.items page awaits x) → ((t : ℕ) → t ≢ new.session → awaits t ≡ true → ⊥) → (t : ℕ) (z : Known) → slice_get new.seen.items t ≡ Some z → t ≢ new.session → (k.looked t ≡ true) × Shows names t (sheet_of z.page) (k.pages t)
  saw awaits k none t z at other = by (k.each t z at other)
    where
      by : (awaits t ≡ true) ⊎ ((k.looked t ≡ true) × Shows names t (sheet_of z.page) (k.pages t)) → (k.looked t ≡ true) × Shows names t (sheet_of z.page) (k.pages t)
      by (inl still) = absurd (none t other still)
      by (inr seen) = seen

  ends : (awaits : ℕ → Bool) → IsLooking names v new.session new.seen.items page awaits x → ((t : ℕ) → t ≢ new.session → awaits t ≡ true → ⊥) → wanted_from 0 new.session (Some page) new.seen.items new.seen.items ≡ [] → IsLooked names v new x
  ends awaits k none wanted = record {
    page = page;
    knows = knows;
    journal = k.journal;
    change = k.change;
    looked = k.looked;
    pages = k.pages;
    is = k.is;
    all = both (all_below v.sessions k.looked) (is_closed v k.pages) (all_from v.sessions k.looked looked_all) (looks_are_closed names v new.session (Some page) new.seen.items k.pages seen_all wanted);
    own = k.own;
    seen = record { many = k.many; low = k.low; own = own_shown; others = λ t z at other. (saw awaits k none t z at other).1 };
  }
    where
      both : (a b : Bool) → a ≡ true → b ≡ true → (a && b) ≡ true
      both a b first second = rw (first, second) refl

      own_shown : Shows names new.session (sheet_of page) (k.pages new.session)
      own_shown = subst (λ p. Shows names new.session (sheet_of page) p) (sym k.own) k.shows

      looked_all : (t : ℕ) → t < v.sessions → k.looked t ≡ true
      looked_all t low = by (cases_eq t new.session) (place_is new.seen.items t)
        where
          many : length new.seen.items ≡ v.sessions
          many = k.many

          by : (t ≡ new.session) ⊎ (t ≡ new.session → ⊥) → (slice_get new.seen.items t ≡ None) × (length new.seen.items ≤ t) ⊎ ((z : Known) × (slice_get new.seen.items t ≡ Some z) × (t < length new.seen.items)) → k.looked t ≡ true
          by (inl same) there = ap k.looked same ∙ k.own_looked
          by (inr other) (inl past) = absurd (let le : length new.seen.items ≤ t = past.1 in let count : length new.seen.items ≡ v.sessions = many in omega arith)
          by (inr other) (inr there) = (saw awaits k none t there.0 there.1 other).0

      seen_all : Sees names v new.session (Some page) new.seen.items k.pages
      seen_all = record { many = k.many; each = λ t z at. by t z at (cases_eq t new.session) }
        where
          by : (t : ℕ) (z : Known) → slice_get new.seen.items t ≡ Some z → (t ≡ new.session) ⊎ (t ≡ new.session → ⊥) → Shows names t (sheet_of (page_at t new.session (Some page) z)) (k.pages t)
          by t z at (inl same) =
              let on : (t == new.session) ≡ true = eq-eqb t new.session same in
              subst (λ b. Shows names t (sheet_of (if b then page else z.page)) (k.pages t)) (sym on) (subst (λ j. Shows names j (sheet_of page) (k.pages j)) (sym same) own_shown)
          by t z at (inr other) =
              let off : (t == new.session) ≡ false = ne_eqb t new.session other in
              subst (λ b. Shows names t (sheet_of (if b then page else z.page)) (k.pages t)) (sym off) (saw awaits k none t z at other).1

  -- others are awaited
  awaiting : (awaits later : ℕ → Bool) → IsLooking names v new.session new.seen.items page awaits x → ((t : ℕ) → t ≢ new.session → awaits t ≡ true → later t ≡ true) → IsLooking names v new.session new.seen.items page later x
  awaiting awaits later k more = record {
    journal = k.journal;
    change = k.change;
    looked = k.looked;
    pages = k.pages;
    is = k.is;
    many = k.many;
    low = k.low;
    own = k.own;
    own_looked = k.own_looked;
    shows = k.shows;
    each = λ t z at other. by t other (k.each t z at other);
  }
    where
      by : {P : Type 0} (t : ℕ) → t ≢ new.session → (awaits t ≡ true) ⊎ P → (later t ≡ true) ⊎ P
      by t other (inl still) = inl (more t other still)
      by t other (inr seen) = inr seen

  reads_these : (left : List Wanted) (doing : Doing) → ReadsThese false left doing → IsLooking names v new.session new.seen.items page (is_awaited left) x → StandsBy names v new doing x
  reads_these left (Reads own list) is k =
      subst (λ o. LooksBy names v new o (is_awaited list.items) new.journal x) (sym is.0)
      (subst (λ j. LooksBy names v new false (is_awaited list.items) j x) (sym knows)
      (subst (λ xs. IsLooking names v new.session new.seen.items page (is_awaited xs) x) (sym is.1) k))
  reads_these left Knows is k = absurd is
  reads_these left Enters is k = absurd is
  reads_these left (Lists own) is k = absurd is
  reads_these left (Looked own) is k = absurd is
  reads_these left (Announces p) is k = absurd is
  reads_these left Carries is k = absurd is

  goes_on : (awaits : ℕ → Bool) (rest wanted : List Wanted) (doing : Doing) → IsLooking names v new.session new.seen.items page awaits x → ((t : ℕ) → t ≢ new.session → awaits t ≡ true → is_awaited rest t ≡ true)
      → wanted ≡ reverse (wanted_from 0 new.session (Some page) new.seen.items new.seen.items) → GoesOnTo false rest wanted doing → StandsBy names v new doing x
  goes_on awaits (l ∷ rest) wanted doing k more is to = reads_these (l ∷ rest) doing to (awaiting awaits (is_awaited (l ∷ rest)) k more)
  goes_on awaits [] (l ∷ wanted) doing k more is to = reads_these (l ∷ wanted) doing to (awaiting awaits (is_awaited (l ∷ wanted)) k (λ t other still. no (sym (more t other still))))
  goes_on awaits [] [] doing k more is to =
      subst (λ d. StandsBy names v new d x) (sym to)
      (ends awaits k (λ t other still. no (sym (more t other still))) (none_reversed (wanted_from 0 new.session (Some page) new.seen.items new.seen.items) (sym is)))

wanted_is : (new : Client) (page : SeenPage) → new.journal ≡ Some page → wanted_now false new ≡ reverse (wanted_from 0 new.session (Some page) new.seen.items new.seen.items)
wanted_is new page knows = ap (λ j. reverse (wanted_from 0 new.session j new.seen.items new.seen.items)) knows

pub lists_stand : AllListsStand
lists_stand names v tags old new page awaits x knows k doing listed more =
    goes_on names v new page x (go.journal ∙ knows) awaits left (wanted_now false old) new.doing looking (λ t other still. more t (λ e. other (e ∙ sym go.session)) still) wanted go.doing
  where
    left : List Wanted
    left = reverse (left_from 0 false old.session tags old.seen.items)

    go : GoesOn false left old new
    go = subst (λ d. IsListed tags d old new) doing listed

    looking : IsLooking names v new.session new.seen.items page awaits x
    looking = subst (λ xs. IsLooking names v new.session xs page awaits x) (sym go.seen) (subst (λ t. IsLooking names v t old.seen.items page awaits x) (sym go.session) k)

    wanted : wanted_now false old ≡ reverse (wanted_from 0 new.session (Some page) new.seen.items new.seen.items)
    wanted = wanted_is old page knows ∙ ap (λ t. reverse (wanted_from 0 t (Some page) old.seen.items old.seen.items)) (sym go.session) ∙ ap (λ xs. reverse (wanted_from 0 new.session (Some page) xs xs)) (sym go.seen)

-- ---- a page was read

set_same : (xs : List Known) (t : ℕ) (x z : Known) → slice_get (slice_set xs t x) t ≡ Some z → x ≡ z
set_same [] t x z at = absurd (none at)
  where
    none : None ≡ Some z → ⊥
    none h = cc
set_same (y ∷ xs) zero x z at = the at
  where
    the : Some x ≡ Some z → x ≡ z
    the h = cc
set_same (y ∷ xs) (suc t) x z at = set_same xs t x z at

set_other : (xs : List Known) (t u : ℕ) (x z : Known) → slice_get (slice_set xs t x) u ≡ Some z → u ≢ t → slice_get xs u ≡ Some z
set_other [] t u x z at other = at
set_other (y ∷ xs) zero zero x z at other = absurd (other refl)
set_other (y ∷ xs) zero (suc u) x z at other = at
set_other (y ∷ xs) (suc t) zero x z at other = at
set_other (y ∷ xs) (suc t) (suc u) x z at other = set_other xs t u x z at (λ e. other (ap suc e))

set_length : (xs : List Known) (t : ℕ) (x : Known) → length (slice_set xs t x) ≡ length xs
set_length [] t x = refl
set_length (y ∷ xs) zero x = refl
set_length (y ∷ xs) (suc t) x = ap suc (set_length xs t x)

-- the last one was awaited, and no other is not any more
rest_awaited : (rest : List Wanted) (last : Wanted) (u : ℕ) → (is_awaited (rest ++ last ∷ []) u && not (u == last.session)) ≡ true → is_awaited rest u ≡ true
rest_awaited [] last u is = by (last.session == u) refl
  where
    parts : ((last.session == u || false) ≡ true) × (not (u == last.session) ≡ true)
    parts = and_parts (last.session == u || false) (not (u == last.session)) is

    by : (b : Bool) → (last.session == u) ≡ b → false ≡ true
    by true e = let on : (u == last.session) ≡ true = eq-eqb u last.session (sym (eqb-true last.session u e)) in no (sym parts.1 ∙ ap not on)
    by false e = no (sym parts.0 ∙ ap (λ b. b || false) e)
rest_awaited (first ∷ rest) last u is = by (first.session == u) refl is (rest_awaited rest last u)
  where
    by : (b : Bool) → (first.session == u) ≡ b → ((b || is_awaited (rest ++ last ∷ []) u) && not (u == last.session)) ≡ true → ((is_awaited (rest ++ last ∷ []) u && not (u == last.session)) ≡ true → is_awaited rest u ≡ true) → (b || is_awaited rest u) ≡ true
    by true e h on = refl
    by false e h on = on h

pub reads_step : AllReadsStep
reads_step names v w left known old new page knows looking k low other shows =
    goes_on names v new page (client_after v w (LawSees s t) s) (k.journal ∙ knows) (λ u. is_awaited left u && not (u == t)) k.rest (wanted_now false new) new.doing now more (wanted_is new page (k.journal ∙ knows)) k.doing
  where
    s : ℕ
    s = old.session

    t : ℕ
    t = k.wanted.session

    seen : IsLooking names v s new.seen.items page (λ u. is_awaited left u && not (u == t)) (client_after v w (LawSees s t) s)
    seen = sees names v w s t old.seen.items new.seen.items page (is_awaited left) looking low other (ap length k.seen ∙ set_length old.seen.items t known)
        (λ u z at apart. set_other old.seen.items t u known z (subst (λ xs. slice_get xs u ≡ Some z) k.seen at) apart)
        (λ z at. subst (λ y. Shows names t (sheet_of y.page) (w.session t).page) (set_same old.seen.items t known z (subst (λ xs. slice_get xs t ≡ Some z) k.seen at)) shows)

    now : IsLooking names v new.session new.seen.items page (λ u. is_awaited left u && not (u == t)) (client_after v w (LawSees s t) s)
    now = subst (λ j. IsLooking names v j new.seen.items page (λ u. is_awaited left u && not (u == t)) (client_after v w (LawSees s t) s)) (sym k.session) seen

    more : (u : ℕ) → u ≢ new.session → (is_awaited left u && not (u == t)) ≡ true → is_awaited k.rest u ≡ true
    more u apart still = rest_awaited k.rest k.wanted u (subst (λ xs. (is_awaited xs u && not (u == t)) ≡ true) k.next still)
