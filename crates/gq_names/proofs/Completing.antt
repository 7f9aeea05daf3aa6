-- Each put and each get can be completed: who looks at the pages as they stand looks once.
use Rattle.std.proofs.Common.{◌≡◌, ◌≢◌, ◌⊎◌, ℕ, zero, suc, ◌<◌, ◌≤◌, Bool, true, false, List, [], ◌∷◌, ◌++◌, refl, sym, ap, ◌∙◌, subst, inl, inr, Option, Some, arith, ltb}
use Rattle.std.specs.Prelude.{IsSome, fold, not}
use Rattle.std.proofs.lemmas.Bool.{cases_eq, ne_eqb, eq-eqb, lt-ltb, and_from}
use Rattle.gq_laws.specs.declared.ops.Op.{Op}
use Rattle.gq_laws.specs.Operations.{is_write}
use Rattle.gq_names.specs.Names.{Setting, Page, Journal, Change, Client, Knows, Announces, Reader, Idle, Searches, World, new_world, Step, Enters, Begins, Chooses, ClientWrites, Asks, Finds, Tells, with_session, with_reader, with_op, with_new_op, with_tag, new_put, new_get, finds_by, tells_by, told, greatest_shown, version_told, looking, begins_by, all_below, is_closed, no_page, none_seen, and_page, and_seen, has_seen, tick, after_step, world_after}
use Rattle.gq_names.specs.Completing.{looks_at, putting, PutEnded, AllPutsComplete, finds_at, getting, GetEnded, AllGetsComplete}
use Rattle.gq_names.proofs.Counting.{AllCounted, counted_from, first_counted, all_true, not_below}
use Rattle.gq_names.proofs.Moves.{with_here, with_away}
use Rattle.gq_names.proofs.Tellings.{op_here}
use Rattle.gq_names.proofs.Changing.{fold_append, entered_is, entered_page, entered_rest, Sight, first_sight, looks_all, announced_journal, announced_world, carried_world, writes_are}

module _ (v : Setting) (w : World) (s : ℕ) (low : s < v.sessions) (bytes : List ℕ) where
  abbrev j : Journal
  j = (w.session s).journal

  abbrev k : ℕ
  k = w.begun

  abbrev change : Change
  change = record { name = Some v.name; bytes = bytes; op = Some k }

  -- ---- it begins

  abbrev entered : World
  entered = after_step v w (Enters s)

  abbrev start : World
  start = tick (with_session s (looking entered s j change) (with_new_op (new_put entered s bytes) entered))

  begins_is : after_step v entered (Begins s v.name bytes) ≡ start
  begins_is = rw (lt-ltb s v.sessions low) (by (entered.session s).client (ap (λ z. z.client) (entered_is v w s)))
    where
      by : (client : Client) → client ≡ Knows j → tick (begins_by v entered s v.name bytes client) ≡ start
      by client is = let P : Client → Type 0 = λ z. tick (begins_by v entered s v.name bytes z) ≡ start in subst P (sym is) (rw (eq-eqb v.name v.name refl) refl)

  start_page : (t : ℕ) → (start.session t).page ≡ (w.session t).page
  start_page t = by (cases_eq t s)
    where
      by : (t ≡ s) ⊎ (t ≢ s) → (start.session t).page ≡ (w.session t).page
      by (inl same) = ap (λ z. z.page) (with_here s (looking entered s j change) (with_new_op (new_put entered s bytes) entered) t same) ∙ (ap (λ z. (entered.session z).page) (sym same) ∙ entered_page v w s t)
      by (inr ne) = ap (λ z. z.page) (with_away s (looking entered s j change) (with_new_op (new_put entered s bytes) entered) t ne) ∙ entered_page v w s t

  start_op : start.op k ≡ new_put entered s bytes
  start_op = op_here k (new_put entered s bytes) entered k refl

  begins : Sight v w start s low change 0 start
  begins = first_sight v w start s low change entered (with_here s (looking entered s j change) (with_new_op (new_put entered s bytes) entered) s refl) start_page
      (λ t ne. with_away s (looking entered s j change) (with_new_op (new_put entered s bytes) entered) t ne ∙ entered_rest v w s t ne)

  -- ---- and ends

  module _ (all : AllCounted w) (u : World) (sight : Sight v w start s low change v.sessions u) where
    abbrev next : Journal
    next = announced_journal v w start s low change all u sight 0 (λ n. false) (λ t. false)

    abbrev before : World
    before = announced_world v w start s low change all u sight 0 (λ n. false) (λ t. false)

    abbrev after : World
    after = carried_world v w start s low change all u sight 0 (λ n. false) (λ t. false)

    next_op : next.op ≡ Some k
    unfolding announced_journal
    next_op = refl

    before_op : before.op k ≡ record (u.op k) { tag = Some (next.page.line v.name).tag }
    before_op = by next.op next_op
      where
        by : (op : Option ℕ) → op ≡ Some k → (with_tag v next op (tick (with_session s (record (u.session s) { client = Announces next (Some k) }) u))).op k ≡ record (u.op k) { tag = Some (next.page.line v.name).tag }
        by op is = rw is (op_here k (record (u.op k) { tag = Some (next.page.line v.name).tag }) (tick (with_session s (record (u.session s) { client = Announces next (Some k) }) u)) k refl)

    after_op : after.op k ≡ record (before.op k) { end = Some before.now }
    after_op = op_here k (record (before.op k) { end = Some before.now }) before k refl

    ended : PutEnded after k s bytes
    ended = record {
      low = low_there (now_begun);
      kind = ap (λ z. z.kind) after_op ∙ (ap (λ z. z.kind) before_op ∙ (ap (λ f. (f k).kind) sight.ops ∙ ap (λ z. z.kind) start_op));
      session = ap (λ z. z.session) after_op ∙ (ap (λ z. z.session) before_op ∙ (ap (λ f. (f k).session) sight.ops ∙ ap (λ z. z.session) start_op));
      ended = let P : Option ℕ → Type 0 = λ z. IsSome z in subst P (sym (ap (λ z. z.end) after_op)) refl;
    }
      where
        now_begun : after.begun ≡ u.begun
        now_begun = by next.op next_op
          where
            by : (op : Option ℕ) → op ≡ Some k → (with_tag v next op (tick (with_session s (record (u.session s) { client = Announces next (Some k) }) u))).begun ≡ u.begun
            by op is = rw is refl

        low_there : after.begun ≡ u.begun → k < after.begun
        low_there same = let more = sight.begun in omega (arith, same, more)

  puts : AllCounted w → PutEnded (fold (after_step v) w (putting v s bytes)) k s bytes
  puts all =
      let rest : List Step = Chooses s 0 (λ n. false) (λ t. false) ∷ ClientWrites s true ∷ ClientWrites s true ∷ [] in
      let looked : World = fold (after_step v) start (looks_at s v.sessions) in
      let sight : Sight v w start s low change v.sessions looked = looks_all v w start s low change begins v.sessions (omega arith) in
      let P : World → Type 0 = λ z. PutEnded z k s bytes in
      subst (λ z. PutEnded (fold (after_step v) z (looks_at s v.sessions ++ rest)) k s bytes) (sym begins_is)
      (subst P (sym (fold_append v start (looks_at s v.sessions) rest))
      (subst P (sym (writes_are v w start s low change all looked sight 0 (λ n. false) (λ t. false)))
      (ended all looked sight)))

pub all_puts_complete : AllPutsComplete
all_puts_complete v steps s bytes low =
    subst (λ z. PutEnded z (world_after v steps).begun s bytes) (sym (fold_append v new_world steps (putting v s bytes)))
    (puts v (world_after v steps) s low bytes (counted_from v steps new_world first_counted))

-- ---- a get

module _ (v : Setting) (w : World) (r : ℕ) where
  abbrev get : ℕ
  get = w.begun

  reader_here : (x : Reader) (u : World) → (with_reader r x u).reader r ≡ x
  reader_here x u = rw (eq-eqb r r refl) refl

  -- the reader has looked at the first m pages
  record Search (m : ℕ) (u : World) : Type 0 where
    begun : get < u.begun
    reads : is_write (u.op get) ≡ false
    by : (u.op get).session ≡ r
    looked : ℕ → Bool
    seen : ℕ → Page
    is : u.reader r ≡ Searches get looked seen
    did : (i : ℕ) → i < m → looked i ≡ true
    was : (i : ℕ) → i < m → seen i ≡ (w.session i).page
    pages : (t : ℕ) → (u.session t).page ≡ (w.session t).page

  abbrev asked : World
  asked = after_step v w (Asks r)

  asked_op : asked.op get ≡ new_get w r
  asked_op = op_here get (new_get w r) w get refl

  first_search : Search 0 asked
  first_search = record {
    begun = omega arith;
    reads = ap is_write asked_op;
    by = ap (λ z. z.session) asked_op;
    looked = no_page;
    seen = none_seen;
    is = reader_here (Searches get no_page none_seen) (with_new_op (new_get w r) w);
    did = λ i less. absurd (omega (arith, less));
    was = λ i less. absurd (omega (arith, less));
    pages = λ t. refl;
  }

  finds_on : (m : ℕ) (u : World) → m < v.sessions → Search m u → Search (suc m) (after_step v u (Finds r m))
  finds_on m u less search = subst (λ z. Search (suc m) z) (sym finds_is) (record {
    begun = search.begun;
    reads = search.reads;
    by = search.by;
    looked = and_page m search.looked;
    seen = and_seen m (u.session m).page search.seen;
    is = reader_here next u;
    did = λ i before. did i before (cases_eq i m);
    was = λ i before. was i before (cases_eq i m);
    pages = search.pages;
  })
    where
      next : Reader
      next = Searches get (and_page m search.looked) (and_seen m (u.session m).page search.seen)

      finds_is : after_step v u (Finds r m) ≡ tick (with_reader r (Searches get (and_page m search.looked) (and_seen m (u.session m).page search.seen)) u)
      finds_is = rw (lt-ltb m v.sessions less) (let P : Reader → Type 0 = λ z. tick (finds_by u r m z) ≡ tick (finds_by u r m (Searches get search.looked search.seen)) in subst P (sym search.is) refl)

      did : (i : ℕ) → i < suc m → (i ≡ m) ⊎ (i ≢ m) → and_page m search.looked i ≡ true
      did i before (inl same) = rw (eq-eqb i m same) refl
      did i before (inr ne) = rw (ne_eqb i m ne) (search.did i (omega (arith, before, ne)))

      was : (i : ℕ) → i < suc m → (i ≡ m) ⊎ (i ≢ m) → and_seen m (u.session m).page search.seen i ≡ (w.session i).page
      was i before (inl same) = rw (eq-eqb i m same) (search.pages m ∙ ap (λ z. (w.session z).page) (sym same))
      was i before (inr ne) = rw (ne_eqb i m ne) (search.was i (omega (arith, before, ne)))

  finds_all : (m : ℕ) → m ≤ v.sessions → Search m (fold (after_step v) asked (finds_at r m))
  finds_all zero less = first_search
  finds_all (suc m) less =
      subst (λ z. Search (suc m) z) (sym (fold_append v asked (finds_at r m) (Finds r m ∷ [])))
      (finds_on m (fold (after_step v) asked (finds_at r m)) (omega (arith, less)) (finds_all m (omega (arith, less))))

  module _ (all : AllCounted w) (u : World) (search : Search v.sessions u) where
    there : (a b : ℕ) → (b ≡ a) ⊎ (b ≢ a) → (w.session a).page.after b ≤ (w.session b).page.number
    there a b (inl same) = let g = (all a).1.page.own in let h : (w.session a).page.after b ≡ (w.session a).page.after a = ap (λ z. (w.session a).page.after z) same in let i : (w.session b).page.number ≡ (w.session a).page.number = ap (λ z. (w.session z).page.number) same in omega (arith, g, h, i)
    there a b (inr ne) = (all a).1.page.others b ne

    found_asks : (a b : ℕ) → a < v.sessions → b < v.sessions → (search.seen a).after b ≤ (search.seen b).number
    found_asks a b low_a low_b =
        let e : (search.seen a).after b ≡ (w.session a).page.after b = ap (λ z. z.after b) (search.was a low_a) in
        let f : (search.seen b).number ≡ (w.session b).page.number = ap (λ z. z.number) (search.was b low_b) in
        let g = there a b (cases_eq b a) in
        omega (arith, e, f, g)

    found_all : has_seen v search.looked search.seen ≡ true
    found_all = and_from (all_below v.sessions search.looked) (is_closed v search.seen) (all_true v.sessions search.looked (λ i less. search.did i less))
        (all_true v.sessions (λ a. all_below v.sessions (λ b. not (ltb (search.seen b).number ((search.seen a).after b))))
        (λ a low_a. all_true v.sessions (λ b. not (ltb (search.seen b).number ((search.seen a).after b))) (λ b low_b. not_below (search.seen b).number ((search.seen a).after b) (found_asks a b low_a low_b))))

    abbrev told_op : Op
    told_op = told u (greatest_shown v search.seen v.name).bytes (version_told v search.seen) (u.op get)

    abbrev told_world : World
    told_world = tick (with_reader r Idle (with_op get told_op u))

    tells_is : after_step v u (Tells r) ≡ told_world
    tells_is = let P : Reader → Type 0 = λ z. tick (tells_by v u r z) ≡ told_world in subst P (sym search.is) (rw found_all refl)

    told_is : told_world.op get ≡ told_op
    told_is = op_here get told_op u get refl

    tells : GetEnded (after_step v u (Tells r)) get r
    tells = subst (λ z. GetEnded z get r) (sym tells_is) (record {
      low = search.begun;
      reads = ap is_write told_is;
      session = ap (λ z. z.session) told_is ∙ search.by;
      ended = let P : Option ℕ → Type 0 = λ z. IsSome z in subst P (sym (ap (λ z. z.end) told_is)) refl;
    })

  gets : AllCounted w → GetEnded (fold (after_step v) w (getting v r)) get r
  gets all =
      subst (λ z. GetEnded z get r) (sym (fold_append v asked (finds_at r v.sessions) (Tells r ∷ [])))
      (tells all (fold (after_step v) asked (finds_at r v.sessions)) (finds_all v.sessions (omega arith)))

pub all_gets_complete : AllGetsComplete
all_gets_complete v steps r =
    subst (λ z. GetEnded z (world_after v steps).begun r) (sym (fold_append v new_world steps (getting v r)))
    (gets v (world_after v steps) r (counted_from v steps new_world first_counted))
