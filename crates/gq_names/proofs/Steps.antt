-- Each step keeps what is so, and so does a whole run.
use Rattle.std.proofs.Common.{◌≡◌, ◌≢◌, ◌⊎◌, ℕ, zero, suc, ◌+◌, ◌<◌, ◌≤◌, Bool, true, false, List, [], ◌∷◌, ◌++◌, map, refl, sym, ap, ◌∙◌, subst, inl, inr, Option, Some, None, arith, eqb, ltb}
use Rattle.std.specs.Prelude.{slice_get, IsSome, fold, if◌then◌else◌}
use Rattle.std.specs.List.{range_with_len}
use Rattle.std.proofs.lemmas.Bool.{cases_eq, ne_eqb, eq-eqb, eqb-true, ltb-true, true≢false}
use Rattle.gq_tag.specs.declared.Tag.{Tag}
use Rattle.gq_tag.specs.Tag.{first_tag, is_less}
use Rattle.gq_laws.specs.declared.ops.Op.{Op}
use Rattle.gq_laws.specs.Operations.{is_write, Gives, At, WroteWith, Tagged}
use Rattle.gq_names.specs.Names.{Setting, Page, Journal, Change, Client, Knows, Looks, Announces, Carries, Session, Reader, Idle, Searches, World, new_world, new_page, new_journal, Step, Enters, JournalLate, PageLate, Begins, Tidies, Repeats, Sees, Chooses, ClientWrites, Asks, Finds, Tells, with_session, with_reader, with_op, with_new_op, asks, told, new_put, looking, begins_by, tidying, tidies_by, repeats_by, sees_by, chooses_by, writes_by, finds_by, tells_by, journal_late, page_late, changed, highest, new_line, version_told, and_page, and_seen, greatest_shown, has_seen, behind, tick, after_step, world_after, operations_of}
use Rattle.gq_names.specs.Laws.{AllNamesTagged}
use Rattle.gq_tag.proofs.Order.{IsAtMost, at_most_refl}
use Rattle.gq_names.proofs.Lists.{risen_at_most, rises_refl, chain_at, chain_ends}
use Rattle.gq_names.proofs.Views.{Among, Gone, Follows, follows_refl}
use Rattle.gq_names.proofs.Pages.{PastOf, above_self}
use Rattle.gq_names.proofs.Standing.{Ended, Sourced, Sane, ReadFrom, Lines, Searching, Sound}
use Rattle.gq_names.proofs.Turns.{minding, lines_enters, lines_journal_late, lines_page_late, lines_begins_other, lines_repeats, lines_sees, lines_chooses, lines_asked, lines_carried, lines_carries, lined_self}
use Rattle.gq_names.proofs.Moves.{session_moves, rests, reader_moves}
use Rattle.gq_names.proofs.Tellings.{announced_moves, none_some, some_is}
use Rattle.gq_names.proofs.Endings.{carried_moves, put_moves, get_moves, search_finds, told_moves}

module _ (v : Setting) (w : World) (sound : Sound v w) (s : ℕ) where
  abbrev x : Session
  x = w.session s

  abbrev base : Journal
  base = sound.base s

  abbrev past : ℕ → List Page
  past = sound.past

  lines : Lines v w past s base x
  lines = sound.lines s

  still : IsAtMost (x.page.line v.name).tag (x.page.line v.name).tag
  still = at_most_refl (x.page.line v.name).tag

  enters : Sound v (tick (with_session s (record x { client = Knows x.journal }) w))
  enters = session_moves v w sound s (record x { client = Knows x.journal }) still (lines_enters v w past s base x lines)

  journal_comes : (place : ℕ) (found : Option Journal) → slice_get x.journal_pending place ≡ found → Sound v (tick (journal_late w s place found))
  journal_comes place None at = rests v w sound
  journal_comes place (Some j) at = session_moves v w sound s (record x { journal = j; journal_pending = behind x.journal_pending place }) still (lines_journal_late v w past s base x lines place j at)

  page_comes : (place : ℕ) (found : Option Page) → slice_get x.page_pending place ≡ found → Sound v (tick (page_late w s place found))
  page_comes place None at = rests v w sound
  page_comes place (Some p) at = session_moves v w sound s (record x { page = p; page_pending = behind x.page_pending place })
      (risen_at_most (x.page.line v.name) (p.line v.name) ((chain_at x.page x.page_pending base.page place p lines.paged.chain at).0 v.name)) (lines_page_late v w past s base x lines place p at)

  begins : s < v.sessions → (name : ℕ) (bytes : List ℕ) (client : Client) → x.client ≡ client → Sound v (tick (begins_by v w s name bytes client))
  begins low name bytes (Knows j) is = by (eqb name v.name) refl
    where
      watched : Change
      watched = record { name = Some name; bytes = bytes; op = Some w.begun }

      other : Change
      other = record { name = Some name; bytes = bytes; op = None }

      by : (b : Bool) → eqb name v.name ≡ b → Sound v (tick (if b then with_session s (looking w s j watched) (with_new_op (new_put w s bytes) w) else with_session s (looking w s j other) w))
      by true e = put_moves v w sound s low j bytes is watched (ap Some (eqb-true name v.name e)) refl refl
      by false e = session_moves v w sound s (looking w s j other) still (lines_begins_other v w past s base x lines j other low is refl (λ same. true≢false (sym (eq-eqb name v.name (some_is name v.name same)) ∙ e)))
  begins low name bytes (Looks j change looked best) is = rests v w sound
  begins low name bytes (Announces j op) is = rests v w sound
  begins low name bytes (Carries j op) is = rests v w sound

  tidies : s < v.sessions → (client : Client) → x.client ≡ client → Sound v (tick (tidies_by w s client))
  tidies low (Knows j) is = session_moves v w sound s (looking w s j tidying) still (lines_begins_other v w past s base x lines j tidying low is refl (λ same. absurd (none_some v.name None refl same)))
  tidies low (Looks j change looked seen) is = rests v w sound
  tidies low (Announces j op) is = rests v w sound
  tidies low (Carries j op) is = rests v w sound

  repeats : (client : Client) → x.client ≡ client → Sound v (tick (repeats_by w s client))
  repeats (Knows j) is = session_moves v w sound s (record x { client = Announces j None }) still (lines_repeats v w past s base x lines j is)
  repeats (Looks j change looked seen) is = rests v w sound
  repeats (Announces j op) is = rests v w sound
  repeats (Carries j op) is = rests v w sound

  sees : (t : ℕ) (client : Client) → x.client ≡ client → Sound v (tick (sees_by w s t client))
  sees t (Looks j change looked seen) is = by (cases_eq t s)
    where
      next : Session
      next = record x { client = Looks j change (and_page t looked) (and_seen t (w.session t).page seen) }

      by : (t ≡ s) ⊎ (t ≢ s) → Sound v (tick (if eqb t s then w else with_session s next w))
      by (inl same) = rw (eq-eqb t s same) (rests v w sound)
      by (inr ne) = rw (ne_eqb t s ne) (session_moves v w sound s next still (lines_sees v w past s base x lines t j change looked seen is ne (sound.lines t).paged.was))
  sees t (Knows j) is = rests v w sound
  sees t (Announces j op) is = rests v w sound
  sees t (Carries j op) is = rests v w sound

  chooses : (more : ℕ) (goes asks : ℕ → Bool) (client : Client) → x.client ≡ client → Sound v (tick (chooses_by v w s more goes asks client))
  chooses more goes asks (Looks j change looked seen) is = by (has_seen v looked seen) refl
    where
      next : Session
      next = record x { client = Announces (changed v goes asks seen s j change (new_line s more change (highest v j.page seen))) change.op }

      by : (b : Bool) → has_seen v looked seen ≡ b → Sound v (tick (if b then with_session s next w else w))
      by true has = session_moves v w sound s next still (lines_chooses v w past s base x lines sound.base (λ t. (sound.lines t).paged.past_of) j change looked seen is has more goes asks)
      by false none = rests v w sound
  chooses more goes asks (Knows j) is = rests v w sound
  chooses more goes asks (Announces j op) is = rests v w sound
  chooses more goes asks (Carries j op) is = rests v w sound

  -- where the client carries its journal, that is the base
  pub carrying : (j : Journal) (op : Option ℕ) → x.client ≡ Carries j op → j ≡ base
  carrying j op is = minding v w past s base x lines (Carries j op) is

  pub mine : (j : Journal) → j ≡ base → Lines v w past s j x
  mine j same = subst (λ z. Lines v w past s z x) (sym same) lines

  writes : (answered : Bool) (client : Client) → x.client ≡ client → Sound v (tick (writes_by v w s answered client))
  writes true (Announces j op) is = announced_moves v w sound s j op is
  writes false (Announces j op) is = session_moves v w sound s (record x { journal_pending = x.journal_pending ++ j ∷ [] }) still (lines_asked v w past s base x lines j op is)
  writes true (Carries j None) is =
      let same : j ≡ base = carrying j None is in
      let own : Lines v w past s j x = mine j same in
      let next : Session = record x { page = j.page; page_pending = []; client = Knows j } in
      session_moves v w sound s next (risen_at_most (x.page.line v.name) (j.page.line v.name) (chain_ends x.page x.page_pending j.page own.paged.chain v.name))
      (subst (λ z. Lines v w past s z next) same (lines_carried v w past s j x own))
  writes true (Carries j (Some k)) is = carried_moves v w sound s j k is
  writes false (Carries j op) is =
      let same : j ≡ base = carrying j op is in
      let next : Session = record x { page_pending = x.page_pending ++ j.page ∷ [] } in
      session_moves v w sound s next still (subst (λ z. Lines v w past s z next) same (lines_carries v w past s j x (mine j same)))
  writes true (Knows j) is = rests v w sound
  writes false (Knows j) is = rests v w sound
  writes true (Looks j change looked best) is = rests v w sound
  writes false (Looks j change looked best) is = rests v w sound

module _ (v : Setting) (w : World) (sound : Sound v w) (r : ℕ) where
  searching : (reader : Reader) → w.reader r ≡ reader → Searching v w sound.past reader
  searching reader is = let P : Reader → Type 0 = λ z. Searching v w sound.past z in subst P is (sound.readers r)

  finds : (t : ℕ) (reader : Reader) → w.reader r ≡ reader → Sound v (tick (finds_by w r t reader))
  finds t Idle is = rests v w sound
  finds t (Searches k looked seen) is = reader_moves v w sound r (Searches k (and_page t looked) (and_seen t (w.session t).page seen))
      (search_finds v w sound.past k t looked seen (sound.lines t).paged.was (searching (Searches k looked seen) is))

  tells : (reader : Reader) → w.reader r ≡ reader → Sound v (tick (tells_by v w r reader))
  tells Idle is = rests v w sound
  tells (Searches k looked seen) is = by (has_seen v looked seen) refl
    where
      by : (b : Bool) → has_seen v looked seen ≡ b → Sound v (tick (if b then with_reader r Idle (with_op k (told w (greatest_shown v seen v.name).bytes (version_told v seen) (w.op k)) w) else w))
      by true has = told_moves v w sound r k looked seen has (searching (Searches k looked seen) is)
      by false none = rests v w sound

pub sound_step : (v : Setting) (w : World) (step : Step) → Sound v w → Sound v (after_step v w step)
sound_step v w (Enters s) sound = enters v w sound s
sound_step v w (JournalLate s place) sound = journal_comes v w sound s place (slice_get (w.session s).journal_pending place) refl
sound_step v w (PageLate s place) sound = page_comes v w sound s place (slice_get (w.session s).page_pending place) refl
sound_step v w (Begins s name bytes) sound = by (ltb s v.sessions) refl
  where
    by : (b : Bool) → ltb s v.sessions ≡ b → Sound v (tick (if b then begins_by v w s name bytes (w.session s).client else w))
    by true e = begins v w sound s (ltb-true s v.sessions e) name bytes (w.session s).client refl
    by false e = rests v w sound
sound_step v w (Tidies s) sound = by (ltb s v.sessions) refl
  where
    by : (b : Bool) → ltb s v.sessions ≡ b → Sound v (tick (if b then tidies_by w s (w.session s).client else w))
    by true e = tidies v w sound s (ltb-true s v.sessions e) (w.session s).client refl
    by false e = rests v w sound
sound_step v w (Repeats s) sound = repeats v w sound s (w.session s).client refl
sound_step v w (Sees s t) sound = by (ltb t v.sessions)
  where
    by : (b : Bool) → Sound v (tick (if b then sees_by w s t (w.session s).client else w))
    by true = sees v w sound s t (w.session s).client refl
    by false = rests v w sound
sound_step v w (Chooses s more goes asks) sound = chooses v w sound s more goes asks (w.session s).client refl
sound_step v w (ClientWrites s answered) sound = writes v w sound s answered (w.session s).client refl
sound_step v w (Asks r) sound = get_moves v w sound r
sound_step v w (Finds r t) sound = by (ltb t v.sessions)
  where
    by : (b : Bool) → Sound v (tick (if b then finds_by w r t (w.reader r) else w))
    by true = finds v w sound r t (w.reader r) refl
    by false = rests v w sound
sound_step v w (Tells r) sound = tells v w sound r (w.reader r) refl

first_past : ℕ → List Page
first_past s = new_page ∷ []

first_past_of : (v : Setting) (s : ℕ) → PastOf v first_past s new_journal
unfolding first_past
first_past_of v s = record {
  pages = record {
    most = λ d among. most d among;
    rises = λ d e first second below. same d e first second;
    here = inl refl;
  };
  gone = λ d among. gone d among;
}
  where
    most : (d : Page) → Among d (new_page ∷ []) → (d.number ≤ 0) × Follows v d new_page
    most d (inl is) = let P : Page → Type 0 = λ z. (z.number ≤ 0) × Follows v z new_page in subst P (sym is) (omega arith, follows_refl v new_page)
    most d (inr none) = absurd none

    same : (d e : Page) → Among d (new_page ∷ []) → Among e (new_page ∷ []) → Follows v d e
    same d e first (inl is) = let P : Page → Type 0 = λ z. Follows v d z in subst P (sym is) (most d first).1
    same d e first (inr none) = absurd none

    gone : (d : Page) → Among d (new_page ∷ []) → Gone v first_past s d
    gone d (inl is) = let P : Page → Type 0 = λ z. Gone v first_past s z in subst P (sym is) (λ name. (omega arith, λ went. absurd (true≢false (sym went))))
    gone d (inr none) = absurd none

first_sound : (v : Setting) → Sound v new_world
unfolding first_past
first_sound v = record {
  base = λ s. new_journal;
  past = first_past;
  ops = λ i low. absurd (omega arith);
  differ = λ i j t low. absurd (omega arith);
  found = λ e t ended. let low = ended.low in absurd (omega (arith, low));
  lines = λ s. record {
    paged = record {
      chain = rises_refl new_page;
      above = record { now = above_self v first_past s new_journal (first_past_of v s); pending = tt; known = above_self v first_past s new_journal (first_past_of v s) };
      minds = tt;
      past_of = first_past_of v s;
      was = inl refl;
      pending = tt;
    };
    lined = record { now = lined_self v new_world s new_journal; pending = tt; known = lined_self v new_world s new_journal };
    based = λ k is. absurd (none_some k None refl is);
    sourced = λ d among. sources d among;
    acts = tt;
  };
  readers = λ r. tt;
}
  where
    sources : (d : Page) → Among d (new_page ∷ []) → Sourced new_world (d.line v.name)
    sources d (inl is) = let P : Page → Type 0 = λ z. Sourced new_world (z.line v.name) in subst P (sym is) (inl refl)
    sources d (inr none) = absurd none

pub sound_from : (v : Setting) (steps : List Step) (w : World) → Sound v w → Sound v (fold (after_step v) w steps)
sound_from v [] w sound = sound
sound_from v (step ∷ steps) w sound = sound_from v steps (after_step v w step) (sound_step v w step sound)

pub sound_after : (v : Setting) (steps : List Step) → Sound v (world_after v steps)
sound_after v steps = sound_from v steps new_world (first_sound v)

-- ---- the operations as a list

at_range : (f : ℕ → Op) (start n i : ℕ) (a : Op) → slice_get (map f (range_with_len start n)) i ≡ Some a → (i < n) × (f (start + i) ≡ a)
at_range f start zero i a at = absurd (none_some a None refl at)
at_range f start (suc n) zero a at = (omega arith, (let first : f start ≡ a = cc in ap f (plus_zero start) ∙ first))
  where
    plus_zero : (k : ℕ) → k + 0 ≡ k
    plus_zero k = omega arith
at_range f start (suc n) (suc i) a at = let later = at_range f (start + 1) n i a at in (omega (arith, later.0), ap f (shift start i) ∙ later.1)
  where
    shift : (k m : ℕ) → k + suc m ≡ (k + 1) + m
    shift k m = omega arith

range_at : (f : ℕ → Op) (start n i : ℕ) → i < n → slice_get (map f (range_with_len start n)) i ≡ Some (f (start + i))
range_at f start zero i low = absurd (omega arith)
range_at f start (suc n) zero low = ap (λ k. Some (f k)) (plus_zero start)
  where
    plus_zero : (k : ℕ) → k ≡ k + 0
    plus_zero k = omega arith
range_at f start (suc n) (suc i) low = range_at f (start + 1) n i (omega arith) ∙ ap (λ k. Some (f k)) (shift start i)
  where
    shift : (k m : ℕ) → (k + 1) + m ≡ k + suc m
    shift k m = omega arith

the_end : (o : Option ℕ) → IsSome o → (e : ℕ) × (o ≡ Some e)
the_end None h = absurd (true≢false (sym h))
the_end (Some e) h = (e, refl)

module _ (v : Setting) (w : World) (sound : Sound v w) where
  abbrev ops : List Op
  ops = operations_of w

  zero_plus : (i : ℕ) → 0 + i ≡ i
  zero_plus i = omega arith

  found : (i : ℕ) (a : Op) → At ops i a → (i < w.begun) × (w.op i ≡ a)
  found i a at = let r = at_range w.op 0 w.begun i a at in (r.0, sym (ap w.op (zero_plus i)) ∙ r.1)

  stands : (i : ℕ) → i < w.begun → At ops i (w.op i)
  stands i low = range_at w.op 0 w.begun i low ∙ ap (λ k. Some (w.op k)) (zero_plus i)

  done : (i e : ℕ) (a : Op) (t : Tag) → At ops i a → a.end ≡ Some e → a.tag ≡ Some t → Ended w e t
  done i e a t at end tag = let r = found i a at in record { op = i; low = r.0; end = ap (λ z. z.end) r.1 ∙ end; tag = ap (λ z. z.tag) r.1 ∙ tag }

  ends_later : (i e : ℕ) (a : Op) → At ops i a → a.end ≡ Some e → a.begin < e
  ends_later i e a at = let r = found i a at in subst (λ z. z.end ≡ Some e → z.begin < e) r.1 (λ end. ((sound.ops i r.0).ends e end).0)

  completed : (i : ℕ) (a : Op) → At ops i a → IsSome a.end → IsSome a.tag
  completed i a at = let r = found i a at in subst (λ z. IsSome z.end → IsSome z.tag) r.1 (λ some. let e = the_end (w.op i).end some in ((sound.ops i r.0).ends e.0 e.1).2)

  differ : (i j : ℕ) (a b : Op) (tag : Tag) → At ops i a → At ops j b → is_write a ≡ true → is_write b ≡ true → a.tag ≡ Some tag → b.tag ≡ Some tag → i ≡ j
  differ i j a b tag at_a at_b write_a write_b tag_a tag_b =
      let r = found i a at_a in
      let q = found j b at_b in
      sound.differ i j tag r.0 q.0 (ap is_write r.1 ∙ write_a) (ap is_write q.1 ∙ write_b) (ap (λ z. z.tag) r.1 ∙ tag_a) (ap (λ z. z.tag) q.1 ∙ tag_b)

  not_first : (i : ℕ) (a : Op) → At ops i a → is_write a ≡ true → a.tag ≢ Some first_tag
  not_first i a at write first = let r = found i a at in ((sound.ops i r.0).numbered first_tag (ap is_write r.1 ∙ write) (ap (λ z. z.tag) r.1 ∙ first)).0 refl

  rising : (i j e : ℕ) (a b : Op) (x y : Tag) → At ops i a → At ops j b → a.end ≡ Some e → e < b.begin → a.tag ≡ Some x → b.tag ≡ Some y → IsAtMost x y
  rising i j e a b x y at_a at_b end low tag_a tag_b =
      let q = found j b at_b in
      (sound.ops j q.0).rises y e x (ap (λ z. z.tag) q.1 ∙ tag_b) (done i e a x at_a end tag_a) (let begin : (w.op j).begin ≡ b.begin = ap (λ z. z.begin) q.1 in omega (arith, low, begin))

  writes_rise : (i j e : ℕ) (a b : Op) (x y : Tag) → At ops i a → At ops j b → a.end ≡ Some e → e < b.begin → is_write b ≡ true → a.tag ≡ Some x → b.tag ≡ Some y → is_less x y ≡ true
  writes_rise i j e a b x y at_a at_b end low write tag_a tag_b =
      let q = found j b at_b in
      (sound.ops j q.0).writes y e x (ap is_write q.1 ∙ write) (ap (λ z. z.tag) q.1 ∙ tag_b) (done i e a x at_a end tag_a) (let begin : (w.op j).begin ≡ b.begin = ap (λ z. z.begin) q.1 in omega (arith, low, begin))

  Source : (e : ℕ) (tag : Tag) → Op → Type 0
  Source e tag a = ((tag ≡ first_tag) × Gives a []) ⊎ ((j : ℕ) × (p : Op) × (bytes : List ℕ) × At ops j p × WroteWith p tag bytes × (p.begin < e) × Gives a bytes)

  sourced : (i e : ℕ) (a : Op) (tag : Tag) → At ops i a → is_write a ≡ false → a.end ≡ Some e → a.tag ≡ Some tag → Source e tag a
  unfolding Source
  sourced i e a tag at = let r = found i a at in subst (λ z. is_write z ≡ false → z.end ≡ Some e → z.tag ≡ Some tag → Source e tag z) r.1 (λ read end has. from i (sound.ops i r.0) read end has)
    where
      by : (i : ℕ) → ((tag ≡ first_tag) × Gives (w.op i) []) ⊎ ReadFrom w (w.op i) e tag → Source e tag (w.op i)
      by i (inl first) = inl first
      by i (inr p) = inr (p.op, w.op p.op, p.bytes, stands p.op p.low, (p.kind, p.tag), p.begin, p.gives)

      from : (i : ℕ) → Sane v w sound.base (w.op i) → is_write (w.op i) ≡ false → (w.op i).end ≡ Some e → (w.op i).tag ≡ Some tag → Source e tag (w.op i)
      from i sane read end has = by i (sane.sourced e tag read end has)

  pub tagged : Tagged (operations_of w)
  unfolding Source
  tagged = record {
    ends_later = ends_later;
    completed = completed;
    write_tags_differ = differ;
    write_tags_not_first = not_first;
    rising = λ i j a b x y at_a at_b before tag_a tag_b. rising i j before.0 a b x y at_a at_b before.1 before.2 tag_a tag_b;
    writes_rise = λ i j a b x y at_a at_b before write tag_a tag_b. writes_rise i j before.0 a b x y at_a at_b before.1 before.2 write tag_a tag_b;
    sourced = sourced;
  }

pub all_names_tagged : AllNamesTagged
all_names_tagged v steps = tagged v (world_after v steps) (sound_after v steps)
