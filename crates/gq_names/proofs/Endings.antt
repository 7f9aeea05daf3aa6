-- An operation begins, or ends.
use Rattle.std.proofs.Common.{◌≡◌, ◌≢◌, ◌⊎◌, ℕ, ◌+◌, ◌<◌, Bool, true, false, List, [], refl, sym, ap, ◌∙◌, subst, inl, inr, Option, Some, None, arith}
use Rattle.std.specs.Prelude.{IsSome, if◌then◌else◌}
use Rattle.std.proofs.lemmas.Bool.{cases_eq, ne_eqb, eq-eqb, true≢false, and_parts}
use Rattle.gq_tag.specs.declared.Tag.{Tag}
use Rattle.gq_tag.specs.declared.StoredCopy.{StoredCopy}
use Rattle.gq_tag.specs.Tag.{first_tag, first_copy, is_less}
use Rattle.gq_laws.specs.declared.ops.Kind.TheVariants.{Write as Writes}
use Rattle.gq_laws.specs.declared.ops.Op.{Op}
use Rattle.gq_laws.specs.Operations.{is_write, Gives}
use Rattle.gq_names.specs.Names.{Setting, Page, Journal, Change, Knows, Looks, Carries, Session, Idle, World, with_session, with_reader, with_op, with_new_op, new_put, new_get, looking, asks, told, all_below, is_closed, no_page, none_seen, and_page, and_seen, shown, greatest_shown, greatest_line, version_told, has_seen, tick}
use Rattle.gq_tag.proofs.Order.{IsAtMost, at_most_refl, at_most_trans}
use Rattle.gq_names.proofs.Lists.{risen_at_most, chain_ends, all_at, Chosen, greatest_is}
use Rattle.gq_names.proofs.Views.{Among, follows_rises, at_most_first, top_nothing}
use Rattle.gq_names.proofs.Standing.{Ended, Wrote, Sourced, ReadFrom, Sane, line_at, view, Reached, Seen, BaseOp, Looking, LooksFor, Lines, Search, Searching, Sound}
use Rattle.gq_names.proofs.GoingOn.{kind_write, OpGoes, op_stays, Goes, StaysOpen, reached_on, ended_before, lines_on, sane_on, sound_on, Untouched}
use Rattle.gq_names.proofs.Turns.{knows, knows_line, minding, acting, lines_client, looks_first, lines_carried, Whole, seen_all, seen_more, looked_more}
use Rattle.gq_names.proofs.Moves.{with_here, with_away, line_with}
use Rattle.gq_names.proofs.Tellings.{op_here, op_away, op_goes, none_some, some_is}

-- the lines of a session, where its place is another name of it
lines_at : (v : Setting) (u : World) (past : ℕ → List Page) (base : ℕ → Journal) (s t : ℕ) (x : Session) → t ≡ s → u.session t ≡ x → Lines v u past s (base s) x → Lines v u past t (base t) (u.session t)
lines_at v u past base s t x same here lines =
    let P : ℕ → Session → Type 0 = λ n y. Lines v u past n (base n) y in
    subst (λ n. P n (u.session t)) (sym same) (subst (λ y. P s y) (sym here) lines)

-- ---- a put ends: the client's write of its page was answered

module _ (v : Setting) (w : World) (sound : Sound v w) (s : ℕ) (j : Journal) (k : ℕ) (is : (w.session s).client ≡ Carries j (Some k)) where
  abbrev x : Session
  x = w.session s

  abbrev carried : Session
  carried = record x { page = j.page; page_pending = []; client = Knows j }

  abbrev ended : Op
  ended = record (w.op k) { end = Some w.now }

  abbrev ended_world : World
  ended_world = tick (with_session s carried (with_op k ended w))

  base_is : j ≡ sound.base s
  base_is = minding v w sound.past s (sound.base s) x (sound.lines s) (Carries j (Some k)) is

  lines : Lines v w sound.past s j x
  lines = subst (λ z. Lines v w sound.past s z x) (sym base_is) (sound.lines s)

  based : BaseOp v w s j k
  based = lines.based k (acting v w sound.past s (sound.base s) x (sound.lines s) (Carries j (Some k)) is k refl)

  rises : IsAtMost (x.page.line v.name).tag (j.page.line v.name).tag
  rises = risen_at_most (x.page.line v.name) (j.page.line v.name) (chain_ends x.page x.page_pending j.page lines.paged.chain v.name)

  ended_ops : (i : ℕ) → OpGoes (w.op i) (ended_world.op i)
  ended_ops = op_goes k ended w (record { begin = refl; session = refl; write = refl; kind = λ write. refl; tag = λ t write has. has })

  same_tag : (i : ℕ) → (ended_world.op i).tag ≡ (w.op i).tag
  same_tag i = by (cases_eq i k)
    where
      by : (i ≡ k) ⊎ (i ≢ k) → (ended_world.op i).tag ≡ (w.op i).tag
      by (inl same) = ap (λ z. z.tag) (op_here k ended w i same) ∙ ap (λ z. (w.op z).tag) (sym same)
      by (inr ne) = ap (λ z. z.tag) (op_away k ended w i ne)

  -- what ended had ended before, or is this one
  ended_was : (e : ℕ) (t : Tag) → Ended ended_world e t → Ended w e t ⊎ ((e ≡ w.now) × (t ≡ (j.page.line v.name).tag))
  ended_was e t done = by (cases_eq done.op k)
    where
      by : (done.op ≡ k) ⊎ (done.op ≢ k) → Ended w e t ⊎ ((e ≡ w.now) × (t ≡ (j.page.line v.name).tag))
      by (inl same) = inr (
        sym (some_is w.now e (sym (ap (λ z. z.end) (op_here k ended w done.op same)) ∙ done.end)),
        some_is t (j.page.line v.name).tag (sym done.tag ∙ same_tag done.op ∙ ap (λ z. (w.op z).tag) same ∙ based.tag),
      )
      by (inr ne) = inl (record {
        op = done.op;
        low = done.low;
        end = sym (ap (λ z. z.end) (op_away k ended w done.op ne)) ∙ done.end;
        tag = sym (same_tag done.op) ∙ done.tag;
      })

  ended_goes : Goes v w ended_world
  ended_goes = record {
    now = refl;
    begun = omega arith;
    ops = λ i low. ended_ops i;
    ended = λ e t done. by e t (ended_was e t done);
    pages = line_with v w (with_op k ended w) s carried (λ t. refl) rises;
  }
    where
      by : (e : ℕ) (t : Tag) → Ended w e t ⊎ ((e ≡ w.now) × (t ≡ (j.page.line v.name).tag)) → Ended w e t ⊎ (e ≡ w.now)
      by e t (inl old) = inl old
      by e t (inr new) = inr new.0

  ended_open : (t : ℕ) → StaysOpen w ended_world t
  ended_open t i low session write none = same_tag i ∙ none

  ended_sane : Sane v ended_world sound.base ended
  ended_sane = record {
    begins = still.begins;
    ends = λ e end. let now : w.now ≡ e = some_is w.now e end in (
      (let b = was.begins in omega (arith, b, now)),
      omega (arith, now),
      (let P : Option Tag → Type 0 = λ z. IsSome z in subst P (sym based.tag) refl),
    );
    within = was.within;
    rises = still.rises;
    writes = still.writes;
    sourced = λ e y read end has. absurd (true≢false (sym based.write ∙ read));
    numbered = still.numbered;
  }
    where
      was : Sane v w sound.base (w.op k)
      was = sound.ops k based.low

      still : Sane v ended_world sound.base (w.op k)
      still = sane_on v w ended_world ended_goes sound sound.base sound.base (w.op k) (let b = was.begins in omega (arith, b)) (λ t. at_most_refl ((sound.base t).page.line v.name).tag) was

  -- its page has its version
  reached : (t : Tag) → t ≡ (j.page.line v.name).tag → Reached v (line_at v ended_world) t
  reached t same = inr (record {
    session = s;
    low = let within = (sound.ops k based.low).within based.write in omega (arith, within, based.session);
    most = subst (λ z. IsAtMost t (z.page.line v.name).tag) (sym (with_here s carried (with_op k ended w) s refl)) (subst (λ z. IsAtMost z (j.page.line v.name).tag) (sym same) (at_most_refl (j.page.line v.name).tag));
  })

  then_lines : Lines v ended_world sound.past s (sound.base s) carried
  then_lines = lines_on v w ended_world ended_goes sound sound.past sound.past (λ t d among. among) s (sound.base s) carried refl (ended_open s)
      (subst (λ z. Lines v w sound.past s z carried) base_is (lines_carried v w sound.past s j x lines))

  pub carried_moves : Sound v ended_world
  carried_moves = sound_on v w ended_world ended_goes sound sound.base sound.past (λ t d among. among) (λ t. at_most_refl ((sound.base t).page.line v.name).tag)
      (λ i low. op i low (cases_eq i k))
      (λ i l t low_i low_l write_i write_l tag_i tag_l. sound.differ i l t low_i low_l (sym (ended_ops i).write ∙ write_i) (sym (ended_ops l).write ∙ write_l) (sym (same_tag i) ∙ tag_i) (sym (same_tag l) ∙ tag_l))
      (λ e t done. found e t (ended_was e t done))
      (λ t. line t (cases_eq t s)) (λ r. inl refl)
    where
      op : (i : ℕ) → i < w.begun → (i ≡ k) ⊎ (i ≢ k) → ((i < w.begun) × (ended_world.op i ≡ w.op i)) ⊎ Sane v ended_world sound.base (ended_world.op i)
      op i low (inl same) = inr (subst (λ z. Sane v ended_world sound.base z) (sym (op_here k ended w i same)) ended_sane)
      op i low (inr ne) = inl (low, op_away k ended w i ne)

      found : (e : ℕ) (t : Tag) → Ended w e t ⊎ ((e ≡ w.now) × (t ≡ (j.page.line v.name).tag)) → Ended w e t ⊎ Reached v (line_at v ended_world) t
      found e t (inl old) = inl old
      found e t (inr new) = inr (reached t new.1)

      line : (t : ℕ) → (t ≡ s) ⊎ (t ≢ s) → Untouched v w ended_world ended_goes sound sound.base sound.past t ⊎ Lines v ended_world sound.past t (sound.base t) (ended_world.session t)
      line t (inl same) = inr (lines_at v ended_world sound.past sound.base s t carried same (with_here s carried (with_op k ended w) t same) then_lines)
      line t (inr ne) = inl (with_away s carried (with_op k ended w) t ne, refl, refl, ended_open t)

-- ---- an operation more, which has not ended and has no version

module _ (v : Setting) (w : World) (sound : Sound v w) (a : Op) (u : World) (now : u.now ≡ w.now + 1) (begun : u.begun ≡ w.begun + 1) (ops : (i : ℕ) → u.op i ≡ (with_op w.begun a w).op i)
    (begin : a.begin ≡ w.now) (end : a.end ≡ None) (tag : a.tag ≡ None) (within : is_write a ≡ true → a.session < v.sessions)
    (pages : (t : ℕ) → (u.session t).page ≡ (w.session t).page) where
  pub new_is : (i : ℕ) → i ≡ w.begun → u.op i ≡ a
  new_is i same = ops i ∙ op_here w.begun a w i same

  pub old_is : (i : ℕ) → i ≢ w.begun → u.op i ≡ w.op i
  old_is i ne = ops i ∙ op_away w.begun a w i ne

  pub old_low : (i : ℕ) → i < u.begun → i ≢ w.begun → i < w.begun
  old_low i low ne = omega (arith, low, ne, begun)

  begun_ended : (e : ℕ) (t : Tag) → Ended u e t → Ended w e t
  begun_ended e t done = by (cases_eq done.op w.begun)
    where
      by : (done.op ≡ w.begun) ⊎ (done.op ≢ w.begun) → Ended w e t
      by (inl same) = absurd (none_some e a.end end (sym (ap (λ z. z.end) (new_is done.op same)) ∙ done.end))
      by (inr ne) = record {
        op = done.op;
        low = old_low done.op done.low ne;
        end = sym (ap (λ z. z.end) (old_is done.op ne)) ∙ done.end;
        tag = sym (ap (λ z. z.tag) (old_is done.op ne)) ∙ done.tag;
      }

  pub begun_goes : Goes v w u
  begun_goes = record {
    now = now;
    begun = omega (arith, begun);
    ops = λ i low. op_stays (w.op i) (u.op i) (old_is i (λ same. omega (arith, low, same)));
    ended = λ e t done. inl (begun_ended e t done);
    pages = λ t. let P : Page → Type 0 = λ z. IsAtMost (line_at v w t).tag (z.line v.name).tag in subst P (sym (pages t)) (at_most_refl (line_at v w t).tag);
  }

  pub begun_open : (t : ℕ) → StaysOpen w u t
  begun_open t i low session write none = ap (λ z. z.tag) (old_is i (λ same. omega (arith, low, same))) ∙ none

  begun_sane : Sane v u sound.base a
  begun_sane = record {
    begins = omega (arith, begin, now);
    ends = λ e is. absurd (none_some e a.end end is);
    within = within;
    rises = λ y e t has done low. absurd (none_some y a.tag tag has);
    writes = λ y e t write has done low. absurd (none_some y a.tag tag has);
    sourced = λ e y read is has. absurd (none_some y a.tag tag has);
    numbered = λ y write has. absurd (none_some y a.tag tag has);
  }

  -- who looks from now on sees what ended
  pub begun_seen : (n : ℕ) (looked : ℕ → Bool) (seen : ℕ → Page) → ((s : ℕ) → looked s ≡ true → IsAtMost (line_at v w s).tag ((seen s).line v.name).tag) → Seen v u n looked seen
  begun_seen n looked seen more e t done low = reached_on v (line_at v w) (view v u looked seen) t (λ s. up s (looked s) refl) (sound.found e t (begun_ended e t done))
    where
      up : (s : ℕ) (b : Bool) → looked s ≡ b → IsAtMost (line_at v w s).tag (if b then (seen s).line v.name else line_at v u s).tag
      up s true did = more s did
      up s false did = begun_goes.pages s

  pub begun_moves : ((t : ℕ) → Untouched v w u begun_goes sound sound.base sound.past t ⊎ Lines v u sound.past t (sound.base t) (u.session t)) → ((r : ℕ) → (u.reader r ≡ w.reader r) ⊎ Searching v u sound.past (u.reader r)) → Sound v u
  begun_moves lines readers = sound_on v w u begun_goes sound sound.base sound.past (λ t d among. among) (λ t. at_most_refl ((sound.base t).page.line v.name).tag)
      (λ i low. op i low (cases_eq i w.begun)) (λ i l t low_i low_l write_i write_l tag_i tag_l. differ i l t low_i low_l write_i write_l tag_i tag_l (cases_eq i w.begun) (cases_eq l w.begun))
      (λ e t done. inl (begun_ended e t done)) lines readers
    where
      op : (i : ℕ) → i < u.begun → (i ≡ w.begun) ⊎ (i ≢ w.begun) → ((i < w.begun) × (u.op i ≡ w.op i)) ⊎ Sane v u sound.base (u.op i)
      op i low (inl same) = inr (subst (λ z. Sane v u sound.base z) (sym (new_is i same)) begun_sane)
      op i low (inr ne) = inl (old_low i low ne, old_is i ne)

      no_tag : (i : ℕ) (t : Tag) → i ≡ w.begun → (u.op i).tag ≡ Some t → ⊥
      no_tag i t same has = none_some t a.tag tag (sym (ap (λ z. z.tag) (new_is i same)) ∙ has)

      differ : (i l : ℕ) (t : Tag) → i < u.begun → l < u.begun → is_write (u.op i) ≡ true → is_write (u.op l) ≡ true → (u.op i).tag ≡ Some t → (u.op l).tag ≡ Some t → (i ≡ w.begun) ⊎ (i ≢ w.begun) → (l ≡ w.begun) ⊎ (l ≢ w.begun) → i ≡ l
      differ i l t low_i low_l write_i write_l tag_i tag_l (inl new) other = absurd (no_tag i t new tag_i)
      differ i l t low_i low_l write_i write_l tag_i tag_l (inr old) (inl new) = absurd (no_tag l t new tag_l)
      differ i l t low_i low_l write_i write_l tag_i tag_l (inr a_old) (inr b_old) = sound.differ i l t (old_low i low_i a_old) (old_low l low_l b_old)
          (sym (ap is_write (old_is i a_old)) ∙ write_i) (sym (ap is_write (old_is l b_old)) ∙ write_l) (sym (ap (λ z. z.tag) (old_is i a_old)) ∙ tag_i) (sym (ap (λ z. z.tag) (old_is l b_old)) ∙ tag_l)

-- ---- a put begins

module _ (v : Setting) (w : World) (sound : Sound v w) (s : ℕ) (low : s < v.sessions) (j : Journal) (bytes : List ℕ) (is : (w.session s).client ≡ Knows j) (change : Change) (name : change.name ≡ Some v.name) (its_bytes : change.bytes ≡ bytes) (its_op : change.op ≡ Some w.begun) where
  abbrev looks : Session
  looks = looking w s j change

  abbrev put_world : World
  put_world = tick (with_session s looks (with_new_op (new_put w s bytes) w))

  put_pages : (t : ℕ) → (put_world.session t).page ≡ (w.session t).page
  put_pages t = by (cases_eq t s)
    where
      by : (t ≡ s) ⊎ (t ≢ s) → (put_world.session t).page ≡ (w.session t).page
      by (inl same) = ap (λ z. z.page) (with_here s looks (with_new_op (new_put w s bytes) w) t same) ∙ ap (λ z. (w.session z).page) (sym same)
      by (inr ne) = ap (λ z. z.page) (with_away s looks (with_new_op (new_put w s bytes) w) t ne)

  put_goes : Goes v w put_world
  put_goes = begun_goes v w sound (new_put w s bytes) put_world refl refl (λ i. refl) refl refl refl (λ write. low) put_pages

  put_open : (t : ℕ) → StaysOpen w put_world t
  put_open = begun_open v w sound (new_put w s bytes) put_world refl refl (λ i. refl) refl refl refl (λ write. low) put_pages

  new_op : put_world.op w.begun ≡ new_put w s bytes
  new_op = op_here w.begun (new_put w s bytes) w w.begun refl

  -- its journal has what its page has, or more
  own_more : (t : ℕ) → and_page s no_page t ≡ true → IsAtMost (line_at v w t).tag ((and_seen s j.page none_seen t).line v.name).tag
  own_more t did = by (cases_eq t s)
    where
      mine : Lines v w sound.past s (sound.base s) (w.session s)
      mine = sound.lines s

      below : IsAtMost (line_at v w s).tag (j.page.line v.name).tag
      below = at_most_trans (line_at v w s).tag ((sound.base s).page.line v.name).tag (j.page.line v.name).tag
          (risen_at_most (line_at v w s) ((sound.base s).page.line v.name) (chain_ends (w.session s).page (w.session s).page_pending (sound.base s).page mine.paged.chain v.name))
          (risen_at_most ((sound.base s).page.line v.name) (j.page.line v.name) (follows_rises v (sound.base s).page j.page (knows v w sound.past s (sound.base s) (w.session s) mine (Knows j) is).rises v.name))

      by : (t ≡ s) ⊎ (t ≢ s) → IsAtMost (line_at v w t).tag ((and_seen s j.page none_seen t).line v.name).tag
      by (inl same) = rw (eq-eqb t s same) (let P : ℕ → Type 0 = λ z. IsAtMost (line_at v w z).tag (j.page.line v.name).tag in subst P (sym same) below)
      by (inr ne) = absurd (true≢false (sym did ∙ away))
        where
          away : and_page s no_page t ≡ false
          away = rw (ne_eqb t s ne) refl

  its_look : Looking v put_world s change (and_page s no_page) (and_seen s j.page none_seen) w.begun
  its_look = record {
    name = name;
    still = record {
      low = omega arith;
      session = ap (λ z. z.session) new_op;
      kind = ap (λ z. z.kind) new_op ∙ ap Writes (sym its_bytes);
      tag = ap (λ z. z.tag) new_op;
    };
    all = begun_seen v w sound (new_put w s bytes) put_world refl refl (λ i. refl) refl refl refl (λ write. low) put_pages (put_world.op w.begun).begin (and_page s no_page) (and_seen s j.page none_seen) own_more;
  }

  put_lines : Lines v put_world sound.past s (sound.base s) looks
  put_lines =
      let old : Lines v put_world sound.past s (sound.base s) (w.session s) = lines_on v w put_world put_goes sound sound.past sound.past (λ t d among. among) s (sound.base s) (w.session s) refl (put_open s) (sound.lines s) in
      lines_client v put_world sound.past s (sound.base s) (w.session s) old (Looks j change (and_page s no_page) (and_seen s j.page none_seen))
      (knows v put_world sound.past s (sound.base s) (w.session s) old (Knows j) is) tt (knows_line v put_world sound.past s (sound.base s) (w.session s) old (Knows j) is)
      (looks_first v put_world sound.past s (sound.base s) (w.session s) old j change low
      (let P : Option ℕ → Type 0 = λ z. LooksFor v put_world s change (and_page s no_page) (and_seen s j.page none_seen) z in subst P (sym its_op) its_look))

  pub put_moves : Sound v put_world
  put_moves = begun_moves v w sound (new_put w s bytes) put_world refl refl (λ i. refl) refl refl refl (λ write. low) put_pages (λ t. line t (cases_eq t s)) (λ r. inl refl)
    where
      line : (t : ℕ) → (t ≡ s) ⊎ (t ≢ s) → Untouched v w put_world put_goes sound sound.base sound.past t ⊎ Lines v put_world sound.past t (sound.base t) (put_world.session t)
      line t (inl same) = inr (lines_at v put_world sound.past sound.base s t looks same (with_here s looks (with_new_op (new_put w s bytes) w) t same) put_lines)
      line t (inr ne) = inl (with_away s looks (with_new_op (new_put w s bytes) w) t ne, refl, refl, put_open t)

-- ---- a get begins

module _ (v : Setting) (w : World) (sound : Sound v w) (r : ℕ) where
  abbrev get_world : World
  get_world = tick (asks w r)

  no_write : is_write (new_get w r) ≡ true → r < v.sessions
  no_write write = absurd (true≢false (sym write))

  get_goes : Goes v w get_world
  get_goes = begun_goes v w sound (new_get w r) get_world refl refl (λ i. refl) refl refl refl no_write (λ t. refl)

  get_open : (t : ℕ) → StaysOpen w get_world t
  get_open = begun_open v w sound (new_get w r) get_world refl refl (λ i. refl) refl refl refl no_write (λ t. refl)

  get_search : Search v get_world sound.past w.begun no_page none_seen
  get_search = record {
    low = omega arith;
    read = ap is_write (op_here w.begun (new_get w r) w w.begun refl);
    pages = λ t did. absurd (true≢false (sym did));
    all = begun_seen v w sound (new_get w r) get_world refl refl (λ i. refl) refl refl refl no_write (λ t. refl) (get_world.op w.begun).begin no_page none_seen (λ t did. absurd (true≢false (sym did)));
  }

  pub get_moves : Sound v get_world
  get_moves = begun_moves v w sound (new_get w r) get_world refl refl (λ i. refl) refl refl refl no_write (λ t. refl) (λ t. inl (refl, refl, refl, get_open t)) (λ q. reader q (cases_eq q r))
    where
      reader : (q : ℕ) → (q ≡ r) ⊎ (q ≢ r) → (get_world.reader q ≡ w.reader q) ⊎ Searching v get_world sound.past (get_world.reader q)
      reader q (inl same) = inr (rw (eq-eqb q r same) get_search)
      reader q (inr ne) = inl (rw (ne_eqb q r ne) refl)

-- ---- a get looks at one page more

pub search_finds : (v : Setting) (w : World) (past : ℕ → List Page) (k t : ℕ) (looked : ℕ → Bool) (seen : ℕ → Page) → Among (w.session t).page (past t) → Search v w past k looked seen → Search v w past k (and_page t looked) (and_seen t (w.session t).page seen)
search_finds v w past k t looked seen among search = record {
  low = search.low;
  read = search.read;
  pages = λ i did. looked_more v w past looked seen t i among (search.pages i) did;
  all = seen_more v w (w.op k).begin looked seen t (λ did. (search.pages t did).still) search.all;
}

-- ---- a get ends

module _ (v : Setting) (w : World) (sound : Sound v w) (r k : ℕ) (looked : ℕ → Bool) (seen : ℕ → Page) (has : has_seen v looked seen ≡ true) (search : Search v w sound.past k looked seen) where
  abbrev best : StoredCopy
  best = greatest_shown v seen v.name

  did : (t : ℕ) → t < v.sessions → looked t ≡ true
  did t low = all_at v.sessions looked t (and_parts (all_below v.sessions looked) (is_closed v seen) has).0 low

  whole : Whole v sound.past seen
  whole = record {
    gone = λ t low. (sound.lines t).paged.past_of.gone (seen t) (search.pages t (did t low)).was;
    over = λ t d low among below. (sound.lines t).paged.past_of.pages.rises d (seen t) among (search.pages t (did t low)).was below;
  }

  -- what is shown is the first copy, or a line of a page that a session had
  shown_cases : (best ≡ first_copy) ⊎ ((t : ℕ) × (t < v.sessions) × (best ≡ (seen t).line v.name))
  shown_cases = by (greatest_is v.sessions (λ t. shown (seen t) v.name))
    where
      of : (t : ℕ) → t < v.sessions → (b : Bool) → (seen t).gone v.name ≡ b → best ≡ (if b then first_copy else (seen t).line v.name) → (best ≡ first_copy) ⊎ ((t : ℕ) × (t < v.sessions) × (best ≡ (seen t).line v.name))
      of t low true e is = inl is
      of t low false e is = inr (t, low, is)

      by : (best ≡ first_copy) ⊎ Chosen v.sessions (λ t. shown (seen t) v.name) best → (best ≡ first_copy) ⊎ ((t : ℕ) × (t < v.sessions) × (best ≡ (seen t).line v.name))
      by (inl first) = inl first
      by (inr chosen) = of chosen.session chosen.low ((seen chosen.session).gone v.name) refl chosen.is

  sourced : Sourced w best
  sourced = by shown_cases
    where
      by : (best ≡ first_copy) ⊎ ((t : ℕ) × (t < v.sessions) × (best ≡ (seen t).line v.name)) → Sourced w best
      by (inl first) = inl first
      by (inr (t, low, is)) = let P : StoredCopy → Type 0 = λ z. Sourced w z in subst P (sym is) ((sound.lines t).sourced (seen t) (search.pages t (did t low)).was)

  abbrev version : Tag
  version = version_told v seen

  abbrev stood : StoredCopy
  stood = greatest_line v seen v.name

  stood_is : (stood ≡ first_copy) ⊎ Chosen v.sessions (λ z. (seen z).line v.name) stood
  stood_is = greatest_is v.sessions (λ z. (seen z).line v.name)

  line_stands : (t : ℕ) → t < v.sessions → (c : StoredCopy) → c ≡ (seen t).line v.name → Reached v (line_at v w) c.tag
  line_stands t low c is = inr (record { session = t; low = low; most = (let P : StoredCopy → Type 0 = λ z. IsAtMost z.tag (line_at v w t).tag in subst P (sym is) (search.pages t (did t low)).still) })

  stands : Reached v (line_at v w) version
  stands = by (is_less first_copy.tag best.tag)
    where
      shows : (best ≡ first_copy) ⊎ ((t : ℕ) × (t < v.sessions) × (best ≡ (seen t).line v.name)) → Reached v (line_at v w) best.tag
      shows (inl first) = inl (ap (λ z. z.tag) first)
      shows (inr (t, low, is)) = line_stands t low best is

      before : (stood ≡ first_copy) ⊎ Chosen v.sessions (λ z. (seen z).line v.name) stood → Reached v (line_at v w) stood.tag
      before (inl first) = inl (ap (λ z. z.tag) first)
      before (inr chosen) = line_stands chosen.session chosen.low stood chosen.is

      by : (b : Bool) → Reached v (line_at v w) (if b then best.tag else stood.tag)
      by true = shows shown_cases
      by false = before stood_is

  abbrev told_op : Op
  told_op = told w best.bytes version (w.op k)

  abbrev told_world : World
  told_world = tick (with_reader r Idle (with_op k told_op w))

  was : Sane v w sound.base (w.op k)
  was = sound.ops k search.low

  told_ops : (i : ℕ) → OpGoes (w.op i) (told_world.op i)
  told_ops = op_goes k told_op w (record {
    begin = refl;
    session = refl;
    write = sym search.read;
    kind = λ write. absurd (true≢false (sym write ∙ search.read));
    tag = λ t write has. absurd (true≢false (sym write ∙ search.read));
  })

  -- a put is as it was
  put_was : (i : ℕ) → is_write (told_world.op i) ≡ true → told_world.op i ≡ w.op i
  put_was i write = by (cases_eq i k)
    where
      by : (i ≡ k) ⊎ (i ≢ k) → told_world.op i ≡ w.op i
      by (inl same) = absurd (true≢false (sym write ∙ ap is_write (op_here k told_op w i same)))
      by (inr ne) = op_away k told_op w i ne

  told_was : (e : ℕ) (t : Tag) → Ended told_world e t → Ended w e t ⊎ ((e ≡ w.now) × (t ≡ version))
  told_was e t done = by (cases_eq done.op k)
    where
      by : (done.op ≡ k) ⊎ (done.op ≢ k) → Ended w e t ⊎ ((e ≡ w.now) × (t ≡ version))
      by (inl same) = inr (
        sym (some_is w.now e (sym (ap (λ z. z.end) (op_here k told_op w done.op same)) ∙ done.end)),
        sym (some_is version t (sym (ap (λ z. z.tag) (op_here k told_op w done.op same)) ∙ done.tag)),
      )
      by (inr ne) = inl (record {
        op = done.op;
        low = done.low;
        end = sym (ap (λ z. z.end) (op_away k told_op w done.op ne)) ∙ done.end;
        tag = sym (ap (λ z. z.tag) (op_away k told_op w done.op ne)) ∙ done.tag;
      })

  told_goes : Goes v w told_world
  told_goes = record {
    now = refl;
    begun = omega arith;
    ops = λ i low. told_ops i;
    ended = λ e t done. by e t (told_was e t done);
    pages = λ t. at_most_refl (line_at v w t).tag;
  }
    where
      by : (e : ℕ) (t : Tag) → Ended w e t ⊎ ((e ≡ w.now) × (t ≡ version)) → Ended w e t ⊎ (e ≡ w.now)
      by e t (inl old) = inl old
      by e t (inr new) = inr new.0

  told_open : (t : ℕ) → StaysOpen w told_world t
  told_open t i low session write none = by (cases_eq i k)
    where
      by : (i ≡ k) ⊎ (i ≢ k) → (told_world.op i).tag ≡ None
      by (inl same) = absurd (true≢false (sym write ∙ ap (λ z. is_write (w.op z)) same ∙ search.read))
      by (inr ne) = ap (λ z. z.tag) (op_away k told_op w i ne) ∙ none

  abbrev FromPut : ℕ → Tag → Type 0
  FromPut e y = ((y ≡ first_tag) × Gives told_op []) ⊎ ReadFrom told_world told_op e y

  told_sane : Sane v told_world sound.base told_op
  told_sane = record {
    begins = let b = was.begins in omega (arith, b);
    ends = λ e end. let now : w.now ≡ e = some_is w.now e end in ((let b = was.begins in omega (arith, b, now)), omega (arith, now), refl);
    within = λ write. absurd (true≢false (sym write));
    rises = λ y e t is done low. subst (λ z. IsAtMost t z) (some_is version y is)
        (seen_all v w sound.past (w.op k).begin looked seen whole has search.all e t (ended_before v w told_world told_goes e (w.op k).begin t (let b = was.begins in omega (arith, b)) done low) low);
    writes = λ y e t write has done low. absurd (true≢false (sym write));
    sourced = λ e y read end has. subst (λ z. ((z ≡ first_tag) × Gives told_op []) ⊎ ReadFrom told_world told_op e z) (some_is version y has) (source e (some_is w.now e end));
    numbered = λ y write has. absurd (true≢false (sym write));
  }
    where
      wrote : (e : ℕ) (c : StoredCopy) → w.now ≡ e → best.bytes ≡ c.bytes → Wrote w c.tag c.bytes → FromPut e c.tag
      wrote e c now same put =
          let write : is_write (w.op put.op) ≡ true = kind_write (w.op put.op) c.bytes put.kind in
          let op : OpGoes (w.op put.op) (told_world.op put.op) = told_ops put.op in
          inr (record {
            op = put.op;
            low = put.low;
            bytes = c.bytes;
            kind = op.kind write ∙ put.kind;
            tag = op.tag c.tag write put.tag;
            begin = let b = (sound.ops put.op put.low).begins in omega (arith, b, op.begin, now);
            gives = same;
          })

      shows : (e : ℕ) → w.now ≡ e → Sourced w best → FromPut e best.tag
      shows e now (inl first) = inl (ap (λ z. z.tag) first, ap (λ z. z.bytes) first)
      shows e now (inr put) = wrote e best now refl put

      -- where nothing is shown, nothing is told
      nothing : IsAtMost best.tag first_tag → Sourced w best → best.bytes ≡ []
      nothing none (inl first) = ap (λ z. z.bytes) first
      nothing none (inr put) =
          let n = (sound.ops put.op put.low).numbered best.tag (kind_write (w.op put.op) best.bytes put.kind) put.tag in
          absurd (n.0 (at_most_first best.tag none))

      stood_wrote : (e : ℕ) → w.now ≡ e → IsAtMost best.tag first_tag → (i : ℕ) → i < v.sessions → stood ≡ (seen i).line v.name → ((seen i).line v.name).bytes ≡ [] → FromPut e stood.tag
      stood_wrote e now none i low is empty = by (let P : StoredCopy → Type 0 = λ z. Sourced w z in subst P (sym is) ((sound.lines i).sourced (seen i) (search.pages i (did i low)).was))
        where
          by : Sourced w stood → FromPut e stood.tag
          by (inl first) = inl (ap (λ z. z.tag) first, nothing none sourced)
          by (inr put) = wrote e stood now (nothing none sourced ∙ sym (ap (λ z. z.bytes) is ∙ empty)) put

      forgot : (e : ℕ) → w.now ≡ e → IsAtMost best.tag first_tag → FromPut e stood.tag
      forgot e now none = by (top_nothing v sound.past seen v.name whole.gone whole.over (and_parts (all_below v.sessions looked) (is_closed v seen) has).1 none)
        where
          by : ((greatest_line v seen v.name).tag ≡ first_tag) ⊎ ((i : ℕ) × (i < v.sessions) × (greatest_line v seen v.name ≡ (seen i).line v.name) × (((seen i).line v.name).bytes ≡ [])) → FromPut e stood.tag
          by (inl first) = inl (first, nothing none sourced)
          by (inr (i, low, is, empty)) = stood_wrote e now none i low is empty

      source : (e : ℕ) → w.now ≡ e → ((version ≡ first_tag) × Gives told_op []) ⊎ ReadFrom told_world told_op e version
      source e now = by (is_less first_copy.tag best.tag) refl
        where
          by : (b : Bool) → is_less first_copy.tag best.tag ≡ b → FromPut e (if b then best.tag else (greatest_line v seen v.name).tag)
          by true some = shows e now sourced
          by false none = forgot e now none

  pub told_moves : Sound v told_world
  told_moves = sound_on v w told_world told_goes sound sound.base sound.past (λ t d among. among) (λ t. at_most_refl ((sound.base t).page.line v.name).tag)
      (λ i low. op i low (cases_eq i k))
      (λ i l t low_i low_l write_i write_l tag_i tag_l. sound.differ i l t low_i low_l
      (sym (ap is_write (put_was i write_i)) ∙ write_i) (sym (ap is_write (put_was l write_l)) ∙ write_l) (sym (ap (λ z. z.tag) (put_was i write_i)) ∙ tag_i) (sym (ap (λ z. z.tag) (put_was l write_l)) ∙ tag_l))
      (λ e t done. found e t (told_was e t done))
      (λ t. inl (refl, refl, refl, told_open t)) (λ q. reader q (cases_eq q r))
    where
      op : (i : ℕ) → i < w.begun → (i ≡ k) ⊎ (i ≢ k) → ((i < w.begun) × (told_world.op i ≡ w.op i)) ⊎ Sane v told_world sound.base (told_world.op i)
      op i low (inl same) = inr (subst (λ z. Sane v told_world sound.base z) (sym (op_here k told_op w i same)) told_sane)
      op i low (inr ne) = inl (low, op_away k told_op w i ne)

      found : (e : ℕ) (t : Tag) → Ended w e t ⊎ ((e ≡ w.now) × (t ≡ version)) → Ended w e t ⊎ Reached v (line_at v told_world) t
      found e t (inl old) = inl old
      found e t (inr new) = inr (let P : Tag → Type 0 = λ z. Reached v (line_at v told_world) z in subst P (sym new.1) (reached_on v (line_at v w) (line_at v told_world) version told_goes.pages stands))

      reader : (q : ℕ) → (q ≡ r) ⊎ (q ≢ r) → (told_world.reader q ≡ w.reader q) ⊎ Searching v told_world sound.past (told_world.reader q)
      reader q (inl same) = inr (rw (eq-eqb q r same) tt)
      reader q (inr ne) = inl (rw (ne_eqb q r ne) refl)
