-- Steps at which an operation begins, is given its version, or ends.
use Rattle.std.proofs.Common.{◌≡◌, ◌≢◌, ◌⊎◌, ℕ, ◌+◌, ◌<◌, true, List, [], ◌∷◌, refl, sym, ap, ◌∙◌, subst, inl, inr, Option, Some, None, arith, eqb}
use Rattle.std.specs.Prelude.{IsSome, if◌then◌else◌}
use Rattle.std.proofs.lemmas.Bool.{cases_eq, ne_eqb, eq-eqb, true≢false}
use Rattle.gq_tag.specs.declared.Tag.{Tag}
use Rattle.gq_tag.specs.Tag.{first_tag, is_less}
use Rattle.gq_laws.specs.declared.ops.Op.{Op}
use Rattle.gq_laws.specs.Operations.{is_write}
use Rattle.gq_names.specs.Names.{Setting, Page, Journal, Announces, Carries, Session, World, with_session, with_op, with_tag, tick}
use Rattle.gq_names.specs.Laws.{Rises}
use Rattle.gq_tag.proofs.Order.{IsAtMost, at_most_refl, at_most_less, less_at_most}
use Rattle.gq_names.proofs.Lists.{risen_at_most}
use Rattle.gq_names.proofs.Views.{Among, Grows, not_less_first, not_less_self, follows_rises}
use Rattle.gq_names.proofs.Pages.{IsNoOther, Above, paged_announced}
use Rattle.gq_names.proofs.Standing.{Ended, Sourced, Sane, line_at, Kept, Fresh, Lined, BaseOp, Lines, Sound}
use Rattle.gq_names.proofs.GoingOn.{kind_write, OpGoes, op_stays, Goes, StaysOpen, sourced_on, based_on, sound_on, Untouched}
use Rattle.gq_names.proofs.Turns.{knows, knows_line, minding, acting, lined_self}
use Rattle.gq_names.proofs.Moves.{with_here, with_away, line_with}

-- ---- one operation is another one

pub op_here : (k : ℕ) (a : Op) (w : World) (i : ℕ) → i ≡ k → (with_op k a w).op i ≡ a
op_here k a w i same = rw (eq-eqb i k same) refl

pub op_away : (k : ℕ) (a : Op) (w : World) (i : ℕ) → i ≢ k → (with_op k a w).op i ≡ w.op i
op_away k a w i ne = rw (ne_eqb i k ne) refl

pub op_goes : (k : ℕ) (a : Op) (w : World) → OpGoes (w.op k) a → (i : ℕ) → OpGoes (w.op i) ((with_op k a w).op i)
op_goes k a w goes i = by (cases_eq i k)
  where
    by : (i ≡ k) ⊎ (i ≢ k) → OpGoes (w.op i) ((with_op k a w).op i)
    by (inl same) = let P : Op → Op → Type 0 = λ x y. OpGoes x y in subst (λ y. P (w.op i) y) (sym (op_here k a w i same)) (subst (λ x. P x a) (sym (ap w.op same)) goes)
    by (inr ne) = op_stays (w.op i) ((with_op k a w).op i) (op_away k a w i ne)

pub none_some : {A : Type 0} (x : A) (o : Option A) → o ≡ None → o ≡ Some x → ⊥
none_some x o none some = let bad : None ≡ Some x = sym none ∙ some in cc

pub some_is : {A : Type 0} (x y : A) → Some x ≡ Some y → x ≡ y
some_is x y e = cc

-- ---- a put is given its version: the client's write of its journal was answered

module _ (v : Setting) (w : World) (sound : Sound v w) (s : ℕ) (j : Journal) (op : Option ℕ) (is : (w.session s).client ≡ Announces j op) where
  abbrev x : Session
  x = w.session s

  abbrev then_session : Session
  then_session = record x { journal = j; journal_pending = []; client = Carries j op }

  abbrev then_base : ℕ → Journal
  then_base t = if eqb t s then j else sound.base t

  abbrev then_past : ℕ → List Page
  then_past t = if eqb t s then j.page ∷ sound.past t else sound.past t

  old : Lines v w sound.past s (sound.base s) x
  old = sound.lines s

  above : Above v sound.past s (sound.base s) j
  above = knows v w sound.past s (sound.base s) x old (Announces j op) is

  up : Rises (sound.base s).page j.page
  up = follows_rises v (sound.base s).page j.page above.rises

  new_number : IsNoOther (sound.base s).page j.page
  new_number = minding v w sound.past s (sound.base s) x old (Announces j op) is

  past_here : (t : ℕ) → t ≡ s → then_past t ≡ (j.page ∷ sound.past t)
  past_here t same = rw (eq-eqb t s same) refl

  past_away : (t : ℕ) → t ≢ s → then_past t ≡ sound.past t
  past_away t ne = rw (ne_eqb t s ne) refl

  grows : Grows sound.past then_past
  grows t d among = by (cases_eq t s)
    where
      P : List Page → Type 0
      P z = Among d z

      by : (t ≡ s) ⊎ (t ≢ s) → Among d (then_past t)
      by (inl same) = subst P (sym (past_here t same)) (inr among)
      by (inr ne) = subst P (sym (past_away t ne)) among

  base_here : (t : ℕ) → t ≡ s → then_base t ≡ j
  base_here t same = rw (eq-eqb t s same) refl

  base_away : (t : ℕ) → t ≢ s → then_base t ≡ sound.base t
  base_away t ne = rw (ne_eqb t s ne) refl

  bases_up : (t : ℕ) → IsAtMost ((sound.base t).page.line v.name).tag ((then_base t).page.line v.name).tag
  bases_up t = by (cases_eq t s)
    where
      P : Journal → Type 0
      P z = IsAtMost ((sound.base t).page.line v.name).tag (z.page.line v.name).tag

      by : (t ≡ s) ⊎ (t ≢ s) → IsAtMost ((sound.base t).page.line v.name).tag ((then_base t).page.line v.name).tag
      by (inl same) = subst P (sym (base_here t same)) (let Q : ℕ → Type 0 = λ z. IsAtMost ((sound.base z).page.line v.name).tag (j.page.line v.name).tag in subst Q (sym same) (risen_at_most ((sound.base s).page.line v.name) (j.page.line v.name) (up v.name)))
      by (inr ne) = subst P (sym (base_away t ne)) (at_most_refl ((sound.base t).page.line v.name).tag)

  -- whatever was told, once the journal is the base
  then_lines : (u : World) (goes : Goes v w u) → ((k : ℕ) → j.op ≡ Some k → BaseOp v u s j k) → Sourced u (j.page.line v.name) → Lines v u then_past s j then_session
  then_lines u goes based source = record {
    paged = paged_announced v sound.past then_past s (sound.base s) x j op grows (past_here s refl) old.paged above new_number;
    lined = record { now = lined_self v u s j; pending = tt; known = lined_self v u s j };
    based = based;
    sourced = λ d among. sources d (let P : List Page → Type 0 = λ z. Among d z in subst P (past_here s refl) among);
    acts = acting v w sound.past s (sound.base s) x old (Announces j op) is;
  }
    where
      sources : (d : Page) → Among d (j.page ∷ sound.past s) → Sourced u (d.line v.name)
      sources d (inl same) = let P : Page → Type 0 = λ z. Sourced u (z.line v.name) in subst P (sym same) source
      sources d (inr among) = sourced_on v w u goes (d.line v.name) (old.sourced d among)

  then_all : (u : World) (goes : Goes v w u) → ((t : ℕ) → t ≢ s → StaysOpen w u t) → ((t : ℕ) → t ≡ s → u.session t ≡ then_session) → ((t : ℕ) → t ≢ s → u.session t ≡ w.session t)
      → ((k : ℕ) → j.op ≡ Some k → BaseOp v u s j k) → Sourced u (j.page.line v.name) → (t : ℕ) → Untouched v w u goes sound then_base then_past t ⊎ Lines v u then_past t (then_base t) (u.session t)
  then_all u goes stays here away based source t = by (cases_eq t s)
    where
      by : (t ≡ s) ⊎ (t ≢ s) → Untouched v w u goes sound then_base then_past t ⊎ Lines v u then_past t (then_base t) (u.session t)
      by (inl same) = inr (
          let P : ℕ → Journal → Session → Type 0 = λ n b y. Lines v u then_past n b y in
          subst (λ n. P n (then_base t) (u.session t)) (sym same) (subst (λ b. P s b (u.session t)) (sym (base_here t same)) (subst (λ y. P s j y) (sym (here t same)) (then_lines u goes based source))))
      by (inr ne) = inl (away t ne, base_away t ne, past_away t ne, stays t ne)

  -- the journal has the line that the base has: nothing is told
  module _ (u : World) (now : u.now ≡ w.now + 1) (begun : u.begun ≡ w.begun) (ops : (i : ℕ) → u.op i ≡ w.op i) (here : (t : ℕ) → t ≡ s → u.session t ≡ then_session) (away : (t : ℕ) → t ≢ s → u.session t ≡ w.session t) (readers : (r : ℕ) → u.reader r ≡ w.reader r) where
    kept_lines : (t : ℕ) → IsAtMost (line_at v w t).tag (line_at v u t).tag
    kept_lines t = by (cases_eq t s)
      where
        P : Session → Type 0
        P z = IsAtMost (line_at v w t).tag (z.page.line v.name).tag

        by : (t ≡ s) ⊎ (t ≢ s) → IsAtMost (line_at v w t).tag (line_at v u t).tag
        by (inl same) = subst P (sym (here t same)) (let Q : ℕ → Type 0 = λ z. IsAtMost (line_at v w z).tag (x.page.line v.name).tag in subst Q (sym same) (at_most_refl (x.page.line v.name).tag))
        by (inr ne) = subst P (sym (away t ne)) (at_most_refl (line_at v w t).tag)

    kept_ended : (e : ℕ) (t : Tag) → Ended u e t → Ended w e t
    kept_ended e t ended = record {
      op = ended.op;
      low = let low = ended.low in omega (arith, low, begun);
      end = sym (ap (λ z. z.end) (ops ended.op)) ∙ ended.end;
      tag = sym (ap (λ z. z.tag) (ops ended.op)) ∙ ended.tag;
    }

    kept_goes : Goes v w u
    kept_goes = record {
      now = now;
      begun = omega (arith, begun);
      ops = λ i low. op_stays (w.op i) (u.op i) (ops i);
      ended = λ e t ended. inl (kept_ended e t ended);
      pages = kept_lines;
    }

    kept_open : (t : ℕ) → StaysOpen w u t
    kept_open t k low session write none = ap (λ z. z.tag) (ops k) ∙ none

    pub kept_tells : Kept v (sound.base s) j → Sound v u
    kept_tells kept = sound_on v w u kept_goes sound then_base then_past grows bases_up
        (λ i low. inl ((let b = begun in omega (arith, low, b)), ops i))
        (λ i k t low_i low_k write_i write_k tag_i tag_k. sound.differ i k t (omega (arith, low_i, begun)) (omega (arith, low_k, begun))
        (sym (ap is_write (ops i)) ∙ write_i) (sym (ap is_write (ops k)) ∙ write_k) (sym (ap (λ z. z.tag) (ops i)) ∙ tag_i) (sym (ap (λ z. z.tag) (ops k)) ∙ tag_k))
        (λ e t ended. inl (kept_ended e t ended))
        (then_all u kept_goes (λ t ne. kept_open t) here away based source)
        (λ r. inl (readers r))
      where
        source : Sourced u (j.page.line v.name)
        source = subst (λ z. Sourced u z) (sym kept.line) (sourced_on v w u kept_goes ((sound.base s).page.line v.name) (old.sourced (sound.base s).page old.paged.past_of.pages.here))

        based : (k : ℕ) → j.op ≡ Some k → BaseOp v u s j k
        based k is = let b = based_on v w u kept_goes sound s (sound.base s) k (old.based k (sym kept.op ∙ is)) in record {
          low = b.low;
          tag = b.tag ∙ ap (λ z. Some z.tag) (sym kept.line);
          session = b.session;
          write = b.write;
        }

  -- the journal has the line of a put that had no version
  module _ (fresh : Fresh v w s (sound.base s) j) where
    abbrev k : ℕ
    k = fresh.op

    abbrev tag : Tag
    tag = (j.page.line v.name).tag

    abbrev tagged : Op
    tagged = record (w.op k) { tag = Some tag }

    abbrev told_world : World
    told_world = tick (with_session s then_session (with_op k tagged w))

    write : is_write (w.op k) ≡ true
    write = kind_write (w.op k) (j.page.line v.name).bytes fresh.still.kind

    told_ops : (i : ℕ) → OpGoes (w.op i) (told_world.op i)
    told_ops = op_goes k tagged w (record { begin = refl; session = refl; write = refl; kind = λ write. refl; tag = λ t write has. absurd (none_some t (w.op k).tag fresh.still.tag has) })

    -- it has not ended: what ended has a version
    not_ended : (e : ℕ) → (w.op k).end ≡ Some e → ⊥
    not_ended e end =
        let some : IsSome (w.op k).tag = ((sound.ops k fresh.still.low).ends e end).2 in
        let P : Option Tag → Type 0 = λ z. IsSome z in
        let none : P None = subst P fresh.still.tag some in
        true≢false (sym none)

    told_ended : (e : ℕ) (t : Tag) → Ended told_world e t → Ended w e t
    told_ended e t ended = by (cases_eq ended.op k)
      where
        by : (ended.op ≡ k) ⊎ (ended.op ≢ k) → Ended w e t
        by (inl same) = absurd (not_ended e (sym (ap (λ z. z.end) (op_here k tagged w ended.op same)) ∙ ended.end))
        by (inr ne) = record {
          op = ended.op;
          low = ended.low;
          end = sym (ap (λ z. z.end) (op_away k tagged w ended.op ne)) ∙ ended.end;
          tag = sym (ap (λ z. z.tag) (op_away k tagged w ended.op ne)) ∙ ended.tag;
        }

    told_goes : Goes v w told_world
    told_goes = record {
      now = refl;
      begun = omega arith;
      ops = λ i low. told_ops i;
      ended = λ e t ended. inl (told_ended e t ended);
      pages = line_with v w (with_op k tagged w) s then_session (λ t. refl) (at_most_refl (x.page.line v.name).tag);
    }

    told_open : (t : ℕ) → t ≢ s → StaysOpen w told_world t
    told_open t other i low session writes none = by (cases_eq i k)
      where
        by : (i ≡ k) ⊎ (i ≢ k) → (told_world.op i).tag ≡ None
        by (inl same) = absurd (other (sym session ∙ ap (λ z. (w.op z).session) same ∙ fresh.still.session))
        by (inr ne) = ap (λ z. z.tag) (op_away k tagged w i ne) ∙ none

    above_base : IsAtMost ((sound.base s).page.line v.name).tag tag
    above_base = less_at_most ((sound.base s).page.line v.name).tag tag fresh.more

    told_sane : Sane v told_world then_base tagged
    told_sane = record {
      begins = let b = was.begins in omega (arith, b);
      ends = λ e end. absurd (not_ended e end);
      within = was.within;
      rises = λ y e t has ended low. subst (λ z. IsAtMost t z) (some_is tag y has) (less_at_most t tag (fresh.later e t (told_ended e t ended) low));
      writes = λ y e t write has ended low. subst (λ z. is_less t z ≡ true) (some_is tag y has) (fresh.later e t (told_ended e t ended) low);
      sourced = λ e y read end has. absurd (not_ended e end);
      numbered = λ y write has. subst (λ z. (z ≢ first_tag) × IsAtMost z ((then_base z.session).page.line v.name).tag) (some_is tag y has) (not_first, at_base);
    }
      where
        was : Sane v w sound.base (w.op k)
        was = sound.ops k fresh.still.low

        not_first : tag ≢ first_tag
        not_first same = not_less_first ((sound.base s).page.line v.name).tag (subst (λ z. is_less ((sound.base s).page.line v.name).tag z ≡ true) same fresh.more)

        at_base : IsAtMost tag ((then_base tag.session).page.line v.name).tag
        at_base = subst (λ z. IsAtMost tag (z.page.line v.name).tag) (sym (base_here tag.session fresh.own)) (at_most_refl tag)

    -- no other put has the version
    alone : (i : ℕ) → i < w.begun → is_write (w.op i) ≡ true → (w.op i).tag ≡ Some tag → ⊥
    alone i low writes has =
        let n = (sound.ops i low).numbered tag writes has in
        let below : IsAtMost tag ((sound.base s).page.line v.name).tag = subst (λ z. IsAtMost tag ((sound.base z).page.line v.name).tag) fresh.own n.1 in
        not_less_self tag (at_most_less tag ((sound.base s).page.line v.name).tag tag below fresh.more)

    told_differ : (i l : ℕ) (t : Tag) → i < w.begun → l < w.begun → is_write (told_world.op i) ≡ true → is_write (told_world.op l) ≡ true → (told_world.op i).tag ≡ Some t → (told_world.op l).tag ≡ Some t → i ≡ l
    told_differ i l t low_i low_l write_i write_l tag_i tag_l = by (cases_eq i k) (cases_eq l k)
      where
        was_write : (n : ℕ) → n ≢ k → is_write (told_world.op n) ≡ true → is_write (w.op n) ≡ true
        was_write n ne writes = sym (ap is_write (op_away k tagged w n ne)) ∙ writes

        was_tag : (n : ℕ) → n ≢ k → (told_world.op n).tag ≡ Some t → (w.op n).tag ≡ Some t
        was_tag n ne has = sym (ap (λ z. z.tag) (op_away k tagged w n ne)) ∙ has

        is_tag : (n : ℕ) → n ≡ k → (told_world.op n).tag ≡ Some t → t ≡ tag
        is_tag n same has = sym (some_is tag t (sym (ap (λ z. z.tag) (op_here k tagged w n same)) ∙ has))

        by : (i ≡ k) ⊎ (i ≢ k) → (l ≡ k) ⊎ (l ≢ k) → i ≡ l
        by (inl a) (inl b) = a ∙ sym b
        by (inl a) (inr b) = absurd (alone l low_l (was_write l b write_l) (was_tag l b tag_l ∙ ap Some (is_tag i a tag_i)))
        by (inr a) (inl b) = absurd (alone i low_i (was_write i a write_i) (was_tag i a tag_i ∙ ap Some (is_tag l b tag_l)))
        by (inr a) (inr b) = sound.differ i l t low_i low_l (was_write i a write_i) (was_write l b write_l) (was_tag i a tag_i) (was_tag l b tag_l)

    told_source : Sourced told_world (j.page.line v.name)
    told_source = inr (record { op = k; low = fresh.still.low; kind = ap (λ z. z.kind) (op_here k tagged w k refl) ∙ fresh.still.kind; tag = ap (λ z. z.tag) (op_here k tagged w k refl) })

    told_based : (i : ℕ) → j.op ≡ Some i → BaseOp v told_world s j i
    told_based i here = let same : k ≡ i = some_is k i (sym fresh.is ∙ here) in subst (λ z. BaseOp v told_world s j z) same (record {
      low = fresh.still.low;
      tag = ap (λ z. z.tag) (op_here k tagged w k refl);
      session = ap (λ z. z.session) (op_here k tagged w k refl) ∙ fresh.still.session;
      write = ap is_write (op_here k tagged w k refl) ∙ write;
    })

    pub fresh_tells : Sound v told_world
    fresh_tells = sound_on v w told_world told_goes sound then_base then_past grows bases_up
        (λ i low. ops i low (cases_eq i k)) told_differ (λ e t ended. inl (told_ended e t ended))
        (then_all told_world told_goes told_open (λ t same. with_here s then_session (with_op k tagged w) t same) (λ t ne. with_away s then_session (with_op k tagged w) t ne) told_based told_source)
        (λ r. inl refl)
      where
        ops : (i : ℕ) → i < w.begun → (i ≡ k) ⊎ (i ≢ k) → ((i < w.begun) × (told_world.op i ≡ w.op i)) ⊎ Sane v told_world then_base (told_world.op i)
        ops i low (inl same) = inr (subst (λ z. Sane v told_world then_base z) (sym (op_here k tagged w i same)) told_sane)
        ops i low (inr ne) = inl (low, op_away k tagged w i ne)

  -- either way
  pub announced_moves : Sound v (tick (with_session s then_session (with_tag v j j.op w)))
  announced_moves = by j.op refl (knows_line v w sound.past s (sound.base s) x old (Announces j op) is)
    where
      here : (u : World) (t : ℕ) → t ≡ s → (with_session s then_session u).session t ≡ then_session
      here u t same = with_here s then_session u t same

      by : (o : Option ℕ) → j.op ≡ o → Lined v w s (sound.base s) j → Sound v (tick (with_session s then_session (with_tag v j o w)))
      by None e (inl kept) = kept_tells (tick (with_session s then_session w)) refl refl (λ i. refl) (here w) (λ t ne. with_away s then_session w t ne) (λ r. refl) kept
      by None e (inr fresh) = absurd (none_some fresh.op j.op e fresh.is)
      by (Some i) e (inr fresh) = let same : fresh.op ≡ i = some_is fresh.op i (sym fresh.is ∙ e) in
          subst (λ z. Sound v (tick (with_session s then_session (with_op z (record (w.op z) { tag = Some (j.page.line v.name).tag }) w)))) same (fresh_tells fresh)
      by (Some i) e (inl kept) = kept_tells (tick (with_session s then_session again)) refl refl ops (here again) (λ t ne. with_away s then_session again t ne) (λ r. refl) kept
        where
          again : World
          again = with_op i (record (w.op i) { tag = Some (j.page.line v.name).tag }) w

          based : BaseOp v w s (sound.base s) i
          based = old.based i (sym kept.op ∙ e)

          has : (w.op i).tag ≡ Some (j.page.line v.name).tag
          has = based.tag ∙ ap (λ z. Some z.tag) (sym kept.line)

          ops : (n : ℕ) → again.op n ≡ w.op n
          ops n = of (cases_eq n i)
            where
              of : (n ≡ i) ⊎ (n ≢ i) → again.op n ≡ w.op n
              of (inl same) = op_here i (record (w.op i) { tag = Some (j.page.line v.name).tag }) w n same ∙ (λ z. record (w.op i) { tag = sym has z }) ∙ sym (ap w.op same)
              of (inr ne) = op_away i (record (w.op i) { tag = Some (j.page.line v.name).tag }) w n ne
