-- What is so of a world is so of the next one, but for what the step is about.
use Rattle.std.proofs.Common.{◌≡◌, ◌⊎◌, ℕ, ◌+◌, ◌<◌, ◌≤◌, Bool, true, false, List, [], refl, sym, ap, ◌∙◌, subst, inl, inr, Option, Some, None, arith}
use Rattle.std.specs.Prelude.{if◌then◌else◌}
use Rattle.gq_tag.specs.declared.Tag.{Tag}
use Rattle.gq_tag.specs.declared.StoredCopy.{StoredCopy}
use Rattle.gq_tag.specs.Tag.{first_tag}
use Rattle.gq_laws.specs.declared.ops.Kind.TheVariants.{Write as Writes}
use Rattle.gq_laws.specs.declared.ops.Op.{Op}
use Rattle.gq_laws.specs.Operations.{is_write, Gives}
use Rattle.gq_names.specs.Names.{Setting, Page, Journal, Change, Client, Knows, Looks, Announces, Carries, Session, Reader, Idle, Searches, World}
use Rattle.gq_tag.proofs.Order.{IsAtMost, at_most_refl, at_most_trans}
use Rattle.gq_names.proofs.Lists.{each_map}
use Rattle.gq_names.proofs.Views.{Among, Grows}
use Rattle.gq_names.proofs.Pages.{EachJournal, known_by, paged_on}
use Rattle.gq_names.proofs.Standing.{Ended, Wrote, Sourced, Open, ReadFrom, Sane, line_at, view, Reached, Seen, LookedAt, Fresh, Lined, BaseOp, LooksFor, Acts, Lines, Searching, Sound}

pub kind_write : (a : Op) (bytes : List ℕ) → a.kind ≡ Writes bytes → is_write a ≡ true
kind_write a bytes e = rw e refl

-- what an operation keeps
pub record OpGoes (a b : Op) : Type 0 where
  pub begin : b.begin ≡ a.begin
  pub session : b.session ≡ a.session
  pub write : is_write b ≡ is_write a
  pub kind : is_write a ≡ true → b.kind ≡ a.kind
  pub tag : (t : Tag) → is_write a ≡ true → a.tag ≡ Some t → b.tag ≡ Some t

pub op_stays : (a b : Op) → b ≡ a → OpGoes a b
op_stays a b same = record {
  begin = ap (λ z. z.begin) same;
  session = ap (λ z. z.session) same;
  write = ap is_write same;
  kind = λ write. ap (λ z. z.kind) same;
  tag = λ t write has. ap (λ z. z.tag) same ∙ has;
}

pub record Goes (v : Setting) (w u : World) : Type 0 where
  pub now : u.now ≡ w.now + 1
  pub begun : w.begun ≤ u.begun
  pub ops : (i : ℕ) → i < w.begun → OpGoes (w.op i) (u.op i)
  pub ended : (e : ℕ) (t : Tag) → Ended u e t → Ended w e t ⊎ (e ≡ w.now)
  pub pages : (s : ℕ) → IsAtMost (line_at v w s).tag (line_at v u s).tag

-- puts of the session that have no version have none behind the step
abbrev pub StaysOpen : World → World → ℕ → Type 0
StaysOpen w u s = (k : ℕ) → k < w.begun → (w.op k).session ≡ s → is_write (w.op k) ≡ true → (w.op k).tag ≡ None → (u.op k).tag ≡ None

pub reached_on : (v : Setting) (at after : ℕ → StoredCopy) (t : Tag) → ((s : ℕ) → IsAtMost (at s).tag (after s).tag) → Reached v at t → Reached v after t
reached_on v at after t up (inl first) = inl first
reached_on v at after t up (inr r) = inr (record { session = r.session; low = r.low; most = at_most_trans t (at r.session).tag (after r.session).tag r.most (up r.session) })

module _ (v : Setting) (w u : World) (goes : Goes v w u) where
  low_on : (i : ℕ) → i < w.begun → i < u.begun
  low_on i low = omega (arith, goes.begun)

  pub wrote_on : (t : Tag) (bytes : List ℕ) → Wrote w t bytes → Wrote u t bytes
  wrote_on t bytes x =
      let write : is_write (w.op x.op) ≡ true = kind_write (w.op x.op) bytes x.kind in
      let op : OpGoes (w.op x.op) (u.op x.op) = goes.ops x.op x.low in
      record { op = x.op; low = low_on x.op x.low; kind = op.kind write ∙ x.kind; tag = op.tag t write x.tag }

  pub sourced_on : (c : StoredCopy) → Sourced w c → Sourced u c
  sourced_on c (inl first) = inl first
  sourced_on c (inr wrote) = inr (wrote_on c.tag c.bytes wrote)

  pub open_on : (s k : ℕ) (bytes : List ℕ) → StaysOpen w u s → Open w s k bytes → Open u s k bytes
  open_on s k bytes stays x =
      let write : is_write (w.op k) ≡ true = kind_write (w.op k) bytes x.kind in
      let op : OpGoes (w.op k) (u.op k) = goes.ops k x.low in
      record { low = low_on k x.low; session = op.session ∙ x.session; kind = op.kind write ∙ x.kind; tag = stays k x.low x.session write x.tag }

  -- of what ended before an operation began that was begun before the step
  pub ended_before : (e begin : ℕ) (t : Tag) → begin ≤ w.now → Ended u e t → e < begin → Ended w e t
  ended_before e begin t old ended low = by (goes.ended e t ended)
    where
      by : Ended w e t ⊎ (e ≡ w.now) → Ended w e t
      by (inl before) = before
      by (inr now) = absurd (omega (arith, now, low, old))

  pub view_up : (looked : ℕ → Bool) (seen : ℕ → Page) (s : ℕ) → IsAtMost (view v w looked seen s).tag (view v u looked seen s).tag
  view_up looked seen s = by (looked s)
    where
      by : (b : Bool) → IsAtMost (if b then (seen s).line v.name else line_at v w s).tag (if b then (seen s).line v.name else line_at v u s).tag
      by true = at_most_refl ((seen s).line v.name).tag
      by false = goes.pages s

  pub seen_on : (begin : ℕ) (looked : ℕ → Bool) (seen : ℕ → Page) → begin ≤ w.now → Seen v w begin looked seen → Seen v u begin looked seen
  seen_on begin looked seen old all e t ended low = reached_on v (view v w looked seen) (view v u looked seen) t (view_up looked seen) (all e t (ended_before e begin t old ended low) low)

  pub looked_on : (past more : ℕ → List Page) (seen : ℕ → Page) (t : ℕ) → Grows past more → LookedAt v w past seen t → LookedAt v u more seen t
  looked_on past more seen t grows at = record { was = grows t (seen t) at.was; still = at_most_trans ((seen t).line v.name).tag (line_at v w t).tag (line_at v u t).tag at.still (goes.pages t) }

  module _ (sound : Sound v w) where
    pub begun_by : (k : ℕ) → k < w.begun → (w.op k).begin ≤ w.now
    begun_by k low = let b = (sound.ops k low).begins in omega (arith, b)

    pub seen_op : (k : ℕ) (looked : ℕ → Bool) (seen : ℕ → Page) → k < w.begun → Seen v w (w.op k).begin looked seen → Seen v u (u.op k).begin looked seen
    seen_op k looked seen low all = let P : ℕ → Type 0 = λ z. Seen v u z looked seen in subst P (sym (goes.ops k low).begin) (seen_on (w.op k).begin looked seen (begun_by k low) all)

    pub fresh_on : (s : ℕ) (base x : Journal) → StaysOpen w u s → Fresh v w s base x → Fresh v u s base x
    fresh_on s base x stays f = record {
      op = f.op;
      is = f.is;
      still = open_on s f.op (x.page.line v.name).bytes stays f.still;
      more = f.more;
      own = f.own;
      later = λ e t ended low.
          let begin : (u.op f.op).begin ≡ (w.op f.op).begin = (goes.ops f.op f.still.low).begin in
          let low_then : e < (w.op f.op).begin = omega (arith, low, begin) in
          f.later e t (ended_before e (w.op f.op).begin t (begun_by f.op f.still.low) ended low_then) low_then;
    }

    pub lined_on : (s : ℕ) (base x : Journal) → StaysOpen w u s → Lined v w s base x → Lined v u s base x
    lined_on s base x stays (inl kept) = inl kept
    lined_on s base x stays (inr fresh) = inr (fresh_on s base x stays fresh)

    pub each_lined_on : (s : ℕ) (base : Journal) (x : Session) → StaysOpen w u s → EachJournal (Lined v w s base) x → EachJournal (Lined v u s base) x
    each_lined_on s base x stays each = record {
      now = lined_on s base x.journal stays each.now;
      pending = each_map (Lined v w s base) (Lined v u s base) x.journal_pending (λ j. lined_on s base j stays) each.pending;
      known = lined_on s base (known_by x.client) stays each.known;
    }

    pub based_on : (s : ℕ) (base : Journal) (k : ℕ) → BaseOp v w s base k → BaseOp v u s base k
    based_on s base k old =
        let op : OpGoes (w.op k) (u.op k) = goes.ops k old.low in
        record { low = low_on k old.low; tag = op.tag (base.page.line v.name).tag old.write old.tag; session = op.session ∙ old.session; write = op.write ∙ old.write }

    pub looking_on : (s : ℕ) (change : Change) (looked : ℕ → Bool) (seen : ℕ → Page) (op : Option ℕ) → StaysOpen w u s → LooksFor v w s change looked seen op → LooksFor v u s change looked seen op
    looking_on s change looked seen None stays other = other
    looking_on s change looked seen (Some k) stays looking = record {
      name = looking.name;
      still = open_on s k change.bytes stays looking.still;
      all = seen_op k looked seen looking.still.low looking.all;
    }

    module _ (past more : ℕ → List Page) (grows : Grows past more) where
      pub acts_on : (s : ℕ) (client : Client) → StaysOpen w u s → Acts v w past s client → Acts v u more s client
      acts_on s (Knows j) stays acts = tt
      acts_on s (Looks j change looked seen) stays acts = record {
        within = acts.within;
        own = acts.own;
        pages = λ t did other. looked_on past more seen t grows (acts.pages t did other);
        for = looking_on s change looked seen change.op stays acts.for;
      }
      acts_on s (Announces j op) stays acts = acts
      acts_on s (Carries j op) stays acts = acts

      pub lines_on : (s : ℕ) (base : Journal) (x : Session) → more s ≡ past s → StaysOpen w u s → Lines v w past s base x → Lines v u more s base x
      lines_on s base x same stays lines = record {
        paged = paged_on v past more s base x grows same lines.paged;
        lined = each_lined_on s base x stays lines.lined;
        based = λ k is. based_on s base k (lines.based k is);
        sourced = λ d among. sourced_on (d.line v.name) (lines.sourced d (let P : List Page → Type 0 = λ z. Among d z in subst P same among));
        acts = acts_on s x.client stays lines.acts;
      }

      pub searching_on : (reader : Reader) → Searching v w past reader → Searching v u more reader
      searching_on Idle old = tt
      searching_on (Searches k looked seen) old = record {
        low = low_on k old.low;
        read = (goes.ops k old.low).write ∙ old.read;
        pages = λ t did. looked_on past more seen t grows (old.pages t did);
        all = seen_op k looked seen old.low old.all;
      }

    pub sane_on : (base after : ℕ → Journal) (a : Op) → a.begin ≤ w.now → ((s : ℕ) → IsAtMost ((base s).page.line v.name).tag ((after s).page.line v.name).tag) → Sane v w base a → Sane v u after a
    sane_on base after a old up sane = record {
      begins = let b = sane.begins in omega (arith, b, goes.now);
      ends = λ e is. let ends = sane.ends e is in (ends.0, omega (arith, ends.1, goes.now), ends.2);
      within = sane.within;
      rises = λ y e t has ended low. sane.rises y e t has (ended_before e a.begin t old ended low) low;
      writes = λ y e t write has ended low. sane.writes y e t write has (ended_before e a.begin t old ended low) low;
      sourced = λ e y read end has. from e y (sane.sourced e y read end has);
      numbered = λ y write has. let n = sane.numbered y write has in (n.0, at_most_trans y ((base y.session).page.line v.name).tag ((after y.session).page.line v.name).tag n.1 (up y.session));
    }
      where
        from : (e : ℕ) (y : Tag) → ((y ≡ first_tag) × Gives a []) ⊎ ReadFrom w a e y → ((y ≡ first_tag) × Gives a []) ⊎ ReadFrom u a e y
        from e y (inl first) = inl first
        from e y (inr x) =
            let write : is_write (w.op x.op) ≡ true = kind_write (w.op x.op) x.bytes x.kind in
            let op : OpGoes (w.op x.op) (u.op x.op) = goes.ops x.op x.low in
            inr (record {
              op = x.op;
              low = low_on x.op x.low;
              bytes = x.bytes;
              kind = op.kind write ∙ x.kind;
              tag = op.tag y write x.tag;
              begin = let b = x.begin in omega (arith, b, op.begin);
              gives = x.gives;
            })

    -- ---- all of it

    abbrev pub Untouched : (after : ℕ → Journal) (more : ℕ → List Page) → ℕ → Type 0
    Untouched after more s = (u.session s ≡ w.session s) × (after s ≡ sound.base s) × (more s ≡ sound.past s) × StaysOpen w u s

    pub sound_on : (after : ℕ → Journal) (more : ℕ → List Page) → Grows sound.past more → ((s : ℕ) → IsAtMost ((sound.base s).page.line v.name).tag ((after s).page.line v.name).tag)
        → ((i : ℕ) → i < u.begun → ((i < w.begun) × (u.op i ≡ w.op i)) ⊎ Sane v u after (u.op i))
        → ((i j : ℕ) (t : Tag) → i < u.begun → j < u.begun → is_write (u.op i) ≡ true → is_write (u.op j) ≡ true → (u.op i).tag ≡ Some t → (u.op j).tag ≡ Some t → i ≡ j)
        → ((e : ℕ) (t : Tag) → Ended u e t → Ended w e t ⊎ Reached v (line_at v u) t)
        → ((s : ℕ) → Untouched after more s ⊎ Lines v u more s (after s) (u.session s))
        → ((r : ℕ) → (u.reader r ≡ w.reader r) ⊎ Searching v u more (u.reader r))
        → Sound v u
    sound_on after more grows up ops differ found lines readers = record {
      base = after;
      past = more;
      ops = λ i low. op i (ops i low);
      differ = differ;
      found = λ e t ended. in_force t (was e t (found e t ended));
      lines = λ s. line s (lines s);
      readers = λ r. reader r (readers r);
    }
      where
        op : (i : ℕ) → ((i < w.begun) × (u.op i ≡ w.op i)) ⊎ Sane v u after (u.op i) → Sane v u after (u.op i)
        op i (inl old) = let P : Op → Type 0 = λ z. Sane v u after z in subst P (sym old.1) (sane_on sound.base after (w.op i) (begun_by i old.0) up (sound.ops i old.0))
        op i (inr new) = new

        was : (e : ℕ) (t : Tag) → Ended w e t ⊎ Reached v (line_at v u) t → Reached v (line_at v w) t ⊎ Reached v (line_at v u) t
        was e t (inl old) = inl (sound.found e t old)
        was e t (inr new) = inr new

        in_force : (t : Tag) → Reached v (line_at v w) t ⊎ Reached v (line_at v u) t → Reached v (line_at v u) t
        in_force t (inl old) = reached_on v (line_at v w) (line_at v u) t goes.pages old
        in_force t (inr new) = new

        line : (s : ℕ) → Untouched after more s ⊎ Lines v u more s (after s) (u.session s) → Lines v u more s (after s) (u.session s)
        line s (inl (same, base, past, stays)) =
            let P : Journal → Session → Type 0 = λ b x. Lines v u more s b x in
            subst (λ b. P b (u.session s)) (sym base) (subst (λ x. P (sound.base s) x) (sym same) (lines_on sound.past more grows s (sound.base s) (w.session s) past stays (sound.lines s)))
        line s (inr new) = new

        reader : (r : ℕ) → (u.reader r ≡ w.reader r) ⊎ Searching v u more (u.reader r) → Searching v u more (u.reader r)
        reader r (inl same) = let P : Reader → Type 0 = λ z. Searching v u more z in subst P (sym same) (searching_on sound.past more grows (w.reader r) (sound.readers r))
        reader r (inr new) = new
