-- Whatever the turns, the operations on each file are tagged.
use Rattle.std.proofs.Common.{◌≡◌, ◌⊎◌, ℕ, ◌+◌, ◌<◌, ◌≤◌, Bool, true, false, List, [], ◌∷◌, length, refl, sym, ap, ◌∙◌, subst, inl, inr, Option, Some, None, arith, is_some, nat_lt, map}
use Rattle.std.specs.Prelude.{IsSome}
use Rattle.std.proofs.lemmas.Bool.{cases_lt, true≢false, ltb-true}
use Rattle.std.proofs.lemmas.List.{length-append}
use Rattle.gq_grid.specs.Grid.{Grid}
use Rattle.gq_tag.specs.declared.Tag.{Tag}
use Rattle.gq_tag.specs.Tag.{first_tag, File, is_less}
use Rattle.gq_tag.proofs.Order.{IsAtMost, less_at_most}
use Rattle.gq_desk.specs.declared.plans.TenantRow.{TenantRow}
use Rattle.gq_phase.specs.Phase.{Writing, Listing}
use Rattle.gq_model.specs.Trace.{files_of, Turn, Trace, start, volumes}
use Rattle.gq_model.specs.Lone.{lone}
use Rattle.gq_laws.specs.Laws.{lone_operations, IsRising, answered_at}
use Rattle.gq_laws.proofs.Words.{floor}
use Rattle.gq_laws.specs.declared.ops.Op.{Op}
use Rattle.gq_laws.specs.Operations.{answered, operations, SessionAnswer, opened_in, begun_in, is_write, Gives, Precedes, At, WroteWith, Tagged}
use Rattle.gq_laws.proofs.Runs.{IsKnown, Settled, Extends, op_start}
use Rattle.gq_laws.proofs.Reaching.{reach_between, reach_first, reach_same, reach_run, reach_extends, reach_floor}
use Rattle.gq_laws.proofs.Telling.{tells}
use Rattle.gq_laws.proofs.Beginnings.{OpAt, op_at, begins_differ}
use Rattle.gq_laws.proofs.Sessions.{settled_since}
use Rattle.gq_laws.proofs.Opening.{listed_files, volume_files}
use Rattle.gq_laws.proofs.Completed.{Completed, completed_op, MadeTag, made_tag, tagged_ended}
use Rattle.gq_laws.proofs.OtherPlaces.{moved_op, answered_at-moved, operations-moved, tagged-moved}
use Rattle.gq_laws.proofs.Sources.{Source, Before, Going, After, source}

extends_length : (later t : Trace) → Extends later t → length t ≤ length later
extends_length later t x = let P : Trace → Type 0 = λ z. length t ≤ length z in subst P x.1 (omega (arith, length-append x.0 t))

-- the turns with their answers
abbrev all_told : Grid → TenantRow → List Turn → List SessionAnswer
all_told grid row turns = tells grid row start 0 turns

-- the operations on a file that is there
abbrev the_ops : Grid → TenantRow → List Turn → File → List Op
the_ops grid row turns file = begun_in file (all_told grid row turns)

-- the moment of the operation's beginning
abbrev OpMoment : Grid → TenantRow → List Turn → File → Op → Type 0
OpMoment grid row turns file a = OpAt grid row file start 0 turns a

the_moment : (grid : Grid) (row : TenantRow) (turns : List Turn) (file : File) (i : ℕ) (a : Op) → At (the_ops grid row turns file) i a → OpMoment grid row turns file a
the_moment grid row turns file i a at = op_at grid row file turns start 0 i a at

has_file : (grid : Grid) (row : TenantRow) (turns : List Turn) (file : File) → file.place < files_of (opened_in (all_told grid row turns)) file.volume → (a : Op) → (o : OpMoment grid row turns file a) → (f : ℕ) → o.begun.task ≡ Listing file.volume f → file.place < f
has_file grid row turns file there a o f is =
    let asks = o.begun.asks ∙ ap Some is in
    omega (arith, listed_files grid row start o.q 0 o.m turns o.x o.rest o.begun.line file.volume f o.begun.g o.reach refl o.begun.turn asks, volume_files (volumes o.q.trace) o.begun.line file.volume f asks)

-- two operations that began with the same trace began at the same place
not_before : (grid : Grid) (row : TenantRow) (turns : List Turn) (file : File) (a b : Op) (o : OpMoment grid row turns file a) (w : OpMoment grid row turns file b) → o.q.trace ≡ w.q.trace → o.m < w.m → ⊥
not_before grid row turns file a b o w same low =
    let between = reach_first (reach_between o.reach w.reach (omega arith)) low in
    let grown : Extends w.q.trace (o.begun.g.e ∷ o.q.trace) = (let P : Trace → Type 0 = λ z. Extends w.q.trace z in subst P o.begun.g.grown (reach_extends between)) in
    omega (arith, extends_length w.q.trace (o.begun.g.e ∷ o.q.trace) grown, ap length same)

same_begin : (grid : Grid) (row : TenantRow) (turns : List Turn) (file : File) (a b : Op) (o : OpMoment grid row turns file a) (w : OpMoment grid row turns file b) → o.q.trace ≡ w.q.trace → a.begin ≡ b.begin
same_begin grid row turns file a b o w same = go (cases_lt o.m w.m) (cases_lt w.m o.m)
  where
    go : (o.m < w.m) ⊎ (w.m ≤ o.m) → (w.m < o.m) ⊎ (o.m ≤ w.m) → a.begin ≡ b.begin
    go (inl low) other = absurd (not_before grid row turns file a b o w same low)
    go (inr high) (inl low) = absurd (not_before grid row turns file b a w o (sym same) low)
    go (inr high) (inr low) = omega (arith, o.begun.begin, w.begun.begin)

-- a tag is made once
not_sooner : (grid : Grid) (row : TenantRow) (turns : List Turn) (file : File) (a b : Op) (s t : Trace) (tag : Tag) (A : MadeTag grid row file start 0 turns a s tag) (B : MadeTag grid row file start 0 turns b t tag) → A.m < B.m → ⊥
not_sooner grid row turns file a b s t tag A B low =
    let between = reach_first (reach_between A.reach B.reach (omega arith)) low in
    let k : a.session ≡ b.session = sym A.session ∙ B.session in
    let grows = reach_floor a.session between in
    omega (arith, A.floor_is, B.above_floor, grows, ap (floor B.q.trace) k)

same_moment : (grid : Grid) (row : TenantRow) (turns : List Turn) (file : File) (a b : Op) (s t : Trace) (tag : Tag) (A : MadeTag grid row file start 0 turns a s tag) (B : MadeTag grid row file start 0 turns b t tag) → s ≡ t
same_moment grid row turns file a b s t tag A B = go (cases_lt A.m B.m) (cases_lt B.m A.m)
  where
    go : (A.m < B.m) ⊎ (B.m ≤ A.m) → (B.m < A.m) ⊎ (A.m ≤ B.m) → s ≡ t
    go (inl low) other = absurd (not_sooner grid row turns file a b s t tag A B low)
    go (inr high) (inl low) = absurd (not_sooner grid row turns file b a t s tag B A low)
    go (inr high) (inr low) =
        let same : A.q ≡ B.q = reach_same (reach_between A.reach B.reach low) (omega arith) in
        sym A.start ∙ ap (λ q. op_start q.trace a.session) same ∙ ap (op_start B.q.trace) (sym A.session ∙ B.session) ∙ B.start

-- what was settled when an operation ended is settled when a later one begins
settled_later : (grid : Grid) (row : TenantRow) (turns : List Turn) (file : File) (a b : Op) (s : Trace) (e : ℕ) (A : Completed grid row file start 0 turns a s e) (w : OpMoment grid row turns file b) → e < b.begin → Settled grid w.q.trace file A.c.tag
settled_later grid row turns file a b s e A w low =
    settled_since grid row w.q.trace A.q.trace file A.c.tag (reach_run w.reach tt) (reach_extends (reach_between A.reach w.reach (omega (arith, w.begun.begin)))) A.settled

is_tag_of : (tags : Option Tag) (x y : Tag) → tags ≡ Some x → tags ≡ Some y → x ≡ y
is_tag_of tags x y p q = let both : Some x ≡ Some y = sym p ∙ q in cc

the_end : (o : Option ℕ) → IsSome o → (e : ℕ) × (o ≡ Some e)
the_end None h = absurd (true≢false (sym h))
the_end (Some e) h = (e, refl)

tagged_there : (grid : Grid) (row : TenantRow) (turns : List Turn) (file : File) → file.place < files_of (opened_in (all_told grid row turns)) file.volume → Tagged (the_ops grid row turns file)
tagged_there grid row turns file there = record {
  ends_later = λ i e a at ends. (over_at i a e at ends).later;
  completed = λ i a at h. completed i a at (the_end a.end h);
  write_tags_differ = λ i j a b tag at_a at_b wa wb ta tb. begins_differ grid row file turns start 0 i j a b at_a at_b
      (same_begin grid row turns file a b (moment i a at_a) (moment j b at_b)
      (same_moment grid row turns file a b (moment i a at_a).q.trace (moment j b at_b).q.trace tag (tag_at i a tag at_a wa ta) (tag_at j b tag at_b wb tb)));
  write_tags_not_first = λ i a at wa ta. omega (arith, (tag_at i a first_tag at wa ta).above_floor);
  rising = λ i j a b x y at_a at_b before ta tb. rising i j a b x y at_a at_b before ta tb (is_write b) refl;
  writes_rise = λ i j a b x y at_a at_b before wb ta tb. writes_rise i j a b x y at_a at_b before wb ta tb;
  sourced = λ i e a tag at no_write ends tagged. sourced i e a tag at no_write tagged (over_at i a e at ends);
}
  where
    ops : List Op
    ops = the_ops grid row turns file

    moment : (i : ℕ) (a : Op) → At ops i a → OpMoment grid row turns file a
    moment i a at = the_moment grid row turns file i a at

    over_at : (i : ℕ) (a : Op) (e : ℕ) → (at : At ops i a) → a.end ≡ Some e → Completed grid row file start 0 turns a (moment i a at).q.trace e
    over_at i a e at ends = completed_op grid row file start 0 turns a e tt (moment i a at) (has_file grid row turns file there a (moment i a at)) ends

    tag_at : (i : ℕ) (a : Op) (tag : Tag) → (at : At ops i a) → is_write a ≡ true → a.tag ≡ Some tag → MadeTag grid row file start 0 turns a (moment i a at).q.trace tag
    tag_at i a tag at writes tagged = made_tag grid row file start 0 turns a tag tt (moment i a at) writes tagged

    completed : (i : ℕ) (a : Op) → At ops i a → (e : ℕ) × (a.end ≡ Some e) → IsSome a.tag
    completed i a at (e, ends) = ap is_some (over_at i a e at ends).tag

    writes_rise : (i j : ℕ) (a b : Op) (x y : Tag) → At ops i a → At ops j b → Precedes a b → is_write b ≡ true → a.tag ≡ Some x → b.tag ≡ Some y → is_less x y ≡ true
    writes_rise i j a b x y at_a at_b (e, ends, low) wb ta tb =
        let A = over_at i a e at_a ends in
        let same : A.c.tag ≡ x = is_tag_of a.tag A.c.tag x A.tag ta in
        let P : Tag → Type 0 = λ z. is_less z y ≡ true in
        subst P same ((tag_at j b y at_b wb tb).above A.c.tag (settled_later grid row turns file a b (moment i a at_a).q.trace e A (moment j b at_b) low))

    rising : (i j : ℕ) (a b : Op) (x y : Tag) → At ops i a → At ops j b → Precedes a b → a.tag ≡ Some x → b.tag ≡ Some y → (w : Bool) → is_write b ≡ w → IsAtMost x y
    rising i j a b x y at_a at_b before ta tb true wb = less_at_most x y (writes_rise i j a b x y at_a at_b before wb ta tb)
    rising i j a b x y at_a at_b (e, ends, low) ta tb false no_write =
        let A = over_at i a e at_a ends in
        let end_b = tagged_ended grid row file start 0 turns b y (moment j b at_b) no_write tb in
        let B = over_at j b end_b.0 at_b end_b.1 in
        let x_is : A.c.tag ≡ x = is_tag_of a.tag A.c.tag x A.tag ta in
        let y_is : B.c.tag ≡ y = is_tag_of b.tag B.c.tag y B.tag tb in
        let P : Tag → Tag → Type 0 = λ z w. IsAtMost z w in
        subst (λ z. P z y) x_is (subst (λ w. P A.c.tag w) y_is (B.least A.c.tag (settled_later grid row turns file a b (moment i a at_a).q.trace e A (moment j b at_b) low)))

    sourced : (i e : ℕ) (a : Op) (tag : Tag) → (at : At ops i a) → is_write a ≡ false → a.tag ≡ Some tag → Completed grid row file start 0 turns a (moment i a at).q.trace e →
        ((tag ≡ first_tag) × Gives a []) ⊎ ((j : ℕ) × (w : Op) × (bytes : List ℕ) × At ops j w × WroteWith w tag bytes × (w.begin < e) × Gives a bytes)
    sourced i e a tag at no_write tagged A = go A.known
      where
        same : A.c.tag ≡ tag
        same = is_tag_of a.tag A.c.tag tag A.tag tagged

        from : Source grid row start 0 turns e (record { file = file; copy = A.c }) → ((tag ≡ first_tag) × Gives a []) ⊎ ((j : ℕ) × (w : Op) × (bytes : List ℕ) × At ops j w × WroteWith w tag bytes × (w.begin < e) × Gives a bytes)
        from (Before within) = absurd (omega (arith, within.1))
        from (Going k busy odd x) = absurd (let bad : None ≡ Some (Writing file A.c.bytes) = busy in cc)
        from (After j w at_w wrote before) = inr (j, w, A.c.bytes, at_w, (wrote.0, wrote.1 ∙ ap Some same), before, A.gives no_write)

        go : IsKnown A.q.trace file A.c → ((tag ≡ first_tag) × Gives a []) ⊎ ((j : ℕ) × (w : Op) × (bytes : List ℕ) × At ops j w × WroteWith w tag bytes × (w.begin < e) × Gives a bytes)
        go (inl first) = inl (sym same ∙ ap (λ z. z.tag) first, (let P : List ℕ → Type 0 = λ z. Gives a z in subst P (ap (λ z. z.bytes) first) (A.gives no_write)))
        go (inr within) = from (source (record { file = file; copy = A.c }) A.reach within)

-- of no operations all holds
tagged_none : Tagged []
tagged_none = record {
  ends_later = λ i e a at ends. absurd (let bad : None ≡ Some a = at in cc);
  completed = λ i a at h. absurd (let bad : None ≡ Some a = at in cc);
  write_tags_differ = λ i j a b tag at_a at_b wa wb ta tb. absurd (let bad : None ≡ Some a = at_a in cc);
  write_tags_not_first = λ i a at wa ta. let bad : None ≡ Some a = at in cc;
  rising = λ i j a b x y at_a at_b before ta tb. absurd (let bad : None ≡ Some a = at_a in cc);
  writes_rise = λ i j a b x y at_a at_b before wb ta tb. absurd (let bad : None ≡ Some a = at_a in cc);
  sourced = λ i e a tag at no_write ends tagged. absurd (let bad : None ≡ Some a = at in cc);
}

pub all_tagged : (grid : Grid) (row : TenantRow) (turns : List Turn) (file : File) → Tagged (lone_operations grid row turns file)
all_tagged grid row turns file = go (nat_lt file.place (files_of (opened_in (all_told grid row turns)) file.volume)) refl
  where
    go : (b : Bool) → nat_lt file.place (files_of (opened_in (all_told grid row turns)) file.volume) ≡ b → Tagged (lone_operations grid row turns file)
    go true e = let P : List Op → Type 0 = λ z. Tagged z in rw e (tagged_there grid row turns file (ltb-true file.place (files_of (opened_in (all_told grid row turns)) file.volume) e))
    go false e = rw e tagged_none

-- ---- at other places

pub all_places_tagged : (grid : Grid) (row : TenantRow) (turns : List Turn) (place : ℕ → ℕ) (file : File) → IsRising place → Tagged (operations (answered_at place turns (lone grid row turns)) file)
all_places_tagged grid row turns place file rises =
    let P : List Op → Type 0 = λ z. Tagged z in
    let same : operations (answered_at place turns (lone grid row turns)) file ≡ map (moved_op place) (lone_operations grid row turns file) =
    ap (λ z. operations z file) (answered_at-moved place place 0 (λ i. ap place (none i)) turns (lone grid row turns)) ∙ operations-moved place (answered turns (lone grid row turns)) file in
    subst P (sym same) (tagged-moved place rises (lone_operations grid row turns file) (all_tagged grid row turns file))
  where
    none : (i : ℕ) → i ≡ 0 + i
    none i = omega arith
