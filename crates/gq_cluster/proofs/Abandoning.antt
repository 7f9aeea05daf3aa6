-- The abandonments of a restart give up what its node's sessions did not do, and change nothing else.
use Rattle.std.proofs.Common.{◌≡◌, ◌≢◌, ◌⊎◌, ℕ, zero, suc, ◌+◌, ◌<◌, ◌≤◌, Bool, true, false, ◌&&◌, List, [], ◌∷◌, ◌++◌, map, refl, sym, ap, ◌∙◌, subst, inl, inr, Option, Some, None, arith, append-nil, eqb, leb, is_some}
use Rattle.std.specs.Prelude.{filter, ⊤}
use Rattle.std.specs.List.{range_with_len, list_any}
use Rattle.std.proofs.lemmas.Bool.{cases_eq, eq-eqb, ne_eqb, le-leb, leb-true, and_parts, true≢false}
use Rattle.gq_tag.specs.Tag.{File}
use Rattle.gq_desk.specs.Plans.{is_in}
use Rattle.gq_phase.specs.Phase.{Task}
use Rattle.gq_model.specs.declared.events.Refusal.TheVariants.{Idle}
use Rattle.gq_model.specs.Told.{Abandoned, Refused}
use Rattle.gq_model.specs.Trace.{Session}
use Rattle.gq_model.specs.Lone.{Step, quiet, is_refusal}
use Rattle.gq_cluster.specs.Facts.{Reserved, reserving, with_reserved}
use Rattle.gq_cluster.specs.Cluster.{Setting, Cluster, Act, step_in, state_after, parts_after, after_act, after_acts, gives_up, going_at}
use Rattle.gq_cluster.proofs.Parts.{parts_then, parts_here, parts_away, refused_part, accepted_part}

-- the session without its operation
abbrev pub without_operation : Session → Session
without_operation s = record s { current = None }

-- session k at its home
abbrev pub at_home : Setting → Cluster → ℕ → Session
at_home s c k = (c.part (s.home k)).session k

idle_is : (z : Session) → z.current ≡ None → z ≡ without_operation z
idle_is z idle = λ i. record { op = z.op; current = idle i; round = z.round; heard = z.heard; collected = z.collected; floor = z.floor }

-- ---- one session

record GivesOne (s : Setting) (k : ℕ) (old new : Cluster) : Type 0 where
  own : at_home s new k ≡ without_operation (at_home s old k)
  others : (j : ℕ) → k ≢ j → at_home s new j ≡ at_home s old j
  reserved : (n j : ℕ) → (new.part n).reserved j ≡ (old.part n).reserved j
  lacks : (n : ℕ) (file : File) → (new.part n).lacks file ≡ (old.part n).lacks file
  copies : (n : ℕ) (file : File) → (new.part n).brought file ≡ (old.part n).brought file
  written : new.written ≡ old.written

one_given : (s : Setting) (c : Cluster) (k : ℕ) → is_in 1 s.row.sessions k ≡ true → GivesOne s k c (after_act s c (gives_up k))
one_given s c k inside = by (at_home s c k).current refl
  where
    act : Act
    act = gives_up k

    here : (j n : ℕ) → n ≡ s.home k → k ≢ j → (parts_then s c act n).session j ≡ (c.part n).session j
    here j n same ne = ap (λ z. z.session j) (parts_here s c act n same) ∙ rw (ne_eqb k j ne) (ap (λ z. (c.part z).session j) (sym same))

    others : (j : ℕ) → k ≢ j → (parts_then s c act (s.home j)).session j ≡ at_home s c j
    others j ne = elim (cases_eq (s.home j) (s.home k)) [
      | inl same ↦ (here j (s.home j) same ne)
      | inr away ↦ (ap (λ z. z.session j) (parts_away s c act (s.home j) away))
    ]

    copies : (n : ℕ) (file : File) → (parts_then s c act n).brought file ≡ (c.part n).brought file
    copies n file = elim (cases_eq n (s.home k)) [
      | inl same ↦ (ap (λ z. z.brought file) (parts_here s c act n same) ∙ ap (λ z. (c.part z).brought file) (sym same))
      | inr away ↦ (ap (λ z. z.brought file) (parts_away s c act n away))
    ]

    lacks : (n : ℕ) (file : File) → (parts_then s c act n).lacks file ≡ (c.part n).lacks file
    lacks n file = elim (cases_eq n (s.home k)) [
      | inl same ↦ (ap (λ z. z.lacks file) (parts_here s c act n same) ∙ ap (λ z. (c.part z).lacks file) (sym same))
      | inr away ↦ (ap (λ z. z.lacks file) (parts_away s c act n away))
    ]

    -- no number is reserved where the operation is abandoned
    reserved : step_in s c act ≡ quiet Abandoned → (n j : ℕ) → (parts_then s c act n).reserved j ≡ (c.part n).reserved j
    reserved step n j = elim (cases_eq n (s.home k)) [
      | inl same ↦ (ap (λ z. z.reserved j) (parts_here s c act n same) ∙ ap by step ∙ ap (λ z. (c.part z).reserved j) (sym same))
      | inr away ↦ (ap (λ z. z.reserved j) (parts_away s c act n away))
    ]
      where
        by : Step → Reserved
        by step = with_reserved (reserving k ((c.part (s.home k)).reserved k) step.told ((state_after s (c.part (s.home k)) act).session k).floor) (c.part (s.home k)).reserved j

    own : (parts_then s c act (s.home k)).session k ≡ without_operation (at_home s c k)
    own = ap (λ z. z.session k) (parts_here s c act (s.home k) refl) ∙ rw (eq-eqb k k refl) refl

    by : (task : Option Task) → (at_home s c k).current ≡ task → GivesOne s k c (after_act s c act)
    by None idle =
        let step : step_in s c act ≡ quiet (Refused Idle) = rw (inside, idle) refl in
        let stays : (n : ℕ) → parts_after s c act n ≡ c.part n = refused_part s c act (ap (λ z. is_refusal z.told) step) in
        record {
          own = ap (λ z. z.session k) (stays (s.home k)) ∙ idle_is (at_home s c k) idle;
          others = λ j ne. ap (λ z. z.session j) (stays (s.home j));
          reserved = λ n j. ap (λ z. z.reserved j) (stays n);
          lacks = λ n file. ap (λ z. z.lacks file) (stays n);
          copies = λ n file. ap (λ z. z.brought file) (stays n);
          written = ap (λ z. c.written ++ z.new) step ∙ append-nil c.written;
        }
    by (Some task) busy =
        let step : step_in s c act ≡ quiet Abandoned = rw (inside, busy) refl in
        let goes : (n : ℕ) → parts_after s c act n ≡ parts_then s c act n = accepted_part s c act (ap (λ z. is_refusal z.told) step) in
        record {
          own = ap (λ z. z.session k) (goes (s.home k)) ∙ own;
          others = λ j ne. ap (λ z. z.session j) (goes (s.home j)) ∙ others j ne;
          reserved = λ n j. ap (λ z. z.reserved j) (goes n) ∙ reserved step n j;
          lacks = λ n file. ap (λ z. z.lacks file) (goes n) ∙ lacks n file;
          copies = λ n file. ap (λ z. z.brought file) (goes n) ∙ copies n file;
          written = ap (λ z. c.written ++ z.new) step ∙ append-nil c.written;
        }

-- ---- several sessions

abbrev has : List ℕ → ℕ → Bool
has ks j = list_any (λ k. eqb k j) ks

abbrev AllInside : ℕ → List ℕ → Type 0
AllInside most [] = ⊤
AllInside most (k ∷ ks) = (is_in 1 most k ≡ true) × AllInside most ks

record GivesThese (s : Setting) (ks : List ℕ) (old new : Cluster) : Type 0 where
  these : (j : ℕ) → has ks j ≡ true → at_home s new j ≡ without_operation (at_home s old j)
  others : (j : ℕ) → has ks j ≡ false → at_home s new j ≡ at_home s old j
  reserved : (n j : ℕ) → (new.part n).reserved j ≡ (old.part n).reserved j
  lacks : (n : ℕ) (file : File) → (new.part n).lacks file ≡ (old.part n).lacks file
  copies : (n : ℕ) (file : File) → (new.part n).brought file ≡ (old.part n).brought file
  written : new.written ≡ old.written

-- the first, and then the others
gives_more : (s : Setting) (k : ℕ) (ks : List ℕ) (old mid new : Cluster) → GivesOne s k old mid → GivesThese s ks mid new → GivesThese s (k ∷ ks) old new
gives_more s k ks old mid new one more = record {
  these = these;
  others = others;
  reserved = λ n j. more.reserved n j ∙ one.reserved n j;
  lacks = λ n file. more.lacks n file ∙ one.lacks n file;
  copies = λ n file. more.copies n file ∙ one.copies n file;
  written = more.written ∙ one.written;
}
  where
    gone : (j : ℕ) → k ≡ j → (b : Bool) → has ks j ≡ b → at_home s new j ≡ without_operation (at_home s old j)
    gone j same true e = more.these j e ∙ ap without_operation (mine j same)
      where
        mine : (j : ℕ) → k ≡ j → at_home s mid j ≡ without_operation (at_home s old j)
        mine j same = let P : ℕ → Type 0 = λ z. at_home s mid z ≡ without_operation (at_home s old z) in subst P same one.own
    gone j same false e = more.others j e ∙ (let P : ℕ → Type 0 = λ z. at_home s mid z ≡ without_operation (at_home s old z) in subst P same one.own)

    these : (j : ℕ) → has (k ∷ ks) j ≡ true → at_home s new j ≡ without_operation (at_home s old j)
    these j h = elim (cases_eq k j) [
      | inl same ↦ (gone j same (has ks j) refl)
      | inr ne ↦ (more.these j (rw (ne_eqb k j ne) at h) ∙ ap without_operation (one.others j ne))
    ]

    others : (j : ℕ) → has (k ∷ ks) j ≡ false → at_home s new j ≡ at_home s old j
    others j h = elim (cases_eq k j) [
      | inl same ↦ (absurd (true≢false (rw (eq-eqb k j same) at h)))
      | inr ne ↦ (more.others j (rw (ne_eqb k j ne) at h) ∙ one.others j ne)
    ]

these_given : (s : Setting) (ks : List ℕ) (c : Cluster) → AllInside s.row.sessions ks → GivesThese s ks c (after_acts s c (map gives_up ks))
these_given s [] c inside = record { these = λ j h. absurd (true≢false (sym h)); others = λ j h. refl; reserved = λ n j. refl; lacks = λ n file. refl; copies = λ n file. refl; written = refl }
these_given s (k ∷ ks) c inside =
    gives_more s k ks c (after_act s c (gives_up k)) (after_acts s (after_act s c (gives_up k)) (map gives_up ks)) (one_given s c k inside.0) (these_given s ks (after_act s c (gives_up k)) inside.1)

-- ---- those that have an operation

filter_inside : (p : ℕ → Bool) (a n most : ℕ) → 1 ≤ a → a + n ≤ most + 1 → AllInside most (filter p (range_with_len a n))
filter_inside p a zero most low high = tt
filter_inside p a (suc n) most low high = by (p a) refl (filter_inside p (a + 1) n most (omega arith) (omega arith))
  where
    in_range : is_in 1 most a ≡ true
    in_range = rw (le-leb 1 a low, le-leb a most (omega arith)) refl

    by : (b : Bool) → p a ≡ b → AllInside most (filter p (range_with_len (a + 1) n)) → AllInside most (filter p (range_with_len a (suc n)))
    by true e rest = rw e (in_range, rest)
    by false e rest = rw e rest

-- such a list has no session that the tenant does not have
lacks_outside : (most : ℕ) (ks : List ℕ) (j : ℕ) → AllInside most ks → is_in 1 most j ≡ false → has ks j ≡ false
lacks_outside most [] j all out = refl
lacks_outside most (k ∷ ks) j all out = rw (ne_eqb k j (λ same. true≢false (sym all.0 ∙ ap (is_in 1 most) same ∙ out))) (lacks_outside most ks j all.1 out)

filter_lacks : (p : ℕ → Bool) (xs : List ℕ) (j : ℕ) → p j ≡ false → has (filter p xs) j ≡ false
filter_lacks p [] j no_test = refl
filter_lacks p (x ∷ xs) j no_test = by (p x) refl (filter_lacks p xs j no_test)
  where
    by : (b : Bool) → p x ≡ b → has (filter p xs) j ≡ false → has (filter p (x ∷ xs)) j ≡ false
    by true e rest = rw (e, ne_eqb x j (λ same. true≢false (sym e ∙ ap p same ∙ no_test))) rest
    by false e rest = rw e rest

filter_has : (p : ℕ → Bool) (a n j : ℕ) → a ≤ j → j < a + n → p j ≡ true → has (filter p (range_with_len a n)) j ≡ true
filter_has p a zero j low high is = absurd (omega arith)
filter_has p a (suc n) j low high is = by (cases_eq a j) (p a) refl (λ (late : a + 1 ≤ j) (soon : j < a + 1 + n). filter_has p (a + 1) n j late soon is)
  where
    by : (a ≡ j) ⊎ (a ≢ j) → (b : Bool) → p a ≡ b → (a + 1 ≤ j → j < a + 1 + n → has (filter p (range_with_len (a + 1) n)) j ≡ true) → has (filter p (range_with_len a (suc n))) j ≡ true
    by (inl same) true e later = rw (e, eq-eqb a j same) refl
    by (inl same) false e later = absurd (true≢false (sym is ∙ ap p (sym same) ∙ e))
    by (inr ne) true e later = rw (e, ne_eqb a j ne) (later (omega arith) (omega arith))
    by (inr ne) false e later = rw e (later (omega arith) (omega arith))

-- ---- all of a node

-- the cluster behind the abandonments of a restart of the node
abbrev pub given_up : Setting → Cluster → ℕ → Cluster
given_up s c node = after_acts s c (map gives_up (going_at s c node))

-- the second cluster is the first one, but that the sessions of the node, of those that the tenant has, have no operation
pub record Abandons (s : Setting) (node : ℕ) (old new : Cluster) : Type 0 where
  pub own : (k : ℕ) → s.home k ≡ node → is_in 1 s.row.sessions k ≡ true → at_home s new k ≡ without_operation (at_home s old k)
  pub outside : (k : ℕ) → is_in 1 s.row.sessions k ≡ false → at_home s new k ≡ at_home s old k
  pub others : (k : ℕ) → s.home k ≢ node → at_home s new k ≡ at_home s old k
  pub reserved : (n k : ℕ) → (new.part n).reserved k ≡ (old.part n).reserved k
  pub lacks : (n : ℕ) (file : File) → (new.part n).lacks file ≡ (old.part n).lacks file
  pub copies : (n : ℕ) (file : File) → (new.part n).brought file ≡ (old.part n).brought file
  pub written : new.written ≡ old.written

pub all_given : (s : Setting) (c : Cluster) (node : ℕ) → Abandons s node c (given_up s c node)
all_given s c node = record { own = own; outside = outside; others = others; reserved = given.reserved; lacks = given.lacks; copies = given.copies; written = given.written }
  where
    test : ℕ → Bool
    test k = eqb (s.home k) node && is_some ((c.part node).session k).current

    ks : List ℕ
    ks = going_at s c node

    new : Cluster
    new = given_up s c node

    inside_all : AllInside s.row.sessions ks
    inside_all = filter_inside test 1 s.row.sessions s.row.sessions (omega arith) (omega arith)

    given : GivesThese s ks c new
    given = these_given s ks c inside_all

    outside : (k : ℕ) → is_in 1 s.row.sessions k ≡ false → at_home s new k ≡ at_home s c k
    outside k out = given.others k (lacks_outside s.row.sessions ks k inside_all out)

    others : (k : ℕ) → s.home k ≢ node → at_home s new k ≡ at_home s c k
    others k away = given.others k (filter_lacks test (range_with_len 1 s.row.sessions) k (rw (ne_eqb (s.home k) node away) refl))

    own : (k : ℕ) → s.home k ≡ node → is_in 1 s.row.sessions k ≡ true → at_home s new k ≡ without_operation (at_home s c k)
    own k same inside = by (at_home s c k).current refl
      where
        by : (task : Option Task) → (at_home s c k).current ≡ task → at_home s new k ≡ without_operation (at_home s c k)
        by None idle = either (has ks k) refl
          where
            either : (b : Bool) → has ks k ≡ b → at_home s new k ≡ without_operation (at_home s c k)
            either true e = given.these k e
            either false e = given.others k e ∙ idle_is (at_home s c k) idle
        by (Some task) busy =
            let parts = and_parts (leb 1 k) (leb k s.row.sessions) inside in
            let low : 1 ≤ k = leb-true 1 k parts.0 in
            let high : k ≤ s.row.sessions = leb-true k s.row.sessions parts.1 in
            let has_one : ((c.part node).session k).current ≡ Some task = ap (λ n. ((c.part n).session k).current) (sym same) ∙ busy in
            let passes : test k ≡ true = rw (eq-eqb (s.home k) node same, has_one) refl in
            given.these k (filter_has test 1 s.row.sessions k low (omega arith) passes)
