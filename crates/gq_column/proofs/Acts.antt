-- What is so before an act is so after it, or a node is stuck by it.
use Rattle.std.proofs.Common.{◌≡◌, ◌⊎◌, ◌<◌, ◌≤◌, ℕ, Bool, true, false, Option, Some, None, refl, sym, ap, subst, ◌∙◌, arith, inl, inr}
use Rattle.std.specs.Prelude.{◌==◌, ◌&&◌, ◌||◌, not, nat_le, if◌then◌else◌}
use Rattle.std.proofs.lemmas.Bool.{and_parts, or_cases, leb-true, cases_eq, cases_Bool, cases_lt, not-true, true≢false}
use Rattle.gq_column.specs.Column.{Setting, IsChain, World, Act, Keeps, Raises, Starts, Answers, Takes, Passes, Fills, is_done, done, kept, raised, started, answered, taken, passed_over, filled, keeps_it, then_has}
use Rattle.gq_column.specs.Laws.{IsSince}
use Rattle.gq_column.proofs.Standing.{Stuck, Good, Standing}

-- ---- whom a node believes

-- what stands in the plan of a node of a later generation, or in one of no fewer losses, is since
since_later : (s : Setting) → IsChain s → (losses q p : ℕ) → losses ≤ q → s.stands q p ≡ true → IsSince s losses p
since_later s chain losses q p later stands = chain.goes_on losses q p later stands

-- ---- a content is to be kept

untold_before : (w : World) (m c k d q : ℕ) → (kept w m c).told k d q ≡ true → (k ≡ m → ⊥) → w.told k d q ≡ true
untold_before w m c k d q told other = grind arith

told_now : (w : World) (m c d q : ℕ) → (kept w m c).told m d q ≡ true → ((d ≡ c) × (q ≡ w.plan m) × (keeps_it (w.has m) (w.below m) c ≡ true)) ⊎ (w.told m d q ≡ true)
told_now w m c d q told = by (or_cases (if m == m then if d == c then if q == w.plan m then keeps_it (w.has m) (w.below m) c else false else false else false) (w.told m d q) told)
  where
    by : ((if m == m then if d == c then if q == w.plan m then keeps_it (w.has m) (w.below m) c else false else false else false) ≡ true) ⊎ (w.told m d q ≡ true) → ((d ≡ c) × (q ≡ w.plan m) × (keeps_it (w.has m) (w.below m) c ≡ true)) ⊎ (w.told m d q ≡ true)
    by (inl new) =
        let same : d ≡ c = grind arith in
        let plan : q ≡ w.plan m = grind arith in
        let keeps : keeps_it (w.has m) (w.below m) c ≡ true = grind arith in
        inl (same, plan, keeps)
    by (inr before) = inr before

kept_then : (o : Option ℕ) (below : Bool) (c : ℕ) → keeps_it o below c ≡ true → then_has o below c ≡ Some c
kept_then (Some d) below c keeps = grind arith
kept_then None true c keeps = grind arith
kept_then None false c keeps = refl

has_still : (w : World) (m c k y : ℕ) → w.has k ≡ Some y → (kept w m c).has k ≡ Some y
has_still w m c k y has = grind arith

has_other : (w : World) (m c k : ℕ) → (k ≡ m → ⊥) → (kept w m c).has k ≡ w.has k
has_other w m c k other = grind arith

has_here : (w : World) (m c : ℕ) → (kept w m c).has m ≡ then_has (w.has m) (w.below m) c
has_here w m c = grind arith

new_or_old : (o : Option ℕ) (below : Bool) (c y : ℕ) → then_has o below c ≡ Some y → (o ≡ Some y) ⊎ (y ≡ c)
new_or_old (Some d) below c y has = inl has
new_or_old None true c y has = grind arith
new_or_old None false c y has = inr (grind arith)

-- the node is stuck by it: it lacks nothing, and has another content now
abbrev Spoils : Setting → (losses x : ℕ) → World → (m c : ℕ) → Type 0
Spoils s losses x w m c = (s.stands losses m ≡ true) × (w.lacks m ≡ false) × (y : ℕ) × ((kept w m c).has m ≡ Some y) × (y ≡ x → ⊥)

-- or it has no other
abbrev Spares : Setting → (losses x : ℕ) → World → (m c : ℕ) → Type 0
Spares s losses x w m c = (y : ℕ) → s.stands losses m ≡ true → w.lacks m ≡ false → (kept w m c).has m ≡ Some y → y ≡ x

spoils_or_spares : (s : Setting) (losses x : ℕ) (w : World) (m c : ℕ) → Spoils s losses x w m c ⊎ Spares s losses x w m c
spoils_or_spares s losses x w m c = by (cases_Bool (s.stands losses m)) (cases_Bool (w.lacks m)) (then_has (w.has m) (w.below m) c) (has_here w m c)
  where
    by : (s.stands losses m ≡ true) ⊎ (s.stands losses m ≡ false) → (w.lacks m ≡ true) ⊎ (w.lacks m ≡ false) → (o : Option ℕ) → (kept w m c).has m ≡ o → Spoils s losses x w m c ⊎ Spares s losses x w m c
    by (inr off) lacking o has = inr (λ y stands whole is. absurd (true≢false (sym stands ∙ off)))
    by (inl stands) (inl lacks) o has = inr (λ y on whole is. absurd (true≢false (sym lacks ∙ whole)))
    by (inl stands) (inr whole) None has = inr (λ y on full is. grind arith)
    by (inl stands) (inr whole) (Some y) has = one (cases_eq y x)
      where
        one : (y ≡ x) ⊎ (y ≡ x → ⊥) → Spoils s losses x w m c ⊎ Spares s losses x w m c
        one (inl same) = inr (λ z on full is. grind arith)
        one (inr other) = inl (stands, whole, y, has, other)

-- a node that is stuck by it has not told this content
untold_by : (s : Setting) (losses x : ℕ) (w : World) (m c y : ℕ) → Good s losses x w → s.stands losses m ≡ true → (kept w m c).has m ≡ Some y → (y ≡ x → ⊥) → (kept w m c).told m x losses ≡ false
untold_by s losses x w m c y g stands has other = by (cases_Bool ((kept w m c).told m x losses))
  where
    by : ((kept w m c).told m x losses ≡ true) ⊎ ((kept w m c).told m x losses ≡ false) → (kept w m c).told m x losses ≡ false
    by (inr untold) = untold
    by (inl told) = one (told_now w m c x losses told)
      where
        one : ((x ≡ c) × (losses ≡ w.plan m) × (keeps_it (w.has m) (w.below m) c ≡ true)) ⊎ (w.told m x losses ≡ true) → (kept w m c).told m x losses ≡ false
        one (inl new) =
            let now : (kept w m c).has m ≡ Some c = has_here w m c ∙ kept_then (w.has m) (w.below m) c new.2 in
            let same : y ≡ x = grind (arith, now, has, new.0) in
            absurd (other same)
        one (inr before) =
            let now : (kept w m c).has m ≡ Some x = has_still w m c m x (g.held m stands before) in
            let same : y ≡ x = grind (arith, now, has) in
            absurd (other same)

keeps_good : (s : Setting) (losses x : ℕ) (w : World) (m c : ℕ) → Good s losses x w → Spares s losses x w m c → Good s losses x (kept w m c)
keeps_good s losses x w m c g spares = record { held = held; since = since; none_other = none_other; whole = λ k later full. has_still w m c k x (g.whole k later full); given = λ k later is. has_still w m c k x (g.given k later is); gives = g.gives; passes = g.passes; misses = g.misses; planned = g.planned }
  where
    held_here : s.stands losses m ≡ true → (kept w m c).told m x losses ≡ true → (kept w m c).has m ≡ Some x
    held_here stands told = one (told_now w m c x losses told)
      where
        one : ((x ≡ c) × (losses ≡ w.plan m) × (keeps_it (w.has m) (w.below m) c ≡ true)) ⊎ (w.told m x losses ≡ true) → (kept w m c).has m ≡ Some x
        one (inl new) = has_here w m c ∙ kept_then (w.has m) (w.below m) c new.2 ∙ ap Some (sym new.0)
        one (inr before) = has_still w m c m x (g.held m stands before)

    held : (k : ℕ) → s.stands losses k ≡ true → (kept w m c).told k x losses ≡ true → (kept w m c).has k ≡ Some x
    held k stands told = one (cases_eq k m)
      where
        one : (k ≡ m) ⊎ (k ≡ m → ⊥) → (kept w m c).has k ≡ Some x
        one (inl e) = subst (λ z. s.stands losses z ≡ true → (kept w m c).told z x losses ≡ true → (kept w m c).has z ≡ Some x) (sym e) held_here stands told
        one (inr other) = has_other w m c k other ∙ g.held k stands (untold_before w m c k x losses told other)

    since_here : s.stands losses m ≡ true → (kept w m c).told m x losses ≡ true → losses ≤ w.plan m
    since_here stands told = one (told_now w m c x losses told)
      where
        one : ((x ≡ c) × (losses ≡ w.plan m) × (keeps_it (w.has m) (w.below m) c ≡ true)) ⊎ (w.told m x losses ≡ true) → losses ≤ w.plan m
        one (inl new) = let same : losses ≡ w.plan m = new.1 in omega arith
        one (inr before) = g.since m stands before

    since : (k : ℕ) → s.stands losses k ≡ true → (kept w m c).told k x losses ≡ true → losses ≤ w.plan k
    since k stands told = one (cases_eq k m)
      where
        one : (k ≡ m) ⊎ (k ≡ m → ⊥) → losses ≤ w.plan k
        one (inl e) = subst (λ z. s.stands losses z ≡ true → (kept w m c).told z x losses ≡ true → losses ≤ w.plan z) (sym e) since_here stands told
        one (inr other) = g.since k stands (untold_before w m c k x losses told other)

    none_other : (k y : ℕ) → s.stands losses k ≡ true → w.lacks k ≡ false → (kept w m c).has k ≡ Some y → y ≡ x
    none_other k y stands whole has = one (cases_eq k m)
      where
        one : (k ≡ m) ⊎ (k ≡ m → ⊥) → y ≡ x
        one (inl e) = subst (λ z. s.stands losses z ≡ true → w.lacks z ≡ false → (kept w m c).has z ≡ Some y → y ≡ x) (sym e) (spares y) stands whole has
        one (inr other) = g.none_other k y stands whole (sym (has_other w m c k other) ∙ has)

pub keeps_stands : (s : Setting) (losses x : ℕ) (w : World) (m c : ℕ) → Good s losses x w → Standing s losses x (kept w m c)
keeps_stands s losses x w m c g = by (spoils_or_spares s losses x w m c)
  where
    by : Spoils s losses x w m c ⊎ Spares s losses x w m c → Standing s losses x (kept w m c)
    by (inl sp) = inl (record { node = m; stands = sp.0; untold = untold_by s losses x w m c sp.2 g sp.0 sp.3 sp.4; why = inl (sp.1, sp.2, sp.3, sp.4) })
    by (inr spares) = inr (keeps_good s losses x w m c g spares)

-- ---- a node starts again

pub starts_stands : (s : Setting) (losses x : ℕ) (w : World) (m q : ℕ) → w.plan m ≤ q → Good s losses x w → Standing s losses x (started w m q)
starts_stands s losses x w m q rises g = inr (record { held = g.held; since = since; none_other = g.none_other; whole = g.whole; given = g.given; gives = g.gives; passes = g.passes; misses = g.misses; planned = planned })
  where
    higher : (k : ℕ) → w.plan k ≤ (if k == m then q else w.plan k)
    higher k = grind arith

    since : (k : ℕ) → s.stands losses k ≡ true → w.told k x losses ≡ true → losses ≤ (if k == m then q else w.plan k)
    since k stands told =
        let before : losses ≤ w.plan k = g.since k stands told in
        let after : w.plan k ≤ (if k == m then q else w.plan k) = higher k in
        omega arith

    planned : (k : ℕ) → s.generation k ≤ (if k == m then q else w.plan k)
    planned k =
        let before : s.generation k ≤ w.plan k = g.planned k in
        let after : w.plan k ≤ (if k == m then q else w.plan k) = higher k in
        omega arith

-- ---- a node answers another one

gave_now : (w : World) (p m c j k d : ℕ) → (answered w p m (Some c)).gave j k d ≡ true → ((j ≡ p) × (d ≡ c)) ⊎ (w.gave j k d ≡ true)
gave_now w p m c j k d gave = by (or_cases (if j == p then if k == m then d == c else false else false) (w.gave j k d) gave)
  where
    by : ((if j == p then if k == m then d == c else false else false) ≡ true) ⊎ (w.gave j k d ≡ true) → ((j ≡ p) × (d ≡ c)) ⊎ (w.gave j k d ≡ true)
    by (inl new) =
        let same : j ≡ p = grind arith in
        let one : d ≡ c = grind arith in
        inl (same, one)
    by (inr before) = inr before

-- a node that lacks nothing, and is since, has no other content
since_has : (s : Setting) (losses x : ℕ) (w : World) (p y : ℕ) → Good s losses x w → IsSince s losses p → w.lacks p ≡ false → w.has p ≡ Some y → y ≡ x
since_has s losses x w p y g (inl stands) whole has = g.none_other p y stands whole has
since_has s losses x w p y g (inr later) whole has =
    let its : w.has p ≡ Some x = g.whole p later whole in
    grind arith

gives_stands : (s : Setting) (losses x : ℕ) (w : World) (p m c : ℕ) → Good s losses x w → w.lacks p ≡ false → w.has p ≡ Some c → Standing s losses x (answered w p m (Some c))
gives_stands s losses x w p m c g whole has = inr (record { held = g.held; since = g.since; none_other = g.none_other; whole = g.whole; given = g.given; gives = gives; passes = g.passes; misses = g.misses; planned = g.planned })
  where
    gives : (j k y : ℕ) → IsSince s losses j → (answered w p m (Some c)).gave j k y ≡ true → y ≡ x
    gives j k y since gave = one (gave_now w p m c j k y gave)
      where
        one : ((j ≡ p) × (y ≡ c)) ⊎ (w.gave j k y ≡ true) → y ≡ x
        one (inl new) =
            let its : w.has p ≡ Some y = has ∙ ap Some (sym new.1) in
            since_has s losses x w p y g (subst (λ z. IsSince s losses z) new.0 since) whole its
        one (inr before) = g.gives j k y since before

missed_now : (w : World) (p m j k : ℕ) → (answered w p m None).missed j k ≡ true → ((j ≡ p) × (k ≡ m)) ⊎ (w.missed j k ≡ true)
missed_now w p m j k missed = by (or_cases (if j == p then k == m else false) (w.missed j k) missed)
  where
    by : ((if j == p then k == m else false) ≡ true) ⊎ (w.missed j k ≡ true) → ((j ≡ p) × (k ≡ m)) ⊎ (w.missed j k ≡ true)
    by (inl new) =
        let same : j ≡ p = grind arith in
        let one : k ≡ m = grind arith in
        inl (same, one)
    by (inr before) = inr before

-- a node that has nothing passes it over to a later one: it is stuck, or not since
misses_stands : (s : Setting) (losses x : ℕ) (w : World) (p m : ℕ) → IsChain s → Good s losses x w → w.lacks p ≡ false → s.stands (w.plan p) m ≡ true → w.has p ≡ None → Standing s losses x (answered w p m None)
misses_stands s losses x w p m chain g whole knows none = by (cases_lt losses (s.generation m)) (cases_Bool (s.stands losses p)) (cases_Bool (w.told p x losses)) (cases_lt losses (s.generation p))
  where
    good : ((j k : ℕ) → IsSince s losses j → losses < s.generation k → (answered w p m None).missed j k ≡ false) → Good s losses x (answered w p m None)
    good misses = record { held = g.held; since = g.since; none_other = g.none_other; whole = g.whole; given = g.given; gives = g.gives; passes = g.passes; misses = misses; planned = g.planned }

    by : (losses < s.generation m) ⊎ (s.generation m ≤ losses) → (s.stands losses p ≡ true) ⊎ (s.stands losses p ≡ false) → (w.told p x losses ≡ true) ⊎ (w.told p x losses ≡ false) → (losses < s.generation p) ⊎ (s.generation p ≤ losses) → Standing s losses x (answered w p m None)
    by (inr early) a b d = inr (good misses)
      where
        misses : (j k : ℕ) → IsSince s losses j → losses < s.generation k → (answered w p m None).missed j k ≡ false
        misses j k since later = one (cases_Bool ((answered w p m None).missed j k))
          where
            one : ((answered w p m None).missed j k ≡ true) ⊎ ((answered w p m None).missed j k ≡ false) → (answered w p m None).missed j k ≡ false
            one (inr none_so) = none_so
            one (inl so) = two (missed_now w p m j k so)
              where
                two : ((j ≡ p) × (k ≡ m)) ⊎ (w.missed j k ≡ true) → (answered w p m None).missed j k ≡ false
                two (inl new) =
                    let same : s.generation k ≡ s.generation m = ap s.generation new.1 in
                    let never : ⊥ = omega arith in
                    absurd never
                two (inr before) = absurd (true≢false (sym before ∙ g.misses j k since later))
    by (inl later) (inl stands) (inl told) d =
        let its : w.has p ≡ Some x = g.held p stands told in
        let never : ⊥ = grind arith in
        absurd never
    by (inl later) (inl stands) (inr untold) d =
        let first : s.generation m ≤ w.plan p = chain.begins (w.plan p) m knows in
        let beyond : losses < w.plan p = omega arith in
        inl (record { node = p; stands = stands; untold = untold; why = inr beyond })
    by (inl later) (inr off) b (inl young) =
        let its : w.has p ≡ Some x = g.whole p young whole in
        let never : ⊥ = grind arith in
        absurd never
    by (inl later) (inr off) b (inr old) = inr (good misses)
      where
        misses : (j k : ℕ) → IsSince s losses j → losses < s.generation k → (answered w p m None).missed j k ≡ false
        misses j k since later = one (cases_Bool ((answered w p m None).missed j k))
          where
            not_p : (j ≡ p) → IsSince s losses j → ⊥
            not_p e (inl on) = true≢false (sym (subst (λ z. s.stands losses z ≡ true) e on) ∙ off)
            not_p e (inr young) =
                let same : s.generation j ≡ s.generation p = ap s.generation e in
                omega arith

            one : ((answered w p m None).missed j k ≡ true) ⊎ ((answered w p m None).missed j k ≡ false) → (answered w p m None).missed j k ≡ false
            one (inr none_so) = none_so
            one (inl so) = two (missed_now w p m j k so)
              where
                two : ((j ≡ p) × (k ≡ m)) ⊎ (w.missed j k ≡ true) → (answered w p m None).missed j k ≡ false
                two (inl new) = absurd (not_p new.0 since)
                two (inr before) = absurd (true≢false (sym before ∙ g.misses j k since later))

pub answers_stands : (s : Setting) (losses x : ℕ) (w : World) (p m : ℕ) → IsChain s → Good s losses x w → w.lacks p ≡ false → s.stands (w.plan p) m ≡ true → Standing s losses x (answered w p m (w.has p))
answers_stands s losses x w p m chain g whole knows = by (w.has p) refl
  where
    by : (o : Option ℕ) → w.has p ≡ o → Standing s losses x (answered w p m o)
    by (Some c) has = gives_stands s losses x w p m c g whole has
    by None none = misses_stands s losses x w p m chain g whole knows none

-- ---- a node takes what it is given

pub takes_stands : (s : Setting) (losses x : ℕ) (w : World) (m p c : ℕ) → IsChain s → Good s losses x w → w.gave p m c ≡ true → w.lacks m ≡ true → s.stands (w.plan m) p ≡ true → Standing s losses x (taken w m c)
takes_stands s losses x w m p c chain g gave lacks knows = inr (record { held = held; since = g.since; none_other = none_other; whole = whole; given = given; gives = g.gives; passes = g.passes; misses = g.misses; planned = g.planned })
  where
    right : losses ≤ w.plan m → c ≡ x
    right late = g.gives p m c (since_later s chain losses (w.plan m) p late knows) gave

    here : c ≡ x → (taken w m c).has m ≡ Some x
    here same = grind (arith, same)

    away : (k : ℕ) → (k ≡ m → ⊥) → (taken w m c).has k ≡ w.has k
    away k other = grind arith

    held : (k : ℕ) → s.stands losses k ≡ true → w.told k x losses ≡ true → (taken w m c).has k ≡ Some x
    held k stands told = one (cases_eq k m)
      where
        one : (k ≡ m) ⊎ (k ≡ m → ⊥) → (taken w m c).has k ≡ Some x
        one (inl e) =
            let late : losses ≤ w.plan m = subst (λ z. losses ≤ w.plan z) e (g.since k stands told) in
            subst (λ z. (taken w m c).has z ≡ Some x) (sym e) (here (right late))
        one (inr other) = away k other ∙ g.held k stands told

    none_other : (k y : ℕ) → s.stands losses k ≡ true → w.lacks k ≡ false → (taken w m c).has k ≡ Some y → y ≡ x
    none_other k y stands full has = one (cases_eq k m)
      where
        one : (k ≡ m) ⊎ (k ≡ m → ⊥) → y ≡ x
        one (inl e) = absurd (true≢false (sym lacks ∙ subst (λ z. w.lacks z ≡ false) e full))
        one (inr other) = g.none_other k y stands full (sym (away k other) ∙ has)

    whole : (k : ℕ) → losses < s.generation k → w.lacks k ≡ false → (taken w m c).has k ≡ Some x
    whole k later full = one (cases_eq k m)
      where
        one : (k ≡ m) ⊎ (k ≡ m → ⊥) → (taken w m c).has k ≡ Some x
        one (inl e) = absurd (true≢false (sym lacks ∙ subst (λ z. w.lacks z ≡ false) e full))
        one (inr other) = away k other ∙ g.whole k later full

    given : (k : ℕ) → losses < s.generation k → (if k == m then true else w.given k) ≡ true → (taken w m c).has k ≡ Some x
    given k later is = one (cases_eq k m)
      where
        one : (k ≡ m) ⊎ (k ≡ m → ⊥) → (taken w m c).has k ≡ Some x
        one (inl e) =
            let young : losses < s.generation m = subst (λ z. losses < s.generation z) e later in
            let first : s.generation m ≤ w.plan m = g.planned m in
            let late : losses ≤ w.plan m = omega arith in
            subst (λ z. (taken w m c).has z ≡ Some x) (sym e) (here (right late))
        one (inr other) =
            let before : w.given k ≡ true = grind arith in
            away k other ∙ g.given k later before

-- ---- a node passes it over

pub passes_stands : (s : Setting) (losses x : ℕ) (w : World) (m p : ℕ) → IsChain s → Good s losses x w → w.missed p m ≡ true → s.stands (w.plan m) p ≡ true → Standing s losses x (passed_over w m)
passes_stands s losses x w m p chain g missed knows = inr (record { held = g.held; since = g.since; none_other = g.none_other; whole = g.whole; given = g.given; gives = g.gives; passes = passes; misses = g.misses; planned = g.planned })
  where
    passes : (k : ℕ) → losses < s.generation k → (if k == m then true else w.passed k) ≡ false
    passes k later = one (cases_eq k m)
      where
        one : (k ≡ m) ⊎ (k ≡ m → ⊥) → (if k == m then true else w.passed k) ≡ false
        one (inl e) =
            let young : losses < s.generation m = subst (λ z. losses < s.generation z) e later in
            let first : s.generation m ≤ w.plan m = g.planned m in
            let late : losses ≤ w.plan m = omega arith in
            absurd (true≢false (sym missed ∙ g.misses p m (since_later s chain losses (w.plan m) p late knows) young))
        one (inr other) =
            let before : w.passed k ≡ false = g.passes k later in
            grind arith

-- ---- a node is filled

pub fills_stands : (s : Setting) (losses x : ℕ) (w : World) (m : ℕ) → Good s losses x w → ((w.given m ≡ true) ⊎ (w.passed m ≡ true)) → Standing s losses x (filled w m)
fills_stands s losses x w m g ready = by (cases_Bool (s.stands losses m)) (w.has m) refl (cases_Bool (w.told m x losses))
  where
    full_before : (k : ℕ) → (k ≡ m → ⊥) → (if k == m then false else w.lacks k) ≡ false → w.lacks k ≡ false
    full_before k other full = grind arith

    whole_here : losses < s.generation m → w.has m ≡ Some x
    whole_here later = one ready
      where
        one : (w.given m ≡ true) ⊎ (w.passed m ≡ true) → w.has m ≡ Some x
        one (inl given) = g.given m later given
        one (inr passed) = absurd (true≢false (sym passed ∙ g.passes m later))

    whole : (k : ℕ) → losses < s.generation k → (if k == m then false else w.lacks k) ≡ false → w.has k ≡ Some x
    whole k later full = one (cases_eq k m)
      where
        one : (k ≡ m) ⊎ (k ≡ m → ⊥) → w.has k ≡ Some x
        one (inl e) = subst (λ z. losses < s.generation z → w.has z ≡ Some x) (sym e) whole_here later
        one (inr other) = g.whole k later (full_before k other full)

    good : ((y : ℕ) → s.stands losses m ≡ true → w.has m ≡ Some y → y ≡ x) → Good s losses x (filled w m)
    good here = record { held = g.held; since = g.since; none_other = none_other; whole = whole; given = g.given; gives = g.gives; passes = g.passes; misses = g.misses; planned = g.planned }
      where
        none_other : (k y : ℕ) → s.stands losses k ≡ true → (if k == m then false else w.lacks k) ≡ false → w.has k ≡ Some y → y ≡ x
        none_other k y stands full has = one (cases_eq k m)
          where
            one : (k ≡ m) ⊎ (k ≡ m → ⊥) → y ≡ x
            one (inl e) = subst (λ z. s.stands losses z ≡ true → w.has z ≡ Some y → y ≡ x) (sym e) (here y) stands has
            one (inr other) = g.none_other k y stands (full_before k other full) has

    by : (s.stands losses m ≡ true) ⊎ (s.stands losses m ≡ false) → (o : Option ℕ) → w.has m ≡ o → (w.told m x losses ≡ true) ⊎ (w.told m x losses ≡ false) → Standing s losses x (filled w m)
    by (inr off) o has told = inr (good (λ y on is. absurd (true≢false (sym on ∙ off))))
    by (inl stands) None has told = inr (good (λ y on is. grind arith))
    by (inl stands) (Some y) has (inl told) =
        let its : w.has m ≡ Some x = g.held m stands told in
        inr (good (λ z on is. grind arith))
    by (inl stands) (Some y) has (inr untold) = one (cases_eq y x)
      where
        whole_now : (if m == m then false else w.lacks m) ≡ false
        whole_now = grind arith

        one : (y ≡ x) ⊎ (y ≡ x → ⊥) → Standing s losses x (filled w m)
        one (inl same) = inr (good (λ z on is. grind arith))
        one (inr other) = inl (record { node = m; stands = stands; untold = untold; why = inl (whole_now, y, has, other) })
