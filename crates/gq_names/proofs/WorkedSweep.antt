-- The worked sweep is one: each of its turns is a turn.
use Rattle.std.proofs.Common.{◌≡◌, ◌≢◌, ◌⊎◌, ℕ, ◌<◌, ◌≤◌, true, false, [], ◌∷◌, ◌++◌, get_or, refl, sym, subst, inl, inr, arith, eqb}
use Rattle.std.specs.Prelude.{◌==◌}
use Rattle.std.proofs.lemmas.Bool.{cases_eq, cases_Bool, true≢false}
use Rattle.gq_names.specs.Names.{Page, World, tidying, no_page, none_seen, and_page, and_seen, shown, goes_now, changed_after, world_after}
use Rattle.gq_names.specs.Sweeping.{can_go, IsRemoval, IsTurn, AreTurns, IsRound, after_turn}
use Rattle.gq_names.specs.Worked.{two, steps_removed, looks_alone, tidies_seven, first_round, second_round}

not_nothing : (byte : ℕ) → byte ∷ [] ≡ [] → ⊥
not_nothing byte is = cc

pub first_is : IsRound two first_round
first_is s low = by (cases_eq s 0)
  where
    by : (s ≡ 0) ⊎ (s ≢ 0) → (k : ℕ) × (k < 2) × (get_or (1 ∷ 0 ∷ []) k s ≡ s)
    by (inl is) = (1, omega arith, sym is)
    by (inr other) = (0, omega arith, omega (arith, low, other))

abbrev w0 : World
w0 = world_after two steps_removed

abbrev w1 : World
w1 = after_turn two w0 (looks_alone 1 0)

abbrev w2 : World
w2 = after_turn two w1 (tidies_seven 0 1)

abbrev w3 : World
w3 = after_turn two w2 (tidies_seven 1 0)

-- who looks at page t for session s sees this in the world w
abbrev saw : World → (s t : ℕ) → ℕ → Page
saw w s t = and_seen t (w.session t).page (and_seen s (w.session s).journal.page none_seen)

-- the other page shows a content
first_turn : IsTurn two w0 (looks_alone 1 0)
first_turn = record {
  known = (w0.session 1).journal;
  idle = refl;
  journal = (w0.session 1).journal;
  change = tidying;
  looked = and_page 0 (and_page 1 no_page);
  seen = saw w0 1 0;
  looks = refl;
  has = refl;
  does = record { carried = refl; lines = λ name. lines name (cases_Bool (eqb name 7)); removals = λ t name low ne. other t name (omega (arith, low, ne)) };
}
  where
    lines : (name : ℕ) → (eqb name 7 ≡ true) ⊎ (eqb name 7 ≡ false) → can_go two (saw w0 1 0) 1 (w0.session 1).journal.page name ≡ false
    lines name (inl e) = rw e refl
    lines name (inr e) = rw e refl

    removals : (name : ℕ) → (eqb name 7 ≡ true) ⊎ (eqb name 7 ≡ false) → IsRemoval (shown (saw w0 1 0 0) name) → (shown (saw w0 1 0 0) name).tag.number ≤ (w0.session 1).journal.page.after 0
    removals name (inl e) is = let i = rw e at is in absurd (not_nothing 65 i.1)
    removals name (inr e) is = rw e (omega arith)

    other : (t name : ℕ) → t ≡ 0 → IsRemoval (shown (saw w0 1 0 t) name) → (shown (saw w0 1 0 t) name).tag.number ≤ (w0.session 1).journal.page.after t
    other t name same =
        let P : ℕ → Type 0 = λ z. IsRemoval (shown (saw w0 1 0 z) name) → (shown (saw w0 1 0 z) name).tag.number ≤ (w0.session 1).journal.page.after z in
        subst P (sym same) (removals name (cases_Bool (eqb name 7)))

-- its line is older than the removal
second_turn : IsTurn two w1 (tidies_seven 0 1)
second_turn = record {
  known = (w1.session 0).journal;
  idle = refl;
  journal = (w1.session 0).journal;
  change = tidying;
  looked = and_page 1 (and_page 0 no_page);
  seen = saw w1 0 1;
  looks = refl;
  has = refl;
  does = record { lines = λ name none. lines name (cases_Bool (eqb name 7)); removals = λ t name low ne is. other t name (omega (arith, low, ne)); announces = refl; carries = refl };
}
  where
    lines : (name : ℕ) → (eqb name 7 ≡ true) ⊎ (eqb name 7 ≡ false) → can_go two (saw w1 0 1) 0 (w1.session 0).journal.page name ≡ true →
        goes_now two (λ n. n == 7) (λ i. i == 1) (saw w1 0 1) 0 (w1.session 0).journal.page name ≡ true
    lines name (inl e) can = rw e refl
    lines name (inr e) can = absurd (true≢false (sym (rw e at can)))

    removals : (name : ℕ) → (eqb name 7 ≡ true) ⊎ (eqb name 7 ≡ false) → (shown (saw w1 0 1 1) name).tag.number ≤ changed_after (λ i. i == 1) (saw w1 0 1) (w1.session 0).journal.page 1
    removals name (inl e) = rw e (omega arith)
    removals name (inr e) = rw e (omega arith)

    other : (t name : ℕ) → t ≡ 1 → (shown (saw w1 0 1 t) name).tag.number ≤ changed_after (λ i. i == 1) (saw w1 0 1) (w1.session 0).journal.page t
    other t name same =
        let P : ℕ → Type 0 = λ z. (shown (saw w1 0 1 z) name).tag.number ≤ changed_after (λ i. i == 1) (saw w1 0 1) (w1.session 0).journal.page z in
        subst P (sym same) (removals name (cases_Bool (eqb name 7)))

-- all others know the removal
third_turn : IsTurn two w2 (tidies_seven 1 0)
third_turn = record {
  known = (w2.session 1).journal;
  idle = refl;
  journal = (w2.session 1).journal;
  change = tidying;
  looked = and_page 0 (and_page 1 no_page);
  seen = saw w2 1 0;
  looks = refl;
  has = refl;
  does = record { lines = λ name none. lines name (cases_Bool (eqb name 7)); removals = λ t name low ne is. other t name (omega (arith, low, ne)); announces = refl; carries = refl };
}
  where
    lines : (name : ℕ) → (eqb name 7 ≡ true) ⊎ (eqb name 7 ≡ false) → can_go two (saw w2 1 0) 1 (w2.session 1).journal.page name ≡ true →
        goes_now two (λ n. n == 7) (λ i. i == 0) (saw w2 1 0) 1 (w2.session 1).journal.page name ≡ true
    lines name (inl e) can = rw e refl
    lines name (inr e) can = absurd (true≢false (sym (rw e at can)))

    removals : (name : ℕ) → (eqb name 7 ≡ true) ⊎ (eqb name 7 ≡ false) → (shown (saw w2 1 0 0) name).tag.number ≤ changed_after (λ i. i == 0) (saw w2 1 0) (w2.session 1).journal.page 0
    removals name (inl e) = rw e (omega arith)
    removals name (inr e) = rw e (omega arith)

    other : (t name : ℕ) → t ≡ 0 → (shown (saw w2 1 0 t) name).tag.number ≤ changed_after (λ i. i == 0) (saw w2 1 0) (w2.session 1).journal.page t
    other t name same =
        let P : ℕ → Type 0 = λ z. (shown (saw w2 1 0 z) name).tag.number ≤ changed_after (λ i. i == 0) (saw w2 1 0) (w2.session 1).journal.page z in
        subst P (sym same) (removals name (cases_Bool (eqb name 7)))

-- nothing is shown any more
fourth_turn : IsTurn two w3 (looks_alone 0 1)
fourth_turn = record {
  known = (w3.session 0).journal;
  idle = refl;
  journal = (w3.session 0).journal;
  change = tidying;
  looked = and_page 1 (and_page 0 no_page);
  seen = saw w3 0 1;
  looks = refl;
  has = refl;
  does = record { carried = refl; lines = λ name. lines name (cases_Bool (eqb name 7)); removals = λ t name low ne. other t name (omega (arith, low, ne)) };
}
  where
    lines : (name : ℕ) → (eqb name 7 ≡ true) ⊎ (eqb name 7 ≡ false) → can_go two (saw w3 0 1) 0 (w3.session 0).journal.page name ≡ false
    lines name (inl e) = rw e refl
    lines name (inr e) = rw e refl

    removals : (name : ℕ) → (eqb name 7 ≡ true) ⊎ (eqb name 7 ≡ false) → IsRemoval (shown (saw w3 0 1 1) name) → (shown (saw w3 0 1 1) name).tag.number ≤ (w3.session 0).journal.page.after 1
    removals name (inl e) is = rw e (omega arith)
    removals name (inr e) is = rw e (omega arith)

    other : (t name : ℕ) → t ≡ 1 → IsRemoval (shown (saw w3 0 1 t) name) → (shown (saw w3 0 1 t) name).tag.number ≤ (w3.session 0).journal.page.after t
    other t name same =
        let P : ℕ → Type 0 = λ z. IsRemoval (shown (saw w3 0 1 z) name) → (shown (saw w3 0 1 z) name).tag.number ≤ (w3.session 0).journal.page.after z in
        subst P (sym same) (removals name (cases_Bool (eqb name 7)))

pub turns_are : AreTurns two (world_after two steps_removed) (first_round ++ second_round)
turns_are = (first_turn, (second_turn, (third_turn, (fourth_turn, tt))))
