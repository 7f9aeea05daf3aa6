-- The absences read backwards: one event more.
use Rattle.std.proofs.Common.{◌≡◌, ◌≢◌, ◌⊎◌, inl, inr, ℕ, zero, suc, ◌+◌, ◌-◌, ◌<◌, ◌≤◌, Bool, true, false, List, [], ◌∷◌, ◌++◌, reverse, length, drop, get_or, set, replicate, refl, sym, ap, ◌∙◌, Option, Some, None, arith}
use Rattle.std.specs.Prelude.{nat_lt}
use Rattle.std.proofs.lemmas.Bool.{lt-ltb, ltb-true, ne_eqb, eq-eqb, cases_eq}
use Rattle.std.proofs.lemmas.List.{drop_all, drop_more, get_or-replicate, get_or-set_same, get_or-set_other, length-replicate, length-set, reverse-append, reverse-reverse}
use Rattle.gq_picture.specs.declared.absences.Absence.{Absence}
use Rattle.gq_picture.specs.declared.absences.Effect.{Effect}
use Rattle.gq_picture.specs.declared.absences.Effect.TheVariants.{GoesDown, ComesBack}
use Rattle.gq_picture.specs.Absences.{absence_at, absence_in, absences, return_place, with_return}

-- the table tells of each of so many servers where it comes back first in these events
pub record IsTable (servers : ℕ) (places : List ℕ) (events : List Effect) (returns : List (Option ℕ)) : Type 0 where
  pub size : length returns ≡ servers
  pub next : (s : ℕ) → s < servers → get_or returns s None ≡ return_place s places events

-- what was read of the events from this one on
pub record Back (servers : ℕ) (places : List ℕ) (events : List Effect) (i : ℕ) (returns : List (Option ℕ)) (all : List Absence) : Type 0 where
  pub table : IsTable servers (drop i places) (drop i events) returns
  pub told : all ≡ reverse (absences servers (drop i places) (drop i events))

-- ---- one event

absence_same : (servers p : ℕ) (e : Effect) (places : List ℕ) (events : List Effect) (returns : List (Option ℕ)) → IsTable servers places events returns → absence_in returns p e ≡ absence_at servers p e places events
absence_same servers p (GoesDown s) places events returns t = by (nat_lt s servers) refl
  where
    by : (b : Bool) → nat_lt s servers ≡ b → absence_in returns p (GoesDown s) ≡ absence_at servers p (GoesDown s) places events
    by false is = rw (t.size, is) refl
    by true is = rw (t.size, is) (ap (λ (o : Option ℕ). record { server = s; from = p; until = o } ∷ []) (t.next s (ltb-true s servers is)))
absence_same servers p _ places events returns t = refl

returned : (servers p s : ℕ) (places : List ℕ) (events : List Effect) (returns : List (Option ℕ)) → IsTable servers places events returns → IsTable servers (p ∷ places) (ComesBack s ∷ events) (with_return p (ComesBack s) returns)
returned servers p s places events returns t = by (nat_lt s (length returns)) refl
  where
    by : (b : Bool) → nat_lt s (length returns) ≡ b → IsTable servers (p ∷ places) (ComesBack s ∷ events) (with_return p (ComesBack s) returns)
    by false is = rw is (record {
      size = t.size;
      next = λ k low. rw (ne_eqb s k (λ same. absurd (let yes = lt-ltb s (length returns) (omega (arith, same, t.size)) in let no : true ≡ false = sym yes ∙ is in cc))) (t.next k low);
    })
    by true is = rw is (record {
      size = length-set returns s (Some p) ∙ t.size;
      next = λ k low. at k low (cases_eq s k);
    })
      where
        at : (k : ℕ) → k < servers → (s ≡ k) ⊎ (s ≢ k) → get_or (set returns s (Some p)) k None ≡ return_place k (p ∷ places) (ComesBack s ∷ events)
        at k low (inl same) = rw (eq-eqb s k same) (ap (λ z. get_or (set returns z (Some p)) k None) same ∙ get_or-set_same returns k (Some p) None (omega (arith, t.size)))
        at k low (inr other) = rw (ne_eqb s k other) (get_or-set_other returns s k (Some p) None (λ same. other (sym same)) ∙ t.next k low)

table_more : (servers p : ℕ) (e : Effect) (places : List ℕ) (events : List Effect) (returns : List (Option ℕ)) → IsTable servers places events returns → IsTable servers (p ∷ places) (e ∷ events) (with_return p e returns)
table_more servers p (ComesBack s) places events returns t = returned servers p s places events returns t
table_more servers p _ places events returns t = record { size = t.size; next = t.next }

-- at most one absence begins, so that it is the same backwards
alone : (servers p : ℕ) (e : Effect) (places : List ℕ) (events : List Effect) → reverse (absence_at servers p e places events) ≡ absence_at servers p e places events
alone servers p (GoesDown s) places events = by (nat_lt s servers) refl
  where
    by : (b : Bool) → nat_lt s servers ≡ b → reverse (absence_at servers p (GoesDown s) places events) ≡ absence_at servers p (GoesDown s) places events
    by false is = rw is refl
    by true is = rw is refl
alone servers p _ places events = refl

-- ---- the loop

pub back_first : (servers : ℕ) (places : List ℕ) (events : List Effect) (returns : List (Option ℕ)) (all : List Absence) → length places ≡ length events → returns ≡ replicate servers None → all ≡ [] → Back servers places events (length events) returns all
back_first servers places events returns all same made none =
    let no_places : drop (length events) places ≡ [] = drop_all (length events) places (omega (arith, same)) in
    let no_events : drop (length events) events ≡ [] = drop_all (length events) events (omega arith) in
    let bare : IsTable servers [] [] returns = record { size = ap length made ∙ length-replicate servers None; next = λ s low. ap (λ z. get_or z s None) made ∙ get_or-replicate servers s None None low } in
    record {
      table = rw (no_places, no_events) bare;
      told = rw no_places none;
    }

pub back_more : (servers : ℕ) (places : List ℕ) (events : List Effect) (i p : ℕ) (e : Effect) (returns new : List (Option ℕ)) (all more : List Absence) → 0 < i → i ≤ length events → length places ≡ length events
    → e ≡ get_or events (i - 1) e → p ≡ get_or places (i - 1) p → Back servers places events i returns all → new ≡ with_return p e returns → more ≡ all ++ absence_in returns p e → Back servers places events (i - 1) new more
back_more servers places events i p e returns new all more some within same is_e is_p back noted begun =
    let one : i - 1 + 1 ≡ i = omega arith in
    let of_places : drop (i - 1) places ≡ p ∷ drop i places = drop_more places (i - 1) p (omega (arith, same)) ∙ place_and_rest (sym is_p) one in
    let of_events : drop (i - 1) events ≡ e ∷ drop i events = drop_more events (i - 1) e (omega arith) ∙ event_and_rest (sym is_e) one in
    record {
      table = rw (of_places, of_events, noted) (table_more servers p e (drop i places) (drop i events) returns back.table);
      told = rw (of_places, of_events) (begun ∙ (ap (λ z. z ++ absence_in returns p e) back.told
          ∙ (ap (λ z. reverse (absences servers (drop i places) (drop i events)) ++ z) (absence_same servers p e (drop i places) (drop i events) returns back.table ∙ sym (alone servers p e (drop i places) (drop i events)))
          ∙ sym (reverse-append (absence_at servers p e (drop i places) (drop i events)) (absences servers (drop i places) (drop i events))))));
    }
  where
    place_and_rest : {a b m n : ℕ} → a ≡ b → m ≡ n → a ∷ drop m places ≡ b ∷ drop n places
    place_and_rest h k = λ j. h j ∷ drop (k j) places

    event_and_rest : {a b : Effect} {m n : ℕ} → a ≡ b → m ≡ n → a ∷ drop m events ≡ b ∷ drop n events
    event_and_rest h k = λ j. h j ∷ drop (k j) events

pub back_last : (servers : ℕ) (places : List ℕ) (events : List Effect) (i : ℕ) (returns : List (Option ℕ)) (all : List Absence) → Back servers places events i returns all → i ≤ 0 → reverse all ≡ absences servers places events
back_last servers places events zero returns all back none = ap reverse back.told ∙ reverse-reverse (absences servers places events)
back_last servers places events (suc i) returns all back none = absurd (omega (arith, none))
