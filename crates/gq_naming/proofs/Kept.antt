-- The lines that stay, and those that go.
use Rattle.std.proofs.Common.{◌≡◌, ◌≢◌, ◌⊎◌, ◌∙◌, ℕ, List, [], ◌∷◌, ◌++◌, Option, Some, None, Bool, true, false, refl, sym, ap, subst, inl, inr, arith, cond, eq-eqb}
use Rattle.std.specs.Prelude.{map, ◌==◌, ◌&&◌, ◌||◌, not, if◌then◌else◌}
use Rattle.std.specs.List.{list_any}
use Rattle.std.specs.Str.{bytes_eq}
use Rattle.std.proofs.lemmas.Bool.{and_parts, or_cases, eqb-true}
use Rattle.std.proofs.lemmas.Slice.Eq.{bytes_eq-Decides}
use Rattle.gq_page.specs.declared.page.Line.{Line}
use Rattle.gq_page.specs.Page.{line_of, is_named}
use Rattle.gq_client.specs.declared.changing.Fate.{Fate}
use Rattle.gq_client.specs.Changing.{stays, kept_by}
use Rattle.gq_naming.specs.Standing.{Naming, IsAmong, is_number, went, goes_of}

-- the first line of a name
pub line_found : (a : List ℕ) (lines : List Line) (line : Line) → line_of a lines ≡ Some line → IsAmong line lines × (line.name ≡ a)
line_found a [] line is = absurd (none is)
  where
    none : None ≡ Some line → ⊥
    none h = cc
line_found a (first ∷ lines) line is = by (line_found a lines line) (is_named a first) refl is
  where
    by : (line_of a lines ≡ Some line → IsAmong line lines × (line.name ≡ a)) → (b : Bool) → is_named a first ≡ b → cond b (Some first) (line_of a lines) ≡ Some line → ((first ≡ line) ⊎ IsAmong line lines) × (line.name ≡ a)
    by on true e h = let same : first ≡ line = the h in (inl same, subst (λ z. z.name ≡ a) same ((bytes_eq-Decides first.name a).0 e))
      where
        the : Some first ≡ Some line → first ≡ line
        the k = cc
    by on false e h = let later = on h in (inr later.0, later.1)

-- a line that is among others is not none
pub line_there : (lines : List Line) (line : Line) → IsAmong line lines → line_of line.name lines ≡ None → ⊥
line_there [] line among is = among
line_there (first ∷ lines) line (inl same) is = some (sym found ∙ is)
  where
    found : line_of line.name (first ∷ lines) ≡ Some first
    found = rw ((bytes_eq-Decides first.name line.name).1 (ap (λ z. z.name) same)) refl

    some : Some first ≡ None → ⊥
    some h = cc
line_there (first ∷ lines) line (inr among) is = by (line_there lines line among) (is_named line.name first) is
  where
    by : (line_of line.name lines ≡ None → ⊥) → (b : Bool) → cond b (Some first) (line_of line.name lines) ≡ None → ⊥
    by on true h = cc
    by on false h = on h

module _ (fate : Line → Fate) where
  -- all lines of a name go
  pub kept_none : (a : List ℕ) (lines : List Line) → ((line : Line) → IsAmong line lines → line.name ≡ a → stays (fate line) ≡ false) → line_of a (kept_by lines (map fate lines)) ≡ None
  kept_none a [] go = refl
  kept_none a (first ∷ lines) go = by (kept_none a lines (λ line among. go line (inr among))) (stays (fate first)) refl
    where
      named : line_of a (kept_by lines (map fate lines)) ≡ None → (b : Bool) → is_named a first ≡ b → stays (fate first) ≡ true → cond b (Some first) (line_of a (kept_by lines (map fate lines))) ≡ None
      named rest true e stay = absurd (no (sym stay ∙ go first (inl refl) ((bytes_eq-Decides first.name a).0 e)))
        where
          no : true ≡ false → ⊥
          no h = cc
      named rest false e stay = rest

      by : line_of a (kept_by lines (map fate lines)) ≡ None → (b : Bool) → stays (fate first) ≡ b → line_of a (if b then first ∷ kept_by lines (map fate lines) else kept_by lines (map fate lines)) ≡ None
      by rest true e = named rest (is_named a first) refl e
      by rest false e = rest

  -- the first line of a name stays
  pub kept_some : (a : List ℕ) (lines : List Line) (line : Line) → line_of a lines ≡ Some line → stays (fate line) ≡ true → line_of a (kept_by lines (map fate lines)) ≡ Some line
  kept_some a [] line is stay = is
  kept_some a (first ∷ lines) line is stay = by (λ h. kept_some a lines line h stay) (is_named a first) refl is
    where
      later : (line_of a lines ≡ Some line → line_of a (kept_by lines (map fate lines)) ≡ Some line) → line_of a lines ≡ Some line → (b : Bool) → is_named a first ≡ false → line_of a (if b then first ∷ kept_by lines (map fate lines) else kept_by lines (map fate lines)) ≡ Some line
      later on h true e = rw e (on h)
      later on h false e = on h

      here : first ≡ line → is_named a first ≡ true → line_of a (if stays (fate first) then first ∷ kept_by lines (map fate lines) else kept_by lines (map fate lines)) ≡ Some line
      here same e = let first_stays : stays (fate first) ≡ true = ap (λ z. stays (fate z)) same ∙ stay in rw (first_stays, e) (ap (λ z. Some z) same)

      by : (line_of a lines ≡ Some line → line_of a (kept_by lines (map fate lines)) ≡ Some line) → (b : Bool) → is_named a first ≡ b → cond b (Some first) (line_of a lines) ≡ Some line → line_of a (if stays (fate first) then first ∷ kept_by lines (map fate lines) else kept_by lines (map fate lines)) ≡ Some line
      by on true e h = here (the h) e
        where
          the : Some first ≡ Some line → first ≡ line
          the k = cc
      by on false e h = later on h (stays (fate first)) e

  -- a test of some line's fate
  pub any_fate : (p : Fate → Bool) (lines : List Line) (line : Line) → IsAmong line lines → p (fate line) ≡ true → list_any p (map fate lines) ≡ true
  any_fate p [] line among is = absurd among
  any_fate p (first ∷ lines) line (inl same) is = let here : p (fate first) ≡ true = ap (λ z. p (fate z)) same ∙ is in rw here refl
  any_fate p (first ∷ lines) line (inr among) is = rw (any_fate p lines line among is) (or_true (p (fate first)))
    where
      or_true : (b : Bool) → (b || true) ≡ true
      or_true true = refl
      or_true false = refl

  pub no_fate : (p : Fate → Bool) (lines : List Line) → ((line : Line) → IsAmong line lines → p (fate line) ≡ false) → list_any p (map fate lines) ≡ false
  no_fate p [] none = refl
  no_fate p (first ∷ lines) none = rw (none first (inl refl)) (no_fate p lines (λ line among. none line (inr among)))

  -- the names whose lines go
  pub goes_there : (names : Naming) (n : ℕ) (lines : List Line) (line : Line) → IsAmong line lines → went (fate line) ≡ true → names.number line.name ≡ Some n → goes_of names lines (map fate lines) n ≡ true
  goes_there names n [] line among gone is = absurd among
  goes_there names n (first ∷ lines) line (inl same) gone is =
      let here : went (fate first) ≡ true = ap (λ z. went (fate z)) same ∙ gone in
      let number : names.number first.name ≡ Some n = ap (λ z. names.number z.name) same ∙ is in
      rw (here, number, eq-eqb n n refl) refl
  goes_there names n (first ∷ lines) line (inr among) gone is = rw (goes_there names n lines line among gone is) (or_true (went (fate first) && is_number n (names.number first.name)))
    where
      or_true : (b : Bool) → (b || true) ≡ true
      or_true true = refl
      or_true false = refl

  pub record Gone (names : Naming) (n : ℕ) (lines : List Line) : Type 0 where
    pub line : Line
    pub among : IsAmong line lines
    pub gone : went (fate line) ≡ true
    pub is : names.number line.name ≡ Some n

  pub goes_which : (names : Naming) (n : ℕ) (lines : List Line) → goes_of names lines (map fate lines) n ≡ true → Gone names n lines
  goes_which names n [] goes = absurd (none goes)
    where
      none : false ≡ true → ⊥
      none h = cc
  goes_which names n (first ∷ lines) goes = by (goes_which names n lines) (or_cases (went (fate first) && is_number n (names.number first.name)) (goes_of names lines (map fate lines) n) goes)
    where
      number_is : (m : Option ℕ) → is_number n m ≡ true → m ≡ Some n
      number_is None h = absurd (none h)
        where
          none : false ≡ true → ⊥
          none k = cc
      number_is (Some m) h = ap (λ z. Some z) (sym (eqb-true n m h))

      by : (goes_of names lines (map fate lines) n ≡ true → Gone names n lines) → ((went (fate first) && is_number n (names.number first.name)) ≡ true) ⊎ (goes_of names lines (map fate lines) n ≡ true) → Gone names n (first ∷ lines)
      by on (inl here) = let parts = and_parts (went (fate first)) (is_number n (names.number first.name)) here in record { line = first; among = inl refl; gone = parts.0; is = number_is (names.number first.name) parts.1 }
      by on (inr later) = let found = on later in record { line = found.line; among = inr found.among; gone = found.gone; is = found.is }
