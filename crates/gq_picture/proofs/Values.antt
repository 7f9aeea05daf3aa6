-- What the register holds between the points of bars that rise.
use Rattle.std.proofs.Common.{◌≡◌, ◌⊎◌, ◌∙◌, ℕ, zero, suc, ◌<◌, ◌≤◌, List, [], ◌∷◌, Bool, true, false, map, Option, Some, None, refl, sym, ap, subst, inl, inr, arith}
use Rattle.std.specs.Prelude.{⊤, slice_get}
use Rattle.gq_laws.specs.declared.ops.Kind.{Kind}
use Rattle.gq_laws.specs.declared.ops.Kind.TheVariants.{Write as Writes, Read as Reads, Row as Rows}
use Rattle.gq_laws.specs.declared.ops.Op.{Op}
use Rattle.gq_laws.specs.Operations.{At, Gives, RegisterGives, held_by, is_write, ops_at}
use Rattle.gq_picture.specs.Drawing.{is_write_at, values_from}
use Rattle.gq_picture.specs.Register.{written_by}
use Rattle.gq_picture.specs.declared.drawing.Bar.{Bar}
use Rattle.gq_picture.specs.declared.drawing.Value.{Value}
use Rattle.gq_picture.specs.Laws.{IsRow, Spans}
use Rattle.gq_picture.proofs.Steps.{ops_more, ops_none}

-- ---- points

-- the points rise from the one column, and stay below the other
abbrev pub Rising : ℕ → ℕ → List Bar → Type 0
Rising low edge [] = ⊤
Rising low edge (x ∷ bars) = (low < x.point) × (x.point < edge) × Rising x.point edge bars

pub rising_of : (low edge : ℕ) (bars : List Bar) → ((m : ℕ) (x : Bar) → slice_get bars m ≡ Some x → low < x.point) → ((m : ℕ) (x : Bar) → slice_get bars m ≡ Some x → x.point < edge)
    → ((m n : ℕ) (x y : Bar) → slice_get bars m ≡ Some x → slice_get bars n ≡ Some y → m < n → x.point < y.point) → Rising low edge bars
rising_of low edge [] above below up = tt
rising_of low edge (x ∷ bars) above below up =
    (above 0 x refl, below 0 x refl, rising_of x.point edge bars (λ m y at. up 0 (suc m) x y refl at (omega arith)) (λ m y at. below (suc m) y at) (λ m n y z at_y at_z less. up (suc m) (suc n) y z at_y at_z (omega arith)))

rising_at : (low edge : ℕ) (bars : List Bar) (m : ℕ) (x : Bar) → Rising low edge bars → slice_get bars m ≡ Some x → low < x.point
rising_at low edge [] m x up at = cc
rising_at low edge (y ∷ bars) zero x up at = let same : y.point ≡ x.point = ap (λ (b : Bar). b.point) (let is : y ≡ x = cc in is) in omega (arith, up.0, same)
rising_at low edge (y ∷ bars) (suc m) x up at = let later = rising_at y.point edge bars m x up.2 at in omega (arith, up.0, later)

-- ---- the values one bar on

pub values_write : (ops : List Op) (edge : ℕ) (write : Option ℕ) (left : ℕ) (x : Bar) (bars : List Bar) → is_write_at ops x.place ≡ true
    → values_from ops edge write left (x ∷ bars) ≡ record { write = write; left = left; right = x.point } ∷ values_from ops edge (Some x.place) x.point bars
values_write ops edge write left x bars is = rw is refl

pub values_other : (ops : List Op) (edge : ℕ) (write : Option ℕ) (left : ℕ) (x : Bar) (bars : List Bar) → is_write_at ops x.place ≡ false → values_from ops edge write left (x ∷ bars) ≡ values_from ops edge write left bars
values_other ops edge write left x bars is = rw is refl

-- the first value lasts beyond the column from which the points rise
first_value : (ops : List Op) (edge : ℕ) (write : Option ℕ) (left low : ℕ) (bars : List Bar) → low < edge → Rising low edge bars
    → (right : ℕ) × (slice_get (values_from ops edge write left bars) 0 ≡ Some (record { write = write; left = left; right = right })) × (low < right)
first_value ops edge write left low [] within up = (edge, refl, within)
first_value ops edge write left low (x ∷ bars) within up = by (is_write_at ops x.place) refl (λ inside rises. first_value ops edge write left x.point bars inside rises)
  where
    IsFirst : ℕ → List Bar → Type 0
    IsFirst from those = (right : ℕ) × (slice_get (values_from ops edge write left those) 0 ≡ Some (record { write = write; left = left; right = right })) × (from < right)

    by : (b : Bool) → is_write_at ops x.place ≡ b → (x.point < edge → Rising x.point edge bars → IsFirst x.point bars) → IsFirst low (x ∷ bars)
    by true is later = (x.point, ap (λ values. slice_get values 0) (values_write ops edge write left x bars is), up.0)
    by false is later =
        let rest = later up.1 up.2 in let lasts = rest.2 in let rises = up.0 in
        (rest.0, ap (λ values. slice_get values 0) (values_other ops edge write left x bars is) ∙ rest.1, omega (arith, lasts, rises))

-- a value is that of the last write, or begins beyond the column
abbrev IsFirstOrLater : Option ℕ → ℕ → ℕ → Value → Type 0
IsFirstOrLater write left low v = ((v.write ≡ write) × (v.left ≡ left)) ⊎ (low < v.left)

same_first : (u v : Value) → Some u ≡ Some v → (v.write ≡ u.write) × (v.left ≡ u.left)
same_first u v is = let same : v ≡ u = cc in (ap (λ (w : Value). w.write) same, ap (λ (w : Value). w.left) same)

-- so is each one
first_or_later : (ops : List Op) (edge : ℕ) (write : Option ℕ) (left low : ℕ) (bars : List Bar) (j : ℕ) (v : Value) → Rising low edge bars → slice_get (values_from ops edge write left bars) j ≡ Some v → IsFirstOrLater write left low v
first_or_later ops edge write left low [] zero v up at = inl (same_first (record { write = write; left = left; right = edge }) v at)
first_or_later ops edge write left low [] (suc j) v up at = absurd (let none : None ≡ Some v = at in cc)
first_or_later ops edge write left low (x ∷ bars) j v up at = by (is_write_at ops x.place) refl j at (λ write left j. first_or_later ops edge write left x.point bars j v up.2)
  where
    by : (b : Bool) → is_write_at ops x.place ≡ b → (j : ℕ) → slice_get (values_from ops edge write left (x ∷ bars)) j ≡ Some v
        → ((write : Option ℕ) (left j : ℕ) → slice_get (values_from ops edge write left bars) j ≡ Some v → IsFirstOrLater write left x.point v) → IsFirstOrLater write left low v
    by true is zero at later =
        inl (same_first (record { write = write; left = left; right = x.point }) v (ap (λ values. slice_get values 0) (sym (values_write ops edge write left x bars is)) ∙ at))
    by true is (suc j) at later = inr (beyond (later (Some x.place) x.point j (ap (λ values. slice_get values (suc j)) (sym (values_write ops edge write left x bars is)) ∙ at)))
      where
        beyond : IsFirstOrLater (Some x.place) x.point x.point v → low < v.left
        beyond (inl same) = let rises = up.0 in let begins = same.1 in omega (arith, begins, rises)
        beyond (inr more) = let rises = up.0 in omega (arith, more, rises)
    by false is j at later = on (later write left j (ap (λ values. slice_get values j) (sym (values_other ops edge write left x bars is)) ∙ at))
      where
        on : IsFirstOrLater write left x.point v → IsFirstOrLater write left low v
        on (inl same) = inl same
        on (inr more) = inr (let rises = up.0 in omega (arith, more, rises))

-- ---- at a point that is not that of a write

-- there is a value
pub value_under : (ops : List Op) (edge : ℕ) (write : Option ℕ) (left low : ℕ) (bars : List Bar) (m : ℕ) (x : Bar) → left ≤ low → Rising low edge bars → slice_get bars m ≡ Some x → is_write_at ops x.place ≡ false
    → (j : ℕ) × (v : Value) × (slice_get (values_from ops edge write left bars) j ≡ Some v) × Spans v x.point
value_under ops edge write left low [] m x under up at other = cc
value_under ops edge write left low (y ∷ bars) zero x under up at other =
    let same : y ≡ x = cc in
    let is : is_write_at ops y.place ≡ false = ap (λ (b : Bar). is_write_at ops b.place) same ∙ other in
    let first = first_value ops edge write left y.point bars up.1 up.2 in
    let point : y.point ≡ x.point = ap (λ (b : Bar). b.point) same in
    let rises = up.0 in let lasts = first.2 in (
      0,
      record { write = write; left = left; right = first.0 },
      ap (λ values. slice_get values 0) (values_other ops edge write left y bars is) ∙ first.1,
      record { begun = omega (arith, under, rises, point); lasting = omega (arith, lasts, point) },
    )
value_under ops edge write left low (y ∷ bars) (suc m) x under up at other =
    by (is_write_at ops y.place) refl (λ write left before. value_under ops edge write left y.point bars m x before up.2 at other)
  where
    IsUnder : List Value → Type 0
    IsUnder values = (j : ℕ) × (v : Value) × (slice_get values j ≡ Some v) × Spans v x.point

    by : (b : Bool) → is_write_at ops y.place ≡ b → ((write : Option ℕ) (left : ℕ) → left ≤ y.point → IsUnder (values_from ops edge write left bars)) → IsUnder (values_from ops edge write left (y ∷ bars))
    by true is later =
        let rest = later (Some y.place) y.point (omega arith) in
        (suc rest.0, rest.1, ap (λ values. slice_get values (suc rest.0)) (values_write ops edge write left y bars is) ∙ rest.2, rest.3)
    by false is later = let rises = up.0 in subst IsUnder (sym (values_other ops edge write left y bars is)) (later write left (omega (arith, under, rises)))

held_write : (b : Op) (bytes : List ℕ) → is_write b ≡ true → held_by bytes b ≡ held_by [] b
held_write b bytes writes = by b.kind refl
  where
    by : (kind : Kind) → b.kind ≡ kind → held_by bytes b ≡ held_by [] b
    by (Writes written) is = rw is refl
    by (Reads given) is = absurd (let no : is_write b ≡ false = rw is refl in cc)
    by (Rows given) is = absurd (let no : is_write b ≡ false = rw is refl in cc)

held_other : (b : Op) (bytes : List ℕ) → is_write b ≡ false → held_by bytes b ≡ bytes
held_other b bytes other = by b.kind refl
  where
    by : (kind : Kind) → b.kind ≡ kind → held_by bytes b ≡ bytes
    by (Writes written) is = absurd (let yes : is_write b ≡ true = rw is refl in cc)
    by (Reads given) is = rw is refl
    by (Rows given) is = rw is refl

-- behind the point of a write it holds what this wrote
register_write : (ops : List Op) (p : ℕ) (places : List ℕ) (bytes : List ℕ) → is_write_at ops p ≡ true → RegisterGives (ops_at ops (p ∷ places)) bytes → RegisterGives (ops_at ops places) (written_by ops (Some p))
register_write ops p places bytes writes gives = by (slice_get ops p) refl
  where
    by : (o : Option Op) → slice_get ops p ≡ o → RegisterGives (ops_at ops places) (written_by ops (Some p))
    by None found = absurd (let no : is_write_at ops p ≡ false = rw found refl in cc)
    by (Some b) found =
        let own : is_write b ≡ true = rw found at writes in
        let is : held_by bytes b ≡ written_by ops (Some p) = held_write b bytes own ∙ rw found refl in
        subst (λ (held : List ℕ). RegisterGives (ops_at ops places) held) is
        (subst (λ (those : List Op). RegisterGives those bytes) (ops_more ops p places b found) gives).1

-- and behind any other what it held before
register_other : (ops : List Op) (p : ℕ) (places : List ℕ) (bytes : List ℕ) → is_write_at ops p ≡ false → RegisterGives (ops_at ops (p ∷ places)) bytes → RegisterGives (ops_at ops places) bytes
register_other ops p places bytes other gives = by (slice_get ops p) refl
  where
    by : (o : Option Op) → slice_get ops p ≡ o → RegisterGives (ops_at ops places) bytes
    by None found = subst (λ (those : List Op). RegisterGives those bytes) (ops_none ops p places found) gives
    by (Some b) found =
        let own : is_write b ≡ false = rw found at other in
        subst (λ (held : List ℕ). RegisterGives (ops_at ops places) held) (held_other b bytes own)
        (subst (λ (those : List Op). RegisterGives those bytes) (ops_more ops p places b found) gives).1

-- what stands there is what it holds
pub value_gives : (ops : List Op) (edge : ℕ) (write : Option ℕ) (left low : ℕ) (bars : List Bar) (m : ℕ) (x : Bar) (a : Op) (j : ℕ) (v : Value)
    → Rising low edge bars → RegisterGives (ops_at ops (map (λ b. b.place) bars)) (written_by ops write) → slice_get bars m ≡ Some x → At ops x.place a → is_write a ≡ false
    → slice_get (values_from ops edge write left bars) j ≡ Some v → Spans v x.point → Gives a (written_by ops v.write)
value_gives ops edge write left low [] m x a j v up gives at found other drawn spans = cc
value_gives ops edge write left low (y ∷ bars) zero x a j v up gives at found other drawn spans = by (first_or_later ops edge write left y.point bars j v up.2 rest)
  where
    same : y ≡ x
    same = cc

    here : slice_get ops y.place ≡ Some a
    here = ap (λ (b : Bar). slice_get ops b.place) same ∙ found

    no_write : is_write_at ops y.place ≡ false
    no_write = rw here other

    rest : slice_get (values_from ops edge write left bars) j ≡ Some v
    rest = ap (λ values. slice_get values j) (sym (values_other ops edge write left y bars no_write)) ∙ drawn

    now : Gives a (written_by ops write)
    now = (subst (λ (those : List Op). RegisterGives those (written_by ops write)) (ops_more ops y.place (map (λ b. b.place) bars) a here) gives).0 other

    by : IsFirstOrLater write left y.point v → Gives a (written_by ops v.write)
    by (inl first) = subst (λ (last : Option ℕ). Gives a (written_by ops last)) (sym first.0) now
    by (inr later) = absurd (let point : y.point ≡ x.point = ap (λ (b : Bar). b.point) same in let begun = spans.begun in omega (arith, later, point, begun))
value_gives ops edge write left low (y ∷ bars) (suc m) x a j v up gives at found other drawn spans =
    by (is_write_at ops y.place) refl j drawn (λ write left j held rest. value_gives ops edge write left y.point bars m x a j v up.2 held at found other rest spans)
  where
    by : (b : Bool) → is_write_at ops y.place ≡ b → (j : ℕ) → slice_get (values_from ops edge write left (y ∷ bars)) j ≡ Some v
        → ((write : Option ℕ) (left j : ℕ) → RegisterGives (ops_at ops (map (λ b. b.place) bars)) (written_by ops write) → slice_get (values_from ops edge write left bars) j ≡ Some v → Gives a (written_by ops v.write))
        → Gives a (written_by ops v.write)
    by true is zero drawn later = absurd (
        let first : Some (record { write = write; left = left; right = y.point }) ≡ Some v = ap (λ values. slice_get values 0) (sym (values_write ops edge write left y bars is)) ∙ drawn in
        let ends : y.point ≡ v.right = ap (λ (u : Value). u.right) (let same : record { write = write; left = left; right = y.point } ≡ v = cc in same) in
        let beyond = rising_at y.point edge bars m x up.2 at in
        let lasting = spans.lasting in
        omega (arith, ends, beyond, lasting))
    by true is (suc j) drawn later =
        later (Some y.place) y.point j (register_write ops y.place (map (λ b. b.place) bars) (written_by ops write) is gives)
        (ap (λ values. slice_get values (suc j)) (sym (values_write ops edge write left y bars is)) ∙ drawn)
    by false is j drawn later =
        later write left j (register_other ops y.place (map (λ b. b.place) bars) (written_by ops write) is gives)
        (ap (λ values. slice_get values j) (sym (values_other ops edge write left y bars is)) ∙ drawn)

-- ---- at the point of a write

-- the value begins at the point of a write at this place
pub record IsWritten (ops : List Op) (bars : List Bar) (v : Value) (place : ℕ) : Type 0 where
  pub number : ℕ
  pub bar : Bar
  pub at : slice_get bars number ≡ Some bar
  pub place_is : bar.place ≡ place
  pub begins : bar.point ≡ v.left
  pub writes : is_write_at ops place ≡ true

written_later : (ops : List Op) (y : Bar) (bars : List Bar) (v : Value) (place : ℕ) → IsWritten ops bars v place → IsWritten ops (y ∷ bars) v place
written_later ops y bars v place later = record { number = suc later.number; bar = later.bar; at = later.at; place_is = later.place_is; begins = later.begins; writes = later.writes }

-- each does, or is the first one
pub value_written : (ops : List Op) (edge : ℕ) (write : Option ℕ) (left : ℕ) (bars : List Bar) (j : ℕ) (v : Value) (place : ℕ) → slice_get (values_from ops edge write left bars) j ≡ Some v → v.write ≡ Some place
    → ((v.write ≡ write) × (v.left ≡ left)) ⊎ IsWritten ops bars v place
value_written ops edge write left [] zero v place drawn is = inl (same_first (record { write = write; left = left; right = edge }) v drawn)
value_written ops edge write left [] (suc j) v place drawn is = absurd (let none : None ≡ Some v = drawn in cc)
value_written ops edge write left (y ∷ bars) j v place drawn is = by (is_write_at ops y.place) refl j drawn (λ write left j rest. value_written ops edge write left bars j v place rest is)
  where
    IsOne : Option ℕ → ℕ → List Bar → Type 0
    IsOne write left those = ((v.write ≡ write) × (v.left ≡ left)) ⊎ IsWritten ops those v place

    own : is_write_at ops y.place ≡ true → v.write ≡ Some y.place → v.left ≡ y.point → IsWritten ops (y ∷ bars) v place
    own writes same begins =
        let place_is : y.place ≡ place = (let both : Some y.place ≡ Some place = sym same ∙ is in cc) in
        record { number = 0; bar = y; at = refl; place_is = place_is; begins = sym begins; writes = ap (is_write_at ops) (sym place_is) ∙ writes }

    by : (b : Bool) → is_write_at ops y.place ≡ b → (j : ℕ) → slice_get (values_from ops edge write left (y ∷ bars)) j ≡ Some v
        → ((write : Option ℕ) (left j : ℕ) → slice_get (values_from ops edge write left bars) j ≡ Some v → IsOne write left bars) → IsOne write left (y ∷ bars)
    by true writes zero drawn later = inl (same_first (record { write = write; left = left; right = y.point }) v (ap (λ values. slice_get values 0) (sym (values_write ops edge write left y bars writes)) ∙ drawn))
    by true writes (suc j) drawn later = go (later (Some y.place) y.point j (ap (λ values. slice_get values (suc j)) (sym (values_write ops edge write left y bars writes)) ∙ drawn))
      where
        go : IsOne (Some y.place) y.point bars → IsOne write left (y ∷ bars)
        go (inl first) = inr (own writes first.0 first.1)
        go (inr rest) = inr (written_later ops y bars v place rest)
    by false other j drawn later = go (later write left j (ap (λ values. slice_get values j) (sym (values_other ops edge write left y bars other)) ∙ drawn))
      where
        go : IsOne write left bars → IsOne write left (y ∷ bars)
        go (inl first) = inl first
        go (inr rest) = inr (written_later ops y bars v place rest)

-- ---- in a row

-- the first value begins at the column, and is that of the last write
first_is : (ops : List Op) (edge : ℕ) (write : Option ℕ) (left : ℕ) (bars : List Bar) → (right : ℕ) × (slice_get (values_from ops edge write left bars) 0 ≡ Some (record { write = write; left = left; right = right }))
first_is ops edge write left [] = (edge, refl)
first_is ops edge write left (x ∷ bars) = by (is_write_at ops x.place) refl (first_is ops edge write left bars)
  where
    IsFirst : List Bar → Type 0
    IsFirst those = (right : ℕ) × (slice_get (values_from ops edge write left those) 0 ≡ Some (record { write = write; left = left; right = right }))

    by : (b : Bool) → is_write_at ops x.place ≡ b → IsFirst bars → IsFirst (x ∷ bars)
    by true is later = (x.point, ap (λ values. slice_get values 0) (values_write ops edge write left x bars is))
    by false is later = (later.0, ap (λ values. slice_get values 0) (values_other ops edge write left x bars is) ∙ later.1)

-- each write has its value
pub value_of_write : (ops : List Op) (edge : ℕ) (write : Option ℕ) (left : ℕ) (bars : List Bar) (m : ℕ) (x : Bar) → slice_get bars m ≡ Some x → is_write_at ops x.place ≡ true
    → (j right : ℕ) × (slice_get (values_from ops edge write left bars) j ≡ Some (record { write = Some x.place; left = x.point; right = right }))
value_of_write ops edge write left [] m x at writes = cc
value_of_write ops edge write left (y ∷ bars) zero x at writes =
    let same : y ≡ x = cc in
    let own : is_write_at ops y.place ≡ true = ap (λ (b : Bar). is_write_at ops b.place) same ∙ writes in
    let first = first_is ops edge (Some y.place) y.point bars in
    (1, first.0, ap (λ values. slice_get values 1) (values_write ops edge write left y bars own) ∙ (first.1 ∙ ap (λ (b : Bar). Some (record { write = Some b.place; left = b.point; right = first.0 })) same))
value_of_write ops edge write left (y ∷ bars) (suc m) x at writes = by (is_write_at ops y.place) refl (λ write left. value_of_write ops edge write left bars m x at writes)
  where
    HasOne : List Value → Type 0
    HasOne values = (j right : ℕ) × (slice_get values j ≡ Some (record { write = Some x.place; left = x.point; right = right }))

    by : (b : Bool) → is_write_at ops y.place ≡ b → ((write : Option ℕ) (left : ℕ) → HasOne (values_from ops edge write left bars)) → HasOne (values_from ops edge write left (y ∷ bars))
    by true is later = let rest = later (Some y.place) y.point in (suc rest.0, rest.1, ap (λ values. slice_get values (suc rest.0)) (values_write ops edge write left y bars is) ∙ rest.2)
    by false is later = subst HasOne (sym (values_other ops edge write left y bars is)) (later write left)

-- they stand one behind the other
pub values_row : (ops : List Op) (edge : ℕ) (write : Option ℕ) (left : ℕ) (bars : List Bar) → IsRow left edge (values_from ops edge write left bars)
values_row ops edge write left [] = (refl, refl)
values_row ops edge write left (x ∷ bars) = by (is_write_at ops x.place) refl (λ write left. values_row ops edge write left bars)
  where
    by : (b : Bool) → is_write_at ops x.place ≡ b → ((write : Option ℕ) (left : ℕ) → IsRow left edge (values_from ops edge write left bars)) → IsRow left edge (values_from ops edge write left (x ∷ bars))
    by true is later = subst (IsRow left edge) (sym (values_write ops edge write left x bars is)) (refl, later (Some x.place) x.point)
    by false is later = subst (IsRow left edge) (sym (values_other ops edge write left x bars is)) (later write left)
