-- A drawing of a legal order tells no lie.
use Rattle.std.proofs.Common.{◌≡◌, ◌≢◌, ◌⊎◌, ◌↔◌, ◌∙◌, ℕ, zero, suc, ◌<◌, ◌≤◌, List, [], ◌∷◌, length, true, false, map, Some, None, refl, sym, ap, subst, inl, inr, arith, zero-add}
use Rattle.std.specs.Prelude.{Contains, slice_get}
use Rattle.std.proofs.lemmas.List.{length-map}
use Rattle.gq_laws.specs.declared.ops.Op.{Op}
use Rattle.gq_laws.specs.Operations.{At, Precedes, RegisterGives, is_write, ops_at}
use Rattle.gq_laws.proofs.Found.{contains_at, position_of}
use Rattle.gq_picture.specs.Columns.{begin_column, columns, end_column, last_column, point_column}
use Rattle.gq_picture.specs.Drawing.{bars, is_write_at, outage_of, values_from}
use Rattle.gq_picture.specs.Laws.{DrawingsAreTrue, IsBarOf, IsOutageOf, IsRow, IsWrittenAt, StandsAt}
use Rattle.gq_picture.specs.declared.absences.Absence.{Absence}
use Rattle.gq_picture.specs.declared.drawing.Bar.{Bar}
use Rattle.gq_picture.specs.declared.drawing.Outage.{Outage}
use Rattle.gq_picture.specs.declared.drawing.Value.{Value}
use Rattle.gq_picture.specs.declared.drawing.Drawing.{Drawing}
use Rattle.gq_picture.proofs.Bars.{IsBarAt, bar_at, places_are}
use Rattle.gq_picture.proofs.Sides.{begin_stands, end_stands, point_clear_begin, point_clear_last, point_lasts, point_within, sides}
use Rattle.gq_picture.proofs.Truth.{HasPoint, HasTruePoints, points_are_true}
use Rattle.gq_picture.proofs.Values.{IsWritten, Rising, rising_of, value_gives, value_of_write, value_under, value_written, values_row}

-- the bar has such a place in the order
abbrev IsAt : List Op → List ℕ → ℕ → Bar → Type 0
IsAt ops order m x = IsBarAt ops (ops_at ops order) 0 0 (ops_at ops order) m x

module _ (ops : List Op) (order : List ℕ) where
  -- it has its point there
  point_of : (m : ℕ) (x : Bar) (b : IsAt ops order m x) → HasPoint (ops_at ops order) m b.op x.point
  point_of m x b = record {
    place = b.behind;
    at = b.at;
    behind = b.latest;
    is = ap (λ (y : Bar). y.point) b.is ∙ ap (λ n. point_column (ops_at ops order) n b.behind) (zero-add m);
  }

  left_of : (m : ℕ) (x : Bar) (b : IsAt ops order m x) → x.left ≡ begin_column (ops_at ops order) b.op.begin
  left_of m x b = ap (λ (y : Bar). y.left) b.is

  right_of : (m : ℕ) (x : Bar) (b : IsAt ops order m x) → x.right ≡ last_column (ops_at ops order) b.op.end
  right_of m x b = ap (λ (y : Bar). y.right) b.is

  op_of : (m : ℕ) (x : Bar) (b : IsAt ops order m x) → At ops x.place b.op
  op_of m x b = ap (λ (y : Bar). slice_get ops y.place) b.is ∙ b.found

  -- the operation is the one that is said to be
  same_op : (m : ℕ) (x : Bar) (a : Op) (b : IsAt ops order m x) → At ops x.place a → b.op ≡ a
  same_op m x a b at = let both : Some b.op ≡ Some a = sym (op_of m x b) ∙ at in cc

  rise : HasTruePoints (ops_at ops order) → (m n : ℕ) (x y : Bar) → slice_get (bars ops order) m ≡ Some x → slice_get (bars ops order) n ≡ Some y → m < n → x.point < y.point
  rise points m n x y at_x at_y low =
      let b = bar_at ops (ops_at ops order) 0 0 order m x at_x in let c = bar_at ops (ops_at ops order) 0 0 order n y at_y in
      points.rise m n x.point y.point b.op c.op (point_of m x b) (point_of n y c) low

  within : HasTruePoints (ops_at ops order) → (m : ℕ) (x : Bar) → slice_get (bars ops order) m ≡ Some x → (x.left < x.point) × (x.point < x.right)
  within points m x at =
      let b = bar_at ops (ops_at ops order) 0 0 order m x at in
      let begun = points.begun m x.point b.op (point_of m x b) in
      let lasts = point_lasts (ops_at ops order) m x.point b.op points (point_of m x b) in
      let left = left_of m x b in let right = right_of m x b in
      (omega (arith, begun, left), omega (arith, lasts, right))

  sides_of : (m n : ℕ) (x y : Bar) (a b : Op) → slice_get (bars ops order) m ≡ Some x → slice_get (bars ops order) n ≡ Some y → At ops x.place a → At ops y.place b
      → (Precedes a b × (x.right < y.left)) ⊎ ((¬ Precedes a b) × (y.left < x.right))
  sides_of m n x y a b at_x at_y is_a is_b =
      let p = bar_at ops (ops_at ops order) 0 0 order m x at_x in let q = bar_at ops (ops_at ops order) 0 0 order n y at_y in
      let right : x.right ≡ last_column (ops_at ops order) a.end = right_of m x p ∙ ap (λ (o : Op). last_column (ops_at ops order) o.end) (same_op m x a p is_a) in
      let left : y.left ≡ begin_column (ops_at ops order) b.begin = left_of n y q ∙ ap (λ (o : Op). begin_column (ops_at ops order) o.begin) (same_op n y b q is_b) in
      by right left (sides (ops_at ops order) m n a b (p.at ∙ ap Some (same_op m x a p is_a)) (q.at ∙ ap Some (same_op n y b q is_b)))
    where
      by : x.right ≡ last_column (ops_at ops order) a.end → y.left ≡ begin_column (ops_at ops order) b.begin
          → (Precedes a b × (last_column (ops_at ops order) a.end < begin_column (ops_at ops order) b.begin)) ⊎ ((¬ Precedes a b) × (begin_column (ops_at ops order) b.begin < last_column (ops_at ops order) a.end))
          → (Precedes a b × (x.right < y.left)) ⊎ ((¬ Precedes a b) × (y.left < x.right))
      by right left (inl before) = inl (before.0, (let low = before.1 in omega (arith, right, left, low)))
      by right left (inr beside) = inr (beside.0, (let low = beside.1 in omega (arith, right, left, low)))

  -- no point stands in the column of a side
  clear : (m n : ℕ) (x y : Bar) → slice_get (bars ops order) m ≡ Some x → slice_get (bars ops order) n ≡ Some y → (x.point ≢ y.left) × (x.point ≢ y.right)
  clear m n x y at_x at_y =
      let p = bar_at ops (ops_at ops order) 0 0 order m x at_x in let q = bar_at ops (ops_at ops order) 0 0 order n y at_y in (
        λ same. point_clear_begin (ops_at ops order) m n x.point p.op q.op (point_of m x p) q.at (same ∙ left_of n y q),
        λ same. point_clear_last (ops_at ops order) m n x.point p.op q.op (point_of m x p) q.at (same ∙ right_of n y q),
      )

  -- a beginning's column stands as its place does
  stands_left : (m : ℕ) (x : Bar) (a : Op) (place column : ℕ) → slice_get (bars ops order) m ≡ Some x → At ops x.place a → column ≡ begin_column (ops_at ops order) place → ((place ≤ a.begin) ↔ (column ≤ x.left))
  stands_left m x a place column at is_a is =
      let p = bar_at ops (ops_at ops order) 0 0 order m x at in
      let left : x.left ≡ begin_column (ops_at ops order) a.begin = left_of m x p ∙ ap (λ (o : Op). begin_column (ops_at ops order) o.begin) (same_op m x a p is_a) in
      let stands = begin_stands (ops_at ops order) m a place (p.at ∙ ap Some (same_op m x a p is_a)) in
      (λ low. let less = stands.0 low in omega (arith, is, left, less), λ low. stands.1 (omega (arith, is, left, low)))

  stands_right : (m : ℕ) (x : Bar) (a : Op) (e place column : ℕ) → slice_get (bars ops order) m ≡ Some x → At ops x.place a → a.end ≡ Some e → column ≡ begin_column (ops_at ops order) place → ((place ≤ e) ↔ (column ≤ x.right))
  stands_right m x a e place column at is_a ends is =
      let p = bar_at ops (ops_at ops order) 0 0 order m x at in
      let right : x.right ≡ end_column (ops_at ops order) e = right_of m x p ∙ (ap (λ (o : Op). last_column (ops_at ops order) o.end) (same_op m x a p is_a) ∙ ap (last_column (ops_at ops order)) ends) in
      let stands = end_stands (ops_at ops order) m a e place (p.at ∙ ap Some (same_op m x a p is_a)) ends in
      (λ low. let less = stands.0 low in omega (arith, is, right, less), λ low. stands.1 (omega (arith, is, right, low)))

  open_right : (m : ℕ) (x : Bar) (a : Op) → slice_get (bars ops order) m ≡ Some x → At ops x.place a → a.end ≡ None → x.right ≡ columns (ops_at ops order)
  open_right m x a at is_a open_end =
      let p = bar_at ops (ops_at ops order) 0 0 order m x at in
      right_of m x p ∙ (ap (λ (o : Op). last_column (ops_at ops order) o.end) (same_op m x a p is_a) ∙ ap (last_column (ops_at ops order)) open_end)

  rising : HasTruePoints (ops_at ops order) → Rising 0 (columns (ops_at ops order)) (bars ops order)
  rising points = rising_of 0 (columns (ops_at ops order)) (bars ops order)
      (λ m x at. let low = within points m x at in let left = low.0 in omega (arith, left))
      (λ m x at. let b = bar_at ops (ops_at ops order) 0 0 order m x at in point_within (ops_at ops order) m x.point b.op (point_of m x b))
      (λ m n x y at_x at_y low. rise points m n x y at_x at_y low)

no_write_at : (ops : List Op) (place : ℕ) (a : Op) → At ops place a → is_write a ≡ false → is_write_at ops place ≡ false
no_write_at ops place a at other = rw at other

-- the values of these operations
abbrev values : List Op → List ℕ → List Value
values ops order = values_from ops (columns (ops_at ops order)) None 0 (bars ops order)

bar_place : (ops : List Op) (order : List ℕ) (d : Drawing) (x : Bar) → d.bars.items ≡ bars ops order → Contains d.bars.items x → (m : ℕ) × (slice_get (bars ops order) m ≡ Some x)
bar_place ops order d x is drawn = position_of (bars ops order) x (subst (λ (those : List Bar). Contains those x) is drawn)

value_place : (ops : List Op) (order : List ℕ) (d : Drawing) (v : Value) → d.values.items ≡ values ops order → Contains d.values.items v → (j : ℕ) × (slice_get (values ops order) j ≡ Some v)
value_place ops order d v is drawn = position_of (values ops order) v (subst (λ (those : List Value). Contains those v) is drawn)

written_at : (ops : List Op) (order : List ℕ) (d : Drawing) (v : Value) (place : ℕ) → d.bars.items ≡ bars ops order → v.write ≡ Some place
    → ((v.write ≡ None) × (v.left ≡ 0)) ⊎ IsWritten ops (bars ops order) v place → IsWrittenAt ops d v place
written_at ops order d v place same is (inl first) = absurd (let none : None ≡ Some place = sym first.0 ∙ is in cc)
written_at ops order d v place same is (inr w) = record {
  bar = w.bar;
  drawn = subst (λ (those : List Bar). Contains those w.bar) (sym same) (contains_at (bars ops order) w.number w.bar w.at);
  place_is = w.place_is;
  begins = w.begins;
  writes = w.writes;
}

write_at : (ops : List Op) (place : ℕ) (a : Op) → At ops place a → is_write a ≡ true → is_write_at ops place ≡ true
write_at ops place a at writes = rw at writes

-- the outage of one of the absences
outage_at : {X Y : Type 0} (f : X → Y) (xs : List X) (m : ℕ) (x : X) (y : Y) → slice_get xs m ≡ Some x → slice_get (map f xs) m ≡ Some y → y ≡ f x
outage_at f [] m x y at_x at_y = cc
outage_at f (z ∷ xs) zero x y at_x at_y = let same : z ≡ x = cc in let made : f z ≡ y = cc in sym made ∙ ap f same
outage_at f (z ∷ xs) (suc m) x y at_x at_y = outage_at f xs m x y at_x at_y

pub drawings_are_true : DrawingsAreTrue
drawings_are_true ops order absences d is legal = record {
  each = each;
  rise = λ m n x y at_x at_y low. rise ops order points m n x y (at_bars m x at_x) (at_bars n y at_y) low;
  within = λ x drawn. let at = bar_place ops order d x is.bars_are drawn in within ops order points at.0 x at.1;
  apart = λ x y a b of_x of_y. apart x y a b (both x y a b of_x of_y);
  together = λ x y a b of_x of_y beside. together x y a b (both x y a b of_x of_y) beside;
  open_ends = λ x a of_x open_end. let at = bar_place ops order d x is.bars_are of_x.drawn in open_right ops order at.0 x a at.1 of_x.at open_end ∙ sym is.columns_are;
  clear = λ x y drawn_x drawn_y. let m = bar_place ops order d x is.bars_are drawn_x in let n = bar_place ops order d y is.bars_are drawn_y in clear ops order m.0 n.0 x y m.1 n.1;
  row = subst (IsRow 0 d.columns) (sym is.values_are) (subst (λ edge. IsRow 0 edge (values ops order)) (sym is.columns_are) (values_row ops (columns seq) None 0 (bars ops order)));
  writes = λ x a of_x own.
      let at = bar_place ops order d x is.bars_are of_x.drawn in
      let one = value_of_write ops (columns seq) None 0 (bars ops order) at.0 x at.1 (write_at ops x.place a of_x.at own) in
      let v : Value = record { write = Some x.place; left = x.point; right = one.1 } in
      record { value = v; drawn = subst (λ (those : List Value). Contains those v) (sym is.values_are) (contains_at (values ops order) one.0 v one.2); write = refl; begins = refl };
  under = λ x a of_x other.
      let at = bar_place ops order d x is.bars_are of_x.drawn in
      let under = value_under ops (columns seq) None 0 0 (bars ops order) at.0 x (omega arith) (rising ops order points) at.1 (no_write_at ops x.place a of_x.at other) in
      (under.1, subst (λ (those : List Value). Contains those under.1) (sym is.values_are) (contains_at (values ops order) under.0 under.1 under.2), under.3);
  gives = λ x a v of_x other drawn spans.
      let at = bar_place ops order d x is.bars_are of_x.drawn in let j = value_place ops order d v is.values_are drawn in
      value_gives ops (columns seq) None 0 0 (bars ops order) at.0 x a j.0 v (rising ops order points) register at.1 of_x.at other j.1 spans;
  written = λ v place drawn writes.
      let j = value_place ops order d v is.values_are drawn in
      written_at ops order d v place is.bars_are writes (value_written ops (columns seq) None 0 (bars ops order) j.0 v place j.1 writes);
  outages = ap length is.outages_are ∙ length-map absences (outage_of seq);
  absent = λ m absence o at drawn. outage absence o (outage_at (outage_of seq) absences m absence o at (ap (λ those. slice_get those m) (sym is.outages_are) ∙ drawn));
}
  where
    seq : List Op
    seq = ops_at ops order

    points : HasTruePoints (ops_at ops order)
    points = points_are_true ops order legal

    places : map (λ x. x.place) (bars ops order) ≡ order
    places = places_are ops (ops_at ops order) 0 0 order (λ i within. let allowed = legal.allowed i within in (allowed.0, allowed.1))

    each : map (λ x. x.place) d.bars.items ≡ order
    each = ap (λ those. map (λ x. x.place) those) is.bars_are ∙ places

    register : RegisterGives (ops_at ops (map (λ x. x.place) (bars ops order))) []
    register = subst (λ (those : List ℕ). RegisterGives (ops_at ops those) []) (sym places) legal.register

    at_bars : (m : ℕ) (x : Bar) → slice_get d.bars.items m ≡ Some x → slice_get (bars ops order) m ≡ Some x
    at_bars m x at = ap (λ those. slice_get those m) (sym is.bars_are) ∙ at

    Both : Bar → Bar → Op → Op → Type 0
    Both x y a b = (Precedes a b × (x.right < y.left)) ⊎ ((¬ Precedes a b) × (y.left < x.right))

    both : (x y : Bar) (a b : Op) → IsBarOf ops d x a → IsBarOf ops d y b → Both x y a b
    both x y a b of_x of_y =
        let m = bar_place ops order d x is.bars_are of_x.drawn in let n = bar_place ops order d y is.bars_are of_y.drawn in
        sides_of ops order m.0 n.0 x y a b m.1 n.1 of_x.at of_y.at

    apart : (x y : Bar) (a b : Op) → Both x y a b → (Precedes a b ↔ (x.right < y.left))
    apart x y a b (inl before) = (λ precedes. before.1, λ low. before.0)
    apart x y a b (inr beside) = (λ precedes. absurd (beside.0 precedes), λ low. absurd (let high = beside.1 in omega (arith, low, high)))

    together : (x y : Bar) (a b : Op) → Both x y a b → ¬ Precedes a b → y.left < x.right
    together x y a b (inl before) beside = absurd (beside before.0)
    together x y a b (inr high) beside = high.1

    stands : (place column : ℕ) → column ≡ begin_column (ops_at ops order) place → StandsAt ops d place column
    stands place column same = record {
      left = λ x a of_x. let at = bar_place ops order d x is.bars_are of_x.drawn in stands_left ops order at.0 x a place column at.1 of_x.at same;
      right = λ x a e of_x ends. let at = bar_place ops order d x is.bars_are of_x.drawn in stands_right ops order at.0 x a e place column at.1 of_x.at ends same;
    }

    outage : (absence : Absence) (o : Outage) → o ≡ outage_of (ops_at ops order) absence → IsOutageOf ops d absence o
    outage absence o same = record {
      server = ap (λ (p : Outage). p.server) same;
      from = stands absence.from o.left (ap (λ (p : Outage). p.left) same);
      until = λ place returns. stands place o.right (ap (λ (p : Outage). p.right) same ∙ rw returns refl);
      lasting = λ stays. ap (λ (p : Outage). p.right) same ∙ (rw stays refl ∙ sym is.columns_are);
    }
