-- The bars of an order.
use Rattle.std.proofs.Common.{◌≡◌, ◌∙◌, ℕ, zero, suc, ◌+◌, List, [], ◌∷◌, map, max, Option, Some, None, refl, sym, ap, subst, arith, add-zero}
use Rattle.std.specs.Prelude.{Contains, slice_get}
use Rattle.gq_laws.specs.declared.ops.Op.{Op}
use Rattle.gq_laws.specs.Operations.{At, ops_at}
use Rattle.gq_picture.specs.Columns.{latest_from}
use Rattle.gq_picture.specs.Drawing.{bar_of, bars_from}
use Rattle.gq_picture.specs.declared.drawing.Bar.{Bar}
use Rattle.gq_picture.proofs.Steps.{ops_more, ops_none}

-- the bar at the place is that of the operation there, so many standing before them all
pub record IsBarAt (ops seq : List Op) (k last : ℕ) (those : List Op) (m : ℕ) (x : Bar) : Type 0 where
  pub place : ℕ
  pub behind : ℕ
  pub op : Op
  pub found : At ops place op
  pub at : slice_get those m ≡ Some op
  pub latest : slice_get (latest_from last those) m ≡ Some behind
  pub is : x ≡ bar_of seq (k + m) behind place op

bars_more : (ops seq : List Op) (k last place : ℕ) (places : List ℕ) (a : Op) → slice_get ops place ≡ Some a → bars_from ops seq k last (place ∷ places) ≡ bar_of seq k (max last a.begin) place a ∷ bars_from ops seq (k + 1) (max last a.begin) places
bars_more ops seq k last place places a at = rw at refl

bars_none : (ops seq : List Op) (k last place : ℕ) (places : List ℕ) → slice_get ops place ≡ None → bars_from ops seq k last (place ∷ places) ≡ bars_from ops seq k last places
bars_none ops seq k last place places at = rw at refl

first_bar : (ops seq : List Op) (k last place : ℕ) (rest : List Op) (a : Op) (x : Bar) → slice_get ops place ≡ Some a → bar_of seq k (max last a.begin) place a ≡ x → IsBarAt ops seq k last (a ∷ rest) 0 x
first_bar ops seq k last place rest a x found same = record {
  place = place;
  behind = max last a.begin;
  op = a;
  found = found;
  at = refl;
  latest = refl;
  is = sym same ∙ ap (λ n. bar_of seq n (max last a.begin) place a) (sym (add-zero k));
}

later_bar : (ops seq : List Op) (k last : ℕ) (rest : List Op) (a : Op) (m : ℕ) (x : Bar) → IsBarAt ops seq (k + 1) (max last a.begin) rest m x → IsBarAt ops seq k last (a ∷ rest) (suc m) x
later_bar ops seq k last rest a m x b = record {
  place = b.place;
  behind = b.behind;
  op = b.op;
  found = b.found;
  at = b.at;
  latest = b.latest;
  is = b.is ∙ ap (λ n. bar_of seq n b.behind b.place b.op) (let next : k + 1 + m ≡ k + suc m = omega arith in next);
}

pub bar_at : (ops seq : List Op) (k last : ℕ) (places : List ℕ) (m : ℕ) (x : Bar) → slice_get (bars_from ops seq k last places) m ≡ Some x → IsBarAt ops seq k last (ops_at ops places) m x
bar_at ops seq k last [] m x at = cc
bar_at ops seq k last (place ∷ places) m x at = by (slice_get ops place) refl m at (λ k last m. bar_at ops seq k last places m x)
  where
    by : (o : Option Op) → slice_get ops place ≡ o → (m : ℕ) → slice_get (bars_from ops seq k last (place ∷ places)) m ≡ Some x
        → ((k last m : ℕ) → slice_get (bars_from ops seq k last places) m ≡ Some x → IsBarAt ops seq k last (ops_at ops places) m x)
        → IsBarAt ops seq k last (ops_at ops (place ∷ places)) m x
    by None found m at later =
        subst (λ (those : List Op). IsBarAt ops seq k last those m x) (sym (ops_none ops place places found))
        (later k last m (ap (λ bars. slice_get bars m) (sym (bars_none ops seq k last place places found)) ∙ at))
    by (Some a) found zero at later =
        let same : bar_of seq k (max last a.begin) place a ≡ x = (let first : Some (bar_of seq k (max last a.begin) place a) ≡ Some x = ap (λ bars. slice_get bars 0) (sym (bars_more ops seq k last place places a found)) ∙ at in cc) in
        subst (λ (those : List Op). IsBarAt ops seq k last those 0 x) (sym (ops_more ops place places a found)) (first_bar ops seq k last place (ops_at ops places) a x found same)
    by (Some a) found (suc m) at later =
        let rest : slice_get (bars_from ops seq (k + 1) (max last a.begin) places) m ≡ Some x = ap (λ bars. slice_get bars (suc m)) (sym (bars_more ops seq k last place places a found)) ∙ at in
        subst (λ (those : List Op). IsBarAt ops seq k last those (suc m) x) (sym (ops_more ops place places a found)) (later_bar ops seq k last (ops_at ops places) a m x (later (k + 1) (max last a.begin) m rest))

-- each place at which there is an operation has its bar
pub places_are : (ops seq : List Op) (k last : ℕ) (places : List ℕ) → ((i : ℕ) → Contains places i → (a : Op) × At ops i a) → map (λ x. x.place) (bars_from ops seq k last places) ≡ places
places_are ops seq k last [] each = refl
places_are ops seq k last (place ∷ places) each =
    let first : (a : Op) × At ops place a = each place (0, omega arith, refl) in
    ap (λ bars. map (λ x. x.place) bars) (bars_more ops seq k last place places first.0 first.1)
    ∙ ap (λ z. place ∷ z) (places_are ops seq (k + 1) (max last first.0.begin) places (λ i within. each i (suc within.0, omega (arith, within.1), within.2)))
