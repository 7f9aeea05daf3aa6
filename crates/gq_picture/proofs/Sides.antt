-- The sides of bars.
use Rattle.std.proofs.Common.{◌≡◌, ◌≢◌, ◌⊎◌, ◌↔◌, ◌∙◌, ℕ, zero, suc, ◌+◌, ◌<◌, ◌≤◌, List, [], ◌∷◌, length, Option, Some, None, refl, sym, ap, inl, inr, arith}
use Rattle.std.specs.Prelude.{slice_get}
use Rattle.std.proofs.lemmas.Bool.{cases_lt}
use Rattle.std.proofs.lemmas.Option.{slice_get_within}
use Rattle.gq_laws.specs.declared.ops.Op.{Op}
use Rattle.gq_laws.specs.Operations.{Precedes}
use Rattle.gq_picture.specs.Columns.{begin_column, begins, below, columns, end_column, ends, last_column, latest}
use Rattle.gq_picture.proofs.Counts.{below_less, below_more, counted, passed}
use Rattle.gq_picture.proofs.Latest.{all_below as all_earlier, few_below}
use Rattle.gq_picture.proofs.Truth.{HasPoint, HasTruePoints, begun_at}

-- no more are below a number than there are
pub below_all : (n : ℕ) (xs : List ℕ) → below n xs ≤ length xs
below_all n [] = omega arith
below_all n (x ∷ xs) = by (cases_lt x n) (below_all n xs)
  where
    by : (x < n) ⊎ (n ≤ x) → below n xs ≤ length xs → below n (x ∷ xs) ≤ length (x ∷ xs)
    by (inl low) h = rw (counted n x xs low) (omega (arith, h))
    by (inr high) h = rw (passed n x xs high) (omega (arith, h))

-- the end of an operation is among the ends
ended_at : (seq : List Op) (m : ℕ) (a : Op) (e : ℕ) → slice_get seq m ≡ Some a → a.end ≡ Some e → (j : ℕ) × (slice_get (ends seq) j ≡ Some e)
ended_at [] m a e at is = cc
ended_at (b ∷ seq) zero a e at is =
    let own : b.end ≡ Some e = ap (λ (c : Op). c.end) (let same : b ≡ a = cc in same) ∙ is in
    (0, rw own refl)
ended_at (b ∷ seq) (suc m) a e at is = by b.end refl (ended_at seq m a e at is)
  where
    by : (o : Option ℕ) → b.end ≡ o → (j : ℕ) × (slice_get (ends seq) j ≡ Some e) → (j : ℕ) × (slice_get (ends (b ∷ seq)) j ≡ Some e)
    by None own later = (later.0, rw own later.1)
    by (Some f) own later = (suc later.0, rw own later.1)

-- what ends before a place ends to the left of what begins there
ended_before : (seq : List Op) (m : ℕ) (a : Op) (e p : ℕ) → slice_get seq m ≡ Some a → a.end ≡ Some e → e < p → end_column seq e < begin_column seq p
ended_before seq m a e p at is low =
    let own = ended_at seq m a e at is in
    let more = below_more (e + 1) p (begins seq) (omega arith) in
    let less = below_less e p e own.0 (ends seq) own.1 (omega arith) low in
    let later = below_more (e + 1) p (latest seq) (omega arith) in
    omega (arith, more, less, later)

-- what begins no later than a place begins to the left of what ends there
begun_by : (seq : List Op) (n : ℕ) (b : Op) (e : ℕ) → slice_get seq n ≡ Some b → b.begin ≤ e → begin_column seq b.begin < end_column seq e
begun_by seq n b e at low =
    let less = below_less b.begin (e + 1) b.begin n (begins seq) (begun_at seq n b at) (omega arith) (omega arith) in
    let more = below_more b.begin e (ends seq) low in
    let later = below_more b.begin (e + 1) (latest seq) (omega arith) in
    omega (arith, less, more, later)

-- it begins to the left of the last column
begun_within : (seq : List Op) (n : ℕ) (b : Op) → slice_get seq n ≡ Some b → begin_column seq b.begin < columns seq
begun_within seq n b at =
    let less = below_less b.begin (b.begin + 1) b.begin n (begins seq) (begun_at seq n b at) (omega arith) (omega arith) in
    let all = below_all (b.begin + 1) (begins seq) in
    let all_ends = below_all b.begin (ends seq) in
    let all_latest = below_all b.begin (latest seq) in
    omega (arith, less, all, all_ends, all_latest)

-- a point lies to the left of the last column
pub point_within : (seq : List Op) (m i : ℕ) (a : Op) → HasPoint seq m a i → i < columns seq
point_within seq m i a p =
    let all = below_all (p.place + 1) (begins seq) in
    let all_ends = below_all p.place (ends seq) in
    let few = slice_get_within (latest seq) m p.place p.behind in
    omega (arith, p.is, all, all_ends, few)

-- and to the left of its operation's end, where the points are true
pub point_lasts : (seq : List Op) (m i : ℕ) (a : Op) → HasTruePoints seq → HasPoint seq m a i → i < last_column seq a.end
point_lasts seq m i a true_points p = by a.end refl
  where
    by : (o : Option ℕ) → a.end ≡ o → i < last_column seq o
    by None is = point_within seq m i a p
    by (Some e) is = true_points.lasting m i e a p is

-- two operations: the one ended before the other began, or it did not
pub sides : (seq : List Op) (m n : ℕ) (a b : Op) → slice_get seq m ≡ Some a → slice_get seq n ≡ Some b
    → (Precedes a b × (last_column seq a.end < begin_column seq b.begin)) ⊎ ((¬ Precedes a b) × (begin_column seq b.begin < last_column seq a.end))
sides seq m n a b at_a at_b = by a.end refl
  where
    by : (o : Option ℕ) → a.end ≡ o → (Precedes a b × (last_column seq a.end < begin_column seq b.begin)) ⊎ ((¬ Precedes a b) × (begin_column seq b.begin < last_column seq a.end))
    by None is = inr ((λ precedes. let none : None ≡ Some precedes.0 = sym is ∙ precedes.1 in cc), rw is (begun_within seq n b at_b))
    by (Some e) is = go (cases_lt e b.begin)
      where
        go : (e < b.begin) ⊎ (b.begin ≤ e) → (Precedes a b × (last_column seq a.end < begin_column seq b.begin)) ⊎ ((¬ Precedes a b) × (begin_column seq b.begin < last_column seq a.end))
        go (inl low) = inl ((e, is, low), rw is (ended_before seq m a e b.begin at_a is low))
        go (inr high) = inr ((λ precedes. let same : e ≡ precedes.0 = (let both : Some e ≡ Some precedes.0 = sym is ∙ precedes.1 in cc) in let low = precedes.2 in omega arith), rw is (begun_by seq n b e at_b high))

-- columns stand as the places do
pub begin_stands : (seq : List Op) (m : ℕ) (a : Op) (place : ℕ) → slice_get seq m ≡ Some a → ((place ≤ a.begin) ↔ (begin_column seq place ≤ begin_column seq a.begin))
begin_stands seq m a place at = (up, λ low. down low (cases_lt a.begin place))
  where
    up : place ≤ a.begin → begin_column seq place ≤ begin_column seq a.begin
    up low =
        let more = below_more place a.begin (begins seq) low in
        let more_ends = below_more place a.begin (ends seq) low in
        let later = below_more place a.begin (latest seq) low in
        omega (arith, more, more_ends, later)

    down : begin_column seq place ≤ begin_column seq a.begin → (a.begin < place) ⊎ (place ≤ a.begin) → place ≤ a.begin
    down low (inr high) = high
    down low (inl less) = absurd (
        let more = below_less a.begin place a.begin m (begins seq) (begun_at seq m a at) (omega arith) less in
        let more_ends = below_more a.begin place (ends seq) (omega arith) in
        let later = below_more a.begin place (latest seq) (omega arith) in
        omega (arith, low, more, more_ends, later))

pub end_stands : (seq : List Op) (m : ℕ) (a : Op) (e place : ℕ) → slice_get seq m ≡ Some a → a.end ≡ Some e → ((place ≤ e) ↔ (begin_column seq place ≤ end_column seq e))
end_stands seq m a e place at is = (up, λ low. down low (cases_lt e place))
  where
    up : place ≤ e → begin_column seq place ≤ end_column seq e
    up low =
        let more = below_more place (e + 1) (begins seq) (omega arith) in
        let more_ends = below_more place e (ends seq) low in
        let later = below_more place (e + 1) (latest seq) (omega arith) in
        omega (arith, more, more_ends, later)

    down : begin_column seq place ≤ end_column seq e → (e < place) ⊎ (place ≤ e) → place ≤ e
    down low (inr high) = high
    down low (inl less) = absurd (let before = ended_before seq m a e place at is less in omega (arith, low, before))

-- no point stands where something begins
pub point_clear_begin : (seq : List Op) (m n i : ℕ) (a b : Op) → HasPoint seq m a i → slice_get seq n ≡ Some b → i ≢ begin_column seq b.begin
point_clear_begin seq m n i a b p at same = by (cases_lt p.place b.begin)
  where
    by : (p.place < b.begin) ⊎ (b.begin ≤ p.place) → ⊥
    by (inl less) =
        let more = below_more (p.place + 1) b.begin (begins seq) (omega arith) in
        let more_ends = below_more p.place b.begin (ends seq) (omega arith) in
        let all = all_earlier b.begin 0 seq m p.place p.behind less in
        omega (arith, p.is, same, more, more_ends, all)
    by (inr low) =
        let less = below_less b.begin (p.place + 1) b.begin n (begins seq) (begun_at seq n b at) (omega arith) (omega arith) in
        let more_ends = below_more b.begin p.place (ends seq) low in
        let few = few_below b.begin 0 seq m p.place p.behind low in
        omega (arith, p.is, same, less, more_ends, few)

-- or ends
pub point_clear_end : (seq : List Op) (m n i e : ℕ) (a b : Op) → HasPoint seq m a i → slice_get seq n ≡ Some b → b.end ≡ Some e → i ≢ end_column seq e
point_clear_end seq m n i e a b p at is same = by (cases_lt e p.place)
  where
    by : (e < p.place) ⊎ (p.place ≤ e) → ⊥
    by (inl less) =
        let own = ended_at seq n b e at is in
        let more = below_more (e + 1) (p.place + 1) (begins seq) (omega arith) in
        let less_ends = below_less e p.place e own.0 (ends seq) own.1 (omega arith) less in
        let few = few_below (e + 1) 0 seq m p.place p.behind (omega arith) in
        omega (arith, p.is, same, more, less_ends, few)
    by (inr low) =
        let more = below_more (p.place + 1) (e + 1) (begins seq) (omega arith) in
        let more_ends = below_more p.place e (ends seq) low in
        let all = all_earlier (e + 1) 0 seq m p.place p.behind (omega arith) in
        omega (arith, p.is, same, more, more_ends, all)

-- nor at the right side of a bar
pub point_clear_last : (seq : List Op) (m n i : ℕ) (a b : Op) → HasPoint seq m a i → slice_get seq n ≡ Some b → i ≢ last_column seq b.end
point_clear_last seq m n i a b p at = by b.end refl
  where
    by : (o : Option ℕ) → b.end ≡ o → i ≢ last_column seq o
    by None is same = let within = point_within seq m i a p in omega (arith, same, within)
    by (Some e) is same = point_clear_end seq m n i e a b p at is same
