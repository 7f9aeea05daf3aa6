-- Where the points of a legal order stand.
use Rattle.std.proofs.Common.{◌≡◌, ℕ, zero, suc, ◌+◌, ◌<◌, List, [], ◌∷◌, true, Some, ap, arith}
use Rattle.std.specs.Prelude.{◌&&◌, slice_get}
use Rattle.std.specs.List.{list_all}
use Rattle.std.proofs.lemmas.Bool.{and_parts}
use Rattle.gq_laws.specs.declared.ops.Op.{Op}
use Rattle.gq_laws.specs.Operations.{Legal, ops_at}
use Rattle.gq_laws.specs.Checks.{is_allowed, is_in_order, is_once, is_whole, register_gives}
use Rattle.gq_laws.proofs.Checking.{checks_decide}
use Rattle.gq_picture.specs.Columns.{begin_column, begins, end_column, ends, latest, point_column}
use Rattle.gq_picture.proofs.Counts.{below_less, below_more}
use Rattle.gq_picture.proofs.Latest.{all_below, ends_later, few_below, no_earlier, rises}

-- the operation at the place has its point in this column
pub record HasPoint (seq : List Op) (m : ℕ) (a : Op) (column : ℕ) : Type 0 where
  pub place : ℕ
  pub at : slice_get seq m ≡ Some a
  pub behind : slice_get (latest seq) m ≡ Some place
  pub is : column ≡ point_column seq m place

pub record HasTruePoints (seq : List Op) : Type 0 where
  -- the points rise strictly in the order of the operations
  pub rise : (m n i j : ℕ) (a b : Op) → HasPoint seq m a i → HasPoint seq n b j → m < n → i < j
  -- each lies behind its operation's beginning, and before its end
  pub begun : (m i : ℕ) (a : Op) → HasPoint seq m a i → begin_column seq a.begin < i
  pub lasting : (m i e : ℕ) (a : Op) → HasPoint seq m a i → a.end ≡ Some e → i < end_column seq e

pub begun_at : (seq : List Op) (m : ℕ) (a : Op) → slice_get seq m ≡ Some a → slice_get (begins seq) m ≡ Some a.begin
begun_at [] m a at = cc
begun_at (b ∷ seq) zero a at = let same : b ≡ a = cc in ap (λ (c : Op). Some c.begin) same
begun_at (b ∷ seq) (suc m) a at = begun_at seq m a at

points_of : (seq : List Op) → is_in_order 0 seq ≡ true → HasTruePoints seq
points_of seq legal = record {
  rise = λ m n i j a b p q low.
      let up = rises 0 seq m n p.place q.place p.behind q.behind low in
      let more = below_more (p.place + 1) (q.place + 1) (begins seq) (omega (arith, up)) in
      let more_ends = below_more p.place q.place (ends seq) up in
      omega (arith, p.is, q.is, more, more_ends);
  begun = λ m i a p.
      let late = no_earlier 0 seq m p.place a p.at p.behind in
      let less = below_less a.begin (p.place + 1) a.begin m (begins seq) (begun_at seq m a p.at) (omega arith) (omega (arith, late)) in
      let more_ends = below_more a.begin p.place (ends seq) late in
      let few = few_below a.begin 0 seq m p.place p.behind late in
      omega (arith, p.is, less, more_ends, few);
  lasting = λ m i e a p is.
      let early = ends_later 0 seq m p.place e a legal p.at p.behind is in
      let more = below_more (p.place + 1) (e + 1) (begins seq) (omega (arith, early)) in
      let more_ends = below_more p.place e (ends seq) early in
      let all = all_below (e + 1) 0 seq m p.place p.behind (omega (arith, early)) in
      omega (arith, p.is, more, more_ends, all);
}

-- the points of a legal order are true
pub points_are_true : (ops : List Op) (places : List ℕ) → Legal ops places → HasTruePoints (ops_at ops places)
points_are_true ops places legal =
    let seq : List Op = ops_at ops places in
    let h = (checks_decide ops places).1 legal in
    let one = and_parts (is_once places) (list_all (is_allowed ops) places && (is_whole places 0 ops && (is_in_order 0 seq && register_gives seq []))) h in
    let two = and_parts (list_all (is_allowed ops) places) (is_whole places 0 ops && (is_in_order 0 seq && register_gives seq [])) one.1 in
    let three = and_parts (is_whole places 0 ops) (is_in_order 0 seq && register_gives seq []) two.1 in
    let four = and_parts (is_in_order 0 seq) (register_gives seq []) three.1 in
    points_of seq four.0
