-- What the columns count.
use Rattle.std.proofs.Common.{◌≡◌, ◌⊎◌, ℕ, ◌<◌, ◌≤◌, List, get_or, length, ap, subst, inl, inr, arith}
use Rattle.std.specs.List.Sorted.{IsNonDecreasing, IsPermutation}
use Rattle.std.specs.Prelude.{nat_lt, if◌then◌else◌}
use Rattle.std.proofs.lemmas.Bool.{cases_lt}
use Rattle.std.proofs.lemmas.Option.{slice_get-get_or}
use Rattle.std.proofs.lemmas.List.Sorted.{IsPermutation-refl, length_permutation, sum_by-IsPermutation}
use Rattle.gq_laws.specs.declared.ops.Op.{Op}
use Rattle.gq_picture.specs.Columns.{latest}
use Rattle.gq_picture.specs.Counts.{CountsAs}
use Rattle.gq_picture.proofs.Latest.{rises}

-- the last beginnings rise
latest_rise : (seq : List Op) → IsNonDecreasing (latest seq)
latest_rise seq i j d le lt = by (cases_lt i j)
  where
    by : (i < j) ⊎ (j ≤ i) → get_or (latest seq) i d ≤ get_or (latest seq) j d
    by (inl less) = rises 0 seq i j (get_or (latest seq) i d) (get_or (latest seq) j d) (slice_get-get_or (latest seq) i d (omega arith)) (slice_get-get_or (latest seq) j d lt) less
    by (inr more) = let same : i ≡ j = omega arith in let e = ap (λ k. get_or (latest seq) k d) same in omega (arith, e)

pub rise_as : (seq : List Op) (numbers : List ℕ) → numbers ≡ latest seq → IsNonDecreasing numbers
rise_as seq numbers is i j d le lt =
    let few : j < length (latest seq) = (let e = ap length is in omega (arith, e)) in
    let rise = latest_rise seq i j d le few in
    let a = ap (λ z. get_or z i d) is in
    let b = ap (λ z. get_or z j d) is in
    omega (arith, rise, a, b)

-- in another order they count the same
pub count_as : (numbers found counted : List ℕ) → found ≡ numbers → IsPermutation found counted → CountsAs numbers counted
count_as numbers found counted is moved = subst (λ (z : List ℕ). CountsAs z counted) is (record { all = length_permutation found counted moved; each = λ n. sum_by-IsPermutation (λ x. if nat_lt x n then 1 else 0) found counted moved })

pub count_same : (numbers found : List ℕ) → found ≡ numbers → CountsAs numbers found
count_same numbers found is = count_as numbers found found is (IsPermutation-refl found)
