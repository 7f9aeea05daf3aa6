-- How often each place stands among the places whose nodes were lost; how many files are lacked.
use Rattle.std.proofs.Common.{cond, ◌≡◌, ◌∙◌, ℕ, ◌+◌, ◌<◌, ◌≤◌, Bool, true, false, suc, List, [], ◌∷◌, ◌++◌, map, replicate, refl, sym, ap, subst, arith, inl, inr}
use Rattle.std.specs.Prelude.{◌==◌, nat_lt, Some, is_some, find, slice_set, slice_index_or}
use Rattle.std.proofs.lemmas.Bool.{cases_eq, cases_lt, eq-eqb, ne_eqb, lt-ltb}
use Rattle.std.proofs.lemmas.List.{get_or-set_same, get_or-set_other, get_or-replicate, length-set, length-replicate, length-map, map-append, append-nil}
use Rattle.std.specs.List.{count_by, flat_map, range_with_len}
use Rattle.std.proofs.lemmas.List.Sums.{sum_by-append, count_by-le-length}
use Rattle.std.proofs.lemmas.List.FromFn.{length-range_with_len}
use Rattle.std.proofs.lemmas.Grind.{flat_map-append}
use Rattle.gq_grid.proofs.Same.{range_more}
use Rattle.gq_tag.specs.Tag.{File}
use Rattle.gq_node.proofs.Giving.{at_place}
use Rattle.std.proofs.Math.ListN.{get_or-eq_default}
use Rattle.gq_grid.specs.declared.TheConstants.{MOST_SERVERS}
use Rattle.gq_replace.specs.Plans.{times}
use Rattle.gq_node.specs.declared.lost.TheConstants.{MOST_TIMES}
use Rattle.gq_node.specs.Lost.{IsCounted}
use Rattle.gq_node.specs.Sites.{plan_in}

times_more : (places : List ℕ) (one place : ℕ) → times (plan_in (places ++ one ∷ [])) place ≡ times (plan_in places) place + cond (one == place) 1 0
times_more places one place =
    let all : times (plan_in (places ++ one ∷ [])) place ≡ times (plan_in places) place + (0 + cond (one == place) 1 0) = sum_by-append (λ lost. cond (lost == place) 1 0) places (one ∷ []) in
    all ∙ ap (λ n. times (plan_in places) place + n) (plus_zero (cond (one == place) 1 0))
  where
    plus_zero : (n : ℕ) → 0 + n ≡ n
    plus_zero n = omega arith

-- one place more
pub counted_more : (places counts : List ℕ) (one : ℕ) → IsCounted places counts → one < MOST_SERVERS → times (plan_in places) one < MOST_TIMES → IsCounted (places ++ one ∷ []) (slice_set counts one (times (plan_in places) one + 1))
counted_more places counts one is within rare = record {
  long = length-set counts one (times (plan_in places) one + 1) ∙ is.long;
  counted = λ place. elim (cases_eq place one) [
    | inl same ↦ (
        ap (λ n. slice_index_or (slice_set counts one (times (plan_in places) one + 1)) n 0) same
        ∙ get_or-set_same counts one (times (plan_in places) one + 1) 0 (subst (λ n. one < n) (sym is.long) within)
        ∙ sym (ap (times (plan_in (places ++ one ∷ []))) same ∙ times_more places one one ∙ (rw (eq-eqb one one refl) refl)))
    | inr other ↦ (
        get_or-set_other counts one place (times (plan_in places) one + 1) 0 other
        ∙ is.counted place
        ∙ sym (times_more places one place ∙ (rw (ne_eqb one place (λ e. other (sym e))) (let e : times (plan_in places) place + 0 ≡ times (plan_in places) place = omega arith in e))))
  ];
  few = λ place. elim (cases_eq place one) [
    | inl same ↦ (
        let all : times (plan_in (places ++ one ∷ [])) place ≡ times (plan_in places) one + 1 = ap (times (plan_in (places ++ one ∷ []))) same ∙ times_more places one one ∙ (rw (eq-eqb one one refl) refl) in
        omega (arith, all, rare))
    | inr other ↦ (
        let all : times (plan_in (places ++ one ∷ [])) place ≡ times (plan_in places) place + 0 = times_more places one place ∙ (rw (ne_eqb one place (λ e. other (sym e))) refl) in
        let before = is.few place in
        omega (arith, all, before))
  ];
}

-- at first
pub none_counted : IsCounted [] (replicate MOST_SERVERS 0)
none_counted = record {
  long = (let none : ℕ = 0 in length-replicate MOST_SERVERS none);
  counted = λ place. elim (cases_lt place MOST_SERVERS) [
    | inl within ↦ (get_or-replicate MOST_SERVERS place 0 0 within)
    | inr past ↦ (let none : ℕ = 0 in get_or-eq_default (replicate MOST_SERVERS none) none (subst (λ n. n ≤ place) (sym (length-replicate MOST_SERVERS none)) past))
  ];
  few = λ place. omega arith;
}

-- ---- how many files are lacked

zero_plus : (n : ℕ) → 0 + n ≡ n
zero_plus n = omega arith

count_one : {X : Type 0} (p : X → Bool) (xs : List X) (x : X) → count_by p (xs ++ x ∷ []) ≡ count_by p xs + cond (p x) 1 0
count_one p xs x =
    let all : count_by p (xs ++ x ∷ []) ≡ count_by p xs + (0 + cond (p x) 1 0) = sum_by-append (λ y. cond (p y) 1 0) xs (x ∷ []) in
    all ∙ ap (λ n. count_by p xs + n) (zero_plus (cond (p x) 1 0))

pub files_more : (lacks : File → Bool) (v n : ℕ) → count_by lacks (map (at_place v) (range_with_len 0 (n + 1))) ≡ count_by lacks (map (at_place v) (range_with_len 0 n)) + cond (lacks (at_place v n)) 1 0
files_more lacks v n =
    let next : n + 1 ≡ suc n = omega arith in
    ap (λ m. count_by lacks (map (at_place v) (range_with_len 0 m))) next
    ∙ ap (λ ns. count_by lacks (map (at_place v) ns)) (range_more 0 n n (zero_plus n))
    ∙ ap (count_by lacks) (map-append (at_place v) (range_with_len 0 n) (n ∷ []))
    ∙ count_one lacks (map (at_place v) (range_with_len 0 n)) (at_place v n)

pub few_files : (lacks : File → Bool) (v n : ℕ) → count_by lacks (map (at_place v) (range_with_len 0 n)) ≤ n
few_files lacks v n = subst (λ m. count_by lacks (map (at_place v) (range_with_len 0 n)) ≤ m) (length-map (range_with_len 0 n) (at_place v) ∙ length-range_with_len 0 n) (count_by-le-length lacks (map (at_place v) (range_with_len 0 n)))

pub volumes_more : (lacks : File → Bool) (g : ℕ → List File) (v : ℕ) → count_by lacks (flat_map g (range_with_len 0 (v + 1))) ≡ count_by lacks (flat_map g (range_with_len 0 v)) + count_by lacks (g v)
volumes_more lacks g v =
    let next : v + 1 ≡ suc v = omega arith in
    ap (λ m. count_by lacks (flat_map g (range_with_len 0 m))) next
    ∙ ap (λ ns. count_by lacks (flat_map g ns)) (range_more 0 v v (zero_plus v))
    ∙ ap (count_by lacks) (flat_map-append g (range_with_len 0 v) (v ∷ []) ∙ ap (λ fs. flat_map g (range_with_len 0 v) ++ fs) (append-nil (g v)))
    ∙ sum_by-append (λ y. cond (lacks y) 1 0) (flat_map g (range_with_len 0 v)) (g v)

-- of no such thing there is none
pub none_such : {A : Type 0} (is_such : A → Bool) (xs : List A) → ((x : A) → is_such x ≡ false) → count_by is_such xs ≡ 0
none_such is_such [] none = refl
none_such is_such (x ∷ xs) none = rw (none x, none_such is_such xs none) refl

-- one is found where there is one
count_first : {A : Type 0} (is_such : A → Bool) (x : A) (xs : List A) → count_by is_such (x ∷ xs) ≡ cond (is_such x) 1 0 + count_by is_such xs
count_first is_such x xs =
    let all : count_by is_such (x ∷ xs) ≡ 0 + cond (is_such x) 1 0 + count_by is_such xs = sum_by-append (λ y. cond (is_such y) 1 0) (x ∷ []) xs in
    all ∙ ap (λ n. n + count_by is_such xs) (zero_plus (cond (is_such x) 1 0))

pub some_found : {A : Type 0} (is_such : A → Bool) (xs : List A) → is_some (find is_such xs) ≡ nat_lt 0 (count_by is_such xs)
some_found is_such [] = refl
some_found is_such (x ∷ xs) = by (is_such x) refl (some_found is_such xs)
  where
    by : (b : Bool) → is_such x ≡ b → is_some (find is_such xs) ≡ nat_lt 0 (count_by is_such xs) → is_some (find is_such (x ∷ xs)) ≡ nat_lt 0 (count_by is_such (x ∷ xs))
    by true is rest =
        let found : find is_such (x ∷ xs) ≡ Some x = rw is refl in
        let counted : count_by is_such (x ∷ xs) ≡ 1 + count_by is_such xs = count_first is_such x xs ∙ ap (λ b. cond b 1 0 + count_by is_such xs) is in
        ap is_some found ∙ sym (ap (nat_lt 0) counted ∙ lt-ltb 0 (1 + count_by is_such xs) (omega arith))
    by false is rest =
        let found : find is_such (x ∷ xs) ≡ find is_such xs = rw is refl in
        let counted : count_by is_such (x ∷ xs) ≡ 0 + count_by is_such xs = count_first is_such x xs ∙ ap (λ b. cond b 1 0 + count_by is_such xs) is in
        ap is_some found ∙ rest ∙ sym (ap (nat_lt 0) (counted ∙ zero_plus (count_by is_such xs)))
