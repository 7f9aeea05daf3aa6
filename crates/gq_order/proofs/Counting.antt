-- Of an order that holds no place twice: each completed operation is in it where as many are in it as there are.
use Rattle.std.proofs.Common.{◌≡◌, ◌≢◌, ◌⊎◌, ℕ, ◌+◌, ◌-◌, ◌<◌, ◌≤◌, Bool, true, false, ◌&&◌, ◌||◌, List, [], ◌∷◌, refl, sym, ap, ◌∙◌, inl, inr, None, arith, is_some, eqb, leb}
use Rattle.std.specs.Prelude.{slice_get, not, ◌==◌, nat_le, if◌then◌else◌}
use Rattle.std.proofs.lemmas.Bool.{cases_eq, cases_lt, true≢false, and_parts, and_from, or_left, or_right, not-true, eqb-true, eq-eqb, ne_eqb, le-leb, leb-true}
use Rattle.gq_laws.specs.declared.ops.Op.{Op}
use Rattle.gq_laws.specs.Checks.{has_place, is_once, is_whole}
use Rattle.gq_order.proofs.Rests.{IsRest, rest_more, rest_first}
use Rattle.gq_order.specs.Walk.{completed, is_done, completed_at}

abbrev one : Bool → ℕ
one b = if b then 1 else 0

-- how often place n stands in the list
abbrev hits : ℕ → List ℕ → ℕ
hits n [] = 0
hits n (p ∷ places) = one (p == n) + hits n places

-- how many places from n on are those of completed operations
abbrev late : List Op → ℕ → List ℕ → ℕ
late ops n [] = 0
late ops n (p ∷ places) = one (is_done ops p && nat_le n p) + late ops n places

-- ---- how often a place is there

hits_none : (n : ℕ) (places : List ℕ) → has_place places n ≡ false → hits n places ≡ 0
hits_none n [] h = refl
hits_none n (p ∷ places) h = go (eqb p n) refl (hits_none n places)
  where
    go : (b : Bool) → eqb p n ≡ b → (has_place places n ≡ false → hits n places ≡ 0) → hits n (p ∷ places) ≡ 0
    go true e later = absurd (true≢false (sym (or_left (eqb p n) (has_place places n) e) ∙ h))
    go false e later = let rest = later (rw e at h) in rw e (omega (arith, rest))

hits_some : (n : ℕ) (places : List ℕ) → has_place places n ≡ true → 1 ≤ hits n places
hits_some n [] h = absurd (true≢false (sym h))
hits_some n (p ∷ places) h = go (eqb p n) refl (hits_some n places)
  where
    go : (b : Bool) → eqb p n ≡ b → (has_place places n ≡ true → 1 ≤ hits n places) → 1 ≤ hits n (p ∷ places)
    go true e later = rw e (omega arith)
    go false e later = let rest = later (rw e at h) in rw e (omega (arith, rest))

hits_once : (n : ℕ) (places : List ℕ) → is_once places ≡ true → hits n places ≤ 1
hits_once n [] h = omega arith
hits_once n (p ∷ places) h = go (eqb p n) refl (hits_once n places parts.1)
  where
    parts : (not (has_place places p) ≡ true) × (is_once places ≡ true)
    parts = and_parts (not (has_place places p)) (is_once places) h

    go : (b : Bool) → eqb p n ≡ b → hits n places ≤ 1 → hits n (p ∷ places) ≤ 1
    go true e later =
        let same : p ≡ n = eqb-true p n e in
        let none : hits n places ≡ 0 = hits_none n places (sym (ap (has_place places) same) ∙ not-true (has_place places p) parts.0) in
        rw (e, none) (omega arith)
    go false e later = rw e (omega (arith, later))

-- ---- one place more

late_place : (ops : List Op) (n p : ℕ) → one (is_done ops p && nat_le n p) ≡ (if is_done ops n then one (p == n) else 0) + one (is_done ops p && nat_le (n + 1) p)
late_place ops n p = go (cases_eq p n) (cases_lt n p)
  where
    no : (n p : ℕ) → p < n → nat_le n p ≡ false
    no n p low = by (leb n p) refl
      where
        by : (b : Bool) → leb n p ≡ b → nat_le n p ≡ false
        by true e = absurd (let above = leb-true n p e in omega arith)
        by false e = e

    same : (b : Bool) → is_done ops n ≡ b → p ≡ n → one (is_done ops p && nat_le n p) ≡ (if is_done ops n then one (p == n) else 0) + one (is_done ops p && nat_le (n + 1) p)
    same true e is = let there : is_done ops p ≡ true = ap (is_done ops) is ∙ e in rw (there, e, le-leb n p (omega arith), eq-eqb p n is, no (n + 1) p (omega arith)) refl
    same false e is = let there : is_done ops p ≡ false = ap (is_done ops) is ∙ e in rw (there, e) refl

    above : (b c : Bool) → is_done ops n ≡ b → is_done ops p ≡ c → n < p → p ≢ n → one (is_done ops p && nat_le n p) ≡ (if is_done ops n then one (p == n) else 0) + one (is_done ops p && nat_le (n + 1) p)
    above true true e f low ne = rw (e, f, le-leb n p (omega arith), le-leb (n + 1) p (omega arith), ne_eqb p n ne) refl
    above true false e f low ne = rw (e, f, ne_eqb p n ne) refl
    above false true e f low ne = rw (e, f, le-leb n p (omega arith), le-leb (n + 1) p (omega arith)) refl
    above false false e f low ne = rw (e, f) refl

    below : (b c : Bool) → is_done ops n ≡ b → is_done ops p ≡ c → p < n → p ≢ n → one (is_done ops p && nat_le n p) ≡ (if is_done ops n then one (p == n) else 0) + one (is_done ops p && nat_le (n + 1) p)
    below true true e f low ne = rw (e, f, no n p low, no (n + 1) p (omega arith), ne_eqb p n ne) refl
    below true false e f low ne = rw (e, f, ne_eqb p n ne) refl
    below false true e f low ne = rw (e, f, no n p low, no (n + 1) p (omega arith)) refl
    below false false e f low ne = rw (e, f) refl

    go : (p ≡ n) ⊎ (p ≢ n) → (n < p) ⊎ (p ≤ n) → one (is_done ops p && nat_le n p) ≡ (if is_done ops n then one (p == n) else 0) + one (is_done ops p && nat_le (n + 1) p)
    go (inl is) other = same (is_done ops n) refl is
    go (inr ne) (inl low) = above (is_done ops n) (is_done ops p) refl refl low ne
    go (inr ne) (inr high) = below (is_done ops n) (is_done ops p) refl refl (omega (arith, ne)) ne

late_more : (ops : List Op) (n : ℕ) (places : List ℕ) → late ops n places ≡ (if is_done ops n then hits n places else 0) + late ops (n + 1) places
late_more ops n [] = go (is_done ops n)
  where
    go : (b : Bool) → 0 ≡ (if b then 0 else 0) + 0
    go true = refl
    go false = refl
late_more ops n (p ∷ places) = go (is_done ops n) (late_place ops n p) (late_more ops n places)
  where
    go : (b : Bool) → one (is_done ops p && nat_le n p) ≡ (if b then one (p == n) else 0) + one (is_done ops p && nat_le (n + 1) p) → late ops n places ≡ (if b then hits n places else 0) + late ops (n + 1) places →
        late ops n (p ∷ places) ≡ (if b then hits n (p ∷ places) else 0) + late ops (n + 1) (p ∷ places)
    go true here later = omega (arith, here, later)
    go false here later = omega (arith, here, later)

late_none : (ops : List Op) (n : ℕ) (places : List ℕ) → ((i : ℕ) → slice_get ops (n + i) ≡ None) → late ops n places ≡ 0
late_none ops n [] past = refl
late_none ops n (p ∷ places) past = go (leb n p) refl (late_none ops n places past)
  where
    not_done : n ≤ p → (d : ℕ) → n + d ≡ p → is_done ops p ≡ false
    not_done low d is = let none : slice_get ops p ≡ None = ap (slice_get ops) (sym is) ∙ past d in rw none refl

    either_way : (d : Bool) → one (d && false) ≡ 0
    either_way true = refl
    either_way false = refl

    rest : (b : Bool) → leb n p ≡ b → one (is_done ops p && nat_le n p) ≡ 0
    rest true e = let low = leb-true n p e in rw (not_done low (p - n) (omega arith)) refl
    rest false e = rw e (either_way (is_done ops p))

    go : (b : Bool) → leb n p ≡ b → late ops n places ≡ 0 → late ops n (p ∷ places) ≡ 0
    go b e later = let here = rest b e in omega (arith, here, later)

pub late_all : (ops : List Op) (places : List ℕ) → late ops 0 places ≡ completed_at ops places
late_all ops [] = refl
late_all ops (p ∷ places) = rw (le-leb 0 p (omega arith)) (go (is_done ops p) (late_all ops places))
  where
    go : (b : Bool) → late ops 0 places ≡ completed_at ops places → one (b && true) + late ops 0 places ≡ one b + completed_at ops places
    go true later = omega (arith, later)
    go false later = omega (arith, later)

-- ---- as many as there are

done_here : (ops rest : List Op) (n : ℕ) (a : Op) → IsRest ops n (a ∷ rest) → is_done ops n ≡ is_some a.end
done_here ops rest n a is = let here = rest_first ops rest n a is in rw here refl

late_first : (ops rest : List Op) (n : ℕ) (a : Op) (places : List ℕ) → IsRest ops n (a ∷ rest) → late ops n places ≡ (if is_some a.end then hits n places else 0) + late ops (n + 1) places
late_first ops rest n a places is = late_more ops n places ∙ ap (λ b. (if b then hits n places else 0) + late ops (n + 1) places) (done_here ops rest n a is)

few : (ops rest : List Op) (n : ℕ) (places : List ℕ) → is_once places ≡ true → IsRest ops n rest → late ops n places ≤ completed rest
few ops [] n places once is = let none = late_none ops n places is in omega (arith, none)
few ops (a ∷ rest) n places once is = go (is_some a.end) (late_first ops rest n a places is) (few ops rest (n + 1) places once (rest_more ops rest n a is))
  where
    go : (b : Bool) → late ops n places ≡ (if b then hits n places else 0) + late ops (n + 1) places → late ops (n + 1) places ≤ completed rest → late ops n places ≤ one b + completed rest
    go true e later = let low = hits_once n places once in omega (arith, e, later, low)
    go false e later = omega (arith, e, later)

pub whole_if : (ops rest : List Op) (n : ℕ) (places : List ℕ) → is_once places ≡ true → IsRest ops n rest → late ops n places ≡ completed rest → is_whole places n rest ≡ true
whole_if ops [] n places once is same = refl
whole_if ops (a ∷ rest) n places once is same =
    go (is_some a.end) refl (late_first ops rest n a places is) (few ops rest (n + 1) places once (rest_more ops rest n a is)) (whole_if ops rest (n + 1) places once (rest_more ops rest n a is))
  where
    go : (b : Bool) → is_some a.end ≡ b → late ops n places ≡ (if is_some a.end then hits n places else 0) + late ops (n + 1) places → late ops (n + 1) places ≤ completed rest → (late ops (n + 1) places ≡ completed rest → is_whole places (n + 1) rest ≡ true) → is_whole places n (a ∷ rest) ≡ true
    go true e first low later = by (has_place places n) refl
      where
        now : late ops n places ≡ 1 + completed rest
        now = same ∙ ap (λ b. one b + completed rest) e

        parts : late ops n places ≡ hits n places + late ops (n + 1) places
        parts = first ∙ ap (λ b. (if b then hits n places else 0) + late ops (n + 1) places) e

        by : (h : Bool) → has_place places n ≡ h → is_whole places n (a ∷ rest) ≡ true
        by true h = and_from (not (is_some a.end) || has_place places n) (is_whole places (n + 1) rest) (or_right (not (is_some a.end)) (has_place places n) h)
            (later (let most = hits_once n places once in omega (arith, now, parts, low)))
        by false h = absurd (let none = hits_none n places h in omega (arith, now, parts, low, none))
    go false e first low later =
        let now : late ops n places ≡ 0 + completed rest = same ∙ ap (λ b. one b + completed rest) e in
        let parts : late ops n places ≡ 0 + late ops (n + 1) places = first ∙ ap (λ b. (if b then hits n places else 0) + late ops (n + 1) places) e in
        and_from (not (is_some a.end) || has_place places n) (is_whole places (n + 1) rest) (or_left (not (is_some a.end)) (has_place places n) (rw e refl)) (later (omega (arith, now, parts)))

pub whole_only : (ops rest : List Op) (n : ℕ) (places : List ℕ) → is_once places ≡ true → IsRest ops n rest → is_whole places n rest ≡ true → late ops n places ≡ completed rest
whole_only ops [] n places once is whole = late_none ops n places is
whole_only ops (a ∷ rest) n places once is whole =
    go (is_some a.end) refl (late_first ops rest n a places is) (whole_only ops rest (n + 1) places once (rest_more ops rest n a is) parts.1)
  where
    parts : ((not (is_some a.end) || has_place places n) ≡ true) × (is_whole places (n + 1) rest ≡ true)
    parts = and_parts (not (is_some a.end) || has_place places n) (is_whole places (n + 1) rest) whole

    go : (b : Bool) → is_some a.end ≡ b → late ops n places ≡ (if is_some a.end then hits n places else 0) + late ops (n + 1) places → late ops (n + 1) places ≡ completed rest → late ops n places ≡ one (is_some a.end) + completed rest
    go true e first later =
        let there : has_place places n ≡ true = rw e at parts.0 in
        let least = hits_some n places there in
        let most = hits_once n places once in
        let sum : late ops n places ≡ hits n places + late ops (n + 1) places = first ∙ ap (λ b. (if b then hits n places else 0) + late ops (n + 1) places) e in
        rw e (omega (arith, sum, later, least, most))
    go false e first later =
        let sum : late ops n places ≡ 0 + late ops (n + 1) places = first ∙ ap (λ b. (if b then hits n places else 0) + late ops (n + 1) places) e in
        rw e (omega (arith, sum, later))
