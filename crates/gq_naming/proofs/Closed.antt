-- A look that wants no page any more is closed.
use Rattle.std.proofs.Common.{◌≡◌, ◌⊎◌, inl, inr, ◌∙◌, ℕ, zero, suc, ◌+◌, ◌<◌, ◌≤◌, List, [], ◌∷◌, length, max, Option, Some, None, Bool, true, false, refl, sym, ap, subst, arith}
use Rattle.std.specs.Prelude.{slice_get, nat_lt, not, if◌then◌else◌}
use Rattle.std.proofs.lemmas.Bool.{ltb-true, lt-ltb}
use Rattle.gq_names.specs.Names.{Setting, Page, all_below, is_closed}
use Rattle.gq_page.specs.declared.page.Page.{Page as SeenPage}
use Rattle.gq_page.specs.Page.{Sheet, sheet_of, after_of}
use Rattle.gq_client.specs.declared.view.Known.{Known}
use Rattle.gq_client.specs.declared.view.Wanted.{Wanted}
use Rattle.gq_client.specs.Looking.{page_at, most_from, wanted_from}
use Rattle.gq_naming.specs.Standing.{Naming, Shows, Sees}
use Rattle.gq_naming.specs.Laws.{AllLooksClose}
use Rattle.gq_naming.proofs.Found.{place_is}

-- the most that is asked for is at least what it was, and what each page asks for
most_least : (k own : ℕ) (journal : Option SeenPage) (t : ℕ) (seen : List Known) (most : ℕ) → most ≤ most_from k own journal t seen most
most_least k own journal t [] most = omega arith
most_least k own journal t (known ∷ seen) most =
    let here : ℕ = after_of (sheet_of (page_at k own journal known)) t in
    let on : max here most ≤ most_from (k + 1) own journal t seen (max here most) = most_least (k + 1) own journal t seen (max here most) in
    omega arith

most_each : (k own : ℕ) (journal : Option SeenPage) (t : ℕ) (seen : List Known) (most place : ℕ) (known : Known) → slice_get seen place ≡ Some known
    → after_of (sheet_of (page_at (k + place) own journal known)) t ≤ most_from k own journal t seen most
most_each k own journal t [] most place known at = absurd (none at)
  where
    none : None ≡ Some known → ⊥
    none h = cc
most_each k own journal t (first ∷ seen) most zero known at =
    let same : first ≡ known = cc in
    let at_k : k ≡ k + 0 = omega arith in
    let here : ℕ = after_of (sheet_of (page_at k own journal first)) t in
    let on : max here most ≤ most_from (k + 1) own journal t seen (max here most) = most_least (k + 1) own journal t seen (max here most) in
    let is : here ≡ after_of (sheet_of (page_at (k + 0) own journal known)) t = ap (λ z. after_of (sheet_of (page_at k own journal z)) t) same ∙ ap (λ j. after_of (sheet_of (page_at j own journal known)) t) at_k in
    omega arith
most_each k own journal t (first ∷ seen) most (suc place) known at =
    let same : k + 1 + place ≡ k + suc place = omega arith in
    subst (λ j. after_of (sheet_of (page_at j own journal known)) t ≤ most_from (k + 1) own journal t seen (max (after_of (sheet_of (page_at k own journal first)) t) most)) same
    (most_each (k + 1) own journal t seen (max (after_of (sheet_of (page_at k own journal first)) t) most) place known at)

not_less : (a b : ℕ) → nat_lt a b ≡ false → b ≤ a
not_less a b is = by (nat_lt b (a + 1)) refl
  where
    by : (c : Bool) → nat_lt b (a + 1) ≡ c → b ≤ a
    by true e = let lt : b < a + 1 = ltb-true b (a + 1) e in omega arith
    by false e = absurd (bad (lt-ltb a b (let le : b < a + 1 → ⊥ = (λ lt. none (sym e ∙ lt-ltb b (a + 1) lt)) in omega arith)))
      where
        none : false ≡ true → ⊥
        none h = cc

        bad : nat_lt a b ≡ true → ⊥
        bad h = none (sym is ∙ h)

-- no page is wanted, so each has at least the number that is asked for
none_wanted : (k own : ℕ) (journal : Option SeenPage) (all seen : List Known) → wanted_from k own journal all seen ≡ [] → (place : ℕ) (known : Known) → slice_get seen place ≡ Some known
    → most_from 0 own journal (k + place) all 0 ≤ (page_at (k + place) own journal known).number
none_wanted k own journal all [] is place known at = absurd (none at)
  where
    none : None ≡ Some known → ⊥
    none h = cc
none_wanted k own journal all (first ∷ seen) is place known at = by place at (nat_lt (page_at k own journal first).number (most_from 0 own journal k all 0)) refl is (none_wanted (k + 1) own journal all seen)
  where
    Goal : ℕ → Type 0
    Goal p = most_from 0 own journal (k + p) all 0 ≤ (page_at (k + p) own journal known).number

    by : (p : ℕ) → slice_get (first ∷ seen) p ≡ Some known → (b : Bool) → nat_lt (page_at k own journal first).number (most_from 0 own journal k all 0) ≡ b
        → (if b then record { session = k; number = most_from 0 own journal k all 0 } ∷ wanted_from (k + 1) own journal all seen else wanted_from (k + 1) own journal all seen) ≡ []
        → (wanted_from (k + 1) own journal all seen ≡ [] → (q : ℕ) (z : Known) → slice_get seen q ≡ Some z → most_from 0 own journal (k + 1 + q) all 0 ≤ (page_at (k + 1 + q) own journal z).number)
        → most_from 0 own journal (k + p) all 0 ≤ (page_at (k + p) own journal known).number
    by p here true e h on = absurd (bad h)
      where
        bad : record { session = k; number = most_from 0 own journal k all 0 } ∷ wanted_from (k + 1) own journal all seen ≡ [] → ⊥
        bad g = cc
    by zero here false e h on =
        let same : first ≡ known = cc in
        let at_k : k ≡ k + 0 = omega arith in
        let le : most_from 0 own journal k all 0 ≤ (page_at k own journal first).number = not_less (page_at k own journal first).number (most_from 0 own journal k all 0) e in
        subst (λ z. most_from 0 own journal (k + 0) all 0 ≤ (page_at (k + 0) own journal z).number) same (subst (λ j. most_from 0 own journal j all 0 ≤ (page_at j own journal first).number) at_k le)
    by (suc q) here false e h on =
        let same : k + 1 + q ≡ k + suc q = omega arith in
        subst (λ j. most_from 0 own journal j all 0 ≤ (page_at j own journal known).number) same (on h q known here)

all_from : (n : ℕ) (test : ℕ → Bool) → ((t : ℕ) → t < n → test t ≡ true) → all_below n test ≡ true
all_from zero test each = refl
all_from (suc n) test each = rw (each n (omega arith)) (all_from n test (λ t low. each t (omega arith)))

less_not : (a b : ℕ) → b ≤ a → not (nat_lt a b) ≡ true
less_not a b le = by (nat_lt a b) refl
  where
    by : (c : Bool) → nat_lt a b ≡ c → not c ≡ true
    by true e = absurd (let lt : a < b = ltb-true a b e in omega arith)
    by false e = refl

pub looks_are_closed : AllLooksClose
looks_are_closed names v own journal seen pages sees is =
    all_from v.sessions (λ s. all_below v.sessions (λ t. not (nat_lt (pages t).number ((pages s).after t)))) (λ s low_s. all_from v.sessions (λ t. not (nat_lt (pages t).number ((pages s).after t))) (λ t low_t. pair s t (there s low_s) (there t low_t)))
  where
    there : (t : ℕ) → t < v.sessions → (known : Known) × (slice_get seen t ≡ Some known)
    there t low = by (place_is seen t)
      where
        many : length seen ≡ v.sessions
        many = sees.many

        by : (slice_get seen t ≡ None) × (length seen ≤ t) ⊎ ((x : Known) × (slice_get seen t ≡ Some x) × (t < length seen)) → (known : Known) × (slice_get seen t ≡ Some known)
        by (inl past) = absurd (let le : length seen ≤ t = past.1 in let count : length seen ≡ v.sessions = many in omega arith)
        by (inr here) = (here.0, here.1)

    pair : (s t : ℕ) → (known : Known) × (slice_get seen s ≡ Some known) → (known : Known) × (slice_get seen t ≡ Some known) → not (nat_lt (pages t).number ((pages s).after t)) ≡ true
    pair s t here other =
        let at_s : 0 + s ≡ s = omega arith in
        let at_t : 0 + t ≡ t = omega arith in
        let asks : (pages s).after t ≡ after_of (sheet_of (page_at s own journal here.0)) t = (sees.each s here.0 here.1).after t in
        let number : (pages t).number ≡ (page_at t own journal other.0).number = (sees.each t other.0 other.1).number in
        let most : after_of (sheet_of (page_at (0 + s) own journal here.0)) t ≤ most_from 0 own journal t seen 0 = most_each 0 own journal t seen 0 s here.0 here.1 in
        let most_s : after_of (sheet_of (page_at s own journal here.0)) t ≤ most_from 0 own journal t seen 0 = subst (λ j. after_of (sheet_of (page_at j own journal here.0)) t ≤ most_from 0 own journal t seen 0) at_s most in
        let least : most_from 0 own journal (0 + t) seen 0 ≤ (page_at (0 + t) own journal other.0).number = none_wanted 0 own journal seen seen is t other.0 other.1 in
        let least_t : most_from 0 own journal t seen 0 ≤ (page_at t own journal other.0).number = subst (λ j. most_from 0 own journal j seen 0 ≤ (page_at j own journal other.0).number) at_t least in
        less_not (pages t).number ((pages s).after t) (omega arith)
