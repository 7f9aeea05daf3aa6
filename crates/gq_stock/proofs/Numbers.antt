-- Numbers of a run, one after another.
use Rattle.std.proofs.Common.{◌≡◌, ◌≢◌, ◌≤◌, ◌<◌, ◌+◌, ℕ, Bool, true, false, List, Option, Some, None, refl, sym, ap, ◌∙◌, arith, take, get_or, length, inl, inr, ◌⊎◌}
use Rattle.std.specs.Prelude.{IsSome, nat_le, ◌&&◌, ◌||◌, ◌==◌, max, if◌then◌else◌}
use Rattle.std.proofs.lemmas.Bool.{and_from, and_left, and_right, le-leb, lt-leb, eq-eqb, ne_eqb, cases_order, cases_lt}
use Rattle.std.proofs.lemmas.List.Folds.{list_any_more}
use Rattle.gq_ledger.specs.Steps.{Book, Forgets, Raises, Leads}
use Rattle.gq_stock.specs.Forgetting.{is_in, is_in_any, ForgotAs}
use Rattle.gq_stock.specs.declared.run.Run.{Run}

-- nothing is there where something would be too high
pub absent_below : {T : Type 0} (o : Option T) (x m : ℕ) → (IsSome o → x ≤ m) → m < x → o ≡ None
absent_below None x m above below = refl
absent_below (Some y) x m above below = let le : x ≤ m = above refl in absurd (omega arith)

if_yes : {T : Type 0} (a b : Bool) (x : Option T) → a ≡ true → b ≡ true → (if a && b then None else x) ≡ None
if_yes a b x is also = ap (λ (t : Bool). if t then None else x) (and_from a b is also)

if_no_left : {T : Type 0} (a b : Bool) (x : Option T) → a ≡ false → (if a && b then None else x) ≡ x
if_no_left a b x is = ap (λ (t : Bool). if t then None else x) (and_left a b is)

if_no : {T : Type 0} (a b : Bool) (x : Option T) → b ≡ false → (if a && b then None else x) ≡ x
if_no a b x is = ap (λ (t : Bool). if t then None else x) (and_right a b is)

-- what is there behind a number that was forgotten
forgotten : {T : Type 0} (old new : Book T) (m n : ℕ) → m ≤ old.floor → Leads old (Forgets m) new → new.at n ≡ (if n == m then None else old.at n)
forgotten old new m n below leads = leads.at n ∙ ap (λ (t : Bool). (if t then record { at = λ k. if k == m then None else old.at k; floor = old.floor } else old).at n) (le-leb m old.floor below)

forgotten_floor : {T : Type 0} (old new : Book T) (m : ℕ) → Leads old (Forgets m) new → new.floor ≡ old.floor
forgotten_floor old new m leads = leads.floor ∙ by (nat_le m old.floor)
  where
    by : (t : Bool) → (if t then record { at = λ k. if k == m then None else old.at k; floor = old.floor } else old).floor ≡ old.floor
    by true = refl
    by false = refl

same_number : {T : Type 0} (old : Book T) (m n : ℕ) → n ≡ m → (if n == m then None else old.at n) ≡ None
same_number old m n is = ap (λ (t : Bool). if t then None else old.at n) (eq-eqb n m is)

other_number : {T : Type 0} (old : Book T) (m n : ℕ) → n ≢ m → (if n == m then None else old.at n) ≡ old.at n
other_number old m n other = ap (λ (t : Bool). if t then None else old.at n) (ne_eqb n m other)

-- from the one number to the other all are absent, and nothing else changed
pub record TookAway {T : Type 0} (old new : Book T) (first upto : ℕ) : Type 0 where
  pub at : (n : ℕ) → new.at n ≡ (if nat_le first n && nat_le n upto then None else old.at n)
  pub floor : new.floor ≡ old.floor

pub took_first : {T : Type 0} (old new : Book T) (first : ℕ) → first ≤ old.floor → Leads old (Forgets first) new → TookAway old new first first
took_first old new first below leads = record { at = λ n. forgotten old new first n below leads ∙ by n (cases_order n first); floor = forgotten_floor old new first leads }
  where
    by : (n : ℕ) → (n ≡ first) ⊎ ((n < first) ⊎ (first < n)) → (if n == first then None else old.at n) ≡ (if nat_le first n && nat_le n first then None else old.at n)
    by n (inl is) = same_number old first n is ∙ sym (if_yes (nat_le first n) (nat_le n first) (old.at n) (le-leb first n (omega arith)) (le-leb n first (omega arith)))
    by n (inr (inl lt)) = other_number old first n (omega arith) ∙ sym (if_no_left (nat_le first n) (nat_le n first) (old.at n) (lt-leb first n lt))
    by n (inr (inr lt)) = other_number old first n (omega arith) ∙ sym (if_no (nat_le first n) (nat_le n first) (old.at n) (lt-leb n first lt))

pub took_more : {T : Type 0} (old mid new : Book T) (first from found : ℕ) → first ≤ from → from < found → found ≤ mid.floor → TookAway old mid first from → ((m : ℕ) → from < m → m < found → mid.at m ≡ None) → Leads mid (Forgets found) new → TookAway old new first found
took_more old mid new first from found within above below took none leads = record { at = λ n. forgotten mid new found n below leads ∙ by n (cases_order n found); floor = forgotten_floor mid new found leads ∙ took.floor }
  where
    before : (n : ℕ) → n < found → (n ≤ from) ⊎ (from < n) → mid.at n ≡ (if nat_le first n && nat_le n found then None else old.at n)
    before n lt (inl le) = took.at n ∙ ap (λ (t : Bool). if nat_le first n && t then None else old.at n) (le-leb n from le ∙ sym (le-leb n found (omega arith)))
    before n lt (inr gt) = none n gt lt ∙ sym (if_yes (nat_le first n) (nat_le n found) (old.at n) (le-leb first n (omega arith)) (le-leb n found (omega arith)))

    side : (n : ℕ) → (from < n) ⊎ (n ≤ from) → (n ≤ from) ⊎ (from < n)
    side n (inl lt) = inr lt
    side n (inr le) = inl le

    by : (n : ℕ) → (n ≡ found) ⊎ ((n < found) ⊎ (found < n)) → (if n == found then None else mid.at n) ≡ (if nat_le first n && nat_le n found then None else old.at n)
    by n (inl is) = same_number mid found n is ∙ sym (if_yes (nat_le first n) (nat_le n found) (old.at n) (le-leb first n (omega arith)) (le-leb n found (omega arith)))
    by n (inr (inl lt)) = other_number mid found n (omega arith) ∙ before n lt (side n (cases_lt from n))
    by n (inr (inr gt)) = other_number mid found n (omega arith) ∙ (took.at n ∙ (if_no (nat_le first n) (nat_le n from) (old.at n) (lt-leb n from (omega arith)) ∙ sym (if_no (nat_le first n) (nat_le n found) (old.at n) (lt-leb n found gt))))

pub took_all : {T : Type 0} (old new : Book T) (first from last : ℕ) → first ≤ from → from ≤ last → TookAway old new first from → ((m : ℕ) → from < m → m ≤ last → new.at m ≡ None) → (n : ℕ) → new.at n ≡ (if nat_le first n && nat_le n last then None else old.at n)
took_all old new first from last within upto took none n = by (cases_lt from n)
  where
    beyond : from < n → (last < n) ⊎ (n ≤ last) → new.at n ≡ (if nat_le first n && nat_le n last then None else old.at n)
    beyond gt (inl past) = took.at n ∙ (if_no (nat_le first n) (nat_le n from) (old.at n) (lt-leb n from gt) ∙ sym (if_no (nat_le first n) (nat_le n last) (old.at n) (lt-leb n last past)))
    beyond gt (inr le) = none n gt le ∙ sym (if_yes (nat_le first n) (nat_le n last) (old.at n) (le-leb first n (omega arith)) (le-leb n last le))

    by : (from < n) ⊎ (n ≤ from) → new.at n ≡ (if nat_le first n && nat_le n last then None else old.at n)
    by (inl gt) = beyond gt (cases_lt last n)
    by (inr le) = took.at n ∙ ap (λ (t : Bool). if nat_le first n && t then None else old.at n) (le-leb n from le ∙ sym (le-leb n last (omega arith)))

-- a run that ends before it begins has no number
pub none_in : {T : Type 0} (n first last : ℕ) (x : Option T) → last < first → x ≡ (if nat_le first n && nat_le n last then None else x)
none_in n first last x empty = by (cases_lt n first)
  where
    by : (n < first) ⊎ (first ≤ n) → x ≡ (if nat_le first n && nat_le n last then None else x)
    by (inl lt) = sym (if_no_left (nat_le first n) (nat_le n last) x (lt-leb first n lt))
    by (inr le) = sym (if_no (nat_le first n) (nat_le n last) x (lt-leb n last (omega arith)))

-- ---- runs, one after another

if_either : {T : Type 0} (a b : Bool) (x : Option T) → (if b then None else if a then None else x) ≡ (if a || b then None else x)
if_either true true x = refl
if_either true false x = refl
if_either false true x = refl
if_either false false x = refl

pub raised_floor : (old floor : ℕ) → (if nat_le old floor then floor else old) ≡ max old floor
raised_floor old floor = grind arith

pub forgot_none : {T : Type 0} (old new : Book T) (floor : ℕ) (runs : List Run) → Leads old (Raises floor) new → ForgotAs old floor (take 0 runs) new
forgot_none old new floor runs leads = record { at = leads.at; risen = leads.floor ∙ raised_floor old.floor floor }

pub forgot_more : {T : Type 0} (old mid new : Book T) (floor : ℕ) (runs : List Run) (i : ℕ) (d : Run) → i < length runs → ForgotAs old floor (take i runs) mid → ((n : ℕ) → new.at n ≡ (if is_in n (get_or runs i d) then None else mid.at n)) → new.floor ≡ mid.floor → ForgotAs old floor (take (i + 1) runs) new
forgot_more {T} old mid new floor runs i d lt forgot at same = record {
  at = λ n. at n ∙ (ap (λ (o : Option T). if is_in n (get_or runs i d) then None else o) (forgot.at n)
      ∙ (if_either (is_in_any n (take i runs)) (is_in n (get_or runs i d)) (old.at n)
      ∙ ap (λ (t : Bool). if t then None else old.at n) (sym (list_any_more (is_in n) runs i d lt))));
  risen = same ∙ forgot.risen;
}
