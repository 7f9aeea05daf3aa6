-- A number's digits, one more at a time.
use Rattle.std.proofs.Common.{◌≡◌, ℕ, zero, suc, ◌+◌, ◌/◌, ◌%◌, ◌^◌, ◌<◌, ◌≤◌, List, [], ◌∷◌, ◌++◌, cond, ltb, sym, ap, ◌∙◌, arith, append_assoc}
use Rattle.std.specs.Prelude.{decimal}
use Rattle.std.proofs.lemmas.Bool.Decides.{nat_tests}
use Rattle.std.proofs.lemmas.Fmt.{AppendsLastDigit, decimal_from_appends, length-decimal-le}

-- the last k digits
abbrev written : ℕ → ℕ → List ℕ
written zero n = []
written (suc k) n = cond (ltb n 10) ((48 + n) ∷ []) (written k (n / 10) ++ (48 + n % 10) ∷ [])

appends : AppendsLastDigit written
appends = record { one = λ k n h. grind (arith, nat_tests); more = λ k n h. grind (arith, nat_tests) }

-- the last digit behind the others
pub last_digit : (n : ℕ) → 10 ≤ n → n < 2 ^ 64 → decimal n ≡ decimal (n / 10) ++ (48 + n % 10) ∷ []
last_digit n more fits =
    let all : written 21 n ≡ decimal n = decimal_from_appends written appends 21 n fits (length-decimal-le 21 n (omega arith) (omega arith) fits) in
    let rest : written 20 (n / 10) ≡ decimal (n / 10) = decimal_from_appends written appends 20 (n / 10) (omega arith) (length-decimal-le 20 (n / 10) (omega arith) (omega arith) (omega arith)) in
    sym all ∙ appends.more 20 n more ∙ ap (λ ds. ds ++ (48 + n % 10) ∷ []) rest

pub one_more_digit : (old mid new : List ℕ) (n : ℕ) → new ≡ mid ++ (48 + n % 10) ∷ [] → mid ≡ old ++ decimal (n / 10) → 10 ≤ n → n < 2 ^ 64 → new ≡ old ++ decimal n
one_more_digit old mid new n last before more fits =
    last ∙ ap (λ x. x ++ (48 + n % 10) ∷ []) before ∙ append_assoc old (decimal (n / 10)) ((48 + n % 10) ∷ []) ∙ ap (λ x. old ++ x) (sym (last_digit n more fits))
