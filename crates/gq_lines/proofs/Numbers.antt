-- Numbers read back.
use Rattle.std.proofs.Common.{◌≡◌, ◌≢◌, ℕ, zero, suc, ◌+◌, ◌-◌, ◌*◌, ◌/◌, ◌%◌, ◌^◌, ◌<◌, ◌≤◌, [], ◌∷◌, ◌++◌, length, get_or, Option, Some, None, Bool, true, false, cond, eqb, refl, ap, sym, ◌∙◌, arith, append_assoc, append-nil}
use Rattle.std.specs.Prelude.{decimal, nat_le, ◌&&◌}
use Rattle.std.proofs.lemmas.Bool.{le-leb, ne_eqb, leb-true, eqb-false}
use Rattle.std.proofs.lemmas.Fmt.{decimal_by_steps, decimal_nonempty, first_decimal, length-decimal-le, decimal_step, decimal_digit}
use Rattle.gq_lines.specs.declared.words.TheConstants.{MOST_NUMBER}
use Rattle.gq_lines.specs.declared.long_numbers.TheConstants.{MOST_LONG}
use Rattle.gq_lines.specs.Words.{Word, number_up_to, number_after}
use Rattle.gq_lines.specs.Laws.{NumbersReadBack, NumbersHaveOneForm, LongNumbersReadBack, LongNumbersHaveOneForm}

-- a digit that may be added
step_ok : (most n d : ℕ) (word : Word) → d < 10 → n * 10 + d ≤ most → number_after most n ((48 + d) ∷ word) ≡ number_after most (n * 10 + d) word
step_ok most n d word small fits =
    let less : (48 + d) - 48 ≡ d = omega arith in
    let low : nat_le 48 (48 + d) ≡ true = le-leb 48 (48 + d) (omega arith) in
    let high : nat_le (48 + d) 57 ≡ true = le-leb (48 + d) 57 (omega arith) in
    let room : nat_le (n * 10 + d) most ≡ true = le-leb (n * 10 + d) most fits in
    rw (less, low, high, room) refl

first_digit : (most m : ℕ) → m < 10 → m ≤ most → (rest : Word) → number_after most 0 ((48 + m) ∷ rest) ≡ number_after most m rest
first_digit most m small fits rest =
    let same : 0 * 10 + m ≡ m = omega arith in
    step_ok most 0 m rest small (omega arith) ∙ ap (λ x. number_after most x rest) same

last_digit : (most m : ℕ) (ds : Word) → (m / 10 ≤ most → (rest : Word) → number_after most 0 (ds ++ rest) ≡ number_after most (m / 10) rest) → m ≤ most → (rest : Word) → number_after most 0 ((ds ++ (48 + m % 10) ∷ []) ++ rest) ≡ number_after most m rest
last_digit most m ds before fits rest =
    let same : m / 10 * 10 + m % 10 ≡ m = omega arith in
    ap (number_after most 0) (append_assoc ds ((48 + m % 10) ∷ []) rest) ∙ before (omega arith) ((48 + m % 10) ∷ rest) ∙ step_ok most (m / 10) (m % 10) rest (omega arith) (omega arith) ∙ ap (λ x. number_after most x rest) same

-- reading the digits of a number from the front gives the number
reads : (most n : ℕ) → n < 2 ^ 64 → n ≤ most → (rest : Word) → number_after most 0 (decimal n ++ rest) ≡ number_after most n rest
reads most = decimal_by_steps (λ m ds. m ≤ most → (rest : Word) → number_after most 0 (ds ++ rest) ≡ number_after most m rest) (first_digit most) (λ m ds ten before. last_digit most m ds before)

-- a word that has no leading zero
plain : (most : ℕ) (word : Word) → 0 < length word → (get_or word 0 0 ≡ 48 → length word ≡ 1) → number_up_to most word ≡ number_after most 0 word
unfolding number_up_to
plain most [] some zeros = absurd (omega arith)
plain most (c ∷ []) some zeros = refl
plain most (c ∷ d ∷ word) some zeros = rw (ne_eqb c 48 (λ h. omega (arith, zeros h))) refl

no_zero : (n : ℕ) → n < 2 ^ 64 → get_or (decimal n) 0 0 ≡ 48 → length (decimal n) ≡ 1
no_zero zero fits h = omega (arith, length-decimal-le 1 0 (omega arith) (omega arith) (omega arith), decimal_nonempty 0 (omega arith))
no_zero (suc n) fits h = absurd (omega (arith, first_decimal (suc n) (omega arith) fits))

reads_back : (most n : ℕ) → n < 2 ^ 64 → n ≤ most → number_up_to most (decimal n) ≡ Some n
reads_back most n wide fits = plain most (decimal n) (decimal_nonempty n wide) (no_zero n wide) ∙ ap (number_after most 0) (sym (append-nil (decimal n))) ∙ reads most n wide fits []

pub numbers_read_back : NumbersReadBack
numbers_read_back n fits = reads_back MOST_NUMBER n (omega arith) (omega arith)

pub long_numbers_read_back : LongNumbersReadBack
long_numbers_read_back n fits = reads_back MOST_LONG n fits (omega arith)

tests : (a b r : Bool) (x : Option ℕ) (m : ℕ) → cond ((a && b) && r) x None ≡ Some m → (a ≡ true) × (b ≡ true) × (r ≡ true) × (x ≡ Some m)
tests true true true x m is = (refl, refl, refl, is)
tests true true false x m is = cc
tests true false true x m is = cc
tests true false false x m is = cc
tests false true true x m is = cc
tests false true false x m is = cc
tests false false true x m is = cc
tests false false false x m is = cc

-- a digit that was read
digit_read : (most n c : ℕ) (word : Word) (m : ℕ) → number_after most n (c ∷ word) ≡ Some m → (48 ≤ c) × (c ≤ 57) × (n * 10 + (c - 48) ≤ most) × (number_after most (n * 10 + (c - 48)) word ≡ Some m)
digit_read most n c word m is =
    let t = tests (nat_le 48 c) (nat_le c 57) (nat_le (n * 10 + (c - 48)) most) (number_after most (n * 10 + (c - 48)) word) m is in
    (leb-true 48 c t.0, leb-true c 57 t.1, leb-true (n * 10 + (c - 48)) most t.2, t.3)

-- digits that go on from a number complete its text
go_on : (most n : ℕ) (word : Word) (m : ℕ) → most < 2 ^ 64 → 0 < n → n ≤ most → number_after most n word ≡ Some m → (decimal n ++ word ≡ decimal m) × (m ≤ most)
go_on most n [] m wide some fits is =
    let same : n ≡ m = cc in
    rw (append-nil, ← same) (refl, fits)
go_on most n (c ∷ word) m wide some fits is =
    let r = digit_read most n c word m is in
    let next = go_on most (n * 10 + (c - 48)) word m wide (omega (arith, r.0, r.1)) r.2 r.3 in
    let front : (n * 10 + (c - 48)) / 10 ≡ n = omega (arith, r.0, r.1) in
    let last : 48 + (n * 10 + (c - 48)) % 10 ≡ c = omega (arith, r.0, r.1) in
    let step = decimal_step (n * 10 + (c - 48)) (omega (arith, r.0, r.1)) (omega (arith, r.2)) in
    let text : decimal (n * 10 + (c - 48)) ≡ decimal n ++ c ∷ [] = step ∙ ap (λ x. decimal x ++ (48 + (n * 10 + (c - 48)) % 10) ∷ []) front ∙ ap (λ x. decimal n ++ x ∷ []) last in
    (sym (append_assoc (decimal n) (c ∷ []) word) ∙ ap (λ x. x ++ word) (sym text) ∙ next.0, next.1)

one_digit : (c : ℕ) → 48 ≤ c → c ≤ 57 → decimal (0 * 10 + (c - 48)) ≡ c ∷ []
one_digit c low high =
    let value : 48 + (0 * 10 + (c - 48)) ≡ c = omega arith in
    decimal_digit (0 * 10 + (c - 48)) (omega arith) ∙ ap (λ x. x ∷ []) value

not_zero : (b : Bool) (x : Option ℕ) (m : ℕ) → cond b None x ≡ Some m → (b ≡ false) × (x ≡ Some m)
not_zero true x m is = cc
not_zero false x m is = (refl, is)

has_one_form : (most : ℕ) (word : Word) (n : ℕ) → most < 2 ^ 64 → number_up_to most word ≡ Some n → (word ≡ decimal n) × (n ≤ most)
unfolding number_up_to
has_one_form most [] n wide is = cc
has_one_form most (c ∷ []) n wide is =
    let r = digit_read most 0 c [] n is in
    let same : 0 * 10 + (c - 48) ≡ n = cc (r.3) in
    (sym (one_digit c r.0 r.1) ∙ ap decimal same, omega (arith, r.2))
has_one_form most (c ∷ d ∷ word) n wide is =
    let z = not_zero (eqb c 48) (number_after most 0 (c ∷ d ∷ word)) n is in
    let r = digit_read most 0 c (d ∷ word) n z.1 in
    let some : c ≢ 48 = eqb-false c 48 z.0 in
    let next = go_on most (0 * 10 + (c - 48)) (d ∷ word) n wide (omega (arith, r.0)) r.2 r.3 in
    (ap (λ x. x ++ d ∷ word) (sym (one_digit c r.0 r.1)) ∙ next.0, next.1)

pub numbers_have_one_form : NumbersHaveOneForm
numbers_have_one_form word n is =
    let form = has_one_form MOST_NUMBER word n (omega arith) is in
    (form.0, omega (arith, form.1))

pub long_numbers_have_one_form : LongNumbersHaveOneForm
long_numbers_have_one_form word n is =
    let form = has_one_form MOST_LONG word n (omega arith) is in
    (form.0, omega (arith, form.1))
