-- A word of letters is known by its number.
use Rattle.std.proofs.Common.{◌≡◌, ◌≢◌, ℕ, zero, suc, ◌+◌, ◌-◌, ◌*◌, ◌^◌, ◌<◌, ◌≤◌, List, [], ◌∷◌, length, Bool, true, false, ◌&&◌, refl, ap₂, arith}
use Rattle.std.specs.List.{list_all}
use Rattle.std.proofs.lemmas.Bool.{and_parts}
use Rattle.std.proofs.lemmas.Bool.Decides.{nat_tests}
use Rattle.std.proofs.Math.Nat.{pow-succ'}
use Rattle.gq_desk.specs.Names.{is_letter}
use Rattle.gq_desk.specs.NameNumbers.{word_number}

letter_least : (c : ℕ) → is_letter c ≡ true → 97 ≤ c
letter_least c is = grind (arith, nat_tests)

letter_most : (c : ℕ) → is_letter c ≡ true → c ≤ 122
letter_most c is = grind (arith, nat_tests)

-- two words of letters with one number are the same
pub same_word : (a b : List ℕ) → list_all is_letter a ≡ true → list_all is_letter b ≡ true → word_number a ≡ word_number b → a ≡ b
same_word [] [] letters_a letters_b same = refl
same_word [] (y ∷ ys) letters_a letters_b same =
    let least = letter_least y (and_parts (is_letter y) (list_all is_letter ys) letters_b).0 in
    absurd (omega arith)
same_word (x ∷ xs) [] letters_a letters_b same =
    let least = letter_least x (and_parts (is_letter x) (list_all is_letter xs) letters_a).0 in
    absurd (omega arith)
same_word (x ∷ xs) (y ∷ ys) letters_a letters_b same =
    let x_parts = and_parts (is_letter x) (list_all is_letter xs) letters_a in
    let y_parts = and_parts (is_letter y) (list_all is_letter ys) letters_b in
    let x_least = letter_least x x_parts.0 in
    let x_most = letter_most x x_parts.0 in
    let y_least = letter_least y y_parts.0 in
    let y_most = letter_most y y_parts.0 in
    let first : x ≡ y = omega arith in
    let rest : word_number xs ≡ word_number ys = omega arith in
    ap₂ (λ letter letters. letter ∷ letters) first (same_word xs ys x_parts.1 y_parts.1 rest)

-- a number of at most so many letters
pub word_number_fits : (word : List ℕ) (most : ℕ) → list_all is_letter word ≡ true → length word ≤ most → word_number word < 32 ^ most
word_number_fits [] zero letters few = omega arith
word_number_fits [] (suc most) letters few =
    let fits = word_number_fits [] most refl (omega arith) in
    rw (pow-succ' 32 most) (omega arith)
word_number_fits (x ∷ xs) zero letters few = absurd (omega arith)
word_number_fits (x ∷ xs) (suc most) letters few =
    let parts = and_parts (is_letter x) (list_all is_letter xs) letters in
    let last = letter_most x parts.0 in
    let fits = word_number_fits xs most parts.1 (omega arith) in
    rw (pow-succ' 32 most) (omega arith)
