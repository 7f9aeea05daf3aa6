-- A text that is cut at the end of a line.
use Rattle.std.proofs.Common.{◌≡◌, ◌∙◌, ℕ, suc, zero, ◌+◌, ◌<◌, Bool, true, false, List, [], ◌∷◌, ◌++◌, length, get_or, take, drop, refl, sym, ap, arith, cond}
use Rattle.std.specs.Prelude.{◌==◌}
use Rattle.std.proofs.Common.{length-drop, ◌-◌, Some}
use Rattle.std.proofs.Math.Seq.{take-length}
use Rattle.std.proofs.lemmas.Bool.{eqb-true}
use Rattle.std.proofs.lemmas.List.{get_or-drop}
use Rattle.memchr.specs.Find.{IsFirstByte, is_byte}
use Rattle.gq_lines.specs.Lines.{lines_of, before_first}

first_onto : (x y : ℕ) (xs ys : List ℕ) → before_first x (lines_of (y ∷ xs)) ++ lines_of ys ≡ before_first x (lines_of (y ∷ xs) ++ lines_of ys)
first_onto x y xs ys = by (y == 10) (lines_of xs)
  where
    by : (b : Bool) (ls : List (List ℕ)) → before_first x (cond b ([] ∷ ls) (before_first y ls)) ++ lines_of ys ≡ before_first x (cond b ([] ∷ ls) (before_first y ls) ++ lines_of ys)
    by true ls = refl
    by false [] = refl
    by false (l ∷ ls) = refl

pub lines_cut : (text : List ℕ) (n : ℕ) → n < length text → get_or text n 0 ≡ 10 → lines_of text ≡ lines_of (take (suc n) text) ++ lines_of (drop (suc n) text)
lines_cut [] n below is = absurd (omega arith)
lines_cut (x ∷ xs) zero below is = rw is refl
lines_cut (x ∷ []) (suc n) below is = absurd (omega (arith, below))
lines_cut (x ∷ (y ∷ xs)) (suc n) below is = by (x == 10) (lines_cut (y ∷ xs) n (omega (arith, below)) is)
  where
    by : (b : Bool) → lines_of (y ∷ xs) ≡ lines_of (take (suc n) (y ∷ xs)) ++ lines_of (drop (suc n) (y ∷ xs))
        → cond b ([] ∷ lines_of (y ∷ xs)) (before_first x (lines_of (y ∷ xs))) ≡ cond b ([] ∷ lines_of (take (suc n) (y ∷ xs))) (before_first x (lines_of (take (suc n) (y ∷ xs)))) ++ lines_of (drop (suc n) (y ∷ xs))
    by true later = ap (λ z. [] ∷ z) later
    by false later = ap (before_first x) later ∙ sym (first_onto x y (take n xs) (drop (suc n) (y ∷ xs)))

whole_drop : (n : ℕ) (text : List ℕ) → take (length text - n) (drop n text) ≡ drop n text
whole_drop n text = rw (← length-drop n text) (take-length (drop n text))

-- where the first newline behind a place is found
pub cut_at : (text : List ℕ) (place end : ℕ) → IsFirstByte (is_byte 10) (take (length text - place) (drop place text)) (Some end)
    → lines_of text ≡ lines_of (take (place + end + 1) text) ++ lines_of (take (length text - (place + end + 1)) (drop (place + end + 1) text))
cut_at text place end found =
    let is : IsFirstByte (is_byte 10) (drop place text) (Some end) = rw (whole_drop place text) at found in
    let inside : end < length text - place = rw (length-drop place text) at is.0.high in
    let here : get_or (drop place text) end 0 ≡ 10 = eqb-true (get_or (drop place text) end 0) 10 is.1 in
    let there : get_or text (place + end) 0 ≡ 10 = sym (get_or-drop place text end 0) ∙ here in
    let more : suc (place + end) ≡ place + end + 1 = omega arith in
    let cut : lines_of text ≡ lines_of (take (place + end + 1) text) ++ lines_of (drop (place + end + 1) text) = rw more at (lines_cut text (place + end) (omega (arith, inside)) there) in
    rw (whole_drop (place + end + 1) text) cut
