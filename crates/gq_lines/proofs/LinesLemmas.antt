-- The first line of a text.
use Rattle.std.proofs.Common.{◌≡◌, ℕ, suc, zero, ◌+◌, ◌-◌, ◌<◌, List, [], ◌∷◌, length, get_or, take, drop, Some, None, false, refl, arith, add-one, length-drop}
use Rattle.std.proofs.Math.Seq.{take-length}
use Rattle.std.proofs.lemmas.Bool.{ne_eqb, eq-eqb, eqb-true}
use Rattle.std.specs.Prelude.{◌==◌}
use Rattle.memchr.specs.Find.{IsFirstByte, is_byte}
use Rattle.gq_lines.specs.Lines.{lines_of}

lines_of-newline : (text : List ℕ) (i : ℕ) → i < length text → get_or text i 0 ≡ 10 → ((k : ℕ) → k < i → get_or text k 0 ≡ 10 → ⊥)
    → lines_of text ≡ take i text ∷ lines_of (drop (suc i) text)
lines_of-newline [] i lt e h = absurd (omega arith)
lines_of-newline (x ∷ xs) zero lt e h = rw e refl
lines_of-newline (x ∷ xs) (suc i) lt e h =
    let no : (x == 10) ≡ false = ne_eqb x 10 (h 0 (omega arith)) in
    let rest = lines_of-newline xs i (omega arith) e (λ k below. h (suc k) (omega arith)) in
    rw (no, rest) refl

-- a line that ends with a newline at i
pub lines_of-line : (text : List ℕ) (i : ℕ) → i < length text → get_or text i 0 ≡ 10 → ((k : ℕ) → k < i → get_or text k 0 ≡ 10 → ⊥)
    → lines_of text ≡ take i text ∷ lines_of (take (length text - (i + 1)) (drop (i + 1) text))
lines_of-line text i lt e h =
    let whole : take (length text - (i + 1)) (drop (i + 1) text) ≡ drop (i + 1) text =
    rw (← length-drop (i + 1) text) (take-length (drop (i + 1) text)) in
    rw (whole, add-one) (lines_of-newline text i lt e h)

-- a line that ends with the text
lines_of-last : (text : List ℕ) → 0 < length text → ((k : ℕ) → k < length text → get_or text k 0 ≡ 10 → ⊥) → lines_of text ≡ text ∷ []
lines_of-last [] lt h = absurd (omega arith)
lines_of-last (x ∷ []) lt h =
    let no : (x == 10) ≡ false = ne_eqb x 10 (h 0 (omega arith)) in rw no refl
lines_of-last (x ∷ (y ∷ ys)) lt h =
    let no : (x == 10) ≡ false = ne_eqb x 10 (h 0 (omega arith)) in
    let rest = lines_of-last (y ∷ ys) (omega arith) (λ k below. h (suc k) (omega arith)) in
    rw (no, rest) refl

pub lines_of-found : (text : List ℕ) (i : ℕ) → IsFirstByte (is_byte 10) text (Some i) → lines_of text ≡ take i text ∷ lines_of (take (length text - (i + 1)) (drop (i + 1) text))
lines_of-found text i is =
    lines_of-line text i is.0.high (eqb-true (get_or text i 0) 10 is.1) (λ k below e. is.0.before k (omega arith) below (eq-eqb (get_or text k 0) 10 e))

pub lines_of-none : (text : List ℕ) → 0 < length text → IsFirstByte (is_byte 10) text None → lines_of text ≡ text ∷ []
lines_of-none text some is =
    lines_of-last text some (λ k below e. is k (omega arith) below (eq-eqb (get_or text k 0) 10 e))
