-- Where the last line of a text has ended.
use Rattle.std.proofs.Common.{◌≡◌, ◌⊎◌, ◌∙◌, ℕ, zero, suc, ◌+◌, ◌-◌, ◌<◌, ◌≤◌, List, [], ◌∷◌, ◌++◌, Some, None, true, length, get_or, take, drop, refl, sym, ap, inl, inr, arith, length-drop}
use Rattle.std.specs.Prelude.{◌==◌}
use Rattle.std.proofs.lemmas.Bool.{cases_lt, eq-eqb, eqb-true}
use Rattle.std.proofs.lemmas.Grind.{get_or_default_zero}
use Rattle.std.proofs.lemmas.List.{take_rest, get_or-drop, get_or_append_left}
use Rattle.memchr.specs.Find.{IsLastByte, Nowhere, Passes, is_byte}
use Rattle.gq_script.specs.Completing.{missing_newline}
use Rattle.gq_script.specs.Stepping.{AllEnded, NoneEnded}

-- a text up to a newline
whole_at : (text : List ℕ) (k : ℕ) → k < length text → get_or text k 0 ≡ 10 → missing_newline (take (suc k) text) ≡ []
whole_at [] k lt e = absurd (omega arith)
whole_at (x ∷ text) zero lt e = rw e refl
whole_at (x ∷ []) (suc k) lt e = absurd (omega arith)
whole_at (x ∷ y ∷ text) (suc k) lt e = whole_at (y ∷ text) k (omega arith) e

-- a text from a place on that has no newline
pub begun_from : (text : List ℕ) (i : ℕ) → Nowhere (Passes (is_byte 10) text) i (length text) → NoneEnded (drop i text)
begun_from text i h = λ k d lt e.
    let inside : i + k < length text = omega (arith, length-drop i text) in
    let here : get_or text (i + k) 0 ≡ 10 = sym (get_or_default_zero text (i + k) d inside) ∙ sym (get_or-drop i text k d) ∙ e in
    h (i + k) (omega arith) inside (eq-eqb (get_or text (i + k) 0) 10 here)

-- a newline was found behind a place
pub last_ended : (text : List ℕ) (begun place : ℕ) → begun ≤ length text → IsLastByte (is_byte 10) (take (length text - begun) (drop begun text)) (Some place)
    → (begun + place + 1 ≤ length text) × AllEnded (take (begun + place + 1) text) × Nowhere (Passes (is_byte 10) text) (begun + place + 1) (length text)
last_ended text begun place within found =
    let is = rw (take_rest text begun) at found in
    let at : (k : ℕ) → get_or (drop begun text) k 0 ≡ get_or text (begun + k) 0 = λ k. get_or-drop begun text k 0 in
    let high : place < length (drop begun text) = is.0.high in
    let inside : begun + place < length text = omega (arith, length-drop begun text) in
    let byte : get_or text (begun + place) 0 ≡ 10 = sym (at place) ∙ eqb-true (get_or (drop begun text) place 0) 10 is.1 in
    let end : begun + place + 1 ≡ suc (begun + place) = omega arith in (
      omega arith,
      rw end (whole_at text (begun + place) inside byte),
      λ k low below here.
          let here2 : get_or text k 0 ≡ 10 = eqb-true (get_or text k 0) 10 here in
          let back : begun + (k - begun) ≡ k = omega arith in
          let same : get_or (drop begun text) (k - begun) 0 ≡ 10 = at (k - begun) ∙ ap (λ j. get_or text j 0) back ∙ here2 in
          is.0.after (k - begun) (omega arith) (omega (arith, length-drop begun text)) (eq-eqb (get_or (drop begun text) (k - begun) 0) 10 same),
    )

-- none was found there
pub none_ended : (text : List ℕ) (done begun : ℕ) → begun ≤ length text → IsLastByte (is_byte 10) (take (length text - begun) (drop begun text)) None
    → Nowhere (Passes (is_byte 10) text) done begun → Nowhere (Passes (is_byte 10) text) done (length text)
none_ended text done begun within found before =
    let is = rw (take_rest text begun) at found in
    λ k low below here. by k low below here is (cases_lt k begun)
  where
    by : (k : ℕ) → done ≤ k → k < length text → (get_or text k 0 == 10) ≡ true → Nowhere (Passes (is_byte 10) (drop begun text)) 0 (length (drop begun text)) → (k < begun) ⊎ (begun ≤ k) → ⊥
    by k low below here is (inl early) = before k low early here
    by k low below here is (inr late) =
        let back : begun + (k - begun) ≡ k = omega arith in
        let same : get_or (drop begun text) (k - begun) 0 ≡ 10 = get_or-drop begun text (k - begun) 0 ∙ ap (λ j. get_or text j 0) back ∙ eqb-true (get_or text k 0) 10 here in
        is (k - begun) (omega arith) (omega (arith, length-drop begun text)) (eq-eqb (get_or (drop begun text) (k - begun) 0) 10 same)

-- bytes behind a text change nothing before its end
pub nowhere_more : (text more : List ℕ) (i j : ℕ) → j ≤ length text → Nowhere (Passes (is_byte 10) text) i j → Nowhere (Passes (is_byte 10) (text ++ more)) i j
nowhere_more text more i j within h = λ k low below here.
    let same : get_or (text ++ more) k 0 ≡ get_or text k 0 = get_or_append_left text more 0 k (omega arith) in
    h k low below (rw same at here)
