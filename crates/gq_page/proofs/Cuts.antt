-- A text that is cut in two.
use Rattle.std.proofs.Common.{◌≡◌, ◌∙◌, ℕ, ◌+◌, ◌<◌, List, [], ◌∷◌, ◌++◌, length, get_or, take, drop, Option, Some, None, Bool, true, false, refl, ap, sym, add-one, drop-cons, append_assoc}
use Rattle.std.proofs.lemmas.List.{take_more}
use Rattle.std.specs.Prelude.{◌==◌, ◌&&◌, not}
use Rattle.std.proofs.lemmas.Bool.{and_parts, ne_eqb}
use Rattle.gq_page.specs.declared.form.Form.{Form}
use Rattle.gq_page.specs.Form.{is_end, next_form, with_first, cut_from, ends_well}

-- bytes in front of what was cut off
abbrev pub with_front : List ℕ → Option (List ℕ × List ℕ) → Option (List ℕ × List ℕ)
with_front xs None = None
with_front xs (Some parts) = Some (xs ++ parts.0, parts.1)

pub with_front-none : (cut : Option (List ℕ × List ℕ)) → with_front [] cut ≡ cut
with_front-none None = refl
with_front-none (Some parts) = refl

-- one byte more was passed
pub with_front-first : (xs : List ℕ) (c : ℕ) (cut : Option (List ℕ × List ℕ)) → with_front xs (with_first c cut) ≡ with_front (xs ++ c ∷ []) cut
with_front-first xs c None = refl
with_front-first xs c (Some parts) = ap (λ ys. Some (ys, parts.1)) (sym (append_assoc xs (c ∷ []) parts.0))

-- what was read stands before the space that follows, whatever name follows that
pub said_then : (form : Option Form) (said name : List ℕ) → ends_well form said ≡ true → cut_from form (said ++ 32 ∷ name) ≡ Some (said, name)
said_then None said name well = absurd (no_false well)
  where
    no_false : false ≡ true → ⊥
    no_false h = cc
said_then (Some form) [] name well = rw well refl
said_then (Some form) (c ∷ said) name well =
    let parts = and_parts (not (c == 32 && is_end form)) (ends_well (next_form form c) said) well in
    let on : (c == 32 && is_end form) ≡ false = not_true (c == 32 && is_end form) parts.0 in
    rw (on, said_then (next_form form c) said name parts.1) refl
  where
    not_true : (b : Bool) → not b ≡ true → b ≡ false
    not_true true h = sym h
    not_true false h = refl

-- a byte that is no space, or where nothing ends, is passed
pub no_space : (c : ℕ) (b : Bool) → (c ≡ 32 → ⊥) → (c == 32 && b) ≡ false
no_space c b other = rw (ne_eqb c 32 other) refl

pub no_end : (b end : Bool) → end ≡ false → (b && end) ≡ false
no_end true end is = is
no_end false end is = refl

pub passes : (form next : Form) (text : List ℕ) (i : ℕ) (whole : Option (List ℕ × List ℕ)) → i < length text → (get_or text i 0 == 32 && is_end form) ≡ false → next_form form (get_or text i 0) ≡ Some next
    → with_front (take i text) (cut_from (Some form) (drop i text)) ≡ whole → with_front (take (i + 1) text) (cut_from (Some next) (drop (i + 1) text)) ≡ whole
passes form next text i whole low off is before =
    let rest : drop i text ≡ get_or text i 0 ∷ drop (i + 1) text = rw (add-one, drop-cons text i 0) refl in
    let step : cut_from (Some form) (get_or text i 0 ∷ drop (i + 1) text) ≡ with_first (get_or text i 0) (cut_from (Some next) (drop (i + 1) text)) = rw (off, is) refl in
    let more : take (i + 1) text ≡ take i text ++ get_or text i 0 ∷ [] = take_more text i 0 low in
    ap (λ front. with_front front (cut_from (Some next) (drop (i + 1) text))) more
    ∙ sym (with_front-first (take i text) (get_or text i 0) (cut_from (Some next) (drop (i + 1) text)))
    ∙ ap (λ cut. with_front (take i text) cut) (sym step)
    ∙ ap (λ t. with_front (take i text) (cut_from (Some form) t)) (sym rest)
    ∙ before
