-- Escaped text, read back.
use Rattle.std.proofs.Common.{◌≡◌, ◌∙◌, ℕ, List, [], ◌∷◌, ◌++◌, Bool, true, false, eqb, None, refl, sym, ap, subst}
use Rattle.std.specs.List.{list_any}
use Rattle.std.proofs.lemmas.Bool.{eqb-true}
use Rattle.std.proofs.lemmas.List.Folds.{list_any-append}
use Rattle.gq_svg.specs.Escaping.{escape, escaped, is_mark, read_from}
use Rattle.gq_svg.specs.Laws.{EndsNothing, IsReadBack}

-- the byte is none of the five marks
record IsPlain (c : ℕ) : Type 0 where
  less : eqb c 60 ≡ false
  greater : eqb c 62 ≡ false
  ampersand : eqb c 38 ≡ false
  quote : eqb c 34 ≡ false
  apostrophe : eqb c 39 ≡ false

-- what holds of the marks, and of each byte that is none
of_each : (P : ℕ → Type 0) (c : ℕ) → P 60 → P 62 → P 38 → P 34 → P 39 → (IsPlain c → P c) → P c
of_each P c less greater ampersand quote apostrophe plain = at_less (eqb c 60) refl
  where
    at_apostrophe : eqb c 60 ≡ false → eqb c 62 ≡ false → eqb c 38 ≡ false → eqb c 34 ≡ false → (b : Bool) → eqb c 39 ≡ b → P c
    at_apostrophe l g a q true is = subst P (sym (eqb-true c 39 is)) apostrophe
    at_apostrophe l g a q false is = plain (record { less = l; greater = g; ampersand = a; quote = q; apostrophe = is })

    at_quote : eqb c 60 ≡ false → eqb c 62 ≡ false → eqb c 38 ≡ false → (b : Bool) → eqb c 34 ≡ b → P c
    at_quote l g a true is = subst P (sym (eqb-true c 34 is)) quote
    at_quote l g a false is = at_apostrophe l g a is (eqb c 39) refl

    at_ampersand : eqb c 60 ≡ false → eqb c 62 ≡ false → (b : Bool) → eqb c 38 ≡ b → P c
    at_ampersand l g true is = subst P (sym (eqb-true c 38 is)) ampersand
    at_ampersand l g false is = at_quote l g is (eqb c 34) refl

    at_greater : eqb c 60 ≡ false → (b : Bool) → eqb c 62 ≡ b → P c
    at_greater l true is = subst P (sym (eqb-true c 62 is)) greater
    at_greater l false is = at_ampersand l is (eqb c 38) refl

    at_less : (b : Bool) → eqb c 60 ≡ b → P c
    at_less true is = subst P (sym (eqb-true c 60 is)) less
    at_less false is = at_greater is (eqb c 62) refl

-- a byte, read back
byte_back : (rest : List ℕ) (c : ℕ) → read_from None (escape c ++ rest) ≡ c ∷ read_from None rest
byte_back rest c = of_each (λ d. read_from None (escape d ++ rest) ≡ d ∷ read_from None rest) c refl refl refl refl refl (λ is. rw (is.less, is.greater, is.ampersand, is.quote, is.apostrophe, is.ampersand) refl)

pub is_read_back : IsReadBack
is_read_back [] = refl
is_read_back (c ∷ text) = byte_back (escaped text) c ∙ ap (λ t. c ∷ t) (is_read_back text)

-- a byte ends nothing
byte_ends_nothing : (c : ℕ) → list_any is_mark (escape c) ≡ false
byte_ends_nothing c = of_each (λ d. list_any is_mark (escape d) ≡ false) c refl refl refl refl refl (λ is. rw (is.less, is.greater, is.ampersand, is.quote, is.apostrophe, is.less, is.greater, is.quote, is.apostrophe) refl)

pub ends_nothing : EndsNothing
ends_nothing [] = refl
ends_nothing (c ∷ text) = list_any-append is_mark (escape c) (escaped text) ∙ rw byte_ends_nothing (ends_nothing text)
