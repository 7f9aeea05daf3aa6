-- Where each operation is before the next, no place stands twice.
use Rattle.std.proofs.Common.{◌≡◌, ℕ, Bool, true, false, List, [], ◌∷◌, refl, sym, ap, ◌∙◌, eqb, ltb, arith}
use Rattle.std.specs.Prelude.{not}
use Rattle.std.proofs.lemmas.Bool.{true≢false, and_parts, and_from, eqb-true, eq-eqb, ltb-true}
use Rattle.gq_laws.specs.declared.ops.Op.{Op}
use Rattle.gq_laws.specs.Orders.{key_at, is_lex_less}
use Rattle.gq_laws.specs.Checks.{has_place, is_once}
use Rattle.gq_laws.proofs.Sorting.{lex_trans}
use Rattle.gq_order.specs.Walk.{rises_from, rises}

pub lex_self : (xs : List ℕ) → is_lex_less xs xs ≡ false
lex_self [] = refl
lex_self (x ∷ xs) = go (ltb x x) refl (lex_self xs)
  where
    go : (b : Bool) → ltb x x ≡ b → is_lex_less xs xs ≡ false → is_lex_less (x ∷ xs) (x ∷ xs) ≡ false
    go true e later = absurd (let low = ltb-true x x e in omega arith)
    go false e later = rw (e, eq-eqb x x refl) later

before_all : (ops : List Op) (i : ℕ) (places : List ℕ) → rises_from ops i places ≡ true → (j : ℕ) → has_place places j ≡ true → is_lex_less (key_at ops i) (key_at ops j) ≡ true
before_all ops i [] h j there = absurd (true≢false (sym there))
before_all ops i (k ∷ places) h j there = go (eqb k j) refl (before_all ops k places parts.1 j)
  where
    parts : (is_lex_less (key_at ops i) (key_at ops k) ≡ true) × (rises_from ops k places ≡ true)
    parts = and_parts (is_lex_less (key_at ops i) (key_at ops k)) (rises_from ops k places) h

    go : (b : Bool) → eqb k j ≡ b → (has_place places j ≡ true → is_lex_less (key_at ops k) (key_at ops j) ≡ true) → is_lex_less (key_at ops i) (key_at ops j) ≡ true
    go true e later = ap (λ z. is_lex_less (key_at ops i) (key_at ops z)) (sym (eqb-true k j e)) ∙ parts.0
    go false e later = lex_trans (key_at ops i) (key_at ops k) (key_at ops j) parts.0 (later (rw e at there))

from_once : (ops : List Op) (i : ℕ) (places : List ℕ) → rises_from ops i places ≡ true → is_once (i ∷ places) ≡ true
from_once ops i [] h = refl
from_once ops i (k ∷ places) h =
    and_from (not (has_place (k ∷ places) i)) (is_once (k ∷ places)) (go (has_place (k ∷ places) i) refl)
    (from_once ops k places (and_parts (is_lex_less (key_at ops i) (key_at ops k)) (rises_from ops k places) h).1)
  where
    go : (b : Bool) → has_place (k ∷ places) i ≡ b → not (has_place (k ∷ places) i) ≡ true
    go true e = absurd (true≢false (sym (before_all ops i (k ∷ places) h i e) ∙ lex_self (key_at ops i)))
    go false e = rw e refl

pub rises_once : (ops : List Op) (places : List ℕ) → rises ops places ≡ true → is_once places ≡ true
rises_once ops [] h = refl
rises_once ops (i ∷ places) h = from_once ops i places h
