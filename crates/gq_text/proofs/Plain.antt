-- Tenants' names have no space and no newline.
use Rattle.std.proofs.Common.{◌≡◌, List, [], ◌∷◌, true, refl, arith}
use Rattle.std.specs.Prelude.{nat_le}
use Rattle.std.specs.List.{list_all}
use Rattle.std.proofs.lemmas.Bool.{and_parts, leb-true}
use Rattle.gq_desk.specs.Names.{is_letter, is_name}
use Rattle.gq_lines.specs.Words.{Word}
use Rattle.gq_lines.proofs.Plain.{is_plain, plain-cons}

letters_plain : (word : Word) → list_all is_letter word ≡ true → is_plain word ≡ true
letters_plain [] letters = refl
letters_plain (c ∷ word) letters =
    let parts = and_parts (is_letter c) (list_all is_letter word) letters in
    let low = leb-true 97 c (and_parts (nat_le 97 c) (nat_le c 122) parts.0).0 in
    plain-cons c word (omega arith) (letters_plain word parts.1)

pub name_plain : (name : Word) → is_name name ≡ true → is_plain name ≡ true
name_plain name named = letters_plain name (and_parts _ _ (and_parts _ _ named).1).0
