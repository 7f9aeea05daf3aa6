-- Deeds as acts.
use Rattle.std.proofs.Common.{◌≡◌, ◌≢◌, ℕ, Bool, true, false, List, Option, Some, None, refl, sym, ap, ◌∙◌, arith}
use Rattle.std.specs.Prelude.{◌||◌, nat_le, option_map, if◌then◌else◌, max, IsSome}
use Rattle.std.proofs.lemmas.Bool.{true≢false, eq-eqb, ne_eqb, le-leb, lt-leb}
use Rattle.gq_ledger.specs.Steps.{Book}
use Rattle.gq_column.specs.Column.{then_has, keeps_it}
use Rattle.gq_stock.specs.Held.{Held, content_of}
use Rattle.gq_stock.specs.Keeping.{KeptAs}
use Rattle.gq_stock.specs.Deeds.{is_kept}
use Rattle.gq_stock.specs.Acts.{IsCode, coded, DeedsAreActs}
use Rattle.gq_stock.proofs.Deeds.{held_of, new_there, same≢new, differs≢new, below≢new}
use Rattle.gq_stock.specs.declared.keeping.Keeping.{Keeping}
use Rattle.gq_stock.specs.declared.keeping.Keeping.TheVariants.{New, Same, Differs, Damaged, Below, Full, NoSpace}

coded_by : (code : List ℕ → ℕ) (o : Option Held) → coded code o ≡ option_map code (content_of o)
coded_by code None = refl
coded_by code (Some held) = refl

coded_in : (code : List ℕ → ℕ) (n : ℕ) (new old : Book Held) → new ≡ old → coded code (new.at n) ≡ coded code (old.at n)
coded_in code n new old same = ap (λ (b : Book Held). coded code (b.at n)) same

-- a content that is there stays
stays : (code : List ℕ → ℕ) (o : Option Held) (below : Bool) (c : ℕ) → IsSome o → coded code o ≡ then_has (coded code o) below c
stays code None below c is = absurd (true≢false (sym is))
stays code (Some held) below c is = refl

some_of : (o : Option Held) (bytes : List ℕ) → content_of o ≡ Some bytes → IsSome o
some_of None bytes is = cc
some_of (Some held) bytes is = refl

differ : (code : List ℕ → ℕ) → IsCode code → (o : Option Held) (below : Bool) (bytes : List ℕ) → IsSome o → content_of o ≢ Some bytes → keeps_it (coded code o) below (code bytes) ≡ false
differ code is_code None below bytes is other = absurd (true≢false (sym is))
differ code is_code (Some held) below bytes is other = ne_eqb (code held.bytes) (code bytes) (λ e. other (ap Some (is_code held.bytes bytes e)))

keeps : (code : List ℕ → ℕ) (old new : Book Held) (n : ℕ) (bytes : List ℕ) (is_sure : Bool) (free : ℕ) (told : Keeping) → told ≢ Damaged → told ≢ Full → told ≢ NoSpace → KeptAs old n bytes is_sure free told new → coded code (new.at n) ≡ then_has (coded code (old.at n)) (nat_le n old.floor) (code bytes)
keeps code old new n bytes is_sure free New whole roomy spacious k =
    ap (coded code) (new_there old new n n (held_of bytes is_sure) k.told_so.0 k.told_so.1 (k.leads refl) ∙ ap (λ (t : Bool). if t then Some (held_of bytes is_sure) else old.at n) (eq-eqb n n refl))
    ∙ sym (ap (λ (o : Option Held). then_has (coded code o) (nat_le n old.floor) (code bytes)) k.told_so.0 ∙ ap (λ (t : Bool). then_has None t (code bytes)) (lt-leb n old.floor k.told_so.1))
keeps code old new n bytes is_sure free Same whole roomy spacious k = coded_in code n new old (k.same same≢new) ∙ stays code (old.at n) (nat_le n old.floor) (code bytes) (some_of (old.at n) bytes k.told_so)
keeps code old new n bytes is_sure free Differs whole roomy spacious k = coded_in code n new old (k.same differs≢new) ∙ stays code (old.at n) (nat_le n old.floor) (code bytes) k.told_so.0
keeps code old new n bytes is_sure free Damaged whole roomy spacious k = absurd (whole refl)
keeps code old new n bytes is_sure free Below whole roomy spacious k =
    coded_in code n new old (k.same below≢new) ∙ (ap (coded code) k.told_so.0
    ∙ sym (ap (λ (o : Option Held). then_has (coded code o) (nat_le n old.floor) (code bytes)) k.told_so.0 ∙ ap (λ (t : Bool). then_has None t (code bytes)) (le-leb n old.floor k.told_so.1)))
keeps code old new n bytes is_sure free Full whole roomy spacious k = absurd (roomy refl)
keeps code old new n bytes is_sure free NoSpace whole roomy spacious k = absurd (spacious refl)

tells : (code : List ℕ → ℕ) → IsCode code → (old new : Book Held) (n : ℕ) (bytes : List ℕ) (is_sure : Bool) (free : ℕ) (told : Keeping) → told ≢ Damaged → told ≢ Full → told ≢ NoSpace → KeptAs old n bytes is_sure free told new → is_kept told ≡ keeps_it (coded code (old.at n)) (nat_le n old.floor) (code bytes)
tells code is_code old new n bytes is_sure free New whole roomy spacious k =
    sym (ap (λ (o : Option Held). keeps_it (coded code o) (nat_le n old.floor) (code bytes)) k.told_so.0 ∙ ap (λ (t : Bool). keeps_it None t (code bytes)) (lt-leb n old.floor k.told_so.1))
tells code is_code old new n bytes is_sure free Same whole roomy spacious k =
    sym (ap (λ (o : Option ℕ). keeps_it o (nat_le n old.floor) (code bytes)) (coded_by code (old.at n) ∙ ap (option_map code) k.told_so) ∙ eq-eqb (code bytes) (code bytes) refl)
tells code is_code old new n bytes is_sure free Differs whole roomy spacious k = sym (differ code is_code (old.at n) (nat_le n old.floor) bytes k.told_so.0 k.told_so.1)
tells code is_code old new n bytes is_sure free Damaged whole roomy spacious k = absurd (whole refl)
tells code is_code old new n bytes is_sure free Below whole roomy spacious k =
    sym (ap (λ (o : Option Held). keeps_it (coded code o) (nat_le n old.floor) (code bytes)) k.told_so.0 ∙ ap (λ (t : Bool). keeps_it None t (code bytes)) (le-leb n old.floor k.told_so.1))
tells code is_code old new n bytes is_sure free Full whole roomy spacious k = absurd (roomy refl)
tells code is_code old new n bytes is_sure free NoSpace whole roomy spacious k = absurd (spacious refl)

risen : (n floor old new : ℕ) → new ≡ max old floor → nat_le n new ≡ (nat_le n floor || nat_le n old)
risen n floor old new is = grind arith

pub deeds_are_acts : DeedsAreActs
deeds_are_acts code is_code old new n = record {
  keeps = λ bytes is_sure free told whole roomy spacious does. keeps code old new n bytes is_sure free told whole roomy spacious does;
  tells = λ bytes is_sure free told whole roomy spacious does. tells code is_code old new n bytes is_sure free told whole roomy spacious does;
  gives = λ bytes does. ap (coded code) (does.at n ∙ ap (λ (t : Bool). if t then Some (held_of bytes true) else old.at n) (eq-eqb n n refl));
  finds = λ bytes does. coded_by code (old.at n) ∙ ap (option_map code) (does.0 tt);
  moves = λ does. ap (coded code) (does.at n);
  raises = λ floor does. ap (coded code) (does.at n);
  rises = λ floor does. risen n floor old.floor new.floor does.risen;
}
