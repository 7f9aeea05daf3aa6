-- The worked run of contents keeps the rules.
use Rattle.std.proofs.Common.{◌≡◌, ◌⊎◌, ◌∙◌, ℕ, [], ◌∷◌, true, false, refl, sym, ap, inl, inr, eqb}
use Rattle.std.specs.Prelude.{◌==◌, Bool}
use Rattle.std.proofs.lemmas.Bool.{cases_Bool, eq-eqb, eqb-true, true≢false}
use Rattle.gq_names.specs.Names.{shown}
use Rattle.gq_names.specs.Contents.{AllMay, IsFree, State, and_content, new_state, state_after}
use Rattle.gq_names.specs.Worked.{two, by_number, puts, deeds_worked}

-- a line of one byte names the content of that number alone
pub named_alone : (byte content : ℕ) → by_number.names (byte ∷ []) content ≡ true → byte ≡ content
named_alone byte content named = by (cases_Bool (byte == content))
  where
    by : ((byte == content) ≡ true) ⊎ ((byte == content) ≡ false) → byte ≡ content
    by (inl is) = eqb-true byte content is
    by (inr other) = absurd (true≢false (sym named ∙ rw other refl))

pub kept_now : (byte content : ℕ) (before : ℕ → Bool) → by_number.names (byte ∷ []) content ≡ true → and_content byte before content ≡ true
kept_now byte content before named = rw (eq-eqb content byte (sym (named_alone byte content named))) refl

abbrev replaced : State
replaced = state_after two (state_after two new_state (puts 65)) (puts 66)

-- its page, and its journal, show the other content alone
shows_other : (name content : ℕ) → by_number.names (shown (replaced.world.session 0).page name).bytes content ≡ true → (content == 65) ≡ false
shows_other name content named = by (cases_Bool (eqb name 7))
  where
    by : (eqb name 7 ≡ true) ⊎ (eqb name 7 ≡ false) → (content == 65) ≡ false
    by (inl is) = ap (λ c. c == 65) (sym (named_alone 66 content (rw is at named)))
    by (inr other) = absurd (true≢false (sym (rw other at named)))

free : IsFree by_number 65 (replaced.world.session 0)
free = record { journal = shows_other; journal_pending = tt; page = shows_other; page_pending = tt; client = shows_other }

pub may_worked : AllMay two by_number new_state deeds_worked
may_worked = (tt, (λ content named. record { owner = refl; is_new = refl }, (tt, (λ content named. kept_now 65 content (λ c. false) named, (tt, (tt, (tt, (λ content named. record { owner = refl; is_new = refl }, (tt, (λ content named. kept_now 66 content (and_content 65 (λ c. false)) named, (tt, (tt, (free, (tt, (tt, (tt, (tt, tt)))))))))))))))))
