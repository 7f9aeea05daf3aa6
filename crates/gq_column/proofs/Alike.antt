-- Steps of a ledger, at one number.
use Rattle.std.proofs.Common.{◌≡◌, ◌≢◌, ℕ, Bool, true, false, Option, Some, None, refl, sym, ap, ◌∙◌, arith}
use Rattle.std.specs.Prelude.{◌==◌, ◌||◌, nat_le, is_some, if◌then◌else◌}
use Rattle.gq_ledger.specs.Steps.{Book, Keeps, Gives, Raises, after_step, may_keep}
use Rattle.gq_column.specs.Column.{then_has}
use Rattle.gq_column.specs.Ledgers.{ActsAlike, AllActAlike}

keeps : (b : Book ℕ) (n c : ℕ) → (after_step (Keeps n c) b).at n ≡ then_has (b.at n) (nat_le n b.floor) c
keeps b n c = by (b.at n) (nat_le n b.floor) refl refl
  where
    by : (o : Option ℕ) (below : Bool) → b.at n ≡ o → nat_le n b.floor ≡ below → (after_step (Keeps n c) b).at n ≡ then_has o below c
    by (Some d) below has is = grind arith
    by None true has is = grind arith
    by None false has is = grind arith

rises : (b : Book ℕ) (n f : ℕ) → nat_le n (after_step (Raises f) b).floor ≡ (nat_le n f || nat_le n b.floor)
rises b n f = grind arith

pub all_act_alike : AllActAlike
all_act_alike b n = record { keeps = keeps b n; gives = λ c. grind arith; raises = λ f. refl; rises = rises b n; keeps_others = λ m c other. grind arith; gives_others = λ m c other. grind arith; floor_stays = λ m c. grind arith }
