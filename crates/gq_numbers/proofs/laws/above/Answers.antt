-- What lost nodes used is behind, and what sessions of new ones use is ahead.
use Rattle.std.proofs.Common.{◌≡◌, ℕ, ◌*◌, length, true, sym, ap, subst, arith}
use Rattle.std.specs.Prelude.{if◌then◌else◌}
use Rattle.std.proofs.lemmas.Bool.{lt-ltb}
use Rattle.gq_replace.specs.declared.numbers.TheConstants.{NUMBERS_OF_A_LOSS}
use Rattle.gq_replace.specs.Plans.{generation}
use Rattle.gq_replace.specs.Fleet.{Fleet, fleet_after, first_number}
use Rattle.gq_desk.specs.Plans.{is_in}
use Rattle.gq_numbers.specs.Numbers.{IsBelow, AllAbove}
use Rattle.gq_numbers.proofs.Floors.{write_above}
use Rattle.gq_numbers.proofs.Ahead.{AtLeast, stays_ahead}
use Rattle.gq_numbers.proofs.Behind.{stays_behind, some_loss, said_by}
use Rattle.gq_numbers.proofs.laws.above.Goals as goal

all_above : AllAbove
all_above w steps new lost chain may asked begun is_new replaced = record {
  below = subst (IsBelow u lost) (sym number) (stays_behind w chain lost losses (λ i many. said_by w chain lost j i replaced many) steps (some_loss (w.plans j) lost replaced) may asked);
  floors = λ k here inside. (ahead k here inside).floor;
  writes = λ letter aim tag here inside stores.
      let low = (ahead letter.session here inside).floor in
      let above = write_above w.setting (u.part new) letter aim stores.file stores.bytes stores.round stores.first stores.count tag stores.reply stores.writes stores.told in
      omega (arith, low, above);
}
  where
    u : Fleet
    u = fleet_after w steps

    j : ℕ
    j = u.first_plan new

    losses : ℕ
    losses = length (w.plans j).lost

    number : first_number w new j ≡ losses * NUMBERS_OF_A_LOSS
    number = ap (λ b. if b then losses * NUMBERS_OF_A_LOSS else 0) (lt-ltb 0 (generation new) is_new)

    ahead : (k : ℕ) → w.setting.home k ≡ new → is_in 1 w.setting.row.sessions k ≡ true → AtLeast (u.part new) k (first_number w new j)
    ahead k here inside = stays_ahead w new k here inside steps may begun

pub returns : goal.returns
returns c = all_above
