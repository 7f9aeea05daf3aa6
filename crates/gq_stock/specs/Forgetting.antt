-- Numbers are forgotten.
use Rattle.std.specs.Prelude.{◌≡◌, ℕ, Bool, ◌&&◌, nat_le, List, None, max, if◌then◌else◌}
use Rattle.std.specs.List.{list_any}
use Rattle.gq_ledger.specs.Steps.{Book}
use Rattle.gq_stock.specs.declared.run.Run.{Run}

-- whether the number is one of the run
abbrev pub is_in : ℕ → Run → Bool
is_in n run = nat_le run.first n && nat_le n run.last

-- whether it is one of any
abbrev pub is_in_any : ℕ → List Run → Bool
is_in_any n runs = list_any (is_in n) runs

-- The numbers of the runs are absent, all others stay; the floor rises to this number, where it is not there already.
pub record ForgotAs {T : Type 0} (old : Book T) (floor : ℕ) (runs : List Run) (new : Book T) : Type 0 where
  pub at : (n : ℕ) → new.at n ≡ (if is_in_any n runs then None else old.at n)
  pub risen : new.floor ≡ max old.floor floor
